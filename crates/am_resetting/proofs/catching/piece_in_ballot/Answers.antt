use Rattle.am_resetting.proofs.CatchingWords.{true, false, Some, refl, sym, ◌∙◌, arith, ballot_of, node_of, untrimmed_node_ends_itself, push_entry, trim_node_up_to, push_fetched, reply_without_letters, reply_asking_names}
use Rattle.am_resetting.proofs.CatchingWords.{look_at_ballot_anew, node_with_ballot, untrimmed_node_has_equal_end, equal_reply_of_plan, node_without_ballot_acts_not, top_after_pushed_entry}
use Rattle.am_resetting.proofs.Pieces.{next_piece_may_be_stored, taken_out_ballot_after_push, push_fetched_not_next, push_fetched_that_comes_next, fetched_piece_replies_asking}
use Rattle.am_resetting.proofs.catching.piece_in_ballot.Goals as goal

pub returns-in-Some : goal.returns-in-Some
returns-in-Some c =
    let arrival = c.args.arrival.now in
    let b = ballot_of c.args.ballot in
    let m = node_with_ballot (node_of c.args.parts.now) (Some b) in
    let new = node_of c.put_back.new.parts in
    let e = c.args.entry.now in
    equal_reply_of_plan (push_fetched m arrival.stamp arrival.base arrival.number e true (look_at_ballot_anew b)) c.quiet.result (reply_without_letters c.in-Some.outcome) new
    c.quiet.ensures (push_fetched_not_next m new arrival.stamp arrival.base arrival.number e true (look_at_ballot_anew b) c.refusal.result c.in-Some.outcome
    (c.refusal.ensures.value (Some b) (look_at_ballot_anew b)) c.in-Some.is (untrimmed_node_has_equal_end m new c.requires.ballot.order.kept c.put_back.ensures))

pub returns-in-None : goal.returns-in-None
returns-in-None c =
    let arrival = c.args.arrival.now in
    let b = ballot_of c.args.ballot in
    let old = node_of c.args.parts.now in
    let m = node_with_ballot old (Some b) in
    let new = node_of c.decide-outcome.new.parts in
    let e = c.args.entry.now in
    let comes = c.decide-outcome.ensures.comes (push_entry (trim_node_up_to old arrival.base) e)
    (c.store.ensures.changes old (untrimmed_node_ends_itself old c.requires.ballot.order.kept)) in
    equal_reply_of_plan (push_fetched m arrival.stamp arrival.base arrival.number e true (look_at_ballot_anew b)) c.asking.result
    (reply_asking_names c.decide-outcome.result c.empty.result false) new c.asking.ensures
    (push_fetched_that_comes_next m new arrival.stamp arrival.base arrival.number e true (look_at_ballot_anew b) c.refusal.result
    (reply_asking_names c.decide-outcome.result c.empty.result false) (c.refusal.ensures.value (Some b) (look_at_ballot_anew b)) c.in-None.is
    (fetched_piece_replies_asking old new b (Some b) arrival.base e c.decide-outcome.result c.empty.result comes c.decide-outcome.ensures.told c.empty.ensures))

pub store-requires : goal.store-requires
store-requires c =
    let arrival = c.args.arrival.now in
    let old = node_of c.args.parts.now in
    let b = ballot_of c.args.ballot in
    next_piece_may_be_stored old arrival.stamp arrival.base arrival.number c.args.entry.now true c.requires.ballot.order
    ((c.requires.ballot.own).logged c.requires.ballot.is_open) c.requires.promise (node_without_ballot_acts_not old b c.requires.ballot)
    (λ other there. absurd (let x = sym c.requires.ballot.out ∙ there in cc)) c.requires.entry c.requires.ballot.number
    (c.in-None.ensures.next)

pub decide-outcome-requires : goal.decide-outcome-requires
decide-outcome-requires c =
    let arrival = c.args.arrival.now in
    let old = node_of c.args.parts.now in
    let new = node_of c.store.new.parts in
    let e = c.args.entry.now in
    let top = c.store.ensures.steady.top in
    let more = top_after_pushed_entry old.core.log e in
    taken_out_ballot_after_push old new (ballot_of c.args.ballot) arrival.stamp e c.requires.promise c.requires.ballot
    (c.in-None.ensures.next.below refl) c.store.ensures.order (let n = c.requires.number in omega arith) c.store.ensures.steady
