use Rattle.am_resetting.proofs.CatchingWords.{false, ◌==◌, sym, ◌∙◌, node_of, untrimmed_node_ends_itself, push_entry, trim_node_up_to, piece_promised, catch_up, equal_reply_of_plan, not-true, reply_without_letters, reply_with_telling}
use Rattle.am_resetting.proofs.CatchingWords.{not-false}
use Rattle.am_base.specs.declared.outcome.Outcome.TheVariants as said
use Rattle.am_node_parts.specs.declared.reply.Telling.TheVariants as tell
use Rattle.am_resetting.proofs.Pieces.{next_piece_may_be_stored, other_view_node_acts_not, push_fetched_not_next, push_fetched_that_comes_next, catch_up_replies_stored, piece_promised_is_elsewhere, piece_promised_by_sender}
use Rattle.am_resetting.proofs.catching.piece_promised.Goals as goal

pub returns-then-ne : goal.returns-then-ne
returns-then-ne c =
    let arrival = c.args.arrival.now in
    let old = node_of c.args.parts.now in
    equal_reply_of_plan (piece_promised old arrival.from arrival.stamp arrival.base arrival.number c.args.entry.now) c.quiet.result (reply_without_letters said.Elsewhere) old
    c.quiet.ensures
    (piece_promised_is_elsewhere old old arrival.from arrival.stamp arrival.base arrival.number c.args.entry.now
    (not-true (arrival.stamp.by == arrival.from) (sym c.ne.ensures ∙ c.if-ne.true)) (untrimmed_node_ends_itself old c.requires.order.kept))

pub returns-in-Some : goal.returns-in-Some
returns-in-Some c =
    let arrival = c.args.arrival.now in
    let old = node_of c.args.parts.now in
    let e = c.args.entry.now in
    equal_reply_of_plan (piece_promised old arrival.from arrival.stamp arrival.base arrival.number e) c.quiet-in-Some.result (reply_without_letters c.in-Some.outcome) old
    c.quiet-in-Some.ensures
    (piece_promised_by_sender old old arrival.from arrival.stamp arrival.base arrival.number e (reply_without_letters c.in-Some.outcome)
    (not-false (arrival.stamp.by == arrival.from) (sym c.ne.ensures ∙ c.if-ne.false))
    (push_fetched_not_next old old arrival.stamp arrival.base arrival.number e false (catch_up arrival.from arrival.stamp arrival.number) c.refusal.result c.in-Some.outcome
    (c.refusal.ensures.value old.ballot (catch_up arrival.from arrival.stamp arrival.number)) c.in-Some.is (untrimmed_node_ends_itself old c.requires.order.kept)))

pub returns-in-None : goal.returns-in-None
returns-in-None c =
    let arrival = c.args.arrival.now in
    let old = node_of c.args.parts.now in
    let new = node_of c.store.new.parts in
    let e = c.args.entry.now in
    let caught = reply_with_telling (said.Stored arrival.number) (tell.AckIn arrival.stamp arrival.from) in
    equal_reply_of_plan (piece_promised old arrival.from arrival.stamp arrival.base arrival.number e) c.saying.result caught new c.saying.ensures
    (piece_promised_by_sender old new arrival.from arrival.stamp arrival.base arrival.number e caught
    (not-false (arrival.stamp.by == arrival.from) (sym c.ne.ensures ∙ c.if-ne.false))
    (push_fetched_that_comes_next old new arrival.stamp arrival.base arrival.number e false (catch_up arrival.from arrival.stamp arrival.number) c.refusal.result
    caught
    (c.refusal.ensures.value old.ballot (catch_up arrival.from arrival.stamp arrival.number)) c.in-None.is
    (catch_up_replies_stored (push_entry (trim_node_up_to old arrival.base) e) new arrival.from arrival.stamp arrival.number
    (c.store.ensures.changes old (untrimmed_node_ends_itself old c.requires.order.kept)))))

pub store-requires : goal.store-requires
store-requires c =
    let arrival = c.args.arrival.now in
    let old = node_of c.args.parts.now in
    next_piece_may_be_stored old arrival.stamp arrival.base arrival.number c.args.entry.now false c.requires.order c.requires.logged c.requires.promise
    (other_view_node_acts_not old arrival.stamp c.requires.promise c.requires.view) c.requires.over c.requires.entry c.requires.number
    (c.in-None.ensures.next)
