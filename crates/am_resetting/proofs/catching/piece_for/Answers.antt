use Rattle.am_resetting.proofs.CatchingWords.{Some, sym, ◌∙◌, ballot_of, node_of, piece_for, node_with_ballot, untrimmed_node_has_equal_end, equal_reply_of_plan, reply_without_letters}
use Rattle.am_base.specs.declared.outcome.Outcome.TheVariants as said
use Rattle.am_resetting.proofs.Pieces.{piece_of_ballot_is_elsewhere}
use Rattle.am_resetting.proofs.catching.piece_for.Goals as goal

pub returns-then-not-fetches_from : goal.returns-then-not-fetches_from
returns-then-not-fetches_from c =
    let arrival = c.args.arrival.now in
    let b = ballot_of c.args.ballot in
    let m = node_with_ballot (node_of c.args.parts.now) (Some b) in
    let new = node_of c.put_back-then-not-fetches_from.new.parts in
    equal_reply_of_plan (piece_for m arrival.from arrival.stamp arrival.base arrival.number c.args.entry.now (Some b)) c.quiet.result (reply_without_letters said.Elsewhere) new
    c.quiet.ensures
    (piece_of_ballot_is_elsewhere m new arrival.from arrival.stamp arrival.base arrival.number c.args.entry.now b (sym c.is_over.ensures
    ∙ c.if-is_over.false) (sym c.fetches_from.ensures ∙ c.if-not-fetches_from.true)
    (untrimmed_node_has_equal_end m new c.requires.order.kept c.put_back-then-not-fetches_from.ensures))
