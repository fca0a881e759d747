use Rattle.am_resetting.proofs.CatchingWords.{Some, None, sym, subst, ◌∙◌, ballot_of, node_of, untrimmed_node_ends_itself, Node, piece_row, piece_for, piece_promised, Replies, reply_without_letters}
use Rattle.am_resetting.proofs.CatchingWords.{no_ballot_was_taken_out, one_ballot_was_taken_out, equal_reply_of_plan}
use Rattle.am_base.specs.declared.outcome.Outcome.TheVariants as said
use Rattle.am_resetting.proofs.Pieces.{piece_of_other_stamp_elsewhere, piece_row_by_its_ballot}
use Rattle.am_resetting.proofs.catching.on_piece.Goals as goal

pub returns-then-is_apart : goal.returns-then-is_apart
returns-then-is_apart c =
    let arrival = c.args.arrival.now in
    let old = node_of c.args.parts.now in
    equal_reply_of_plan (piece_row old arrival.from arrival.stamp arrival.base arrival.number c.args.entry.now) c.quiet.result (reply_without_letters said.Elsewhere) old c.quiet.ensures
    (piece_of_other_stamp_elsewhere old old arrival.from arrival.stamp arrival.base arrival.number c.args.entry.now (sym c.is_apart.ensures.value
    ∙ c.if-is_apart.true) (untrimmed_node_ends_itself old c.is_apart.ensures.order.kept))

pub returns-in-None : goal.returns-in-None
returns-in-None c =
    let arrival = c.args.arrival.now in
    let old = node_of c.args.parts.now in
    let mid = node_of c.take_ballot.new.parts in
    let new = node_of c.piece_promised.new.parts in
    let y = c.piece_promised.result in
    let taken = no_ballot_was_taken_out old mid c.take_ballot.ensures.ballot c.take_ballot.ensures.rest c.in-None.is in
    piece_row_by_its_ballot old new arrival.from arrival.stamp arrival.base arrival.number c.args.entry.now y None (sym c.is_apart.ensures.value ∙ c.if-is_apart.false) taken.0
    (subst (λ (x : Node). Replies (piece_promised x arrival.from arrival.stamp arrival.base arrival.number c.args.entry.now) y new) taken.1
    c.piece_promised.ensures)

pub returns-in-Some : goal.returns-in-Some
returns-in-Some c =
    let arrival = c.args.arrival.now in
    let old = node_of c.args.parts.now in
    let new = node_of c.piece_for.new.parts in
    let b = ballot_of c.in-Some.ballot in
    let y = c.piece_for.result in
    let taken = one_ballot_was_taken_out old (node_of c.take_ballot.new.parts) c.take_ballot.ensures.ballot c.take_ballot.ensures.rest c.in-Some.is in
    piece_row_by_its_ballot old new arrival.from arrival.stamp arrival.base arrival.number c.args.entry.now y (Some b) (sym c.is_apart.ensures.value ∙ c.if-is_apart.false) taken.0
    (subst (λ (x : Node). Replies (piece_for x arrival.from arrival.stamp arrival.base arrival.number c.args.entry.now (Some b)) y new) taken.1
    c.piece_for.ensures)
