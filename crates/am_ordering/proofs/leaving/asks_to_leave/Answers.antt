use Rattle.am_ordering.proofs.JoiningWords.{refl, sym, ap, ◌∙◌, arith, Row, image_of_node, node_of, untrimmed_node_ends_itself, reply_with_poll, equal_reply_of_equal_plan, reply_polls_with_outcome}
use Rattle.am_ordering.proofs.{Leaves.asks_to_leave_again, Leaves.asks_to_leave_without_room, Leaves.asks_to_leave_is_numbered, Members.joined_row_is_member}
use Rattle.am_ordering.proofs.leaving.asks_to_leave.Goals as goal

pub returns-then-row-gt0 : goal.returns-then-row-gt0
returns-then-row-gt0 c =
    equal_reply_of_equal_plan (asks_to_leave_again (node_of c.args.parts.now) c.args.from c.row-row.result c.row-row.ensures.value c.if-row-gt0.true) refl c.leave_again.ensures

pub returns-then-not-has_room : goal.returns-then-not-has_room
returns-then-not-has_room c =
    let old = node_of c.args.parts.now in
    equal_reply_of_equal_plan (asks_to_leave_without_room old c.args.from c.row-row.result c.row-row.ensures.value c.if-row-gt0.false (sym c.has_room.ensures.value
    ∙ c.if-not-has_room.true)) (c.polling.ensures ∙ ap reply_with_poll c.held_answer.ensures) (reply_polls_with_outcome old old _ (untrimmed_node_ends_itself old))

pub number_leave-requires-clause-leaver : goal.number_leave-requires-clause-leaver
number_leave-requires-clause-leaver c =
    let left = ap (λ (r : Row). r.left) c.row-row.ensures.value in
    joined_row_is_member (image_of_node (node_of c.args.parts.now)) c.args.from c.requires.known (omega arith)

pub returns : goal.returns
returns c =
    equal_reply_of_equal_plan (asks_to_leave_is_numbered (node_of c.args.parts.now) c.args.from c.row-row.result c.row-row.ensures.value c.if-row-gt0.false (sym c.has_room.ensures.value
    ∙ c.if-not-has_room.false)) refl c.number_leave.ensures
