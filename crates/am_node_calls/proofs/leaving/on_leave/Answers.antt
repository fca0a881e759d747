use Rattle.am_node_calls.proofs.Words.{refl, sym, ◌∙◌, node_of, untrimmed_node_ends_itself, equal_reply_of_equal_plan, reply_quiet_with_outcome}
use Rattle.am_node_calls.proofs.Leaves.{leave_row_of_member}
use Rattle.am_node_calls.proofs.leaving.on_leave.Goals as goal

pub returns-then-is_member : goal.returns-then-is_member
returns-then-is_member c =
    equal_reply_of_equal_plan (leave_row_of_member (node_of c.args.parts.now) (sym c.is_member.ensures ∙ c.if-is_member.true)) refl c.leave_now.ensures

pub returns : goal.returns
returns c =
    let old = node_of c.args.parts.now in
    equal_reply_of_equal_plan c.outside.ensures c.quiet.ensures (reply_quiet_with_outcome old old _ (untrimmed_node_ends_itself old))
