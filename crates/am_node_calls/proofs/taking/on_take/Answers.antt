use Rattle.am_node_calls.proofs.Words.{refl, sym, ◌∙◌, node_of, untrimmed_node_ends_itself, equal_reply_of_equal_plan, reply_quiet_with_outcome, node_ends_as_itself}
use Rattle.am_node_calls.proofs.{Rows.take_row_of_no_member, Rows.take_row_without_accepted, Rows.take_row_gives_next_entry}
use Rattle.am_node_calls.proofs.taking.on_take.Goals as goal

pub returns-then-not-is_member : goal.returns-then-not-is_member
returns-then-not-is_member c =
    let old = node_of c.args.parts.now in
    equal_reply_of_equal_plan
    (take_row_of_no_member (node_of c.args.parts.now) (sym c.is_member.ensures ∙ c.if-not-is_member.true)) c.quiet.ensures (reply_quiet_with_outcome old old _ (untrimmed_node_ends_itself old))

pub returns-in_default : goal.returns-in_default
returns-in_default c =
    let old = node_of c.args.parts.now in
    equal_reply_of_equal_plan
    (take_row_without_accepted (node_of c.args.parts.now) (sym c.is_member.ensures ∙ c.if-not-is_member.false) (c.in_default.ensures.none.0 refl))
    c.quiet-in_default.ensures (reply_quiet_with_outcome old old _ (untrimmed_node_ends_itself old))

pub returns : goal.returns
returns c =
    equal_reply_of_equal_plan
    (take_row_gives_next_entry (node_of c.args.parts.now) c.in-Some.number c.in-Some.entry (sym c.is_member.ensures ∙ c.if-not-is_member.false) c.in-Some.ensures.accepted
    c.in-Some.ensures.number c.in-Some.ensures.entry)
    c.quiet-2.ensures (reply_quiet_with_outcome _ _ _ (node_ends_as_itself _ _ c.set_taken.ensures))
