use Rattle.am_node_calls.proofs.Words.{refl, sym, ap, ◌∙◌, Node, waiting_send_of, plan_without_letters, plan_of_leaving, node_of, untrimmed_node_ends_itself, equal_reply_of_equal_plan, reply_quiet_with_outcome}
use Rattle.am_base.specs.declared.outcome.Outcome.TheVariants as said
use Rattle.am_node_calls.proofs.{Leaves.leave_now_of_leaver, Leaves.leave_now_while_busy, Leaves.leave_now_goes, Leaves.idle_node_has_nothing_waiting}
use Rattle.am_node_calls.proofs.leaving.leave_now.Goals as goal

pub returns-then-is_leaving : goal.returns-then-is_leaving
returns-then-is_leaving c =
    let old = node_of c.args.parts.now in
    equal_reply_of_equal_plan (leave_now_of_leaver old (sym c.is_leaving.ensures ∙ c.if-is_leaving.true)) c.quiet.ensures (reply_quiet_with_outcome old old _ (untrimmed_node_ends_itself old))

pub returns-then-is_busy : goal.returns-then-is_busy
returns-then-is_busy c =
    let old = node_of c.args.parts.now in
    equal_reply_of_equal_plan
    (leave_now_while_busy old c.unsettled_count-queued.result (sym c.is_leaving.ensures ∙ c.if-is_leaving.false)
    (sym c.is_busy.ensures ∙ c.if-is_busy.true) c.unsettled_count-queued.ensures.value)
    c.quiet-then-is_busy.ensures (reply_quiet_with_outcome old old _ (untrimmed_node_ends_itself old))

pub returns : goal.returns
returns c =
    equal_reply_of_equal_plan
    (leave_now_goes (node_of c.args.parts.now) (sym c.is_leaving.ensures ∙ c.if-is_leaving.false) (sym c.is_busy.ensures ∙ c.if-is_busy.false) ∙ ap
    (λ (x : Node). plan_of_leaving (plan_without_letters x said.Asked)) (sym c.begin_leaving.ensures))
    refl c.go_on_leaving.ensures

pub begin_leaving-requires : goal.begin_leaving-requires
begin_leaving-requires c =
    idle_node_has_nothing_waiting (node_of c.args.parts.now) (sym c.is_busy.ensures ∙ c.if-is_busy.false)

pub go_on_leaving-requires-clause-idle : goal.go_on_leaving-requires-clause-idle
go_on_leaving-requires-clause-idle c =
    ap (λ (x : Node). waiting_send_of x) c.begin_leaving.ensures ∙ idle_node_has_nothing_waiting (node_of c.args.parts.now) (sym c.is_busy.ensures ∙ c.if-is_busy.false)
