use Rattle.am_node_calls.proofs.Words.{refl, sym, ap, ◌∙◌, Node, waiting_send_of, plan_without_letters, emit_waiting_send, node_of, untrimmed_node_ends_itself, equal_reply_of_equal_plan, reply_quiet_with_outcome, node_ends_as_itself}
use Rattle.am_base.specs.declared.outcome.Outcome.TheVariants as said
use Rattle.am_node_calls.proofs.{Rows.send_row_of_no_member, Rows.send_row_of_leaver, Rows.send_row_of_full_queue, Rows.send_row_queues_body, Rows.send_row_emits_body, Rows.not_below_four_ge_four}
use Rattle.am_node_calls.proofs.sending.on_send.Goals as goal

pub returns-then-not-is_member : goal.returns-then-not-is_member
returns-then-not-is_member c =
    let old = node_of c.args.parts.now in
    equal_reply_of_equal_plan
    (send_row_of_no_member (node_of c.args.parts.now) c.args.body.now (sym c.is_member.ensures ∙ c.if-not-is_member.true)) c.quiet.ensures (reply_quiet_with_outcome old old _ (untrimmed_node_ends_itself old))

pub returns-then-is_leaving : goal.returns-then-is_leaving
returns-then-is_leaving c =
    let old = node_of c.args.parts.now in
    equal_reply_of_equal_plan
    (send_row_of_leaver (node_of c.args.parts.now) c.args.body.now (sym c.is_member.ensures ∙ c.if-not-is_member.false)
    (sym c.is_leaving.ensures ∙ c.if-is_leaving.true)) c.quiet-then-is_leaving.ensures (reply_quiet_with_outcome old old _ (untrimmed_node_ends_itself old))

pub returns-then-waits : goal.returns-then-waits
returns-then-waits c =
    equal_reply_of_equal_plan
    (send_row_queues_body (node_of c.args.parts.now) c.args.body.now c.in-Ok.req (sym c.is_member.ensures ∙ c.if-not-is_member.false)
    (sym c.is_leaving.ensures ∙ c.if-is_leaving.false) (c.in-Ok.ensures.variant.0 refl) (sym c.has_waiting-waits.ensures ∙ c.if-waits.true)
    c.in-Ok.ensures.number)
    c.quiet-then-waits.ensures (reply_quiet_with_outcome _ _ _ (node_ends_as_itself _ _ c.in-Ok.ensures.ok))

pub returns-in-Err : goal.returns-in-Err
returns-in-Err c =
    equal_reply_of_equal_plan
    (send_row_of_full_queue (node_of c.args.parts.now) c.args.body.now (sym c.is_member.ensures ∙ c.if-not-is_member.false)
    (sym c.is_leaving.ensures ∙ c.if-is_leaving.false)
    (not_below_four_ge_four _ (λ few. let e = c.in-Err.ensures.variant.1 few in cc)) ∙ ap (λ k. plan_without_letters (node_of c.args.parts.now) (said.Busy k)) (sym c.in-Err.ensures.busy))
    c.quiet-in-Err.ensures (reply_quiet_with_outcome _ _ _ (node_ends_as_itself _ _ c.in-Err.ensures.err))

pub returns-else-waits : goal.returns-else-waits
returns-else-waits c =
    equal_reply_of_equal_plan
    (send_row_emits_body (node_of c.args.parts.now) c.args.body.now c.in-Ok.req (sym c.is_member.ensures ∙ c.if-not-is_member.false)
    (sym c.is_leaving.ensures ∙ c.if-is_leaving.false) (c.in-Ok.ensures.variant.0 refl) (sym c.has_waiting-waits.ensures ∙ c.if-waits.false)
    c.in-Ok.ensures.number ∙ ap (λ (m : Node). emit_waiting_send m (waiting_send_of m) (said.Queued c.in-Ok.req)) (sym c.in-Ok.ensures.ok))
    refl c.emit.ensures
