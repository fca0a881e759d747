use Rattle.am_ordering.proofs.SequencingWords.{ℕ, Some, None, sym, ap, ◌∙◌, node_with_report, node_of, untrimmed_node_ends_itself, reply_with_answer, equal_reply_of_equal_plan, reply_quiet_with_outcome, node_ends_as_itself}
use Rattle.am_node_parts.specs.declared.reply.StepAnswer.TheVariants as answer
use Rattle.am_node_parts.specs.declared.reply.Telling.TheVariants as tell
use Rattle.am_ordering.proofs.SequencingRows.{ack_row_by_refusal, following_replies_accepted}
use Rattle.am_ordering.proofs.sequencer.on_ack.Goals as goal

pub returns-in-Some : goal.returns-in-Some
returns-in-Some c =
    let old = node_of c.args.parts.now in
    equal_reply_of_equal_plan (ack_row_by_refusal old c.args.from c.args.report (Some c.in-Some.answer) (sym c.in-Some.is ∙ c.report_refusal.ensures.value)) c.quiet.ensures
    (reply_quiet_with_outcome old old _ (untrimmed_node_ends_itself old))

pub returns : goal.returns
returns c =
    let old = node_of c.args.parts.now in
    let mid = node_with_report old c.args.from c.args.report in
    let new = node_of c.report.new.self in
    equal_reply_of_equal_plan (ack_row_by_refusal old c.args.from c.args.report None (sym c.in_default.is ∙ c.report_refusal.ensures.value))
    (c.answering.ensures ∙ ap (λ (k : ℕ). reply_with_answer (answer.Accepted k) tell.Nothing) c.accept_front-since.ensures.value)
    (following_replies_accepted old.core.acc mid new (node_ends_as_itself mid new c.report.ensures))
