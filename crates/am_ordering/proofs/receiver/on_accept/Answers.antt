use Rattle.am_ordering.proofs.ReceivingWords.{sym, ap, ◌∙◌, top_of_log, Parts, set_of_one_name, node_with_noted_fronts, node_of, reply_with_answer, reply_with_telling}
use Rattle.am_ordering.proofs.ReceivingWords.{equal_reply_of_equal_plan, reply_tells_one_note}
use Rattle.am_base.specs.declared.outcome.Outcome.TheVariants as said
use Rattle.am_node_parts.specs.declared.reply.StepAnswer.TheVariants as answer
use Rattle.am_node_parts.specs.declared.reply.Note.TheVariants as note
use Rattle.am_ordering.proofs.ReceivingRows.{accept_row_with_gap, accept_row_without_gap, accepting_replies_advanced}
use Rattle.am_ordering.proofs.receiver.on_accept.Goals as goal

pub returns-then-short : goal.returns-then-short
returns-then-short c =
    let told = c.args.told in
    let old = node_of c.args.parts.now in
    let new = node_of c.note.new.parts in
    let top = c.top-stored.ensures.value ∙ ap (λ (p : Parts). top_of_log p.core.log) c.parts.view_is in
    equal_reply_of_equal_plan
    (accept_row_with_gap old told.sender told.base told.acc told.number c.top-stored.result c.args.poll top (sym c.is_short_of-short.ensures ∙ c.if-short.true))
    (c.saying.ensures ∙ ap (reply_with_telling (said.Gap _)) c.note_to-nack.ensures)
    (reply_tells_one_note (node_with_noted_fronts old told.base told.acc) new _ (set_of_one_name told.sender) note.Nack tt (λ k. c.note.ensures.end))

pub returns : goal.returns
returns c =
    let told = c.args.told in
    let old = node_of c.args.parts.now in
    let new = node_of c.note.new.parts in
    equal_reply_of_equal_plan (accept_row_without_gap old told.sender told.base told.acc told.number c.args.poll (sym c.is_short_of-short.ensures ∙ c.if-short.false))
    (c.answering.ensures ∙ (λ k. reply_with_answer (answer.Advanced (c.accept_front-since.ensures.value k)) (c.ack_where.ensures k)))
    (accepting_replies_advanced old.core.acc c.args.poll told.sender (node_with_noted_fronts old told.base told.acc) new (λ k. c.note.ensures.end))
