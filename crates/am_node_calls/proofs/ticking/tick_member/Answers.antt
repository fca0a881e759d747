use Rattle.am_node_calls.proofs.Words.{refl, sym, ap, ◌∙◌, set_of_one_name, view, node_of, untrimmed_node_ends_itself, reply_with_telling, equal_reply_of_equal_plan, reply_tells_one_note}
use Rattle.am_base.specs.declared.name.Stamp.{Stamp}
use Rattle.am_base.specs.declared.outcome.Outcome.TheVariants as said
use Rattle.am_node_parts.specs.declared.reply.Note.TheVariants as note
use Rattle.am_node_parts.specs.declared.reply.Telling.TheVariants as tell
use Rattle.am_node_calls.proofs.Ticks as ticks
use Rattle.am_node_calls.proofs.ticking.tick_member.Goals as goal

pub returns-then-is_leaving : goal.returns-then-is_leaving
returns-then-is_leaving c =
    equal_reply_of_equal_plan (ticks.tick_member_that_leaves (node_of c.args.parts.now) (sym c.is_leaving.ensures ∙ c.if-is_leaving.true)) refl c.go_on_leaving.ensures

pub go_on_leaving-requires-clause-idle : goal.go_on_leaving-requires-clause-idle
go_on_leaving-requires-clause-idle c =
    c.args.parts.now.keeps.settled (sym c.is_leaving.ensures ∙ c.if-is_leaving.true)

pub returns-then-would_emit_waiting : goal.returns-then-would_emit_waiting
returns-then-would_emit_waiting c =
    equal_reply_of_equal_plan
    (ticks.tick_member_that_emits (node_of c.args.parts.now) (sym c.is_leaving.ensures ∙ c.if-is_leaving.false)
    (sym c.would_emit_waiting.ensures ∙ c.if-would_emit_waiting.true))
    refl c.emit.ensures

pub returns : goal.returns
returns c =
    let m = node_of c.args.parts.now in
    equal_reply_of_equal_plan
    (ticks.tick_member_that_reports m (sym c.is_leaving.ensures ∙ c.if-is_leaving.false) (sym c.would_emit_waiting.ensures ∙ c.if-would_emit_waiting.false))
    (c.saying.ensures ∙ ap (reply_with_telling said.Ticked) (c.note_to.ensures ∙ ap (λ (s : Stamp). tell.Note (set_of_one_name s.by) note.Ack) c.view.ensures.value))
    (reply_tells_one_note m m _ (set_of_one_name (view m).by) note.Ack tt (untrimmed_node_ends_itself m))
