use Rattle.am_node_calls.proofs.Words.{sym, ap, ◌∙◌, ◌==◌, set_of_one_name, node_of, untrimmed_node_ends_itself, reply_with_telling, equal_reply_of_equal_plan, reply_quiet_with_outcome, reply_tells_one_note}
use Rattle.am_base.specs.declared.name.Stamp.{Stamp}
use Rattle.am_base.specs.declared.outcome.Outcome.TheVariants as said
use Rattle.am_node_parts.specs.declared.reply.Note.TheVariants as note
use Rattle.am_node_parts.specs.declared.reply.Telling.TheVariants as tell
use Rattle.am_node_calls.proofs.Ticks as ticks
use Rattle.am_node_calls.proofs.ticking.tick_promised.Goals as goal

pub returns-then-eq : goal.returns-then-eq
returns-then-eq c =
    let m = node_of c.args.parts.now in
    equal_reply_of_equal_plan (ticks.tick_promised_to_itself m ((λ k. (sym c.promise-by.ensures.value k).by == sym c.name.ensures.value k) ∙ sym c.eq.ensures ∙ c.if-eq.true)) c.quiet.ensures (reply_quiet_with_outcome m m _ (untrimmed_node_ends_itself m))

pub returns : goal.returns
returns c =
    let m = node_of c.args.parts.now in
    equal_reply_of_equal_plan (ticks.tick_promised_to_other m ((λ k. (sym c.promise-by.ensures.value k).by == sym c.name.ensures.value k) ∙ sym c.eq.ensures ∙ c.if-eq.false))
    (c.saying.ensures ∙ ap (reply_with_telling said.Ticked) (c.note_to.ensures ∙ ap (λ (s : Stamp). tell.Note (set_of_one_name s.by) note.Fetch) c.promise-by.ensures.value))
    (reply_tells_one_note m m _ (set_of_one_name m.core.promise.by) note.Fetch tt (untrimmed_node_ends_itself m))
