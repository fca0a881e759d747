use Rattle.am_node_calls.proofs.Words.{refl, ap, ◌∙◌, node_of, untrimmed_node_ends_itself, reply_with_telling, equal_reply_of_equal_plan, reply_tells_one_note}
use Rattle.am_model.specs.Calls.{first_lives_of_other_places}
use Rattle.am_node_parts.specs.declared.reply.Note.TheVariants as note
use Rattle.am_node_parts.specs.declared.reply.Telling.TheVariants as tell
use Rattle.am_node_calls.proofs.joining.ask_to_join.Goals as goal

pub returns : goal.returns
returns c =
    let m = node_of c.args.parts.now in
    equal_reply_of_equal_plan refl (c.saying.ensures ∙ ap (λ set. reply_with_telling c.args.answer (tell.Note set note.JoinAsk)) c.everywhere_else.ensures)
    (reply_tells_one_note m m c.args.answer (first_lives_of_other_places m) note.JoinAsk tt (untrimmed_node_ends_itself m))
