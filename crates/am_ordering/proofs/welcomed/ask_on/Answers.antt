use Rattle.am_ordering.proofs.JoiningWords.{sym, ap, ◌∙◌, set_of_one_name, node_of, untrimmed_node_ends_itself, reply_with_telling, equal_reply_of_equal_plan, reply_tells_one_note}
use Rattle.am_base.specs.declared.outcome.Outcome.TheVariants as said
use Rattle.am_node_parts.specs.declared.reply.Note.TheVariants as note
use Rattle.am_ordering.proofs.Begun.{ask_next_in_same_view, ask_next_in_promised_view}
use Rattle.am_ordering.proofs.welcomed.ask_on.Goals as goal

pub returns-then-has_view : goal.returns-then-has_view
returns-then-has_view c =
    let told = c.args.told.now in
    let m = node_of c.args.parts.now in
    equal_reply_of_equal_plan (ask_next_in_same_view m told.sender told.stamp told.join (sym c.has_view.ensures ∙ c.if-has_view.true))
    (c.saying.ensures ∙ ap (reply_with_telling (said.Welcomed told.join)) c.note_to.ensures)
    (reply_tells_one_note m m _ (set_of_one_name told.sender) note.Nack tt (untrimmed_node_ends_itself m))

pub returns : goal.returns
returns c =
    let told = c.args.told.now in
    let m = node_of c.args.parts.now in
    equal_reply_of_equal_plan (ask_next_in_promised_view m told.sender told.stamp told.join (sym c.has_view.ensures ∙ c.if-has_view.false))
    (c.saying-2.ensures ∙ ap (reply_with_telling (said.Welcomed told.join)) c.note_to-2.ensures)
    (reply_tells_one_note m m _ (set_of_one_name told.sender) note.Fetch tt (untrimmed_node_ends_itself m))
