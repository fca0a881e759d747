use Rattle.am_ordering.proofs.JoiningWords.{sym, ap, ◌∙◌, set_of_one_name, node_of, untrimmed_node_ends_itself, reply_with_telling, equal_reply_of_equal_plan, reply_quiet_with_outcome, reply_tells_one_note}
use Rattle.am_base.specs.declared.outcome.Outcome.TheVariants as said
use Rattle.am_node_parts.specs.declared.reply.Note.TheVariants as note
use Rattle.am_ordering.proofs.Joins.{welcome_again_not_needed, welcome_again_is_sent}
use Rattle.am_ordering.proofs.joining.welcome_again.Goals as goal

pub returns-then-needs_none : goal.returns-then-needs_none
returns-then-needs_none c =
    let m = node_of c.args.parts.now in
    equal_reply_of_equal_plan (welcome_again_not_needed m c.args.from c.args.joined (sym c.needs_none.ensures ∙ c.if-needs_none.true)) c.quiet.ensures (reply_quiet_with_outcome m m _ (untrimmed_node_ends_itself m))

pub returns : goal.returns
returns c =
    let m = node_of c.args.parts.now in
    equal_reply_of_equal_plan (welcome_again_is_sent m c.args.from c.args.joined (sym c.needs_none.ensures ∙ c.if-needs_none.false))
    (c.saying.ensures ∙ ap (reply_with_telling (said.Welcomed c.args.joined)) c.note_to-welcome.ensures)
    (reply_tells_one_note m m _ (set_of_one_name c.args.from) (note.Welcome c.args.from) tt (untrimmed_node_ends_itself m))
