use Rattle.am_node_calls.proofs.Words.{sym, ◌∙◌, node_of, untrimmed_node_ends_itself, equal_reply_of_equal_plan, reply_quiet_with_outcome, node_ends_as_itself}
use Rattle.am_node_calls.proofs.Rows.{gone_row_of_leaver, gone_row_of_stayer}
use Rattle.am_node_calls.proofs.hearing.on_gone.Goals as goal

pub returns-then-is_leaving : goal.returns-then-is_leaving
returns-then-is_leaving c =
    equal_reply_of_equal_plan (gone_row_of_leaver (node_of c.args.parts.now) (sym c.is_leaving.ensures ∙ c.if-is_leaving.true)) c.quiet.ensures
    (reply_quiet_with_outcome _ _ _ (node_ends_as_itself _ _ c.set_status.ensures))

pub returns : goal.returns
returns c =
    let old = node_of c.args.parts.now in
    equal_reply_of_equal_plan (gone_row_of_stayer old (sym c.is_leaving.ensures ∙ c.if-is_leaving.false)) c.quiet-2.ensures (reply_quiet_with_outcome old old _ (untrimmed_node_ends_itself old))
