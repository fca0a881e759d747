use Rattle.am_node_calls.proofs.Words.{sym, ◌∙◌, node_of, untrimmed_node_ends_itself, equal_reply_of_equal_plan, reply_quiet_with_outcome, node_ends_as_itself}
use Rattle.am_node_calls.proofs.Rows.{spread_row_of_known_body, spread_row_keeps_body}
use Rattle.am_node_calls.proofs.hearing.on_spread.Goals as goal

pub returns-then-is_known : goal.returns-then-is_known
returns-then-is_known c =
    let old = node_of c.args.parts.now in
    equal_reply_of_equal_plan (spread_row_of_known_body old c.args.from c.args.req c.args.body.now (sym c.is_known.ensures ∙ c.if-is_known.true)) c.quiet.ensures
    (reply_quiet_with_outcome old old _ (untrimmed_node_ends_itself old))

pub returns : goal.returns
returns c =
    equal_reply_of_equal_plan (spread_row_keeps_body (node_of c.args.parts.now) c.args.from c.args.req c.args.body.now (sym c.is_known.ensures ∙ c.if-is_known.false))
    c.quiet-2.ensures (reply_quiet_with_outcome _ _ _ (node_ends_as_itself _ _ c.keep_body.ensures))
