use Rattle.am_node_calls.proofs.Words.{sym, ◌∙◌, node_of, untrimmed_node_ends_itself, equal_reply_of_equal_plan, reply_quiet_with_outcome}
use Rattle.am_node_calls.proofs.Rows.{hold_row_of_waiting_request, hold_row_of_other_request}
use Rattle.am_node_calls.proofs.hearing.on_hold.Goals as goal

pub returns-then-waits_for : goal.returns-then-waits_for
returns-then-waits_for c =
    let m = node_of c.args.parts.now in
    equal_reply_of_equal_plan (hold_row_of_waiting_request m c.args.base c.args.top c.args.req (sym c.waits_for.ensures ∙ c.if-waits_for.true)) c.quiet.ensures
    (reply_quiet_with_outcome m m _ (untrimmed_node_ends_itself m))

pub returns : goal.returns
returns c =
    let m = node_of c.args.parts.now in
    equal_reply_of_equal_plan (hold_row_of_other_request m c.args.base c.args.top c.args.req (sym c.waits_for.ensures ∙ c.if-waits_for.false)) c.quiet-2.ensures
    (reply_quiet_with_outcome m m _ (untrimmed_node_ends_itself m))
