use Rattle.am_node_calls.proofs.Words.{ap, ◌∙◌, node_of, reply_without_letters, equal_reply_of_equal_plan, reply_quiet_with_outcome, node_ends_as_itself}
use Rattle.am_node_calls.proofs.Rows.{done_row_collects_request}
use Rattle.am_node_calls.proofs.sending.on_done.Goals as goal

pub returns : goal.returns
returns c =
    equal_reply_of_equal_plan (done_row_collects_request (node_of c.args.parts.now) c.args.req) (c.quiet.ensures ∙ ap reply_without_letters c.collect.ensures.answer)
    (reply_quiet_with_outcome _ _ _ (node_ends_as_itself _ _ c.collect.ensures.rest))
