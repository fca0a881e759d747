use Rattle.am_node_calls.proofs.Words.{node_of, untrimmed_node_ends_itself, equal_reply_of_equal_plan, reply_quiet_with_outcome}
use Rattle.am_node_calls.proofs.joining.on_state.Goals as goal

pub returns : goal.returns
returns c =
    let m = node_of c.args.parts.now in
    equal_reply_of_equal_plan c.standing.ensures c.quiet.ensures (reply_quiet_with_outcome m m _ (untrimmed_node_ends_itself m))
