use Rattle.am_resetting.proofs.VotingWords.{ask_row, node_of, untrimmed_node_ends_itself, reply_quiet_with_outcome, reply_without_letters, reply_of_equal_plan, equal_reply_of_plan}
use Rattle.am_model.specs.Emit as emit
use Rattle.am_resetting.proofs.voting.on_ask.Goals as goal

pub returns : goal.returns
returns c =
    let old = node_of c.args.parts.now in
    let row = ask_row old c.args.round in
    equal_reply_of_plan row c.quiet.result (reply_without_letters c.ask.result) old c.quiet.ensures
    (reply_of_equal_plan row (emit.plan_without_letters old c.ask.result) (reply_without_letters c.ask.result) old c.ask.ensures (reply_quiet_with_outcome old old c.ask.result (untrimmed_node_ends_itself old)))
