use Rattle.std.proofs.Common.{refl, ap}
use Rattle.am_node.specs.Stands.{state_of}
use Rattle.am_node_lines.proofs.Ends.{kept_end_step_replies_did}
use Rattle.am_node_lines.proofs.speaker.Speaker.step.Goals as goal

pub returns-clause-ok : goal.returns-clause-ok
returns-clause-ok c =
    kept_end_step_replies_did _ _ _ c.args.event.now c.in_ok-outcome.outcome _ _ (ap state_of c.deref_mut-node.ensures.value)
    c.in_ok-outcome.ensures.order.0 c.in_ok-outcome.ensures.does refl
