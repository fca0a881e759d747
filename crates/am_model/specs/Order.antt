-- The order of a node's numbers, which every step keeps.
use Rattle.std.specs.Prelude.{◌≤◌}
use Rattle.am_base.specs.declared.event.NodeEvent.{NodeEvent}
use Rattle.am_base.specs.Lists.{top_of_log}
use Rattle.am_node_defs.specs.Cores.{CoreState}
use Rattle.am_model.specs.Node.{Node}
use Rattle.am_model.specs.Step.{step}

-- the list begins nowhere above the base and what is taken, no more is taken than accepted, and no more accepted than stored
pub record FrontsAreOrdered (c : CoreState) : Type 0 where
  pub base : c.log.start ≤ c.base
  pub taken : c.log.start ≤ c.taken
  pub given : c.taken ≤ c.acc
  pub accepted : c.acc ≤ top_of_log c.log

-- whatever a node does, its numbers stay in this order
abbrev pub StepsKeepFrontsOrdered : Type 0
StepsKeepFrontsOrdered = (m : Node) (event : NodeEvent) → FrontsAreOrdered m.core → FrontsAreOrdered (step m event).node.core
