-- What is kept of a node: the end of its list, from the base on. The code keeps that, and a step reads nothing below it.
use Rattle.std.specs.Prelude.{◌≡◌, List}
use Rattle.am_base.specs.declared.outcome.Outcome.{Outcome}
use Rattle.am_base.specs.Lists.{Log}
use Rattle.am_base.specs.declared.event.NodeEvent.{NodeEvent}
use Rattle.am_packet.specs.Boxes.{Letter}
use Rattle.am_node_defs.specs.Cores.{CoreKeepsEndOf, CoreFrontsAreInOrder, core_with_log}
use Rattle.am_model.specs.Node.{Node}
use Rattle.am_model.specs.Emit.{Plan, StepResult, finish}
use Rattle.am_model.specs.Step.{step}

-- the same node with this list
abbrev pub node_with_log : Node → Log → Node
node_with_log m all = record m { core = core_with_log all m.core }

-- a node keeps the end of another's list from the base on, and all else is the same
pub record IsEndOf (all m : Node) : Type 0 where
  pub stands : CoreKeepsEndOf all.core.log m.core
  pub same : node_with_log m all.core.log ≡ all

-- this is what every node tells or sends of which this one is the end
abbrev pub TellsAlike : {A : Type 0} → (Node → A) → Node → A → Type 0
TellsAlike f m told = (all : Node) → IsEndOf all m → told ≡ f all

-- it changes as every node of which it is the end
abbrev pub ChangesAllAlike : (Node → Node) → Node → Node → Type 0
ChangesAllAlike f old new = (all : Node) → IsEndOf all old → IsEndOf (f all) new

-- a step comes to a node of which this is the end, with this answer and these letters
pub record StepComesTo (s : StepResult) (outcome : Outcome) (letters : List Letter) (new : Node) : Type 0 where
  pub node : IsEndOf s.node new
  pub answer : outcome ≡ s.outcome
  pub sent : letters ≡ s.letters

-- a handler does a row: from the kept end alone it comes to the end, the answer and the letters of the whole step
abbrev pub DoesRow : (Node → Plan) → Node → Outcome → List Letter → Node → Type 0
DoesRow row old outcome letters new = StepComesTo (finish old (row old)) outcome letters new

-- ---- a step reads nothing below the base

-- the two steps have one answer, the same letters, and one end
pub record StepsAlike (s t : StepResult) : Type 0 where
  pub answer : s.outcome ≡ t.outcome
  pub sent : s.letters ≡ t.letters
  pub node : (n : Node) → IsEndOf t.node n → IsEndOf s.node n

-- whatever a node does, the end of it does, as long as its numbers stand in their order
abbrev pub EndsStepAlike : Type 0
EndsStepAlike = (all m : Node) (event : NodeEvent) → IsEndOf all m → CoreFrontsAreInOrder m.core → StepsAlike (step all event) (step m event)
