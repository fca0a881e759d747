-- What one event does to the nodes.
use Rattle.std.specs.Prelude.{◌≡◌, ℕ, ◌≤◌, max, List, Some, slice_get, slice_set}
use Rattle.am_base.specs.declared.entry.Entry.{Entry}
use Rattle.am_base.specs.declared.outcome.Outcome.{Outcome}
use Rattle.am_base.specs.declared.event.NodeEvent.{NodeEvent}
use Rattle.am_packet.specs.Boxes.{Letter}
use Rattle.am_node_defs.specs.Cores.{CoreFrontsAreInOrder}
use Rattle.am_model.specs.Node as model
use Rattle.am_model.specs.Step.{row}
use Rattle.am_group_defs.specs.World.{list_after_step}
use Rattle.am_model.specs.Ends.{DoesRow}
use Rattle.am_node.specs.declared.node.Node.{Node}
use Rattle.am_node.specs.Stands.{state_of}
use Rattle.am_model.specs.Nodes.{HasNumbersLeft}

-- whatever a step comes to, the node has trimmed nothing that the group list lacks, and knows no more to be accepted than
-- there is room for
abbrev pub StepFitsGroupList : model.Node → NodeEvent → ℕ → ℕ → Type 0
StepFitsGroupList m what stored room = (outcome : Outcome) (letters : List Letter) (n : model.Node) → DoesRow (λ k. row k what) m outcome letters n → CoreFrontsAreInOrder n.core
    → (n.core.base ≤ stored) × (max n.core.acc stored ≤ room)

-- the node is ready for a step, and the group list for what comes of it
pub record WorldIsReady (m : model.Node) (what : NodeEvent) (stored room : ℕ) : Type 0 where
  pub numbers : HasNumbersLeft m
  pub grows : StepFitsGroupList m what stored room

abbrev pub IsReadyAt : List Node → ℕ → NodeEvent → ℕ → ℕ → Type 0
IsReadyAt nodes place what stored room = (n : Node) → slice_get nodes place ≡ Some n → WorldIsReady (state_of n) what stored room

-- the node of this place does a step of the table, the others stay, and the group list grows by it
pub record StepsAt (old new : List Node) (group longer : List Entry) (place : ℕ) (what : NodeEvent) (outcome : Outcome) (letters : List Letter) : Type 0 where
  pub before : Node
  pub next : Node
  pub there : slice_get old place ≡ Some before
  pub placed : new ≡ slice_set old place next
  pub does : DoesRow (λ k. row k what) (state_of before) outcome letters (state_of next)
  pub order : CoreFrontsAreInOrder (state_of next).core
  pub grows : longer ≡ list_after_step group (state_of next)
