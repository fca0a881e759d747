-- What a member's step comes to.
use Rattle.std.specs.Prelude.{◌≡◌, ℕ, List, Bool, is_ok}
use Rattle.am_base.specs.declared.event.NodeEvent.{NodeEvent}
use Rattle.am_base.specs.declared.outcome.Outcome.{Outcome}
use Rattle.am_packet.specs.Boxes.{Letter}
use Rattle.am_packet.specs.Reading.{reading}
use Rattle.am_model.specs.Node as model
use Rattle.am_model.specs.Ends.{IsEndOf}
use Rattle.am_model.specs.Step.{step}
use Rattle.am_node.specs.Stands.{state_of}
use Rattle.am_examples.specs.declared.member.Member.{Member}

-- the node that a member keeps the end of
abbrev pub kept_by : Member → model.Node
kept_by m = state_of m.node

-- bytes spell a packet
abbrev pub is_read : List ℕ → Bool
is_read bytes = is_ok (reading bytes)

-- whatever node the kept one is the end of: the answer and the letters are those of its step, and what is kept then is the end of what it comes to
abbrev pub StepIsOfWholeNode : NodeEvent → model.Node → Outcome → List Letter → model.Node → Type 0
StepIsOfWholeNode event old outcome letters new = (all : model.Node) → IsEndOf all old
    → (outcome ≡ (step all event).outcome) × (letters ≡ (step all event).letters) × IsEndOf (step all event).node new
