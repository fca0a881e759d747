-- Which node of the protocol the parts of the code are, and what they tell at the end of a step.
use Rattle.std.specs.Prelude.{ℕ, List, Option, Some, None, ◌+◌, Bool, false, not, ◌&&◌, ◌||◌, nat_lt, if◌then◌else◌, option_map}
use Rattle.am_packet.specs.Boxes.{Letter, with_letter}
use Rattle.am_model.specs.Node.{Node, other_members, is_sequencer}
use Rattle.am_model.specs.Emit.{accept_packet_of}
use Rattle.am_model.specs.Refresh.{accepted_number_of_send}
use Rattle.am_node_parts.specs.declared.parts.Parts.{Parts}
use Rattle.am_node_parts.specs.Keeps.{node_with}

abbrev pub node_of : Parts → Node
node_of p = node_with p.core p.status p.leaving p.sender p.pool p.fronts p.ballot

-- there is something, and it passes
abbrev pub some_passes : {A : Type 0} → (A → Bool) → Option A → Bool
some_passes test None = false
some_passes test (Some x) = test x

-- the number at which a send of the node's own is accepted, where it is kept
abbrev pub accepted_number : Node → ℕ → Option ℕ
accepted_number m req = option_map (λ k. m.core.base + 1 + k) (accepted_number_of_send m req)

-- the letters with what the sequencer tells of what is accepted, where so much was before the step
abbrev pub letters_with_accept_front : ℕ → Bool → Bool → List Letter → Node → List Letter
letters_with_accept_front before polls numbers letters n =
    if is_sequencer n && (polls || (nat_lt before n.core.acc && not numbers)) then with_letter (other_members n) (accept_packet_of n polls) letters else letters
