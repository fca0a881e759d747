-- What a node wants before a step.
use Rattle.std.specs.Prelude.{◌≡◌, ◌≢◌, ◌+◌, ◌<◌, ℕ, List, [], Option}
use Rattle.am_base.specs.declared.event.NodeEvent.{NodeEvent}
use Rattle.am_base.specs.declared.event.NodeEvent.TheVariants as does
use Rattle.am_base.specs.Most.{greatest_number}
use Rattle.am_base.specs.Entries.{HasRoomForBody, optional_body_length}
use Rattle.am_base.specs.Lists.{log_entry_at}
use Rattle.am_packet.specs.Boxes.{Letter}
use Rattle.am_model.specs.Node.{Node, top}

-- none of its numbers is at its end
pub record HasNumbersLeft (m : Node) : Type 0 where
  pub entries : top m + 1 < greatest_number
  pub rounds : m.core.promise.round < greatest_number
  pub requests : m.sends.last < greatest_number

-- how many bytes the body of the entry has that a take would give: none, where there is no such entry
abbrev pub next_body_length : Node → ℕ
next_body_length m = optional_body_length (log_entry_at m.core.log (m.core.taken + 1))

-- where an entry is taken, there is room for its body
abbrev pub HasRoomForTakenBody : Node → NodeEvent → Option ℕ → Type 0
HasRoomForTakenBody m event spare = event ≡ does.Take → m.core.taken ≢ m.core.acc → HasRoomForBody (next_body_length m) spare

-- an event at which the node hears nothing
abbrev pub HearsNothing : NodeEvent → Type 0
HearsNothing event = (bytes : List ℕ) → event ≢ does.Hear bytes

-- a node may do a step of this event, with this room for an entry's body, and with what is in the box for its letters
pub record MayStep (m : Node) (event : NodeEvent) (spare : Option ℕ) (letters : List Letter) : Type 0 where
  pub numbers : HasNumbersLeft m
  pub place : HasRoomForTakenBody m event spare
  pub empty : letters ≡ []
  pub silent : HearsNothing event
