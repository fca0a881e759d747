-- What rooms keep, as contracts see it.
use Rattle.std.specs.Prelude.{◌≡◌, ℕ, List, map, slice_get, Option, Some, None, option_map}
use Rattle.am_base.specs.Names.{place_of_name}
use Rattle.am_long_messages.specs.declared.room.Unfinished.{Unfinished}
use Rattle.am_long_messages.specs.declared.room.MessageRoom.{MessageRoom}
use Rattle.am_long_messages.specs.declared.assembler.Assembler.TheInside.{Inside}
use Rattle.am_service_defs.specs.Assembling.{Begun, Assembly, Taken, plain, passed, part, whole, begun_by}

abbrev pub begun_with : List ℕ → Option Unfinished → Option Begun
begun_with bytes None = None
begun_with bytes (Some u) = Some (record { from = u.from; next = u.next; count = u.count; bytes = bytes })

-- what had begun in a room
abbrev pub begun_in : MessageRoom → Option Begun
begun_in room = begun_with room.bytes.items room.unfinished

-- where a message ended, those are its bytes
abbrev pub IfWhole : Taken → List ℕ → Type 0
IfWhole (whole message) bytes = bytes ≡ message
IfWhole plain bytes = Unit {0}
IfWhole passed bytes = Unit {0}
IfWhole (part begun) bytes = Unit {0}

-- a room after what a Data came to
pub record RoomKeeps (room : MessageRoom) (taken : Taken) : Type 0 where
  pub begun : begun_in room ≡ begun_by taken
  pub ended : IfWhole taken room.bytes.items

abbrev pub ended_in : List MessageRoom → Option ℕ → Option (ℕ × List ℕ)
ended_in rooms None = None
ended_in rooms (Some name) = option_map (λ room. (name, room.bytes.items)) (slice_get rooms (place_of_name name))

-- what all rooms keep
abbrev pub assembly_of : Inside → Assembly
assembly_of a = record { begun = map begun_in a.rooms.items; ended = ended_in a.rooms.items a.whole }
