-- What all rooms keep after one of them took a body.
use Rattle.std.proofs.Common.{◌≡◌, ℕ, ◌<◌, List, length, map, get_or, Option, Some, None, refl, sym, ◌∙◌, ap, length-set}
use Rattle.std.proofs.Math.ListN.{set}
use Rattle.std.proofs.lemmas.List.{map-set, get_or-set_same, get_or-map}
use Rattle.std.proofs.lemmas.Option.{slice_get-get_or}
use Rattle.std.specs.Prelude.{slice_get}
use Rattle.am_base.specs.Names.{place_of_name}
use Rattle.am_service_defs.specs.declared.fed.Fed.TheVariants as feds
use Rattle.am_long_messages.specs.declared.room.MessageRoom.{MessageRoom}
use Rattle.am_service_defs.specs.Assembling.{Assembly, Taken, plain, passed, part, whole, ended_by, fed_by, taken_with, taken_at, after_data}
use Rattle.am_long_messages.specs.Rooms.{begun_in, RoomKeeps, ended_in}

room_there : (rooms : List MessageRoom) (place : ℕ) (room : MessageRoom) → place < length rooms → slice_get (set rooms place room) place ≡ Some room
room_there rooms place room there =
    let there_too : place < length (set rooms place room) = rw length-set there in
    slice_get-get_or (set rooms place room) place room there_too ∙ ap Some (get_or-set_same rooms place room room there)

-- where the last entry ended a message, its name's room has it
pub ended_by_whole_message : (rooms : List MessageRoom) (from whose : ℕ) (room : MessageRoom) (taken : Taken) → place_of_name from < length rooms → RoomKeeps room taken
    → fed_by from taken ≡ feds.Whole whose → ended_in (set rooms (place_of_name from) room) (Some whose) ≡ ended_by from taken
ended_by_whole_message rooms from whose room plain there kept fed = absurd (cc)
ended_by_whole_message rooms from whose room passed there kept fed = absurd (cc)
ended_by_whole_message rooms from whose room (part begun) there kept fed = absurd (cc)
ended_by_whole_message rooms from whose room (whole message) there kept fed =
    let same : from ≡ whose = cc in
    let bytes : room.bytes.items ≡ message = kept.ended in
    rw (← same, room_there rooms (place_of_name from) room there, bytes) refl

pub ended_by_other_body : (from : ℕ) (taken : Taken) → ((whose : ℕ) → fed_by from taken ≡ feds.Whole whose → ⊥) → None ≡ ended_by from taken
ended_by_other_body from plain not_whole = refl
ended_by_other_body from passed not_whole = refl
ended_by_other_body from (part begun) not_whole = refl
ended_by_other_body from (whole message) not_whole = absurd (not_whole from refl)

pub rooms_after_taken_body : (rooms : List MessageRoom) (before after : Option ℕ) (from : ℕ) (old new : MessageRoom) (body : List ℕ) → place_of_name from < length rooms
    → old ≡ get_or rooms (place_of_name from) old → RoomKeeps new (taken_with (begun_in old) from body)
    → ended_in (set rooms (place_of_name from) new) after ≡ ended_by from (taken_with (begun_in old) from body)
    → let a : Assembly = record { begun = map begun_in rooms; ended = ended_in rooms before } in
    let b : Assembly = record { begun = map begun_in (set rooms (place_of_name from) new); ended = ended_in (set rooms (place_of_name from) new) after } in
    b ≡ after_data a from (taken_at a from body)
rooms_after_taken_body rooms before after from old new body there was kept ended =
    let at : get_or (map begun_in rooms) (place_of_name from) None ≡ begun_in old =
    get_or-map begun_in rooms (place_of_name from) old None there ∙ ap begun_in (sym was) in
    rw (at, map-set, kept.begun, ended) refl
