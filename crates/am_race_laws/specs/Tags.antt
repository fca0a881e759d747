-- Whose records they are: of a place, of a caller, of one call; and what a caller at a place knows of a journal at least.
use Rattle.std.specs.Prelude.{ℕ, List, [], ◌∷◌, Bool, true, false, ◌&&◌, ◌||◌, ◌==◌, if◌then◌else◌, Option, filter, find}
use Rattle.std.specs.List.{list_any}
use Rattle.am_base.specs.Names.{place_of_name}
use Rattle.am_group.specs.declared.event.Part.{Part}
use Rattle.am_group.specs.declared.event.Part.TheVariants.{Call, Turn, Check}
use Rattle.am_group.specs.declared.event.Record.{Record}

abbrev pub of_place : ℕ → List Record → List Record
of_place place records = filter (λ r. place_of_name r.event.node == place) records

abbrev pub of_caller : ℕ → List Record → List Record
of_caller caller records = filter (λ r. r.by.caller == caller) records

-- a call: the caller and the number of its call, from 0
abbrev pub of_call : ℕ → ℕ → List Record → List Record
of_call caller call records = filter (λ r. (r.by.caller == caller) && (r.by.call == call)) records

-- ---- parts of a call

abbrev pub is_own : Part → Bool
is_own Call = true
is_own (Turn lost) = false
is_own Check = false

abbrev pub is_turn_part : Part → Bool
is_turn_part Call = false
is_turn_part (Turn lost) = true
is_turn_part Check = false

abbrev pub is_check : Part → Bool
is_check Call = false
is_check (Turn lost) = false
is_check Check = true

-- the record of a call's own act, where it is made
abbrev pub own_of : List Record → Option Record
own_of records = find (λ r. is_own r.by.part) records

-- ---- what is known

abbrev pub is_either : ℕ → ℕ → Record → Bool
is_either place caller r = (place_of_name r.event.node == place) || (r.by.caller == caller)

-- the records up to the last one of a place or of a caller
unfoldable pub up_to_last : ℕ → ℕ → List Record → List Record
up_to_last place caller [] = []
up_to_last place caller (r ∷ rs) = if list_any (is_either place caller) (r ∷ rs) then r ∷ up_to_last place caller rs else []
