-- Where each letter of a journal stands, and what contracts see of a journal.
use Rattle.std.specs.Prelude.{◌≡◌, ℕ, ◌+◌, ◌*◌, ◌<◌, ◌≤◌, List, length, map, Option, Some, None, slice_get, Bool, ◌&&◌, nat_lt, nat_le}
use Rattle.std.specs.List.{range_with_len}
use Rattle.am_base.specs.Most.{most_events_of_run}
use Rattle.am_base.specs.Founding.{Rules}
use Rattle.am_packet.specs.Boxes.{Letter}
use Rattle.am_group.specs.declared.event.Record.{Record}
use Rattle.am_group.specs.Journals.{letters_of_records}
use Rattle.am_journal.specs.declared.journal.Place.{Place}

-- the letter of a record by its index
abbrev pub letter_of : Option Record → ℕ → Option Letter
letter_of None index = None
letter_of (Some r) index = slice_get r.packets index

-- each letter stands at its place
pub record ArePlaces (records : List Record) (places : List Place) : Type 0 where
  pub count : length places ≡ length (letters_of_records records)
  pub each : (k : ℕ) (p : Place) → slice_get places k ≡ Some p → (p.number < length records)
      × (letter_of (slice_get records p.number) p.index ≡ slice_get (letters_of_records records) k)
  pub few : length places ≤ 24 * length records
  pub short : length records ≤ most_events_of_run

-- the places of a record's letters
abbrev pub letter_places : ℕ → ℕ → List Place
letter_places number many = map (λ index. record { number = number; index = index }) (range_with_len 0 many)

-- what happened since a founding, and whether there is room for one record more
pub record History : Type 0 where
  pub founding : Rules
  pub records : List Record
  pub has_room : Bool

-- there is memory for one record more, with all its letters
abbrev pub has_spare : ℕ → ℕ → ℕ → ℕ → Bool
has_spare records record_room letters letter_room = nat_lt records record_room && nat_le (letters + 24) letter_room
