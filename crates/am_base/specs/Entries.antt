-- The entry of parts whose body stands elsewhere, and how long a body is.
use Rattle.std.specs.Prelude.{ℕ, ◌≤◌, Option, None, Some, length}
use Rattle.am_base.specs.declared.entry.Entry.{Entry}
use Rattle.am_base.specs.declared.entry.Entry.TheVariants as entries
use Rattle.am_base.specs.declared.entry.EntryParts.{EntryParts}
use Rattle.am_base.specs.declared.entry.EntryParts.TheVariants.{Data, Join, Leave, View}
use Rattle.am_base.specs.declared.taken.TakenParts.{TakenParts}
use Rattle.am_base.specs.declared.taken.TakenParts.TheVariants as taken

abbrev pub entry_of_parts : EntryParts → Entry
entry_of_parts (Data from req body) = entries.Data from req body
entry_of_parts (Join name) = entries.Join name
entry_of_parts (Leave name) = entries.Leave name
entry_of_parts (View v) = entries.View v

abbrev pub taken_entry_of_parts : TakenParts → Entry
taken_entry_of_parts (taken.Data from req body) = entries.Data from req body
taken_entry_of_parts (taken.Join name) = entries.Join name
taken_entry_of_parts (taken.Leave name) = entries.Leave name
taken_entry_of_parts (taken.View v) = entries.View v

-- how many bytes its body has: none, where it has no body
abbrev pub body_length : Entry → ℕ
body_length (entries.Data from req body) = length body
body_length (entries.Join name) = 0
body_length (entries.Leave name) = 0
body_length (entries.View v) = 0

-- the same of an entry that may be there
abbrev pub optional_body_length : Option Entry → ℕ
optional_body_length None = 0
optional_body_length (Some e) = body_length e

-- there is room for a body of so many bytes
abbrev pub HasRoomForBody : ℕ → Option ℕ → Type 0
HasRoomForBody len None = ⊥
HasRoomForBody len (Some room) = len ≤ room
