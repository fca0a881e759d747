-- A group as its users see it: one list, and a front for each name that was admitted. It knows of no packet, no poll and
-- no ballot. Its three steps are to append an entry, to admit a name at a number, and to take the next entry of a name.
use Rattle.std.specs.Prelude.{◌≡◌, ℕ, ◌+◌, ◌-◌, ◌≤◌, List, [], ◌∷◌, ◌++◌, length, map, Option, Some, None, if◌then◌else◌, slice_get, slice_set, slice_index_or}
use Rattle.std.specs.List.{range_with_len}
use Rattle.am_base.specs.Most.{greatest_number}
use Rattle.am_base.specs.declared.entry.Entry.{Entry}
use Rattle.am_base.specs.declared.entry.Entry.TheVariants.{View}
use Rattle.am_base.specs.declared.name.Stamp.{Stamp}
use Rattle.am_base.specs.Names.{has, lowest_name_of}
use Rattle.am_base.specs.Founding.{Rules}

-- the list, the front of each of the 256 names that has one, and for how many entries more there is memory
pub record Standing : Type 0 where
  pub entries : List Entry
  pub fronts : List (Option ℕ)
  pub room : ℕ

-- how far a name has taken the list; None where it wasn't admitted
abbrev pub front_of : Standing → ℕ → Option ℕ
front_of g name = slice_index_or g.fronts name None

abbrev pub numbered_entry : ℕ → Option Entry → Option (ℕ × Entry)
numbered_entry number None = None
numbered_entry number (Some entry) = Some (number, entry)

-- the entry above a front, with its number
abbrev pub entry_above_front : List Entry → Option ℕ → Option (ℕ × Entry)
entry_above_front entries None = None
entry_above_front entries (Some front) = numbered_entry (front + 1) (slice_get entries front)

-- what a name takes next
abbrev pub next_entry_of_standing : Standing → ℕ → Option (ℕ × Entry)
next_entry_of_standing g name = entry_above_front g.entries (front_of g name)

-- the list with one entry more
abbrev pub list_with : List Entry → Entry → List Entry
list_with entries entry = entries ++ entry ∷ []

-- the fronts where a name is admitted at a number: its front is the number before
abbrev pub fronts_with_admitted : List (Option ℕ) → ℕ → ℕ → List (Option ℕ)
fronts_with_admitted fronts name number = slice_set fronts name (Some (number - 1))

-- the fronts where a name took what was next for it
abbrev pub fronts_after_take : List (Option ℕ) → ℕ → Option (ℕ × Entry) → List (Option ℕ)
fronts_after_take fronts name None = fronts
fronts_after_take fronts name (Some taken) = slice_set fronts name (Some taken.0)

-- each front is within the list
pub record AreFronts (entries : List Entry) (fronts : List (Option ℕ)) : Type 0 where
  pub few : length entries ≤ greatest_number
  pub names : length fronts ≡ 256
  pub within : (name front : ℕ) → slice_get fronts name ≡ Some (Some front) → front ≤ length entries

-- ---- how a group begins

-- the founders' View, of round 1 and the lowest founder
abbrev pub founding_view_stamp : Option ℕ → Stamp
founding_view_stamp None = record { round = 1; by = 0 }
founding_view_stamp (Some name) = record { round = 1; by = name }

abbrev pub founders_view : Rules → Entry
founders_view rules = View (record { stamp = founding_view_stamp (lowest_name_of rules.founders); members = rules.founders; resilience = rules.resilience })

-- each founder is admitted at 1
unfoldable pub founders_fronts : List ℕ → List (Option ℕ)
founders_fronts founders = map (λ name. if has founders name then Some 0 else None) (range_with_len 0 256)
