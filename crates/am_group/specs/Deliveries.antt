-- What the application of a name was given.
use Rattle.std.specs.Prelude.{ℕ, List, [], ◌∷◌, ◌==◌, if◌then◌else◌}
use Rattle.std.specs.List.{flat_map}
use Rattle.am_base.specs.declared.entry.Entry.{Entry}
use Rattle.am_base.specs.declared.outcome.Outcome.{Outcome}
use Rattle.am_base.specs.declared.outcome.Outcome.TheVariants as said
use Rattle.am_base.specs.Names.{place_of_name, name_of_place_and_life}
use Rattle.am_group.specs.declared.event.Record.{Record}

-- the name that did a record: the life of the place that acted
abbrev pub acting_name_of_record : Record → ℕ
acting_name_of_record r = name_of_place_and_life (place_of_name r.event.node) r.life

-- the entry that an outcome gives out, with its number
abbrev pub entry_taken_by_outcome : Outcome → List (ℕ × Entry)
entry_taken_by_outcome (said.Took number entry) = (number, entry) ∷ []
entry_taken_by_outcome other = []

-- what a record gave to a name
abbrev pub entries_given_to : ℕ → Record → List (ℕ × Entry)
entries_given_to name r = if acting_name_of_record r == name then entry_taken_by_outcome r.outcome else []

-- all that the records gave to it, in order
abbrev pub deliveries : List Record → ℕ → List (ℕ × Entry)
deliveries records name = flat_map (entries_given_to name) records
