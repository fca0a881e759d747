-- Which names stopped in a journal.
use Rattle.std.specs.Prelude.{ℕ, List, Bool, true, false, ◌&&◌, nat_lt, nat_le, ◌==◌, if◌then◌else◌, fold}
use Rattle.std.specs.List.{list_any}
use Rattle.am_base.specs.Names.{empty_set_of_names, with_name}
use Rattle.am_group.specs.declared.event.Act.{Act}
use Rattle.am_group.specs.declared.event.Act.TheVariants as act
use Rattle.am_group.specs.declared.event.Record.{Record}
use Rattle.am_group.specs.Deliveries.{acting_name_of_record}

abbrev pub is_stop : Act → Bool
is_stop act.Stop = true
is_stop _ = false

-- a record is of one of the sixteen lives of its place
abbrev pub has_life : Record → Bool
has_life r = nat_lt 0 r.life && nat_le r.life 16

-- the names that stopped, with the one that stops in a record
abbrev pub with_stop : List ℕ → Record → List ℕ
with_stop stopped r = if is_stop r.event.act && has_life r then with_name stopped (acting_name_of_record r) else stopped

-- the names that stopped in these records
abbrev pub stopped_names : List Record → List ℕ
stopped_names records = fold with_stop empty_set_of_names records

-- a name has stopped in one of these records
abbrev pub has_stopped : List Record → ℕ → Bool
has_stopped records name = list_any (λ r. is_stop r.event.act && (acting_name_of_record r == name)) records
