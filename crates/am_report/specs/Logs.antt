-- What names were given, line by line.
use Rattle.std.specs.Prelude.{ℕ, List, map}
use Rattle.std.specs.List.{flat_map}
use Rattle.am_base.specs.declared.entry.Entry.{Entry}
use Rattle.am_base.specs.Founding.{Rules}
use Rattle.am_group.specs.declared.event.Record.{Record}
use Rattle.am_group.specs.Deliveries.{deliveries}
use Rattle.am_group_defs.specs.Text.{log_line}

-- what each of these names was given
abbrev pub logs_for : List Record → List ℕ → List (ℕ × List (ℕ × Entry))
logs_for records names = map (λ name. (name, deliveries records name)) names

-- the lines of what a name was given
abbrev pub given_lines : Rules → ℕ → List (ℕ × Entry) → List ℕ
given_lines rules name given = flat_map (λ pair. log_line rules name pair.0 pair.1) given
