-- Journals that a run of the definitions could have left.
use Rattle.std.specs.Prelude.{◌≡◌, List, map}
use Rattle.am_base.specs.Founding.{Rules}
use Rattle.am_group.specs.declared.event.Record.{Record}
use Rattle.am_group_defs.specs.World.{no_caller, run}
use Rattle.am_group_defs.specs.Group.{with_tag}

-- the run of a journal's events has its lives, outcomes and letters; its tags are its own
abbrev pub IsLegal : Rules → List Record → Type 0
IsLegal rules records = map (λ r. with_tag no_caller r) records ≡ (run rules (map (λ r. r.event) records)).records
