-- That what a run has so far stays.
use Rattle.std.specs.Prelude.{ℕ, List, take}
use Rattle.am_base.specs.Founding.{Rules}
use Rattle.am_group.specs.declared.event.Event.{Event}
use Rattle.am_group_defs.specs.World.{run}
use Rattle.am_group_defs.specs.Claims.{WorldBegins}
use Rattle.am_group_defs.specs.Lawful.{lawful_front}

-- the records, the letters and the group list of a run's first events begin the run's
abbrev pub RunsBegin : Type 0
RunsBegin = (rules : Rules) (events : List Event) (k : ℕ) → WorldBegins (run rules (take k events)) (run rules events)

-- and so do those of its lawful front
abbrev pub LawfulFrontBeginsRun : Type 0
LawfulFrontBeginsRun = (rules : Rules) (events : List Event) → WorldBegins (run rules (lawful_front rules events)) (run rules events)
