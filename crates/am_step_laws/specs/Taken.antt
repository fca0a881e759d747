-- That nothing is trimmed that the node's own application hasn't taken.
use Rattle.std.specs.Prelude.{ℕ, ◌<◌, ◌≤◌, List}
use Rattle.am_base.specs.Founding.{Rules, MayFound}
use Rattle.am_group.specs.declared.event.Event.{Event}
use Rattle.am_group_defs.specs.World.{run}

abbrev pub TrimmedWasTaken : Type 0
TrimmedWasTaken = (rules : Rules) (events : List Event) (name : ℕ) → MayFound rules → name < 256
    → ((run rules events).nodes name).core.base ≤ ((run rules events).nodes name).core.taken
