-- What the group list of a lawful run is beside the logs that it gives out.
use Rattle.std.specs.Prelude.{◌≡◌, List, None}
use Rattle.am_base.specs.Founding.{Rules, MayFound}
use Rattle.am_group.specs.declared.event.Event.{Event}
use Rattle.am_group_defs.specs.World.{run}
use Rattle.am_group_defs.specs.Lawful.{broken_at}
use Rattle.am_run_laws.specs.Lists.{GroupListFits}

-- in a run that isn't broken
abbrev pub LawfulListsFit : Type 0
LawfulListsFit = (rules : Rules) (events : List Event) → MayFound rules → broken_at rules events ≡ None → GroupListFits (run rules events)
