-- What is claimed of how much a node keeps.
use Rattle.std.specs.Prelude.{List}
use Rattle.am_base.specs.Founding.{Rules, MayFound}
use Rattle.am_group.specs.declared.event.Event.{Event}
use Rattle.am_group_defs.specs.Claims.{Bounded}

-- Each node of every run of every founding.
abbrev pub NodesAreBounded : Type 0
NodesAreBounded = (rules : Rules) (events : List Event) → MayFound rules → Bounded rules events
