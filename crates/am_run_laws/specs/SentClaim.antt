-- What is claimed of who sent what stands in a group's list.
use Rattle.std.specs.Prelude.{List}
use Rattle.am_base.specs.Founding.{Rules, MayFound}
use Rattle.am_group.specs.declared.event.Event.{Event}
use Rattle.am_group_defs.specs.Claims.{Sent}

-- In each run of every founding each Data was sent by its sender, before the list got it.
abbrev pub EachDataWasSent : Type 0
EachDataWasSent = (rules : Rules) (events : List Event) → MayFound rules → Sent rules events
