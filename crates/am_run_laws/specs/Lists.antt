-- What the group list of a run is beside the logs that it gives out.
use Rattle.std.specs.Prelude.{◌≡◌, ◌≢◌, ℕ, List, [], true}
use Rattle.am_base.specs.Lists.{blank, AllEntriesFit}
use Rattle.am_base.specs.Founding.{Rules, MayFound}
use Rattle.am_group.specs.declared.event.Event.{Event}
use Rattle.am_group.specs.Deliveries.{deliveries}
use Rattle.am_model.specs.Node.{has_log_by_status}
use Rattle.am_group_defs.specs.World.{World, run}
use Rattle.am_group_defs.specs.Claims.{NoBallot}

-- each entry of the group list fits those before it, and who was given something has or had a list
pub record GroupListFits (w : World) : Type 0 where
  pub fits : AllEntriesFit blank 1 w.group
  pub listed : (name : ℕ) → deliveries w.records name ≢ [] → has_log_by_status (w.nodes name).status ≡ true

-- in a run without a ballot, whoever stops
abbrev pub UnballotedListsFit : Type 0
UnballotedListsFit = (rules : Rules) (events : List Event) → MayFound rules → NoBallot (run rules events) → GroupListFits (run rules events)
