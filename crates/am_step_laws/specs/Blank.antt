-- What a node has that has no list.
use Rattle.std.specs.Prelude.{◌≡◌, ℕ, ◌<◌, List, [], None, false}
use Rattle.am_base.specs.Founding.{Rules, MayFound}
use Rattle.am_base.specs.Lists.{blank}
use Rattle.am_group.specs.declared.event.Event.{Event}
use Rattle.am_model.specs.Node.{Node, has_log_by_status}
use Rattle.am_group_defs.specs.World.{run}

-- nothing is told, accepted or taken, and no ballot was begun
pub record IsBlank (m : Node) : Type 0 where
  pub log : m.core.log ≡ record { start = 0; image = blank; entries = [] }
  pub base : m.core.base ≡ 0
  pub told : m.core.told ≡ 0
  pub start : m.core.start ≡ 0
  pub acc : m.core.acc ≡ 0
  pub taken : m.core.taken ≡ 0
  pub ballot : m.ballot ≡ None

-- a node that is neither a Member nor has departed
abbrev pub NodesWithoutListAreBlank : Type 0
NodesWithoutListAreBlank = (rules : Rules) (events : List Event) (name : ℕ) → MayFound rules → name < 256 → has_log_by_status ((run rules events).nodes name).status ≡ false
    → IsBlank ((run rules events).nodes name)
