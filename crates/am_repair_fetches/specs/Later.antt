-- Groups that may be repaired once all members of the sequencer's list have its View.
use Rattle.std.specs.Prelude.{◌≡◌, ℕ, ◌<◌, List, ◌++◌, true, All}
use Rattle.am_base.specs.Founding.{Rules, MayFound}
use Rattle.am_base.specs.Names.{has}
use Rattle.am_group.specs.declared.event.Event.{Event}
use Rattle.am_model.specs.Node.{top, members}
use Rattle.am_group_defs.specs.Lawful.{lawful_front}
use Rattle.am_group_defs.specs.Settle.{settle_events}
use Rattle.am_group_defs.specs.World.{World, current, is_stopped, world_after_events, run}
use Rattle.am_fetch_runs.specs.Gathering.{MayGather, IsTickOrHearing, TicksOfGathering}
use Rattle.am_repair.specs.Claim.{IsOut, MayRepair, HasCaughtUp}

-- as where a group may be repaired, but that members of the sequencer's list may lack its View, which they have promised and may fetch
pub record MayRepairLater (w : World) (place : ℕ) : Type 0 where
  pub gathers : MayGather w (current w place)
  pub nobody_stopped : (name : ℕ) → is_stopped w name ≡ true → IsOut w (w.nodes (current w place)) name
  pub nobody_leaves : (name : ℕ) → (w.nodes name).leaving ≡ true → IsOut w (w.nodes (current w place)) name

-- of every lawful run
abbrev pub GroupsMayBeRepairedLater : Type 0
GroupsMayBeRepairedLater = (rules : Rules) (events : List Event) (place : ℕ) → MayFound rules → place < 16 → lawful_front rules events ≡ events
    → MayRepairLater (run rules events) place
    → (more : List Event) × All IsTickOrHearing more × TicksOfGathering rules more × MayRepair (run rules (events ++ more)) place

-- and the schedule then brings each member to where the sequencer stood
abbrev pub IsRepairedAfter : Rules → List Event → List Event → ℕ → Type 0
IsRepairedAfter rules events more place = let w = run rules events in let v = run rules (events ++ more) in (name : ℕ) → has (members (w.nodes (current w place))) name ≡ true
    → HasCaughtUp ((world_after_events v (settle_events rules v)).nodes name) (top (w.nodes (current w place)))

abbrev pub GroupsAreRepairedLater : Type 0
GroupsAreRepairedLater = (rules : Rules) (events : List Event) (place : ℕ) → MayFound rules → place < 16 → lawful_front rules events ≡ events
    → MayRepairLater (run rules events) place
    → (more : List Event) × All IsTickOrHearing more × TicksOfGathering rules more × IsRepairedAfter rules events more place
