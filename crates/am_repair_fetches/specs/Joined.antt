-- The same of members that have come to their Join, whatever the sequencer trims.
use Rattle.std.specs.Prelude.{◌≡◌, ℕ, ◌<◌, List, true, false, All}
use Rattle.am_base.specs.Founding.{Rules, MayFound}
use Rattle.am_base.specs.Names.{has}
use Rattle.am_base.specs.Stamps.{stamp_is_less}
use Rattle.am_group.specs.declared.event.Event.{Event}
use Rattle.am_model.specs.Node.{top, view, image_of_node, members, is_member, is_sequencer}
use Rattle.am_group_defs.specs.Lawful.{lawful_front}
use Rattle.am_group_defs.specs.World.{World, current, is_stopped, run}
use Rattle.am_fetch_runs.specs.Gathering.{IsCurrent, IsTickOrHearing, TicksOfGathering}
use Rattle.am_repair.specs.Claim.{IsOut}
use Rattle.am_repair_takes.specs.Resting.{NobodyAsks}
use Rattle.am_trim_laws.specs.Trims.{HasComeToJoin}
use Rattle.am_repair_fetches.specs.Later.{IsRepairedAfter}
use Rattle.am_repair_fetches.specs.Rest.{AreAnsweredLater}

-- a current name that runs, is a Member, has promised no more than the sequencer's view, and has come to its Join
pub record IsPastJoinAt (w : World) (q name : ℕ) : Type 0 where
  pub current_ : IsCurrent w name
  pub member_ : is_member (w.nodes name).status ≡ true
  pub promised : stamp_is_less (view (w.nodes q)) (w.nodes name).core.promise ≡ false
  pub come : HasComeToJoin (w.nodes name)

-- so it is of a sequencer, and of each member of its list
pub record AllArePastJoin (w : World) (q : ℕ) : Type 0 where
  pub leads : is_sequencer (w.nodes q) ≡ true
  pub current_ : IsCurrent w q
  pub each : (name : ℕ) → has (members (w.nodes q)) name ≡ true → IsPastJoinAt w q name

-- ---- repair

pub record MayRepairPastJoin (w : World) (place : ℕ) : Type 0 where
  pub all : AllArePastJoin w (current w place)
  pub nobody_stopped : (name : ℕ) → is_stopped w name ≡ true → IsOut w (w.nodes (current w place)) name
  pub nobody_leaves : (name : ℕ) → (w.nodes name).leaving ≡ true → IsOut w (w.nodes (current w place)) name

abbrev pub GroupsPastJoinAreRepaired : Type 0
GroupsPastJoinAreRepaired = (rules : Rules) (events : List Event) (place : ℕ) → MayFound rules → place < 16 → lawful_front rules events ≡ events
    → MayRepairPastJoin (run rules events) place
    → (more : List Event) × All IsTickOrHearing more × TicksOfGathering rules more × IsRepairedAfter rules events more place

-- ---- a view that was just decided

pub record IsDecidedPastJoin (w : World) (place : ℕ) : Type 0 where
  pub all : AllArePastJoin w (current w place)
  pub last : (image_of_node (w.nodes (current w place))).view_number ≡ top (w.nodes (current w place))
  pub stays : (name : ℕ) → has (members (w.nodes (current w place))) name ≡ true → (w.nodes name).leaving ≡ false

abbrev pub DecidedPastJoinAreAnswered : Type 0
DecidedPastJoinAreAnswered = (rules : Rules) (events : List Event) (place : ℕ) → MayFound rules → place < 16 → lawful_front rules events ≡ events
    → IsDecidedPastJoin (run rules events) place → NobodyAsks (run rules events) → AreAnsweredLater rules events place
