-- What is claimed of a group whose members may lack its sequencer's View, and in which nobody asks to join: all that its members sent is answered.
use Rattle.std.specs.Prelude.{◌≡◌, ℕ, ◌+◌, ◌*◌, ◌<◌, List, ◌++◌, true, false, All}
use Rattle.am_base.specs.Founding.{Rules, MayFound}
use Rattle.am_base.specs.Names.{has}
use Rattle.am_group.specs.declared.event.Event.{Event}
use Rattle.am_model.specs.Node.{top, image_of_node, members}
use Rattle.am_group_defs.specs.Lawful.{lawful_front}
use Rattle.am_group_defs.specs.Settle.{round_count}
use Rattle.am_group_defs.specs.World.{World, current, run}
use Rattle.am_fetch_runs.specs.Gathering.{MayGather, IsTickOrHearing, TicksOfGathering}
use Rattle.am_repair_takes.specs.Resting.{NobodyAsks, unnumbered_in}
use Rattle.am_repair_takes.specs.Rest.{HasNoPending}
use Rattle.am_repair_takes.specs.Taking.{HasAll, after_rounds}
use Rattle.am_repair_fetches.specs.Later.{MayRepairLater}

-- a member has all up to a number, and no own send of its is pending
pub record HasAllAnswered (w : World) (name number : ℕ) : Type 0 where
  pub all : HasAll w name number
  pub answered : HasNoPending (w.nodes name)

-- so has each member of the list of a place's name, up to where that stood, after these events and so many taking rounds
abbrev pub AllAnsweredAfter : Rules → List Event → List Event → ℕ → ℕ → Type 0
AllAnsweredAfter rules events more place rounds = let w = run rules events in let q = current w place in (name : ℕ) → has (members (w.nodes q)) name ≡ true
    → HasAllAnswered (after_rounds rounds (run rules (events ++ more))) name (top (w.nodes q))

-- there are ticks and hearings, and then as many taking rounds as repair a group, six more for each send of its members that has no number, and any
-- more of them, after which that is so
abbrev pub AreAnsweredLater : Rules → List Event → ℕ → Type 0
AreAnsweredLater rules events place = (more : List Event) × All IsTickOrHearing more × TicksOfGathering rules more × ((further : ℕ) → AllAnsweredAfter rules events more place
    (round_count rules + 6 * unnumbered_in (run rules events) (current (run rules events) place) + further))

-- of every lawful run after which a group may be repaired later, and in which nobody who runs asks to join
abbrev pub SendsAreAnsweredLater : Type 0
SendsAreAnsweredLater = (rules : Rules) (events : List Event) (place : ℕ) → MayFound rules → place < 16 → lawful_front rules events ≡ events
    → MayRepairLater (run rules events) place → NobodyAsks (run rules events) → AreAnsweredLater rules events place

-- a view as it was decided: its View is the last entry of its sequencer's list, and its members run, don't leave, and may come to it
pub record IsDecidedAnew (w : World) (place : ℕ) : Type 0 where
  pub gathers : MayGather w (current w place)
  pub last : (image_of_node (w.nodes (current w place))).view_number ≡ top (w.nodes (current w place))
  pub stays : (name : ℕ) → has (members (w.nodes (current w place))) name ≡ true → (w.nodes name).leaving ≡ false

-- so whoever stopped or leaves elsewhere, and whatever isn't accepted yet
abbrev pub DecidedViewsAreAnswered : Type 0
DecidedViewsAreAnswered = (rules : Rules) (events : List Event) (place : ℕ) → MayFound rules → place < 16 → lawful_front rules events ≡ events
    → IsDecidedAnew (run rules events) place → NobodyAsks (run rules events) → AreAnsweredLater rules events place
