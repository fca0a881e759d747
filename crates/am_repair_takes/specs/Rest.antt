-- What is claimed of a group in one view in which nobody asks to join: all that its members sent is answered.
use Rattle.std.specs.Prelude.{◌≡◌, ◌≢◌, ℕ, ◌+◌, ◌*◌, ◌<◌, List, true}
use Rattle.am_base.specs.declared.event.NodeEvent.TheVariants as does
use Rattle.am_base.specs.declared.outcome.Outcome.TheVariants as said
use Rattle.am_base.specs.Founding.{Rules, MayFound}
use Rattle.am_base.specs.Names.{has}
use Rattle.am_group.specs.declared.event.Event.{Event}
use Rattle.am_model.specs.Node.{Node, members}
use Rattle.am_model.specs.Step.{step}
use Rattle.am_group_defs.specs.Lawful.{lawful_front}
use Rattle.am_group_defs.specs.Settle.{round_count}
use Rattle.am_group_defs.specs.World.{current, run}
use Rattle.am_repair.specs.Claim.{MayRepair}
use Rattle.am_repair_takes.specs.Resting.{NobodyAsks, unnumbered_in}
use Rattle.am_repair_takes.specs.Taking.{after_rounds}

-- no own send of a node is pending
abbrev pub HasNoPending : Node → Type 0
HasNoPending m = (req : ℕ) → (step m (does.Done req)).outcome ≢ said.Pending req

-- Of every lawful run that may be repaired and in which nobody who runs asks to join: as many taking rounds as repair it, six more for each
-- send of its members that had no number, and any more. Then no own send of a member is pending.
abbrev pub SendsAreAnswered : Type 0
SendsAreAnswered = (rules : Rules) (events : List Event) (place more : ℕ) → MayFound rules → place < 16 → lawful_front rules events ≡ events
    → MayRepair (run rules events) place → NobodyAsks (run rules events)
    → (name : ℕ) → has (members ((run rules events).nodes (current (run rules events) place))) name ≡ true
    → HasNoPending ((after_rounds (round_count rules + 6 * unnumbered_in (run rules events) (current (run rules events) place) + more) (run rules events)).nodes name)
