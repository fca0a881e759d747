-- What is claimed of a schedule in a calm world: it stays calm, and in each round each member stores eight entries more.
use Rattle.std.specs.Prelude.{◌≡◌, ℕ, ◌+◌, ◌<◌, ◌≤◌, min, List, [], ◌++◌, length, true, false, ◌==◌, All}
use Rattle.am_base.specs.Founding.{Rules, MayFound}
use Rattle.am_base.specs.Names.{has}
use Rattle.am_group.specs.declared.event.Act.TheVariants as act
use Rattle.am_group.specs.declared.event.Event.{Event}
use Rattle.am_model.specs.Node.{top}
use Rattle.am_group_defs.specs.Settle.{event_at, round}
use Rattle.am_group_defs.specs.World.{World, run}
use Rattle.am_repair.specs.Calm.{Repair, Calm}

-- ticks, and hearings of the schedule's own letters
pub data IsOurs (r : Repair) : Event → Type 0 where
  ticks : (place : ℕ) → IsOurs r (event_at place act.Tick)
  hears : (place number : ℕ) → r.sent < number → IsOurs r (event_at place (act.Hear number))

abbrev pub CalmStays : Type 0
CalmStays = (rules : Rules) (events more : List Event) (r : Repair) → MayFound rules → Calm r (run rules events) → All (IsOurs r) more
    → Calm r (run rules (events ++ more))

-- the world after one round
abbrev pub round_of : World → World
round_of w = (round (record { world = w; events = [] })).world

abbrev pub RoundsStore : Type 0
RoundsStore = (rules : Rules) (events : List Event) (r : Repair) (i stored : ℕ) → MayFound rules → Calm r (run rules events)
    → r.sent ≤ length (run rules events).letters
    → has r.members i ≡ true → (i == r.by) ≡ false → min stored r.high ≤ top ((run rules events).nodes i)
    → min (stored + 8) r.high ≤ top ((round_of (run rules events)).nodes i)
