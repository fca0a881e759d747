-- How all members of a running sequencer's list come to act in its view.
use Rattle.std.specs.Prelude.{◌≡◌, ℕ, ◌+◌, ◌/◌, ◌<◌, ◌≤◌, List, ◌++◌, true, false, All}
use Rattle.am_base.specs.Founding.{Rules, MayFound}
use Rattle.am_base.specs.Names.{place_of_name, has}
use Rattle.am_base.specs.Stamps.{stamp_is_less}
use Rattle.am_group.specs.declared.event.Act.TheVariants as act
use Rattle.am_group.specs.declared.event.Event.{Event}
use Rattle.am_model.specs.Node.{view, members, is_member, is_sequencer}
use Rattle.am_model.specs.Refresh.{refresh_at_end}
use Rattle.am_group_defs.specs.Lawful.{lawful_front}
use Rattle.am_group_defs.specs.Settle.{event_at}
use Rattle.am_group_defs.specs.World.{World, current, is_stopped, run}
use Rattle.am_fetch_laws.specs.Exchanges.{ActsInViewOf}
use Rattle.am_fetch_runs.specs.Events.{ticks_at}

-- a current name that runs
pub record IsCurrent (w : World) (name : ℕ) : Type 0 where
  pub small : name < 256
  pub now : current w (place_of_name name) ≡ name
  pub runs : is_stopped w name ≡ false

-- one of them is a Member, has promised no more than the sequencer's view, and has taken what the sequencer trims at the end of a step
pub record MayGatherAt (w : World) (q name : ℕ) : Type 0 where
  pub current_ : IsCurrent w name
  pub member_ : is_member (w.nodes name).status ≡ true
  pub promised : stamp_is_less (view (w.nodes q)) (w.nodes name).core.promise ≡ false
  pub trimmed : (refresh_at_end (w.nodes q)).core.base ≤ (w.nodes name).core.taken

-- so it is of a sequencer, and of each member of its list
pub record MayGather (w : World) (q : ℕ) : Type 0 where
  pub leads : is_sequencer (w.nodes q) ≡ true
  pub current_ : IsCurrent w q
  pub each : (name : ℕ) → has (members (w.nodes q)) name ≡ true → MayGatherAt w q name

-- the events that bring members to the view
pub data IsTickOrHearing : Event → Type 0 where
  ticks : (place : ℕ) → IsTickOrHearing (event_at place act.Tick)
  hears : (place number : ℕ) → IsTickOrHearing (event_at place (act.Hear number))

-- each member of the sequencer's list acts in its view, after these events
abbrev pub AllActAfter : Rules → List Event → List Event → ℕ → Type 0
AllActAfter rules events more q = (name : ℕ) → has (members ((run rules events).nodes q)) name ≡ true
    → ActsInViewOf ((run rules events).nodes q) ((run rules (events ++ more)).nodes name)

-- in them each place ticks no more than so often
abbrev pub TicksOfGathering : Rules → List Event → Type 0
TicksOfGathering rules more = (place : ℕ) → ticks_at place more ≤ (rules.window + 22) / 8

-- of every lawful run
abbrev pub MembersGather : Type 0
MembersGather = (rules : Rules) (events : List Event) (q : ℕ) → MayFound rules → lawful_front rules events ≡ events → MayGather (run rules events) q
    → (more : List Event) × All IsTickOrHearing more × TicksOfGathering rules more × AllActAfter rules events more q
