-- What is kept along a run is what watching it gives: the laws of each kind of event, by the events of the run.
use Rattle.std.specs.Prelude.{◌≡◌, ℕ, ◌+◌, List, [], ◌∷◌, ◌++◌, length, if◌then◌else◌, false}
use Rattle.am_base.specs.declared.outcome.Outcome.{Outcome}
use Rattle.am_base.specs.Founding.{Rules, MayFound}
use Rattle.am_group.specs.declared.event.Event.{Event}
use Rattle.am_model.specs.Node.{Node}
use Rattle.am_model.specs.Emit.{StepResult}
use Rattle.am_group_defs.specs.World as runs
use Rattle.am_group_defs.specs.World.{World, run, happens, world_with_record, world_with_next_life, current, is_stopped}
use Rattle.am_group_defs.specs.Lawful.{watch_run, broken_at}
use Rattle.am_step_laws.specs.Causes.{Cause}
use Rattle.am_step_laws.specs.Effects.{Effect}
use Rattle.am_step_laws.specs.Events.{acting_name, IsCause}
use Rattle.am_lawful_defs.specs.Watching.{Watching, watching_at_start, watch_step, note_stop, pass_event, watch_accepts}
use Rattle.am_lawful_defs.specs.Watches.{Watches, standing_of, last_view_of_node, entries_added_to_group}
use Rattle.am_step_laws.specs.Lists.{stored_since}

-- this is kept of the run of these events
abbrev pub IsWatchingOfRun : Rules → List Event → Watching → Type 0
IsWatchingOfRun rules events k = Watches k (watch_run rules events)

-- of a run without events
abbrev pub BeginningIsKept : Type 0
BeginningIsKept = (rules : Rules) → MayFound rules → IsWatchingOfRun rules [] (watching_at_start rules)

-- what is kept tells where the run broke
abbrev pub BreakIsKept : Type 0
BreakIsKept = (rules : Rules) (events : List Event) (k : Watching) → IsWatchingOfRun rules events k → k.broken ≡ broken_at rules events

-- what is kept after a name's step: what its node shows then, the entries that it stored, and what it added to the group list
abbrev pub watching_after_name_step : Watching → World → ℕ → Node → Watching
watching_after_name_step k w name n = watch_accepts (watch_step k name (standing_of n) (last_view_of_node n) (stored_since (w.nodes name) n)) (length w.group + 1) (entries_added_to_group w.group n)

abbrev pub StepIsWatched : Type 0
StepIsWatched = (rules : Rules) (events : List Event) (e : Event) (c : Cause) (s : StepResult) (k : Watching) → MayFound rules
    → is_stopped (run rules events) (acting_name (run rules events) e) ≡ false
    → IsCause (run rules events) (acting_name (run rules events) e) e.act c
    → Effect ((run rules events).nodes (acting_name (run rules events) e)) c s
    → happens (run rules events) e ≡ runs.world_with_step (run rules events) e (acting_name (run rules events) e) s
    → IsWatchingOfRun rules events k → IsWatchingOfRun rules (events ++ e ∷ []) (watching_after_name_step k (run rules events) (acting_name (run rules events) e) s.node)

-- after a name's stop
abbrev pub StopIsWatched : Type 0
StopIsWatched = (rules : Rules) (events : List Event) (e : Event) (o : Outcome) (name : ℕ) (k : Watching)
    → happens (run rules events) e ≡ world_with_record (record (run rules events) { stopped = (run rules events).stopped ++ name ∷ [] }) e o
    → IsWatchingOfRun rules events k → IsWatchingOfRun rules (events ++ e ∷ []) (note_stop k name)

-- after a return: the name before counts as stopped, if it didn't before
abbrev pub ReturnIsWatched : Type 0
ReturnIsWatched = (rules : Rules) (events : List Event) (e : Event) (o : Outcome) (place : ℕ) (k : Watching)
    → happens (run rules events) e ≡ world_with_next_life (world_with_record (run rules events) e o) place
    → IsWatchingOfRun rules events k → IsWatchingOfRun rules (events ++ e ∷ [])
    (if is_stopped (run rules events) (current (run rules events) place) then pass_event k else note_stop k (current (run rules events) place))

-- after an event that changes nothing
abbrev pub PassIsWatched : Type 0
PassIsWatched = (rules : Rules) (events : List Event) (e : Event) (o : Outcome) (k : Watching)
    → happens (run rules events) e ≡ world_with_record (run rules events) e o
    → IsWatchingOfRun rules events k → IsWatchingOfRun rules (events ++ e ∷ []) (pass_event k)
