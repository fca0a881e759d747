-- What a step does to the entries of a name's list, as a watcher of the run is told it.
use Rattle.std.specs.Prelude.{◌≡◌, true, false, ℕ, ◌<◌, ◌≤◌, List, length, drop, ◌++◌}
use Rattle.am_base.specs.declared.entry.Entry.{Entry}
use Rattle.am_base.specs.Founding.{Rules, MayFound}
use Rattle.am_group.specs.declared.event.Event.{Event}
use Rattle.am_model.specs.Node.{Node, has_log_by_status}
use Rattle.am_model.specs.Emit.{StepResult}
use Rattle.am_group_defs.specs.World.{World, run, is_stopped}
use Rattle.am_step_laws.specs.Causes.{Cause}
use Rattle.am_step_laws.specs.Effects.{Effect}
use Rattle.am_step_laws.specs.Events.{acting_name, IsCause}

-- the entries that a node stored since
abbrev pub stored_since : Node → Node → List Entry
stored_since m n = drop (length m.core.log.entries) n.core.log.entries

-- a name's step only adds entries, to a list that begins within the group list
pub record AddsEntries (w : World) (name : ℕ) (n : Node) : Type 0 where
  pub within : name < 256
  pub own : n.core.who ≡ name
  pub adds : n.core.log.entries ≡ (w.nodes name).core.log.entries ++ stored_since (w.nodes name) n
  pub begins : n.core.log.start ≤ length w.group
  -- and where there was a list, it begins where it did
  pub stays : has_log_by_status (w.nodes name).status ≡ true → n.core.log.start ≡ (w.nodes name).core.log.start

-- in every run
abbrev pub ListsGoOn : Type 0
ListsGoOn = (rules : Rules) (events : List Event) (e : Event) (c : Cause) (s : StepResult) → MayFound rules
    → is_stopped (run rules events) (acting_name (run rules events) e) ≡ false
    → IsCause (run rules events) (acting_name (run rules events) e) e.act c
    → Effect ((run rules events).nodes (acting_name (run rules events) e)) c s
    → AddsEntries (run rules events) (acting_name (run rules events) e) s.node
