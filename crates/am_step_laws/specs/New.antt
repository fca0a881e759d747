-- That a view which a step decides is a new one.
use Rattle.std.specs.Prelude.{◌≡◌, true, false, List}
use Rattle.am_base.specs.Founding.{Rules, MayFound}
use Rattle.am_group.specs.declared.event.Event.{Event}
use Rattle.am_model.specs.Node.{view}
use Rattle.am_model.specs.Emit.{StepResult}
use Rattle.am_group_defs.specs.World.{run, is_stopped, step_decides_view}
use Rattle.am_step_laws.specs.Causes.{Cause}
use Rattle.am_step_laws.specs.Effects.{Effect}
use Rattle.am_step_laws.specs.Events.{acting_name, IsCause}
use Rattle.am_lawful_defs.specs.Watches.{StampIsNew}

-- nobody had its View
abbrev pub DecidedViewsAreNew : Type 0
DecidedViewsAreNew = (rules : Rules) (events : List Event) (e : Event) (c : Cause) (s : StepResult) → MayFound rules
    → is_stopped (run rules events) (acting_name (run rules events) e) ≡ false
    → IsCause (run rules events) (acting_name (run rules events) e) e.act c
    → Effect ((run rules events).nodes (acting_name (run rules events) e)) c s
    → step_decides_view ((run rules events).nodes (acting_name (run rules events) e)) s.node ≡ true
    → StampIsNew (run rules events) (view s.node)
