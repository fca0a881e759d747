-- The bodies of scripts are of bytes.
use Rattle.std.specs.Prelude.{◌≡◌, ℕ, List, Ok, Bool, All}
use Rattle.am_base.specs.Founding.{Rules}
use Rattle.am_group.specs.declared.event.Event.{Event}
use Rattle.am_group.specs.declared.plan.RacePlan.{RacePlan}
use Rattle.am_group.specs.declared.plan.ThreadPlan.{ThreadPlan}
use Rattle.am_script_defs.specs.Scripts.{script_of, script_reading}
use Rattle.am_script_defs.specs.Races.{race_reading}
use Rattle.am_script_defs.specs.Schedules.{IsOfBytes, AreOfBytes}

-- of a play's events
abbrev pub PlaysAreOfBytes : Type 0
PlaysAreOfBytes = (bytes : List ℕ) (founding : Rules) (events : List Event) (settles : Bool) → script_reading bytes ≡ Ok (script_of founding events settles)
    → AreOfBytes events

-- of a thread's calls
abbrev pub ThreadOfBytes : ThreadPlan → Type 0
ThreadOfBytes thread = All IsOfBytes thread.calls

abbrev pub RacesAreOfBytes : Type 0
RacesAreOfBytes = (bytes : List ℕ) (plan : RacePlan) → race_reading bytes ≡ Ok plan → All ThreadOfBytes plan.threads
