-- How many events a script's run does.
use Rattle.std.proofs.Common.{◌≡◌, ◌+◌, ◌≤◌, List, length, Bool, true, false, arith}
use Rattle.std.proofs.lemmas.List.{length-append}
use Rattle.am_base.specs.Founding.{Rules}
use Rattle.am_group.specs.declared.event.Event.{Event}
use Rattle.am_group_defs.specs.World.{run}
use Rattle.am_group_defs.specs.Settle.{settle_events}
use Rattle.am_player.specs.Runs.{done_of}

-- its own at least
pub events_le_done_of_script : (rules : Rules) (events : List Event) (settles : Bool) → length events ≤ length (done_of rules events settles)
events_le_done_of_script rules events true = let all = length-append events (settle_events rules (run rules events)) in omega arith
events_le_done_of_script rules events false = omega arith

-- and those that settle it
pub done_of_settling_script_length : (rules : Rules) (events : List Event)
    → length (done_of rules events true) ≡ length events + length (settle_events rules (run rules events))
done_of_settling_script_length rules events = length-append events (settle_events rules (run rules events))
