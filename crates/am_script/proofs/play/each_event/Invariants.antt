use Rattle.std.proofs.Common.{◌≡◌, ◌+◌, ◌++◌, drop, Ok}
use Rattle.am_script.specs.Seen.{items_seen}
use Rattle.am_script_defs.specs.Refusals.{◌>>=◌}
use Rattle.am_script_defs.specs.Values.{items_read_from}
use Rattle.am_script_defs.specs.Events.{event_from}
use Rattle.am_script.proofs.play.each_event.Given as goal

abbrev pub invariant-loop-before : goal.invariant-loop-before
invariant-loop-before l = items_read_from (event_from l.fn.founding) 1 (items_seen l.fn.list)
    ≡ (items_read_from (event_from l.fn.founding) (l.before + 1) (items_seen (drop l.before l.list)) >>= λ later. Ok (l.events ++ later))
