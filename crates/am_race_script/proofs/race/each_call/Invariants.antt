use Rattle.std.proofs.Common.{◌≡◌, ◌+◌, ◌++◌, drop, Ok}
use Rattle.am_script.specs.Seen.{items_seen}
use Rattle.am_script_defs.specs.Refusals.{◌>>=◌}
use Rattle.am_script_defs.specs.Values.{items_read_from}
use Rattle.am_script_defs.specs.Races.{call_from}
use Rattle.am_race_script.proofs.race.each_call.Given as goal

abbrev pub invariant-loop-before : goal.invariant-loop-before
invariant-loop-before l = items_read_from (call_from l.fn.founding) l.first (items_seen l.list)
    ≡ (items_read_from (call_from l.fn.founding) (l.first + l.before) (items_seen (drop l.before l.list)) >>= λ later. Ok (l.calls ++ later))
