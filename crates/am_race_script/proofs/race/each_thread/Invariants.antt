use Rattle.std.proofs.Common.{◌≡◌, ◌+◌, ◌*◌, ◌^◌, ◌≤◌, ◌++◌, drop, Ok}
use Rattle.am_script.specs.Seen.{items_seen}
use Rattle.am_script_defs.specs.Refusals.{◌>>=◌}
use Rattle.am_script_defs.specs.Races.{each_thread}
use Rattle.am_race_script.proofs.race.each_thread.Given as goal

abbrev pub invariant-loop-value : goal.invariant-loop-value
invariant-loop-value l = record {
  read : each_thread l.fn.founding 1 (items_seen l.list) ≡ (each_thread l.fn.founding l.first (items_seen (drop l.value-index l.list)) >>= λ later. Ok
      (l.threads ++ later));
  low : l.first ≤ 1 + l.value-index * 2 ^ 59;
}
