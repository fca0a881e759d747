use Rattle.std.proofs.Common.{◌≡◌, ◌*◌, ◌^◌, ◌≤◌, take}
use Rattle.am_script_defs.specs.Races.{calls_in_all}
use Rattle.am_race_script.proofs.race.calls_of.Given as goal

abbrev pub invariant-loop-thread : goal.invariant-loop-thread
invariant-loop-thread l = record {
  count : l.count ≡ calls_in_all (take l.thread-index l.threads);
  low : l.count ≤ l.thread-index * 2 ^ 59;
}
