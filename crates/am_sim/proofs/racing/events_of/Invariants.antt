use Rattle.std.proofs.Common.{◌≡◌, map, take}
use Rattle.am_sim.proofs.racing.events_of.Given as goal

abbrev pub invariant-loop-record : goal.invariant-loop-record
invariant-loop-record l = l.events ≡ map (λ r. r.event) (take l.record-index l.records)
