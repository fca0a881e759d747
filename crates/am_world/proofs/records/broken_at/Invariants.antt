use Rattle.std.proofs.Common.{◌≡◌, map, take}
use Rattle.am_world.proofs.records.broken_at.Given as goal

abbrev pub invariant-loop-item : goal.invariant-loop-item
invariant-loop-item l = l.world ≡ record { rules = l.fn.founding; events = map (λ r. r.event) (take l.item-index l.records) }
