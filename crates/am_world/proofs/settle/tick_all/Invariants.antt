use Rattle.am_world.proofs.Ways.{DidTicksUpToPlace}
use Rattle.am_world.proofs.settle.tick_all.Given as goal

abbrev pub invariant-loop-place : goal.invariant-loop-place
invariant-loop-place l = DidTicksUpToPlace l.place l.fn.world l.world
