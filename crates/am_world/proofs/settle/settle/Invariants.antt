use Rattle.am_world.proofs.Rounds.{DidRoundsOfSettle}
use Rattle.am_world.proofs.settle.settle.Given as goal

abbrev pub invariant-loop-round : goal.invariant-loop-round
invariant-loop-round l = DidRoundsOfSettle l.rounds l._round l.fn.world l.world
