use Rattle.am_world.proofs.Rounds.{DidWavesOfRound}
use Rattle.am_world.proofs.settle.round.Given as goal

abbrev pub invariant-loop-wave : goal.invariant-loop-wave
invariant-loop-wave l = DidWavesOfRound l._wave l.after l.fn.world l.world
