use Rattle.am_world.proofs.Ways.{DidHearingsUpToLetter}
use Rattle.am_world.proofs.settle.hear_all.Given as goal

abbrev pub invariant-loop-number : goal.invariant-loop-number
invariant-loop-number l = DidHearingsUpToLetter l.after l.number l.fn.world l.world
