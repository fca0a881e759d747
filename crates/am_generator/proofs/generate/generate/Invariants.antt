use Rattle.am_generator.proofs.Words.{first_drive, drive, IsDriven}
use Rattle.am_generator.proofs.generate.generate.Given as goal

abbrev pub invariant-loop-done : goal.invariant-loop-done
invariant-loop-done l = IsDriven (drive l._done (first_drive l.seed)) l.generator
