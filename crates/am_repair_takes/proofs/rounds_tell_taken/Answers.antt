use Rattle.am_repair_takes.proofs.TakenWaves.{rounds_tell_taken}
use Rattle.am_repair_takes.proofs.rounds_tell_taken.Goals as goal

pub returns : goal.returns
returns c = rounds_tell_taken
