use Rattle.am_repair_takes.proofs.Trims.{ticks_trim}
use Rattle.am_repair_takes.proofs.ticks_trim.Goals as goal

pub returns : goal.returns
returns c = ticks_trim
