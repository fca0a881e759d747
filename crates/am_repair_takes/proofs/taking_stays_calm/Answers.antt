use Rattle.am_repair_takes.proofs.Calm.{taking_stays_calm}
use Rattle.am_repair_takes.proofs.taking_stays_calm.Goals as goal

pub returns : goal.returns
returns c = taking_stays_calm
