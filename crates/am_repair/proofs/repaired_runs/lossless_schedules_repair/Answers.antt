use Rattle.am_repair.proofs.Repairable.RepairedSettled.{lossless_schedules_do_repair}
use Rattle.am_repair.proofs.repaired_runs.lossless_schedules_repair.Goals as goal

pub returns : goal.returns
returns c = lossless_schedules_do_repair
