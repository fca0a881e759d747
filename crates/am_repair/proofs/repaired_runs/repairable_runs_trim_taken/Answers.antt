use Rattle.am_repair.proofs.Repairable.RepairedSettled.{repairable_runs_trimming_taken}
use Rattle.am_repair.proofs.repaired_runs.repairable_runs_trim_taken.Goals as goal

pub returns : goal.returns
returns c = repairable_runs_trimming_taken
