use Rattle.am_repair.proofs.Repairable.RepairedSettled.{repairable_runs_counting_members}
use Rattle.am_repair.proofs.repaired_runs.repairable_runs_count_members.Goals as goal

pub returns : goal.returns
returns c = repairable_runs_counting_members
