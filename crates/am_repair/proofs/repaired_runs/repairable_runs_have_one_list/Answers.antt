use Rattle.am_repair.proofs.Repairable.OneList.{repairable_is_one_list}
use Rattle.am_repair.proofs.repaired_runs.repairable_runs_have_one_list.Goals as goal

pub returns : goal.returns
returns c = repairable_is_one_list
