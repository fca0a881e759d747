use Rattle.am_repair.proofs.Known.OneLists.{one_list_agrees}
use Rattle.am_repair.proofs.repair.one_list_agrees.Goals as goal

pub returns : goal.returns
returns c = one_list_agrees
