use Rattle.am_repair.proofs.Known.Beginning.{repairs_where_lists_agree}
use Rattle.am_repair.proofs.repair.schedules_repair.Goals as goal

pub returns : goal.returns
returns c = repairs_where_lists_agree
