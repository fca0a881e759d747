use Rattle.am_repair_takes.proofs.TakenReports.{taken_is_known}
use Rattle.am_repair_takes.proofs.what_is_taken_is_known.Goals as goal

pub returns : goal.returns
returns c = taken_is_known
