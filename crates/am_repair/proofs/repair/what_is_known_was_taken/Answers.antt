use Rattle.am_repair.proofs.Known.ReportedRuns.{known_is_taken}
use Rattle.am_repair.proofs.repair.what_is_known_was_taken.Goals as goal

pub returns : goal.returns
returns c = known_is_taken
