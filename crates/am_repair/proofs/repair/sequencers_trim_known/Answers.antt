use Rattle.am_repair.proofs.Known.KnownRuns.{sequencers_trim_known}
use Rattle.am_repair.proofs.repair.sequencers_trim_known.Goals as goal

pub returns : goal.returns
returns c = sequencers_trim_known
