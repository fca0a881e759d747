use Rattle.am_service_defs.proofs.WithinLaws.{contents_stay_within_limits}
use Rattle.am_service_defs.proofs.laws.contents_stay_within.Goals as goal

pub returns : goal.returns
returns c = contents_stay_within_limits
