use Rattle.am_service_laws.proofs.Holding.{founder_replicas_hold}
use Rattle.am_service_laws.proofs.founders_hold.Goals as goal

pub returns : goal.returns
returns c = founder_replicas_hold
