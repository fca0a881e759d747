use Rattle.am_service_laws.proofs.Holding.{all_replicas_hold}
use Rattle.am_service_laws.proofs.replicas_hold.Goals as goal

pub returns : goal.returns
returns c = all_replicas_hold
