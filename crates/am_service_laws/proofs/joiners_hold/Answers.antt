use Rattle.am_service_laws.proofs.Holding.{joiner_replicas_hold}
use Rattle.am_service_laws.proofs.joiners_hold.Goals as goal

pub returns : goal.returns
returns c = joiner_replicas_hold
