use Rattle.am_service_defs.proofs.ReplicaLaws.{replicas_show}
use Rattle.am_service_defs.proofs.laws.replicas_show.Goals as goal

pub returns : goal.returns
returns c = replicas_show
