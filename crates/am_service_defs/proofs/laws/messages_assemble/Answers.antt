use Rattle.am_service_defs.proofs.Fold.{messages_assemble}
use Rattle.am_service_defs.proofs.laws.messages_assemble.Goals as goal

pub returns : goal.returns
returns c = messages_assemble
