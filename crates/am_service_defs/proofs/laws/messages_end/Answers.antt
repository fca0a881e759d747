use Rattle.am_service_defs.proofs.Ends.{messages_end}
use Rattle.am_service_defs.proofs.laws.messages_end.Goals as goal

pub returns : goal.returns
returns c = messages_end
