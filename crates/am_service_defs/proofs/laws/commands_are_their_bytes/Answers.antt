use Rattle.am_service_defs.proofs.CommandLaws.{commands_are_their_own_bytes}
use Rattle.am_service_defs.proofs.laws.commands_are_their_bytes.Goals as goal

pub returns : goal.returns
returns c = commands_are_their_own_bytes
