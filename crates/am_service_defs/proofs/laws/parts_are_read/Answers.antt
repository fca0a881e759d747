use Rattle.am_service_defs.proofs.Spelled.{parts_are_read_back}
use Rattle.am_service_defs.proofs.laws.parts_are_read.Goals as goal

pub returns : goal.returns
returns c = parts_are_read_back
