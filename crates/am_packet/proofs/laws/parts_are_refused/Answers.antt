use Rattle.am_packet.proofs.Whole.{part_of_spelling_is_refused}
use Rattle.am_packet.proofs.laws.parts_are_refused.Goals as goal

pub returns : goal.returns
returns c = part_of_spelling_is_refused
