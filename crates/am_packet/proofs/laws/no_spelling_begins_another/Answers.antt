use Rattle.am_packet.proofs.Whole.{no_spelling_begins_other}
use Rattle.am_packet.proofs.laws.no_spelling_begins_another.Goals as goal

pub returns : goal.returns
returns c = no_spelling_begins_other
