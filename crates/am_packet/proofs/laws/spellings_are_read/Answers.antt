use Rattle.am_packet.proofs.Again.{reading_of_spelling}
use Rattle.am_packet.proofs.laws.spellings_are_read.Goals as goal

pub returns : goal.returns
returns c = reading_of_spelling
