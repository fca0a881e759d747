use Rattle.am_packet.proofs.Whole.{packet_read_from_its_spelling}
use Rattle.am_packet.proofs.laws.what_is_read_is_spelled.Goals as goal

pub returns : goal.returns
returns c = packet_read_from_its_spelling
