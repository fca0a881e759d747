use Rattle.am_packet.proofs.Numbers.{same_big_number_same_bytes}
use Rattle.am_packet.proofs.laws.numbers_have_one_list.Goals as goal

pub returns : goal.returns
returns c = same_big_number_same_bytes
