use Rattle.byteorder.specs.Endian.{big_bytes}
use Rattle.am_packet.specs.Spelling.{set_bytes}
use Rattle.am_bytes.proofs.Puts.{bytes_with_two_pieces_put}
use Rattle.am_bytes.proofs.outcome.put_decided.Goals as goal

pub returns : goal.returns
returns c =
    bytes_with_two_pieces_put c.put_set.result c.args.out.now.items (big_bytes 4 c.args.number) (set_bytes c.args.members) _ _ c.in_ok-put_number.ensures c.put_set.ensures
