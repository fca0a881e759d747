use Rattle.std.proofs.Common.{[], ◌∷◌}
use Rattle.byteorder.specs.Endian.{big_bytes}
use Rattle.am_packet.specs.Spelling.{stamp_bytes}
use Rattle.am_packet_writer.proofs.Pieces.{bytes_after_three_pieces}
use Rattle.am_packet_writer.proofs.writer.put_header.Goals as goal

pub returns : goal.returns
returns c = bytes_after_three_pieces c.args.into.now c.extend.new.self c.put_stamp.new.into c.put_short.new.into
    (65 ∷ 71 ∷ 3 ∷ c.args.kind ∷ c.args.sender ∷ []) (stamp_bytes c.args.stamp) (big_bytes 2 c.args.total)
    (rw (← c.get.ensures.value) c.extend.ensures) c.put_stamp.ensures c.put_short.ensures
