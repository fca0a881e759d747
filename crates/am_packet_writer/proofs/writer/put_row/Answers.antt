use Rattle.std.proofs.Common.{[], ◌∷◌, ◌++◌}
use Rattle.byteorder.specs.Endian.{big_bytes}
use Rattle.am_packet_writer.proofs.Pieces.{bytes_after_two_pieces}
use Rattle.am_packet_writer.proofs.writer.put_row.Goals as goal

pub returns : goal.returns
returns c = bytes_after_two_pieces c.args.into.now c.put_byte.new.into c.put_numbers.new.into
    (c.args.row.life ∷ []) (big_bytes 4 c.args.row.joined ++ big_bytes 4 c.args.row.left ++ big_bytes 4 c.args.row.last)
    c.put_numbers.ensures c.put_byte.ensures
