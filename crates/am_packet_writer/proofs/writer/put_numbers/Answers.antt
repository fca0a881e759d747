use Rattle.byteorder.specs.Endian.{big_bytes}
use Rattle.am_packet_writer.proofs.Pieces.{bytes_after_three_pieces}
use Rattle.am_packet_writer.proofs.writer.put_numbers.Goals as goal

pub returns : goal.returns
returns c = bytes_after_three_pieces c.args.into.now c.put_number.new.into c.put_number-2.new.into c.put_number-3.new.into
    (big_bytes 4 c.args.first) (big_bytes 4 c.args.second) (big_bytes 4 c.args.third)
    c.put_number.ensures c.put_number-2.ensures c.put_number-3.ensures
