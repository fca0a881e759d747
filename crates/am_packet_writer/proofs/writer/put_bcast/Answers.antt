use Rattle.std.proofs.Common.{◌++◌}
use Rattle.byteorder.specs.Endian.{big_bytes}
use Rattle.am_packet.specs.Spelling.{entry_bytes}
use Rattle.am_packet_writer.proofs.Pieces.{bytes_after_two_pieces}
use Rattle.am_packet_writer.proofs.writer.put_bcast.Goals as goal

pub returns : goal.returns
returns c = bytes_after_two_pieces c.args.into.now c.put_numbers.new.into c.put_entry.new.into
    (big_bytes 4 c.args.base ++ big_bytes 4 c.args.acc ++ big_bytes 4 c.args.number) (entry_bytes c.args.entry.now)
    c.put_entry.ensures c.put_numbers.ensures
