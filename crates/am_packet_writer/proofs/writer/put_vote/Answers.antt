use Rattle.byteorder.specs.Endian.{big_bytes}
use Rattle.am_packet.specs.Spelling.{stamp_bytes, set_bytes}
use Rattle.am_packet_writer.proofs.Pieces.{bytes_after_four_pieces}
use Rattle.am_packet_writer.proofs.writer.put_vote.Goals as goal

pub returns : goal.returns
returns c = bytes_after_four_pieces c.args.into.now c.put_stamp.new.into c.put_number.new.into c.put_number-2.new.into c.put_set.new.into
    (stamp_bytes c.args.vote.view) (big_bytes 4 c.args.vote.top) (big_bytes 4 c.args.vote.taken) (set_bytes c.args.vote.members)
    c.put_stamp.ensures c.put_number.ensures c.put_number-2.ensures c.put_set.ensures
