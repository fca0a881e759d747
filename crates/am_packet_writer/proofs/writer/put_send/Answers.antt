use Rattle.byteorder.specs.Endian.{big_bytes}
use Rattle.am_packet.specs.Spelling.{report_bytes}
use Rattle.am_packet_writer.proofs.Pieces.{bytes_after_three_pieces}
use Rattle.am_packet_writer.proofs.writer.put_send.Goals as goal

pub returns : goal.returns
returns c = bytes_after_three_pieces c.args.into.now c.put_report.new.into c.put_number.new.into c.extend.new.self
    (report_bytes c.args.report) (big_bytes 4 c.args.req) c.args.body.now
    c.put_report.ensures c.put_number.ensures (rw (← c.bytes.ensures.value) c.extend.ensures)
