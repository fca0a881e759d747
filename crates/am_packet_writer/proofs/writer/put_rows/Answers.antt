use Rattle.std.proofs.Common.{arith}
use Rattle.am_base.specs.Lists.{blank_row}
use Rattle.am_packet_writer.proofs.Pieces.{bytes_after_no_rows, rows_bytes_with_next_row, packet_has_room_for_row}
use Rattle.am_packet_writer.proofs.writer.put_rows.Goals as goal

pub loop-row-init : goal.loop-row-init
loop-row-init c = bytes_after_no_rows c.args.into.now

pub put_row-requires : goal.put_row-requires
put_row-requires c = packet_has_room_for_row c.args.rows.now c.loop-row.row-index c.args.into.now c.loop-row.into c.loop-row-test.true c.loop-row.invariant c.requires

pub loop-row-preserved : goal.loop-row-preserved
loop-row-preserved c = rows_bytes_with_next_row c.args.rows.now blank_row c.loop-row.row-index c.args.into.now c.loop-row.into c.put_row.new.into
    (omega (arith, c.told-rows, c.loop-row-test.true)) c.loop-row.invariant c.put_row.ensures
