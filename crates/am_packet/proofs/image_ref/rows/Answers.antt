use Rattle.std.proofs.lemmas.List.{length-set}
use Rattle.am_packet.proofs.Rows.{rows_read_with_next_row, rows_read_up_to_sixteen}
use Rattle.am_packet.proofs.image_ref.rows.Goals as goal

pub loop-place-preserved : goal.loop-place-preserved
loop-place-preserved c = record {
  long = rw length-set c.loop-place.invariant.long;
  read = rw c.row.ensures (rows_read_with_next_row c.loop-place.rows c.loop-place.place c.args.bytes.now c.args.at _ c.loop-place-test.true c.loop-place.invariant.long
      c.loop-place.invariant.read);
}

pub returns : goal.returns
returns c = rows_read_up_to_sixteen c.loop-place.rows c.loop-place.place c.args.bytes.now c.args.at _ c.loop-place-test.false c.loop-place.invariant.long
    c.loop-place.invariant.read
