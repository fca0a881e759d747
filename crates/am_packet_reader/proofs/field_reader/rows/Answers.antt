use Rattle.std.proofs.Common.{◌∙◌, sym}
use Rattle.std.proofs.lemmas.List.{length-set}
use Rattle.std.proofs.lemmas.Result.{err_from_is_err_and}
use Rattle.am_packet_reader.proofs.Rows.{rows_at_with_next_row, rows_at_with_wrong_row, rows_at_up_to_sixteen}
use Rattle.am_packet_reader.proofs.field_reader.rows.Goals as goal

pub returns-in_err-rows : goal.returns-in_err-rows
returns-in_err-rows c =
    let p = err_from_is_err_and c.from_residual.result c.from_residual.ensures.1 in
    rw (p.1, p.2) (rows_at_with_wrong_row _ c.loop-place.place c.args.bytes.now c.args.at _ _ c.loop-place-test.true (sym c.in_err-rows.ensures) c.loop-place.invariant.read)

pub loop-place-preserved : goal.loop-place-preserved
loop-place-preserved c = record {
  long = rw length-set c.loop-place.invariant.long;
  read = rows_at_with_next_row c.loop-place.rows c.loop-place.place c.args.bytes.now c.args.at c.in_ok-rows.field-0 _ c.loop-place-test.true c.loop-place.invariant.long
      (sym c.row.ensures ∙ c.in_ok-rows.was) c.loop-place.invariant.read;
}

pub returns : goal.returns
returns c = rows_at_up_to_sixteen c.loop-place.rows c.loop-place.place c.args.bytes.now c.args.at _ c.loop-place-test.false c.loop-place.invariant.long
    c.loop-place.invariant.read
