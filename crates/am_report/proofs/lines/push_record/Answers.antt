use Rattle.std.proofs.Common.{refl}
use Rattle.am_group_defs.specs.Text.{record_line}
use Rattle.am_io.proofs.Writers.{seven_words_written_in_calls}
use Rattle.am_report.proofs.lines.push_record.Goals as goal

pub returns : goal.returns
unfolding record_line
returns g c = seven_words_written_in_calls g.O.Writer.writes _ _ _ _ _ _ _ _ _ _ _ _ _ _ _ _ c.push_number.ensures c.put.ensures c.push_event.ensures c.put-2.ensures
    c.push_outcome.ensures c.push_letters.ensures c.put-3.ensures (rw (c.from.ensures, c.place-place.ensures.value, c.as_slice.ensures) refl)
