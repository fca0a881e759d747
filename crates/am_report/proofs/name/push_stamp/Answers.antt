use Rattle.am_group_defs.specs.Text.{stamp_text}
use Rattle.am_io.proofs.Writers.{three_words_written_in_calls}
use Rattle.am_report.proofs.name.push_stamp.Goals as goal

pub returns : goal.returns
unfolding stamp_text
returns g c = three_words_written_in_calls g.O.Writer.writes _ _ _ _ _ _ _ _ c.push_number.ensures c.put.ensures c.push_name.ensures (cc c.from.ensures)
