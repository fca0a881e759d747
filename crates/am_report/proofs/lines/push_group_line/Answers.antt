use Rattle.am_group_defs.specs.Text.{group_line}
use Rattle.am_io.proofs.Writers.{two_words_written_in_calls}
use Rattle.am_report.proofs.lines.push_group_line.Goals as goal

pub returns : goal.returns
unfolding group_line
returns g c = two_words_written_in_calls g.O.Writer.writes _ _ _ _ _ _ c.push_behind.ensures c.push_entry_end.ensures (cc c.as_ref.ensures)
