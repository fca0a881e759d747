use Rattle.am_group_defs.specs.Text.{log_line}
use Rattle.am_io.proofs.Writers.{four_words_written_in_calls}
use Rattle.am_report.proofs.lines.push_log_line.Goals as goal

pub returns : goal.returns
unfolding log_line
returns g c = four_words_written_in_calls g.O.Writer.writes _ _ _ _ _ _ _ _ _ _ c.put.ensures c.push_name.ensures c.push_behind.ensures c.push_entry_end.ensures
    (cc c.from.ensures)
