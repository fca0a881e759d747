use Rattle.am_group_defs.specs.Text.{play_text}
use Rattle.am_io.proofs.Writers.{four_words_written_in_calls}
use Rattle.am_report.proofs.play.push_play.Goals as goal

pub returns : goal.returns
unfolding play_text
returns g c = four_words_written_in_calls g.O.Writer.writes _ _ _ _ _ _ _ _ _ _ c.push_records.ensures c.push_group.ensures c.push_logs.ensures c.push_mark.ensures
    (cc (c.founding-founding.ensures, c.records-records.ensures.value))
