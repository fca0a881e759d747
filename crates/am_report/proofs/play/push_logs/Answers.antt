use Rattle.am_io.proofs.Writers.{all_words_left_at_start, fewer_words_left_to_write, no_word_left_to_write}
use Rattle.am_report.proofs.Logs.{logs_text_with_next_name, logs_text_past_last_name}
use Rattle.am_report.proofs.play.push_logs.Goals as goal

pub loop-at-init : goal.loop-at-init
loop-at-init g c = all_words_left_at_start g.O.Writer.writes _ _

pub loop-at-preserved : goal.loop-at-preserved
loop-at-preserved g c = fewer_words_left_to_write g.O.Writer.writes _ _ _ _ _ _ _ c.loop-at.invariant c.push_log.ensures
    (logs_text_with_next_name c.args.founding.now c.args.records.now c.args.names.now c.loop-at.at c.index-names-at.result c.loop-at-test.true c.index-names-at.is)

pub returns : goal.returns
returns g c = no_word_left_to_write g.O.Writer.writes _ _ _ _ c.loop-at.invariant
    (logs_text_past_last_name c.args.founding.now c.args.records.now c.args.names.now c.loop-at.at c.loop-at-test.false)
