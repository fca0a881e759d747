use Rattle.am_io.proofs.Writers.{all_words_left_at_start, fewer_words_left_to_write, no_word_left_to_write}
use Rattle.am_group_defs.specs.Text.{group_text}
use Rattle.am_report.proofs.Parts.{group_from_with_next_entry, group_from_past_last_entry}
use Rattle.am_report.proofs.play.push_group.Goals as goal

pub loop-at-init : goal.loop-at-init
loop-at-init g c = all_words_left_at_start g.O.Writer.writes _ _

pub loop-at-preserved : goal.loop-at-preserved
loop-at-preserved g c = fewer_words_left_to_write g.O.Writer.writes _ _ _ _ _ _ _ c.loop-at.invariant c.push_group_line.ensures
    (group_from_with_next_entry c.args.founding.now _ c.args.group.now c.loop-at.at c.index-group-at.result c.loop-at-test.true c.index-group-at.is)

pub returns : goal.returns
unfolding group_text
returns g c = no_word_left_to_write g.O.Writer.writes _ _ _ _ c.loop-at.invariant
    (group_from_past_last_entry c.args.founding.now _ c.args.group.now c.loop-at.at c.loop-at-test.false)
