use Rattle.std.proofs.Common.{◌+◌, arith, length, ap}
use Rattle.am_io.proofs.Writers.{all_words_left_at_start, fewer_words_left_to_write, no_word_left_to_write}
use Rattle.am_group_defs.specs.Text.{records_text}
use Rattle.am_report.proofs.Parts.{lines_from_with_next_record, lines_from_past_last_record, letters_of_records_left}
use Rattle.am_report.proofs.play.push_records.Goals as goal

pub loop-at-init : goal.loop-at-init
loop-at-init g c = record { left = all_words_left_at_start g.O.Writer.writes _ _; letters = omega arith }

pub loop-at-preserved : goal.loop-at-preserved
loop-at-preserved g c =
    let at = c.loop-at.at in
    let before = c.loop-at.before in
    let records = c.args.records.now in
    let sent = ap length c.as_slice.ensures in
    let whole = letters_of_records_left records at c.index-records-at.result c.loop-at-test.true c.index-records-at.is in
    record {
      left = fewer_words_left_to_write g.O.Writer.writes _ _ _ _ _ _ _ c.loop-at.invariant.left c.push_record.ensures
          (lines_from_with_next_record c.args.founding.now (at + 1) before (before + length c.as_slice.result.now) records at c.index-records-at.result c.loop-at-test.true c.index-records-at.is
          (ap (λ ls. before + length ls) c.as_slice.ensures));
      letters = omega (arith, c.loop-at.invariant.letters, whole, sent);
    }

pub returns : goal.returns
unfolding records_text
returns g c = no_word_left_to_write g.O.Writer.writes _ _ _ _ c.loop-at.invariant.left
    (lines_from_past_last_record c.args.founding.now _ _ c.args.records.now c.loop-at.at c.loop-at-test.false)
