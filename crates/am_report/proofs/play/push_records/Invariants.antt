use Rattle.std.proofs.Common.{◌≡◌, ◌+◌, length, drop}
use Rattle.am_group.specs.Journals.{letters_of_records}
use Rattle.am_io.specs.Writers.{IsLeftToWrite}
use Rattle.am_group_defs.specs.Text.{lines_from}
use Rattle.am_report.proofs.play.push_records.Given as goal

abbrev pub invariant-loop-at : goal.invariant-loop-at
invariant-loop-at g l = record {
  left : IsLeftToWrite g.O.Writer.writes l.fn.out (lines_from l.founding 1 0 l.records) l.out (lines_from l.founding (l.at + 1) l.before (drop l.at l.records));
  letters : l.before + length (letters_of_records (drop l.at l.records)) ≡ length (letters_of_records l.records);
}
