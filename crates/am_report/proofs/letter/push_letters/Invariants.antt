use Rattle.std.proofs.Common.{◌+◌, drop}
use Rattle.am_io.specs.Writers.{IsLeftToWrite}
use Rattle.am_group_defs.specs.Text.{letters_text}
use Rattle.am_report.proofs.letter.push_letters.Given as goal

abbrev pub invariant-loop-at : goal.invariant-loop-at
invariant-loop-at g l =
    IsLeftToWrite g.O.Writer.writes l.fn.out (letters_text l.place (l.before + 1) l.letters) l.out (letters_text l.place (l.before + 1 + l.at) (drop l.at l.letters))
