use Rattle.std.proofs.Common.{◌+◌, drop}
use Rattle.am_io.specs.Writers.{IsLeftToWrite}
use Rattle.am_group_defs.specs.Text.{group_from}
use Rattle.am_report.proofs.play.push_group.Given as goal

abbrev pub invariant-loop-at : goal.invariant-loop-at
invariant-loop-at g l =
    IsLeftToWrite g.O.Writer.writes l.fn.out (group_from l.founding 1 l.group) l.out (group_from l.founding (l.at + 1) (drop l.at l.group))
