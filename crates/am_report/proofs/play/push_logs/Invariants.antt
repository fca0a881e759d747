use Rattle.std.proofs.Common.{drop}
use Rattle.am_io.specs.Writers.{IsLeftToWrite}
use Rattle.am_group_defs.specs.Text.{logs_text}
use Rattle.am_report.specs.Logs.{logs_for}
use Rattle.am_report.proofs.play.push_logs.Given as goal

abbrev pub invariant-loop-at : goal.invariant-loop-at
invariant-loop-at g l =
    IsLeftToWrite g.O.Writer.writes l.fn.out (logs_text l.founding (logs_for l.records l.names)) l.out (logs_text l.founding (logs_for l.records (drop l.at l.names)))
