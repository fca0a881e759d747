use Rattle.std.proofs.Common.{drop}
use Rattle.am_base.specs.Names.{names_from}
use Rattle.am_io.specs.Writers.{IsLeftToWrite}
use Rattle.am_group_defs.specs.Text.{list_text}
use Rattle.am_report.specs.Names.{rest_text}
use Rattle.am_report.proofs.name.push_names.Given as goal

abbrev pub invariant-loop-place : goal.invariant-loop-place
invariant-loop-place g l =
    IsLeftToWrite g.O.Writer.writes l.fn.out (list_text (names_from 0 l.names)) l.out (rest_text l.first (names_from l.place (drop l.place l.names)))
