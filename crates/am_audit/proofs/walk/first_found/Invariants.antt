use Rattle.std.proofs.Common.{drop}
use Rattle.am_audit_defs.specs.Verdicts.{first_found}
use Rattle.am_audit.specs.Views.{lines_in}
use Rattle.am_audit.specs.Keeping.{IsPassing}
use Rattle.am_audit.proofs.walk.first_found.Given as goal

abbrev pub invariant-loop-at : goal.invariant-loop-at
invariant-loop-at g l = IsPassing (first_found g.C.Check.found) l.last (lines_in (drop l.at l.lines)) (lines_in l.lines)
