use Rattle.std.proofs.Common.{◌≡◌, List, [], drop}
use Rattle.am_audit_defs.specs.Lines.{Line}
use Rattle.am_audit_defs.specs.Verdicts.{first_fault}
use Rattle.am_audit.specs.Views.{lines_in}
use Rattle.am_audit.specs.Keeping.{IsKept}
use Rattle.am_audit.proofs.faults.first_fault.Given as goal

abbrev pub invariant-loop-at : goal.invariant-loop-at
invariant-loop-at l = record {
  before : List Line;
  kept : IsKept (lines_in l.logs) l.last l.first l.sent before;
  rest : first_fault before (lines_in (drop l.at l.logs)) ≡ first_fault [] (lines_in l.logs);
}
