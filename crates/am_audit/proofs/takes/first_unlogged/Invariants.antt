use Rattle.std.proofs.Common.{◌≡◌, List, [], length, drop}
use Rattle.am_audit_defs.specs.Lines.{Line}
use Rattle.am_audit_defs.specs.Verdicts.{first_unlogged}
use Rattle.am_audit.specs.Views.{lines_in}
use Rattle.am_audit.specs.Keeping.{CountsEachName}
use Rattle.am_audit.proofs.takes.first_unlogged.Given as goal

abbrev pub invariant-loop-at : goal.invariant-loop-at
invariant-loop-at l = record {
  before : List Line;
  so_many : length before ≡ l.at;
  done : CountsEachName l.done before;
  rest : first_unlogged (lines_in l.logs) before (lines_in (drop l.at l.takes)) ≡ first_unlogged (lines_in l.logs) [] (lines_in l.takes);
}
