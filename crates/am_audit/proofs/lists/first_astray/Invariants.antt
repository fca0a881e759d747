use Rattle.std.proofs.Common.{◌≡◌, drop}
use Rattle.am_audit_defs.specs.Verdicts.{first_astray}
use Rattle.am_audit.specs.Views.{lines_in, texts_in}
use Rattle.am_audit.proofs.lists.first_astray.Given as goal

abbrev pub invariant-loop-at : goal.invariant-loop-at
invariant-loop-at l = record {
  rest : first_astray (texts_in l.group) (lines_in (drop l.at l.logs)) ≡ first_astray (texts_in l.group) (lines_in l.logs);
}
