use Rattle.std.proofs.Common.{◌≡◌, drop}
use Rattle.am_audit_defs.specs.Verdicts.{first_unsent}
use Rattle.am_audit.specs.Views.{lines_in, texts_in}
use Rattle.am_audit.proofs.sends.first_unsent.Given as goal

abbrev pub invariant-loop-at : goal.invariant-loop-at
invariant-loop-at l = record {
  rest : first_unsent (lines_in l.sends) (texts_in (drop l.at l.group)) ≡ first_unsent (lines_in l.sends) (texts_in l.group);
}
