use Rattle.std.proofs.Common.{◌≡◌, drop}
use Rattle.am_audit_defs.specs.Verdicts.{first_lost}
use Rattle.am_audit.specs.Views.{texts_in}
use Rattle.am_audit.proofs.lists.first_lost.Given as goal

abbrev pub invariant-loop-at : goal.invariant-loop-at
invariant-loop-at l = record {
  rest : first_lost (texts_in l.group) (drop l.at l.answers) ≡ first_lost (texts_in l.group) l.answers;
}
