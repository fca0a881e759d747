use Rattle.std.proofs.Common.{◌≡◌, ◌+◌, ◌≤◌, drop}
use Rattle.am_audit_defs.specs.Verdicts.{first_misfit}
use Rattle.am_base.specs.Most.{greatest_number}
use Rattle.am_base.specs.Lists.{blank}
use Rattle.am_audit.specs.Views.{texts_in}
use Rattle.am_audit.proofs.fitting.first_misfit.Given as goal

abbrev pub invariant-loop-at : goal.invariant-loop-at
invariant-loop-at l = record {
  low : l.at ≤ greatest_number;
  rest : first_misfit (l.at + 1) l.table (texts_in (drop l.at l.group)) ≡ first_misfit 1 blank (texts_in l.group);
}
