use Rattle.std.proofs.Common.{◌≤◌, length, drop}
use Rattle.am_audit.specs.Views.{lines_in}
use Rattle.am_audit.specs.Keeping.{CountsEachName}
use Rattle.am_audit.proofs.takes.counts.Given as goal

abbrev pub invariant-loop-at : goal.invariant-loop-at
invariant-loop-at l = record {
  within : l.at ≤ length l.lines;
  kept : CountsEachName l.counts (lines_in (drop l.at l.lines));
}

abbrev pub decreases-loop-at : goal.decreases-loop-at
decreases-loop-at l = l.at
