use Rattle.std.proofs.Common.{◌≡◌, ℕ, ◌+◌, ◌≤◌, length, drop}
use Rattle.std.specs.Ordering.{nat_cmp}
use Rattle.std.specs.BTreeMap.{get}
use Rattle.am_audit.specs.Views.{texts_in}
use Rattle.am_audit.specs.Keeping.{stands_by_key}
use Rattle.am_audit.proofs.lists.standing.Given as goal

abbrev pub invariant-loop-at : goal.invariant-loop-at
invariant-loop-at l = record {
  within : l.at ≤ length l.group;
  kept : (key : ℕ) → get nat_cmp l.map key ≡ stands_by_key (l.at + 1) key (texts_in (drop l.at l.group));
}

abbrev pub decreases-loop-at : goal.decreases-loop-at
decreases-loop-at l = l.at
