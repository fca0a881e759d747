use Rattle.std.proofs.Common.{◌≡◌, ℕ, ◌<◌, ◌≤◌, length, drop}
use Rattle.std.specs.Ordering.{nat_cmp}
use Rattle.std.specs.BTreeMap.{get}
use Rattle.am_audit_defs.specs.Verdicts.{first_asked}
use Rattle.am_audit.specs.Views.{lines_in}
use Rattle.am_audit.specs.Keeping.{send_key}
use Rattle.am_audit.proofs.sends.asking.Given as goal

abbrev pub invariant-loop-at : goal.invariant-loop-at
invariant-loop-at l = record {
  within : l.at ≤ length l.sends;
  kept : (from req : ℕ) → req < 4294967296 → get nat_cmp l.map (send_key from req) ≡ first_asked l.at from req (lines_in (drop l.at l.sends));
}

abbrev pub decreases-loop-at : goal.decreases-loop-at
decreases-loop-at l = l.at
