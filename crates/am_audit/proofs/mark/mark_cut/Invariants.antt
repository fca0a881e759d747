use Rattle.std.proofs.Common.{◌≡◌, ℕ, ◌<◌, false, drop}
use Rattle.am_audit_defs.specs.Lines.{begins_mark}
use Rattle.am_audit.proofs.mark.mark_cut.Given as goal

abbrev pub invariant-loop-at : goal.invariant-loop-at
invariant-loop-at l = (k : ℕ) → k < l.at → begins_mark l.mark (drop k l.text) ≡ false
