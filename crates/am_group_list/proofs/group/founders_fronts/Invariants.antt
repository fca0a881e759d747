use Rattle.std.proofs.Common.{◌≡◌, ℕ, ◌<◌, length, Some, None, get_or}
use Rattle.std.specs.Prelude.{if◌then◌else◌}
use Rattle.am_base.specs.Names.{has}
use Rattle.am_group_list.proofs.group.founders_fronts.Given as goal

abbrev pub invariant-loop-name : goal.invariant-loop-name
invariant-loop-name l = record {
  long : length l.fronts ≡ 256;
  filled : (k : ℕ) → k < l.name → get_or l.fronts k None ≡ (if has l.founders k then Some 0 else None);
}
