use Rattle.std.proofs.Common.{◌≡◌, ℕ, ◌<◌, length, slice_index, ◌==◌, if◌then◌else◌}
use Rattle.am_base.proofs.names.Names.minus.Given as goal

abbrev pub invariant-loop-place : goal.invariant-loop-place
invariant-loop-place l = record {
  long : length l.lives ≡ 16;
  filled : (k : ℕ) → k < l.place → slice_index l.lives k ≡ (if slice_index l.self-inside.lives k
      == slice_index l.other-inside.lives k then 0 else slice_index l.self-inside.lives k);
}
