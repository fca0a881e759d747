use Rattle.std.proofs.Common.{◌≡◌, ℕ, ◌<◌, ◌≤◌, length, get_or, slice_index_or}
use Rattle.am_base.specs.Lists.{member_life_of_row, blank_row}
use Rattle.am_node_storage.proofs.table.members_of.Given as goal

abbrev pub invariant-loop-place : goal.invariant-loop-place
invariant-loop-place l = record {
  long : length l.lives ≡ 16;
  done : (k : ℕ) → k < l.place → get_or l.lives k 0 ≡ member_life_of_row (slice_index_or l.rows k blank_row);
  most : (k : ℕ) → k < l.place → get_or l.lives k 0 ≤ 16;
}
