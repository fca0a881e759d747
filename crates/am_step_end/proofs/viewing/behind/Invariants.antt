use Rattle.am_node_parts.proofs.Words.{◌≡◌, ℕ, ◌<◌, ◌≤◌, length, slice_index, nat_lt, reports_of, life_where_name_passes}
use Rattle.am_step_end.proofs.viewing.behind.Given as goal

abbrev pub invariant-loop-place : goal.invariant-loop-place
invariant-loop-place l = record {
  long : length l.behind ≡ 16;
  filled : (k : ℕ) → k < l.place → slice_index l.behind k ≡ life_where_name_passes (λ name. nat_lt (reports_of l.parts.fronts name).stored l.number) k
      (slice_index l.lives k);
  fits : (k : ℕ) → k < 16 → slice_index l.behind k ≤ 16;
}
