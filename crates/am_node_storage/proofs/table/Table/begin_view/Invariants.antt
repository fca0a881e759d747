use Rattle.std.proofs.Common.{◌≡◌, ℕ, ◌<◌, length, slice_index, slice_index_or}
use Rattle.am_base.specs.Limits.{RowIsInRange}
use Rattle.am_base.specs.Lists.{row_after_view, blank_row}
use Rattle.am_node_storage.proofs.table.Table.begin_view.Given as goal

abbrev pub invariant-loop-place : goal.invariant-loop-place
invariant-loop-place l = record {
  long : length l.rows ≡ 16;
  within : (k : ℕ) → k < 16 → RowIsInRange (slice_index_or l.rows k blank_row);
  done : (k : ℕ) → k < l.place → slice_index_or l.rows k blank_row
      ≡ row_after_view l.first l.number (slice_index l.view.members k) (slice_index_or l.self-inside.image.rows k blank_row);
}
