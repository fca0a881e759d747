use Rattle.std.proofs.Common.{◌≡◌, ◌<◌, ℕ, true, ◌==◌, ◌||◌, slice_index}
use Rattle.am_node_storage.proofs.table.Table.are_members.Given as goal

abbrev pub invariant-loop-place : goal.invariant-loop-place
invariant-loop-place l = (k : ℕ) → k < l.place → ((slice_index l.names k == 0) || (slice_index l.names k == slice_index l.self-inside.members k)) ≡ true
