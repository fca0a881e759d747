use Rattle.am_node_parts.proofs.Words.{◌≡◌, ◌-◌, ◌≤◌, length, take}
use Rattle.am_node_parts.proofs.Served.{kept_entries_above_number}
use Rattle.am_step_end.proofs.serving.copies.Given as goal

abbrev pub invariant-loop-before : goal.invariant-loop-before
invariant-loop-before l = record {
  items : l.entries.items ≡ take (l.before - l.stored) (kept_entries_above_number l.parts.core.log l.stored);
  few : length l.entries.items ≤ l.before - l.stored;
}
