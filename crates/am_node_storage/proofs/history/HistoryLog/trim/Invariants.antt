use Rattle.std.proofs.Common.{◌≡◌}
use Rattle.am_node_defs.specs.Kept.{log_above}
use Rattle.am_node_storage.proofs.history.HistoryLog.trim.Given as goal

abbrev pub invariant-loop-number : goal.invariant-loop-number
invariant-loop-number l = record {
  list : l.self.list ≡ log_above l.initial.self.list l._number;
  capacity : l.self.capacity ≡ l.initial.self.capacity;
}
