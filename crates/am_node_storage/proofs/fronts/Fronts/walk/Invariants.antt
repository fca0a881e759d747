use Rattle.std.proofs.Common.{◌≡◌, ℕ, ◌<◌, ◌≤◌, true}
use Rattle.am_base.specs.Fronts.{is_held}
use Rattle.am_node_defs.specs.Reports.{reports_of}
use Rattle.am_node_storage.proofs.fronts.Fronts.walk.Given as goal

abbrev pub invariant-loop-number : goal.invariant-loop-number
invariant-loop-number g l = (n : ℕ) → l.from < n → n ≤ l.number → is_held (reports_of l.self) (g.L.Log.list l.log) n ≡ true
