use Rattle.std.proofs.Common.{◌≡◌, ◌+◌, ◌≤◌, drop, count_by, nat_le}
use Rattle.am_base.specs.Names.{names_of, names_from, size}
use Rattle.am_node_defs.specs.Reports.{reports_of}
use Rattle.am_node_storage.proofs.fronts.Fronts.holders.Given as goal

abbrev pub invariant-loop-place : goal.invariant-loop-place
invariant-loop-place l = record {
  all : l.names + size (drop l.place l.lives) ≡ size l.lives;
  some : l.names ≤ l.place;
  held : l.held + count_by (λ name. nat_le l.number (reports_of l.self name).stored) (names_from l.place (drop l.place l.lives))
      ≡ count_by (λ name. nat_le l.number (reports_of l.self name).stored) (names_of l.lives);
  few : l.held ≤ l.place;
}
