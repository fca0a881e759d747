use Rattle.std.proofs.Common.{◌≡◌, false, drop}
use Rattle.am_base.specs.Names.{names_from, names_of}
use Rattle.am_node_defs.specs.Reports.{reports_of, lesser_of_options, least_of_names}
use Rattle.am_node_defs.proofs.ReportLaws.{least_found_so_far}
use Rattle.am_node_storage.specs.Measures.{measured_number}
use Rattle.am_node_storage.proofs.fronts.Fronts.least_by.Given as goal

abbrev pub invariant-loop-place : goal.invariant-loop-place
invariant-loop-place l = record {
  rest : lesser_of_options (least_found_so_far l.found l.least) (least_of_names (λ name. measured_number l.measure (reports_of l.self name)) (names_from l.place (drop l.place l.lives)))
      ≡ least_of_names (λ name. measured_number l.measure (reports_of l.self name)) (names_of l.lives);
  none : l.found ≡ false → l.least ≡ 4294967295;
}
