-- Which of a report's numbers is meant.
use Rattle.std.specs.Prelude.{ℕ}
use Rattle.am_base.specs.declared.image.Report.{Report}
use Rattle.am_node_storage.specs.declared.fronts.Measure.{Measure}
use Rattle.am_node_storage.specs.declared.fronts.Measure.TheVariants.{Stored, Taken}

abbrev pub measured_number : Measure → Report → ℕ
measured_number Stored report = report.stored
measured_number Taken report = report.taken
