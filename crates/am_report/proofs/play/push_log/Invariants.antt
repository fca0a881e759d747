use Rattle.std.proofs.Common.{◌≡◌, ◌<◌, length, drop, true, false}
use Rattle.am_group.specs.Deliveries.{deliveries}
use Rattle.am_io.specs.Writers.{IsLeftToWrite}
use Rattle.am_report.specs.Logs.{given_lines}
use Rattle.am_report.proofs.play.push_log.Given as goal

abbrev pub invariant-loop-item : goal.invariant-loop-item
invariant-loop-item g l = record {
  left : IsLeftToWrite g.O.Writer.writes l.fn.out (given_lines l.founding l.name (deliveries l.records l.name)) l.out
      (given_lines l.founding l.name (deliveries (drop l.item-index l.records) l.name));
  nothing : l.some ≡ false → deliveries (drop l.item-index l.records) l.name ≡ deliveries l.records l.name;
  something : l.some ≡ true → 0 < length (deliveries l.records l.name);
}
