use Rattle.std.proofs.Common.{◌≡◌, drop}
use Rattle.am_group.specs.Deliveries.{deliveries}
use Rattle.am_services.proofs.directories.start_of.Given as goal

abbrev pub invariant-loop-item : goal.invariant-loop-item
invariant-loop-item l = deliveries (drop l.item-index l.records) l.name ≡ deliveries l.records l.name
