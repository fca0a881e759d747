use Rattle.std.proofs.Common.{◌≡◌, ◌++◌, drop, string_bytes}
use Rattle.am_group.specs.Deliveries.{deliveries}
use Rattle.am_services.specs.Telling.{told}
use Rattle.am_services.proofs.telling.push_told.Given as goal

abbrev pub invariant-loop-item : goal.invariant-loop-item
invariant-loop-item g l = string_bytes l.out ++ told g.T.TellsEntries.next (g.T.TellsEntries.lines l.name) l.teller (deliveries (drop l.item-index l.records) l.name)
    ≡ string_bytes l.fn.out ++ told g.T.TellsEntries.next (g.T.TellsEntries.lines l.name) l.fn.teller (deliveries l.records l.name)
