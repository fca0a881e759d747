use Rattle.std.proofs.Common.{sym}
use Rattle.am_node_storage.proofs.Rings.{entry_at_of_ring_slot, entry_at_beside_ring, entry_in_ring_is_entry}
use Rattle.am_node_storage.proofs.history.HistoryLog.entry.Goals as goal

pub returns-in-Some-clause-value : goal.returns-in-Some-clause-value
returns-in-Some-clause-value c =
    let found = entry_at_of_ring_slot c.self.inside.base c.self.inside.below c.self.inside.ring.items c.args.number c.in-Some.slot.now c.if-number-self.false
    (sym c.in-Some.ensures) in
    rw (← c.self.view_is) (sym found)

pub returns-in-Some-clause-within : goal.returns-in-Some-clause-within
returns-in-Some-clause-within c = entry_in_ring_is_entry _ _ _ _ c.self.inside.ring.items _ c.in-Some.slot.now c.self.invariant (sym c.in-Some.ensures)

pub returns-in-None-clause-value : goal.returns-in-None-clause-value
returns-in-None-clause-value c =
    let missing = entry_at_beside_ring c.self.inside.base c.self.inside.below c.self.inside.ring.items c.args.number c.if-number-self.false (sym c.in-None.ensures) in
    rw (← c.self.view_is) (sym missing)
