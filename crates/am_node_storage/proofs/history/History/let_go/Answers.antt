use Rattle.std.proofs.Common.{◌+◌, ap, sym, ◌∙◌, subst}
use Rattle.am_base.specs.declared.entry.Entry.{Entry}
use Rattle.am_base.specs.Limits.{EntryIsInRange}
use Rattle.am_base.specs.Lists.{after}
use Rattle.am_node_storage.proofs.Rings.{ring_without_first_slot, list_of_ring_without_first, entry_in_ring_is_entry}
use Rattle.am_node_storage.proofs.history.History.let_go.Goals as goal

pub apply-requires-clause-entry : goal.apply-requires-clause-entry
apply-requires-clause-entry c =
    let P : Entry → Type 0 = EntryIsInRange in
    subst P (sym c.as_ref.ensures) (entry_in_ring_is_entry _ _ _ _ c.self.inside.ring.items _ c.in-Some.slot.now c.self.invariant (sym c.in-Some.ensures))

pub invariant_of-self : goal.invariant_of-self
invariant_of-self c = rw (c.pop_front.ensures.items) (ring_without_first_slot c.self.inside.base c.self.inside.ring.capacity c.self.inside.below c.self.inside.above
    c.apply.new.self c.self.inside.ring.items c.in-Some.slot.now c.self.invariant (sym c.in-Some.ensures)
    (c.apply.ensures.value ∙ ap (after c.self.inside.below (c.self.inside.base + 1)) c.as_ref.ensures) c.apply.ensures.within)

pub returns-in-Some-clause-list : goal.returns-in-Some-clause-list
returns-in-Some-clause-list c = rw (
  c.pop_front.ensures.items,
  ← c.self.view_is,
) (list_of_ring_without_first c.self.inside.base c.self.inside.below c.apply.new.self c.self.inside.ring.items c.in-Some.slot.now (sym c.in-Some.ensures)
    (c.apply.ensures.value ∙ ap (after c.self.inside.below (c.self.inside.base + 1)) c.as_ref.ensures))
