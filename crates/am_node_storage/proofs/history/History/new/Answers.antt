use Rattle.std.proofs.Common.{sym, ◌∙◌, refl, arith, []}
use Rattle.am_node_storage.proofs.Rings.{ring_without_slots}
use Rattle.am_node_storage.proofs.history.History.new.Goals as goal

pub invariant_of-result : goal.invariant_of-result
invariant_of-result c = rw (c.in_ok-ring.ensures) (ring_without_slots 0 _ c.blank.result c.blank-2.result [] refl (c.blank-2.ensures.value
    ∙ sym c.blank.ensures.value) (omega arith) c.blank.ensures.within)
