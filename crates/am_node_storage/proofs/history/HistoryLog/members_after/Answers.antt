use Rattle.std.proofs.Common.{ap, sym, ◌∙◌, arith}
use Rattle.am_node_storage.specs.declared.history.Slot.{Slot}
use Rattle.std.proofs.lemmas.List.{length-map}
use Rattle.am_base.specs.Lists.{top_of_log}
use Rattle.am_node_storage.specs.Histories.{HistoryState, log_of_slots}
use Rattle.am_node_storage.proofs.Rings.{members_at_start_of_ring, no_slot_missing_below_length}
use Rattle.am_node_storage.proofs.history.HistoryLog.members_after.Goals as goal

pub returns-then-number-self : goal.returns-then-number-self
returns-then-number-self c =
    let list = log_of_slots c.self.inside.base c.self.inside.below c.self.inside.ring.items in
    rw (← c.self.view_is) (c.members.ensures ∙ sym (members_at_start_of_ring list c.args.number c.if-number-self.true))

pub returns-in-None : goal.returns-in-None
returns-in-None c =
    let long = length-map c.self.inside.ring.items (λ (s : Slot). s.entry) in
    let top = ap (λ (h : HistoryState). top_of_log h.list) c.self.view_is in
    let start = ap (λ (h : HistoryState). h.list.start) c.self.view_is in
    absurd (no_slot_missing_below_length c.self.inside.ring.items _ (sym c.in-None.ensures) (omega (arith, c.if-number-self.false)))
