use Rattle.std.proofs.Common.{◌≡◌, ◌≤◌, ◌+◌, ◌∷◌, ◌++◌, [], List, true, ap, sym, ◌∙◌, subst, arith, length, length-append}
use Rattle.std.proofs.lemmas.List.{length-map}
use Rattle.am_base.specs.declared.entry.Entry.{Entry}
use Rattle.am_base.specs.Limits.{EntryIsInRange}
use Rattle.am_base.specs.Lists.{fits, after, image_of_log, top_of_log}
use Rattle.am_node_storage.specs.declared.history.Slot.{Slot}
use Rattle.am_node_storage.specs.Histories.{HistoryState, IsRing}
use Rattle.am_node_storage.proofs.Rings.{ring_with_slot_pushed, drop_nothing_of_few_slots}
use Rattle.am_node_storage.proofs.history.HistoryLog.push.Goals as goal

pub invariant_of-self : goal.invariant_of-self
invariant_of-self c =
    let slots = c.self.inside.ring.items in
    let is = c.to_entry.ensures in
    let slot : Slot = record { entry = c.to_entry.result; members = c.members-members.result } in
    let long = length-map slots (λ (s : Slot). s.entry) in
    let more = length-append slots (slot ∷ []) in
    let room = ap (λ (h : HistoryState). length h.list.entries) c.self.view_is in
    let capacity = ap (λ (h : HistoryState). h.capacity) c.self.view_is in
    let top = ap (λ (h : HistoryState). top_of_log h.list) c.self.view_is in
    let fit : fits c.self.inside.above c.to_entry.result ≡ true =
    ap (fits c.self.inside.above) is ∙ ap (λ i. fits i c.args.entry.now) (c.self.invariant.told ∙ ap (λ (h : HistoryState). image_of_log h.list) c.self.view_is) ∙ c.requires.fits in
    let within : length (slots ++ slot ∷ []) ≤ c.self.inside.ring.capacity = omega arith in
    let next : c.apply.new.self ≡ after c.self.inside.above (c.self.inside.base + length slots + 1) c.to_entry.result = c.apply.ensures.value
    ∙ (λ k. after c.self.inside.above (c.self.inside.base + c.len.ensures.len k + 1) (sym is k)) in
    let Q : Entry → Type 0 = EntryIsInRange in
    let ring = ring_with_slot_pushed c.self.inside.base c.self.inside.ring.capacity c.self.inside.below c.self.inside.above c.apply.new.self slots slot c.self.invariant
    next c.members-members.ensures fit (subst Q (sym is) c.requires.entry) (omega arith) (omega arith) in
    let P : List Slot → Type 0 = λ xs. IsRing c.self.inside.base c.self.inside.below c.apply.new.self xs c.self.inside.ring.capacity in
    rw (c.push_back.ensures.items) (subst P (sym (drop_nothing_of_few_slots c.self.inside.ring.capacity (slots ++ slot ∷ []) within)) ring)
