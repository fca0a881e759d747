use Rattle.std.proofs.Common.{◌≡◌, length, sym, ap, ◌∙◌, subst, arith}
use Rattle.std.proofs.lemmas.List.{length-map}
use Rattle.am_base.specs.declared.image.Image.{Image}
use Rattle.am_base.specs.Limits.{ImageIsInRange}
use Rattle.am_node_storage.specs.declared.history.Slot.{Slot}
use Rattle.am_node_storage.specs.Histories.{HistoryState}
use Rattle.am_node_storage.proofs.Rings.{ring_without_slots}
use Rattle.am_node_storage.proofs.history.HistoryLog.begin.Goals as goal

pub invariant_of-self : goal.invariant_of-self
invariant_of-self c =
    let was = ap (λ (h : HistoryState). length h.list.entries) c.self.view_is in
    let start = ap (λ (h : HistoryState). h.list.start) c.self.view_is in
    let long = length-map c.self.inside.ring.items (λ (s : Slot). s.entry) in
    let none : length c.self.inside.ring.items ≡ 0 = omega arith in
    let P : Image → Type 0 = ImageIsInRange in
    ring_without_slots c.args.base _ _ _ c.self.inside.ring.items none (c.of_image-self-inside-2.ensures
    ∙ sym c.of_image-self-inside.ensures) c.requires.base (subst P (sym c.of_image-self-inside.ensures) c.requires.image)
