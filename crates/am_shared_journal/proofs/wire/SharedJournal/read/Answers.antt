use Rattle.am_shared_journal.proofs.Words.{rules, ℕ, List, ◌∷◌, sym, ap, ◌∙◌, rest, Page}
use Rattle.am_shared_journal.proofs.wire.SharedJournal.read.Goals as goal

pub slot_mut-requires : goal.slot_mut-requires
slot_mut-requires g c = let t = c.take.ensures.takes.turn.page in (
  search rules,
  (_, t ∙ sym (ap (λ (z : List (ℕ × Page)). (0, record { founding = c.take.new.seat.me.0.terms.founding; records = c.take.new.seat.me.0.seen }) ∷ rest z) t)),
)
