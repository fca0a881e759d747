use Rattle.am_shared_journal.proofs.Words.{rules, sym, subst, ◌<◌, length, Sat, SeatIsIdle}
use Rattle.am_shared_journal.proofs.Keeps.{rule_allows_take_of_slot}
use Rattle.am_shared_journal.proofs.wire.SharedJournal.take.Goals as goal

pub compare_exchange-requires : goal.compare_exchange-requires
compare_exchange-requires g c = (
  search rules,
  search rules,
  rule_allows_take_of_slot _ _ _ _ _ (subst SeatIsIdle (sym c.loop.invariant.3) c.requires.idle)
      (subst (λ (m : Sat). 0 < length m.0.keys) (sym c.loop.invariant.3) c.requires.keyed),
)
