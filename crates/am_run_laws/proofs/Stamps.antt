-- Stamps in their order.
use Rattle.am_run_laws.proofs.PromisedWords.{ℕ, ◌+◌, arith, nat_tests, Stamp, StampIsAtMost}
use Rattle.am_step_laws.proofs.Stamps.{stamp_at_most_is_transitive, stamp_not_below_itself}

pub stamp_at_most_itself : (a : Stamp) → StampIsAtMost a a
stamp_at_most_itself a = stamp_not_below_itself a

pub stamp_at_most_through_middle : (a b c : Stamp) → StampIsAtMost a b → StampIsAtMost b c → StampIsAtMost a c
stamp_at_most_through_middle a b c h k = stamp_at_most_is_transitive a b c h k

-- the next round is above
pub stamp_at_most_next_round : (a : Stamp) (who : ℕ) → StampIsAtMost a (record { round = a.round + 1; by = who })
stamp_at_most_next_round a who = grind (arith, nat_tests)
