-- Stamps in order.
use Rattle.am_lawful_defs.proofs.Words.{eqb-true, ◌≡◌, ℕ, Bool, true, false, nat_lt, ◌&&◌, ◌||◌, ◌==◌, arith, nat_tests, Stamp, rank_of_name, stamp_is_less, stamps_are_equal}
use Rattle.am_base.proofs.Rows.{left_of_and, right_of_and}

-- by the first number, then by the second
abbrev pair_lt : ℕ → ℕ → ℕ → ℕ → Bool
pair_lt a b c d = nat_lt a c || ((a == c) && nat_lt b d)

pair_trans : (a b c d e f : ℕ) → pair_lt a b c d ≡ true → pair_lt c d e f ≡ true → pair_lt a b e f ≡ true
pair_trans a b c d e f g h = grind (arith, nat_tests)

pair_self : (a b : ℕ) → pair_lt a b a b ≡ false
pair_self a b = grind (arith, nat_tests)

pub stamp_lt_is_transitive : (a b c : Stamp) → stamp_is_less a b ≡ true → stamp_is_less b c ≡ true → stamp_is_less a c ≡ true
stamp_lt_is_transitive a b c g h = pair_trans a.round (rank_of_name a.by) b.round (rank_of_name b.by) c.round (rank_of_name c.by) g h

pub stamp_lt_is_irreflexive : (a : Stamp) → stamp_is_less a a ≡ false
stamp_lt_is_irreflexive a = pair_self a.round (rank_of_name a.by)

pub stamp_eq_is_same : (a b : Stamp) → stamps_are_equal a b ≡ true → a ≡ b
stamp_eq_is_same a b h = λ i. record { round = (eqb-true a.round b.round (left_of_and _ _ h)) i; by = (eqb-true a.by b.by (right_of_and _ _ h)) i }
