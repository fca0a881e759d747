-- A test of each of some numbers in a row.
use Rattle.am_node_defs.proofs.Words.{◌≡◌, ℕ, zero, suc, ◌+◌, ◌-◌, ◌<◌, ◌≤◌, refl, ◌∙◌, ap, Bool, true, false, arith, list_all, range_with_len}
use Rattle.am_node_defs.proofs.Words.{get_or-range_with_len, length-range_with_len, list_all_at}
use Rattle.am_node_defs.proofs.{Folds.split_on_bool_of_log}

pub range_passes_if_all_pass : (p : ℕ → Bool) (a n : ℕ) → ((k : ℕ) → a ≤ k → k < a + n → p k ≡ true) → list_all p (range_with_len a n) ≡ true
range_passes_if_all_pass p a zero each = refl
range_passes_if_all_pass p a (suc n) each = rw (each a (omega arith) (omega arith)) (range_passes_if_all_pass p (a + 1) n (λ k l h. each k (omega arith) (omega arith)))

pub range_fails_if_one_fails : (p : ℕ → Bool) (a n k : ℕ) → a ≤ k → k < a + n → p k ≡ false → list_all p (range_with_len a n) ≡ false
range_fails_if_one_fails p a n k low high e =
    let at : a + (k - a) ≡ k = omega arith in
    list_all_at p (range_with_len a n) (k - a) 0 (let l = length-range_with_len a n in
    omega arith) (ap p (get_or-range_with_len a n (k - a) 0 (omega arith) ∙ at) ∙ e)

pub range_passes_at_each : (p : ℕ → Bool) (a n k : ℕ) → a ≤ k → k < a + n → list_all p (range_with_len a n) ≡ true → p k ≡ true
range_passes_at_each p a n k low high e = split_on_bool_of_log (p k) (λ t. t) (λ f. absurd (let g = range_fails_if_one_fails p a n k low high f in cc))

pub range_passes_same_tests : (p q : ℕ → Bool) (a n : ℕ) → ((k : ℕ) → a ≤ k → k < a + n → p k ≡ q k) → list_all p (range_with_len a n) ≡ list_all q (range_with_len a n)
range_passes_same_tests p q a zero each = refl
range_passes_same_tests p q a (suc n) each = rw (each a (omega arith) (omega arith), range_passes_same_tests p q (a + 1) n (λ k l h. each k (omega arith) (omega arith))) refl
