-- From an accept front on, the accept front is that front.
use Rattle.am_node_defs.proofs.Words.{◌≡◌, ⊎_elim, ℕ, zero, suc, ◌+◌, ◌-◌, ◌<◌, ◌≤◌, refl, sym, ◌∙◌, ap, Bool, true, false, ◌&&◌, nat_le, arith, nat_tests}
use Rattle.am_node_defs.proofs.Words.{cases_lt, eq-or-lt_of_le, Report, Log, top_of_log, image_of_log, greatest_passing_number, is_held, accept_front}
use Rattle.am_node_defs.proofs.Walks.{greatest_is_where_walk_stops, is_satisfied_with_view, passes_as_front_with_view, satisfied_above_view_is_held, satisfied_below_view_needs_view}
use Rattle.am_node_defs.proofs.{Folds.split_on_bool_of_log, Ranges.range_passes_if_all_pass, Ranges.range_passes_at_each}

pub greatest_within_bounds : (passes : ℕ → Bool) (from more : ℕ) → (from ≤ greatest_passing_number passes from more) × (greatest_passing_number passes from more ≤ from + more)
unfolding greatest_passing_number
greatest_within_bounds passes from zero = (omega arith, omega arith)
greatest_within_bounds passes from (suc more) = split_on_bool_of_log (passes (from + suc more))
    (λ t. rw t (omega arith, omega arith))
    (λ f. let h = greatest_within_bounds passes from more in rw f (h.0, omega arith))

pub greatest_passes_test : (passes : ℕ → Bool) (from more : ℕ) → from < greatest_passing_number passes from more → passes (greatest_passing_number passes from more) ≡ true
unfolding greatest_passing_number
greatest_passes_test passes from zero = λ h. absurd (omega arith)
greatest_passes_test passes from (suc more) = split_on_bool_of_log (passes (from + suc more))
    (λ t. rw t (λ h. t))
    (λ f. rw f (greatest_passes_test passes from more))

greatest_past : (passes : ℕ → Bool) (from more g : ℕ) → greatest_passing_number passes from more < g → g ≤ from + more → passes g ≡ false
unfolding greatest_passing_number
greatest_past passes from zero g = λ l h. absurd (omega arith)
greatest_past passes from (suc more) g = split_on_bool_of_log (passes (from + suc more))
    (λ t. rw t (λ l h. absurd (omega arith)))
    (λ f. rw f (λ l h. ⊎_elim
    (λ (e : g ≡ from + suc more). ap passes e ∙ f)
    (λ (u : g < from + suc more). greatest_past passes from more g l (omega arith))
    (eq-or-lt_of_le h)))

-- what is satisfied stays so with a higher front
satisfied_more : (held : ℕ → Bool) (view front g k : ℕ) → front ≤ g → is_satisfied_with_view held view front k ≡ true → is_satisfied_with_view held view g k ≡ true
satisfied_more held view front g k h e = ⊎_elim
    (λ (l : k < view).
    let was : (nat_le view front && held view) ≡ true = sym (satisfied_below_view_needs_view held view front k l) ∙ e in
    satisfied_below_view_needs_view held view g k l ∙ split_on_bool_of_log (held view) (λ t. split_on_bool_of_log (nat_le view front) (λ u. let v : nat_le view g ≡ true = grind (arith, nat_tests) in
    rw (v, t) refl) (λ u. absurd (let w = rw u at was in cc))) (λ t. absurd (let w = rw t at was in grind (arith, nat_tests))))
    (λ (u : view ≤ k). satisfied_above_view_is_held held view g k u ∙ sym (satisfied_above_view_is_held held view front k u) ∙ e)
    (cases_lt k view)

front_again : (held : ℕ → Bool) (view acc more front rest : ℕ) → front ≡ greatest_passing_number (passes_as_front_with_view held view acc) acc more → front + rest ≡ acc + more
    → greatest_passing_number (passes_as_front_with_view held view front) front rest ≡ front
front_again held view acc more front rest is total =
    let low = greatest_within_bounds (passes_as_front_with_view held view acc) acc more in
    greatest_is_where_walk_stops (passes_as_front_with_view held view front) front rest front (omega arith) (omega arith) (λ h. absurd (omega arith))
    (λ g l u. split_on_bool_of_log (passes_as_front_with_view held view front g)
    (λ t.
    let below : (k : ℕ) → acc + 1 ≤ k → k < acc + 1 + (front - acc) → is_satisfied_with_view held view front k ≡ true = λ k a b.
    let there : passes_as_front_with_view held view acc front ≡ true = ap (passes_as_front_with_view held view acc) is ∙ greatest_passes_test (passes_as_front_with_view held view acc) acc more (omega arith) in
    range_passes_at_each (is_satisfied_with_view held view front) (acc + 1) (front - acc) k a b there in
    let passes : passes_as_front_with_view held view acc g ≡ true = range_passes_if_all_pass (is_satisfied_with_view held view g) (acc + 1) (g - acc) (λ k a b. ⊎_elim
    (λ (h : k < front + 1). satisfied_more held view front g k (omega arith) (below k a (omega arith)))
    (λ (h : front + 1 ≤ k). range_passes_at_each (is_satisfied_with_view held view g) (front + 1) (g - front) k h (omega arith) t)
    (cases_lt k (front + 1))) in
    let past : passes_as_front_with_view held view acc g ≡ false = greatest_past (passes_as_front_with_view held view acc) acc more g (omega arith) (omega arith) in
    absurd (cc))
    (λ f. f))

pub accept_front_of_accept_front : (reports : ℕ → Report) (log : Log) (acc : ℕ) → acc ≤ top_of_log log
    → accept_front reports log (accept_front reports log acc) ≡ accept_front reports log acc
accept_front_of_accept_front reports log acc high =
    let front = accept_front reports log acc in
    let low = greatest_within_bounds (passes_as_front_with_view (is_held reports log) (image_of_log log).view_number acc) acc (top_of_log log - acc) in
    front_again (is_held reports log) (image_of_log log).view_number acc (top_of_log log - acc) front (top_of_log log - front) refl (omega arith)
