-- Where a walk upwards stops is the greatest front.
use Rattle.am_node_defs.proofs.Words.{◌≡◌, ⊎_elim, ℕ, zero, suc, ◌+◌, ◌-◌, ◌<◌, ◌≤◌, refl, sym, ◌∙◌, ap, Bool, true, false, ◌&&◌, nat_le, if◌then◌else◌, arith}
use Rattle.am_node_defs.proofs.Words.{list_all, range_with_len, nat_tests, cases_lt, eq-or-lt_of_le, Report, Log, top_of_log, image_of_log, greatest_passing_number, is_held, accept_front}
use Rattle.am_node_defs.proofs.{Ranges.range_passes_if_all_pass, Ranges.range_fails_if_one_fails}

pub greatest_is_where_walk_stops : (passes : ℕ → Bool) (from more front : ℕ) → from ≤ front → front ≤ from + more → (from < front → passes front ≡ true)
    → ((g : ℕ) → front < g → g ≤ from + more → passes g ≡ false) → greatest_passing_number passes from more ≡ front
unfolding greatest_passing_number
greatest_is_where_walk_stops passes from zero front low high there past = omega arith
greatest_is_where_walk_stops passes from (suc more) front low high there past = ⊎_elim
    (λ (e : front ≡ from + suc more).
    let t : passes (from + suc more) ≡ true = ap passes (sym e) ∙ there (omega arith) in
    rw t (sym e))
    (λ (h : front < from + suc more).
    let f : passes (from + suc more) ≡ false = past (from + suc more) h (omega arith) in
    rw f (greatest_is_where_walk_stops passes from more front low (omega arith) there (λ g l u. past g l (omega arith))))
    (eq-or-lt_of_le high)

-- an entry is satisfied, where the last view has this number
abbrev pub is_satisfied_with_view : (ℕ → Bool) → ℕ → ℕ → ℕ → Bool
is_satisfied_with_view held view front number = if nat_le view number then held number else nat_le view front && held view

abbrev pub passes_as_front_with_view : (ℕ → Bool) → ℕ → ℕ → ℕ → Bool
passes_as_front_with_view held view acc front = list_all (is_satisfied_with_view held view front) (range_with_len (acc + 1) (front - acc))

pub satisfied_above_view_is_held : (held : ℕ → Bool) (view front number : ℕ) → view ≤ number → is_satisfied_with_view held view front number ≡ held number
satisfied_above_view_is_held held view front number h = let t : nat_le view number ≡ true = grind (arith, nat_tests) in rw t refl

pub satisfied_below_view_needs_view : (held : ℕ → Bool) (view front number : ℕ) → number < view → is_satisfied_with_view held view front number ≡ (nat_le view front && held view)
satisfied_below_view_needs_view held view front number h = let f : nat_le view number ≡ false = grind (arith, nat_tests) in rw f refl

-- all is held up to here from the last view on, and the next isn't
front_found : (held : ℕ → Bool) (view acc more front : ℕ) → acc ≤ front → front ≤ acc + more → view ≤ front
    → ((n : ℕ) → acc < n → view ≤ n → n ≤ front → held n ≡ true) → (front < acc + more → held (front + 1) ≡ false)
    → greatest_passing_number (passes_as_front_with_view held view acc) acc more ≡ front
front_found held view acc more front low high viewed all stops = greatest_is_where_walk_stops (passes_as_front_with_view held view acc) acc more front low high
    (λ above. range_passes_if_all_pass (is_satisfied_with_view held view front) (acc + 1) (front - acc) (λ k a b. ⊎_elim
    (λ (l : k < view).
    let reached : nat_le view front ≡ true = grind (arith, nat_tests) in
    let there = all view (omega arith) (omega arith) viewed in
    satisfied_below_view_needs_view held view front k l ∙ rw (reached, there) refl)
    (λ (u : view ≤ k). satisfied_above_view_is_held held view front k u ∙ all k (omega arith) u (omega arith))
    (cases_lt k view)))
    (λ g l u. range_fails_if_one_fails (is_satisfied_with_view held view g) (acc + 1) (g - acc) (front + 1) (omega arith) (omega arith)
    (satisfied_above_view_is_held held view g (front + 1) (omega arith) ∙ stops (omega arith)))

-- the last view is above what is accepted, and isn't stored or isn't held
front_stuck : (held : ℕ → Bool) (view acc more : ℕ) → acc < view → (view ≤ acc + more → held view ≡ false)
    → greatest_passing_number (passes_as_front_with_view held view acc) acc more ≡ acc
front_stuck held view acc more viewed unheld = greatest_is_where_walk_stops (passes_as_front_with_view held view acc) acc more acc (omega arith) (omega arith)
    (λ above. absurd (omega arith))
    (λ g l u. range_fails_if_one_fails (is_satisfied_with_view held view g) (acc + 1) (g - acc) (acc + 1) (omega arith) (omega arith) (⊎_elim
    (λ (h : acc + 1 < view). satisfied_below_view_needs_view held view g (acc + 1) h ∙ ⊎_elim
    (λ (h : g < view). let f : nat_le view g ≡ false = grind (arith, nat_tests) in rw f refl)
    (λ (h : view ≤ g). let f = unheld (omega arith) in rw f (grind (arith, nat_tests)))
    (cases_lt g view))
    (λ (h : view ≤ acc + 1). let e : acc + 1 ≡ view = omega arith in satisfied_above_view_is_held held view g (acc + 1) h ∙ ap held e ∙ unheld (omega arith))
    (cases_lt (acc + 1) view)))

-- the accept front of a list
pub accept_front_where_walk_stops : (reports : ℕ → Report) (log : Log) (acc front : ℕ) → acc ≤ front → front ≤ top_of_log log → (image_of_log log).view_number ≤ front
    → ((n : ℕ) → acc < n → (image_of_log log).view_number ≤ n → n ≤ front → is_held reports log n ≡ true)
    → (front < top_of_log log → is_held reports log (front + 1) ≡ false) → front ≡ accept_front reports log acc
accept_front_where_walk_stops reports log acc front low high viewed all stops =
    let at : acc + (top_of_log log - acc) ≡ top_of_log log = omega arith in
    sym (front_found (is_held reports log) (image_of_log log).view_number acc (top_of_log log - acc) front low (omega arith) viewed all (λ h. stops (omega arith)))

pub accept_front_stays_below_view : (reports : ℕ → Report) (log : Log) (acc : ℕ) → acc ≤ top_of_log log → acc < (image_of_log log).view_number
    → ((image_of_log log).view_number ≤ top_of_log log → is_held reports log (image_of_log log).view_number ≡ false) → acc ≡ accept_front reports log acc
accept_front_stays_below_view reports log acc high viewed unheld =
    let at : acc + (top_of_log log - acc) ≡ top_of_log log = omega arith in
    sym (front_stuck (is_held reports log) (image_of_log log).view_number acc (top_of_log log - acc) viewed (λ h. unheld (omega arith)))
