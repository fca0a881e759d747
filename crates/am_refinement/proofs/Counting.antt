-- How many names of a set pass a test, counted by the set and among all names.
use Rattle.am_refinement.proofs.Words.{split_on_bool, ◌≡◌, ◌≢◌, ℕ, zero, suc, ◌+◌, ◌<◌, ◌≤◌, ◌==◌, ◌&&◌, nat_lt, Bool, true, false, if◌then◌else◌, List, [], ◌∷◌, length}
use Rattle.am_refinement.proofs.Words.{slice_index, count_by, refl, sym, ap, ◌∙◌, subst, arith, nat_tests, IsSetOfNames, place_of_name, life_of_name, name_of_place_and_life, has, size}
use Rattle.am_refinement.proofs.Words.{names_from, names_of, count_by_of_cons, mod_sixteen_lt, count_of_passing_below, count_of_passing_names, count_lt_of_weaker_test}

-- ---- all names but one

but : (ℕ → Bool) → ℕ → ℕ → Bool
but q k j = if j == k then false else q j

but_same : (q : ℕ → Bool) (k : ℕ) → but q k k ≡ false
unfolding but
but_same q k = let t : (k == k) ≡ true = grind (arith, nat_tests) in rw t refl

but_other : (q : ℕ → Bool) (k j : ℕ) → j ≢ k → but q k j ≡ q j
unfolding but
but_other q k j other = let f : (j == k) ≡ false = grind (arith, nat_tests) in rw f refl

but_passes : (q : ℕ → Bool) (k j : ℕ) → but q k j ≡ true → (j ≢ k) × (q j ≡ true)
unfolding but
but_passes q k j = split_on_bool (j == k)
    (λ t. rw t (λ h. absurd (cc)))
    (λ f. rw f (λ h. (λ same. (let t : (j == k) ≡ true = grind (arith, nat_tests) in cc), h)))

-- ---- counts

pub count_is_monotone : (p q : ℕ → Bool) (n : ℕ) → ((j : ℕ) → j < n → p j ≡ true → q j ≡ true) → count_of_passing_below p n ≤ count_of_passing_below q n
unfolding count_of_passing_below
count_is_monotone p q zero h = omega arith
count_is_monotone p q (suc n) h =
    let r = count_is_monotone p q n (λ j low. h j (omega arith)) in
    split_on_bool (p n)
    (λ t. let u = h n (omega arith) t in rw (t, u) (omega arith))
    (λ t. split_on_bool (q n) (λ u. rw (t, u) (omega arith)) (λ u. rw (t, u) (omega arith)))

count_none : (q : ℕ → Bool) (n : ℕ) → ((j : ℕ) → q j ≡ true → ⊥) → count_of_passing_below q n ≡ 0
unfolding count_of_passing_below
count_none q zero h = refl
count_none q (suc n) h =
    let r = count_none q n h in
    split_on_bool (q n) (λ t. absurd (h n t)) (λ f. rw f (omega arith))

count_one : (q : ℕ → Bool) (k n : ℕ) → count_of_passing_below q n ≤ 1 + count_of_passing_below (but q k) n
unfolding count_of_passing_below
count_one q k zero = omega arith
count_one q k (suc n) = split_on_bool (n == k)
    (λ t.
    let same : n ≡ k = grind (arith, nat_tests) in
    let rest = count_is_monotone q (but q k) n (λ j low s. but_other q k j (λ is. absurd (let z : n < n = omega arith in omega arith)) ∙ s) in
    let off : but q k n ≡ false = ap (but q k) same ∙ but_same q k in
    split_on_bool (q n) (λ u. rw (u, off) (omega arith)) (λ u. rw (u, off) (omega arith)))
    (λ f.
    let on : but q k n ≡ q n = but_other q k n (λ is. (let t : (n == k) ≡ true = grind (arith, nat_tests) in cc)) in
    let r = count_one q k n in
    split_on_bool (q n)
    (λ u. let v : but q k n ≡ true = on ∙ u in rw (u, v) (omega arith))
    (λ u. let v : but q k n ≡ false = on ∙ u in rw (u, v) (omega arith)))

-- ---- the names of a set

-- of places from one on: each that passes is counted once among all names
counted_from : (p q : ℕ → Bool) (from : ℕ) (lives : List ℕ) → from + length lives ≤ 16
    → ((k : ℕ) → k < length lives → slice_index lives k ≤ 16)
    → ((k : ℕ) → k < length lives → 0 < slice_index lives k → p (name_of_place_and_life (from + k) (slice_index lives k)) ≡ true
    → q (name_of_place_and_life (from + k) (slice_index lives k)) ≡ true)
    → count_by p (names_from from lives) ≤ count_of_passing_names q
counted_from p q from [] long low h = omega arith
counted_from p q from (zero ∷ lives) long low h =
    counted_from p q (from + 1) lives (omega arith) (λ k l. low (suc k) (omega arith)) (λ k l some.
    let at : from + 1 + k ≡ from + suc k = omega arith in
    subst (λ i. p (name_of_place_and_life i (slice_index lives k)) ≡ true → q (name_of_place_and_life i (slice_index lives k)) ≡ true) (sym at) (h (suc k) (omega arith) some))
counted_from p q from (suc b ∷ lives) long low h =
    let name = name_of_place_and_life from (suc b) in
    let first : from + zero ≡ from = omega arith in
    let life : suc b ≤ 16 = low zero (omega arith) in
    let more : count_by p (name ∷ names_from (from + 1) lives) ≡ (if p name then 1 else 0) + count_by p (names_from (from + 1) lives) = count_by_of_cons p name
    (names_from (from + 1) lives) in
    let others : (k : ℕ) → k < length lives → 0 < slice_index lives k → p (name_of_place_and_life (from + 1 + k) (slice_index lives k)) ≡ true
    → q (name_of_place_and_life (from + 1 + k) (slice_index lives k)) ≡ true = λ k l some.
    (let at : from + 1 + k ≡ from + suc k = omega arith in
    subst (λ i. p (name_of_place_and_life i (slice_index lives k)) ≡ true → q (name_of_place_and_life i (slice_index lives k)) ≡ true) (sym at) (h (suc k) (omega arith) some)) in
    split_on_bool (p name)
    (λ t.
    let here : q name ≡ true = subst (λ i. p (name_of_place_and_life i (suc b)) ≡ true → q (name_of_place_and_life i (suc b)) ≡ true) first (h zero (omega arith) (omega arith)) t in
    let rest = counted_from p (but q name) (from + 1) lives (omega arith) (λ k l. low (suc k) (omega arith))
    (λ k l some s. (let u = others k l some s in
    but_other q name (name_of_place_and_life (from + 1 + k) (slice_index lives k)) (apart from k b (slice_index lives k) (omega arith)) ∙ u)) in
    let below = count_lt_of_weaker_test (but q name) q 256 name (λ j s. (but_passes q name j s).1) (omega arith) (but_same q name) here in
    let one : count_by p (name ∷ names_from (from + 1) lives) ≡ 1 + count_by p (names_from (from + 1) lives) = more
    ∙ ap (λ (x : Bool). (if x then 1 else 0) + count_by p (names_from (from + 1) lives)) t in
    omega arith)
    (λ f.
    let rest = counted_from p q (from + 1) lives (omega arith) (λ k l. low (suc k) (omega arith)) others in
    let none : count_by p (name ∷ names_from (from + 1) lives) ≡ 0 + count_by p (names_from (from + 1) lives) = more
    ∙ ap (λ (x : Bool). (if x then 1 else 0) + count_by p (names_from (from + 1) lives)) f in
    omega arith)
  where
    apart : (from k b life : ℕ) → from + 1 + k < 16 → name_of_place_and_life (from + 1 + k) life ≢ name_of_place_and_life from (suc b)
    apart from k b life low same = omega arith

-- those of a set's names that pass are no more than those of all names that are in it and pass
pub passing_names_le_all_passing : (p : ℕ → Bool) (set : List ℕ) → IsSetOfNames set → count_by p (names_of set) ≤ count_of_passing_names (λ h. has set h && p h)
passing_names_le_all_passing p set is =
    counted_from p (λ h. has set h && p h) 0 set (omega arith) is.lives (λ k low some t.
    let life = slice_index set k in
    let name = name_of_place_and_life (0 + k) life in
    let place : place_of_name name ≡ k = omega arith in
    let there : (slice_index set (place_of_name name) == life_of_name name) ≡ true = (let at : slice_index set (place_of_name name) ≡ life = ap (slice_index set) place in
    grind (arith, nat_tests)) in
    rw (there, t) refl)

-- of places from one on: whoever passes is there
few_of : (q : ℕ → Bool) (from n : ℕ) (lives : List ℕ)
    → ((j : ℕ) → q j ≡ true → (k : ℕ) × (k < length lives) × (place_of_name j ≡ from + k) × (slice_index lives k ≡ life_of_name j))
    → count_of_passing_below q n ≤ count_by (λ life. nat_lt 0 life) lives
few_of q from n [] h = let none = count_none q n (λ j t. let r = h j t in let low = r.1 in omega arith) in omega arith
few_of q from n (life ∷ lives) h =
    let name = name_of_place_and_life from life in
    let rest = few_of (but q name) (from + 1) n lives (λ j t. let s = but_passes q name j t in next from j life lives s.0 (h j s.1)) in
    let one = count_one q name n in
    let more : count_by (λ x. nat_lt 0 x) (life ∷ lives) ≡ (if nat_lt 0 life then 1 else 0) + count_by (λ x. nat_lt 0 x) lives = count_by_of_cons
    (λ x. nat_lt 0 x) life lives in
    split_on_bool (nat_lt 0 life)
    (λ t. let is : count_by (λ x. nat_lt 0 x) (life ∷ lives) ≡ 1 + count_by (λ x. nat_lt 0 x) lives = more
    ∙ ap (λ (x : Bool). (if x then 1 else 0) + count_by (λ x. nat_lt 0 x) lives) t in omega arith)
    (λ f.
    let zero_life : life ≡ 0 = grind (arith, nat_tests) in
    let same = few_of q (from + 1) n lives (λ j t. let r = h j t in later from j life lives zero_life r) in
    let is : count_by (λ x. nat_lt 0 x) (life ∷ lives) ≡ 0 + count_by (λ x. nat_lt 0 x) lives = more
    ∙ ap (λ (x : Bool). (if x then 1 else 0) + count_by (λ x. nat_lt 0 x) lives) f in
    omega arith)
  where
    next : (from j life : ℕ) (lives : List ℕ) → j ≢ name_of_place_and_life from life
        → (k : ℕ) × (k < length (life ∷ lives)) × (place_of_name j ≡ from + k) × (slice_index (life ∷ lives) k ≡ life_of_name j)
        → (k : ℕ) × (k < length lives) × (place_of_name j ≡ from + 1 + k) × (slice_index lives k ≡ life_of_name j)
    next from j life lives other (zero, low, place, at) = absurd (other (let its : life ≡ life_of_name j = at in omega arith))
    next from j life lives other (suc k, low, place, at) = (k, omega arith, omega arith, at)

    later : (from j life : ℕ) (lives : List ℕ) → life ≡ 0
        → (k : ℕ) × (k < length (life ∷ lives)) × (place_of_name j ≡ from + k) × (slice_index (life ∷ lives) k ≡ life_of_name j)
        → (k : ℕ) × (k < length lives) × (place_of_name j ≡ from + 1 + k) × (slice_index lives k ≡ life_of_name j)
    later from j life lives none (zero, low, place, at) = absurd (let its : life ≡ life_of_name j = at in omega arith)
    later from j life lives none (suc k, low, place, at) = (k, omega arith, omega arith, at)

-- a set has no more names than lives
pub names_of_set_le_size : (set : List ℕ) → IsSetOfNames set → count_of_passing_names (has set) ≤ size set
names_of_set_le_size set is =
    few_of (has set) 0 256 set (λ j t. (
      place_of_name j,
      (let low = mod_sixteen_lt j in omega arith),
      omega arith,
      (let z : (slice_index set (place_of_name j) == life_of_name j) ≡ true = t in grind (arith, nat_tests)),
    ))

-- and each is one of the 256
pub set_name_is_below_256 : (set : List ℕ) (name : ℕ) → IsSetOfNames set → has set name ≡ true → name < 256
set_name_is_below_256 set name is t =
    let at : slice_index set (place_of_name name) ≡ life_of_name name = (let z : (slice_index set (place_of_name name) == life_of_name name) ≡ true = t in
    grind (arith, nat_tests)) in
    omega arith
