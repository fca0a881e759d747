-- Whom a ballot waits for, and how many names it hasn't heard of.
use Rattle.am_reset_runs.proofs.Words.{◌≡◌, ℕ, suc, ◌+◌, ◌<◌, ◌≤◌, ◌==◌, nat_lt, Bool, true, false, if◌then◌else◌, List, [], ◌∷◌, length, slice_index, list_any, count_by, count_by_of_cons}
use Rattle.am_reset_runs.proofs.Words.{refl, ap, ◌∙◌, arith, nat_tests, split_on_bool, place_of_name, life_of_name, has, size, names_that_pass}
use Rattle.std.specs.List.{range_with_len}
use Rattle.am_base.specs.Names.{name_of_place_and_life, list_by_place}
unfoldable use Rattle.am_base.specs.Names.{list_by_place as sixteen_by_place}
use Rattle.am_model.specs.Node.{life_where_name_passes}
use Rattle.am_base.proofs.Places.{length-by_place, sixteen_items_are_by_place}
use Rattle.am_model.proofs.Sets.{size_cons}
unfoldable use Rattle.am_model.specs.Node.{names_that_pass as those_that_pass}

-- ---- a set that isn't empty

record OccupiedPlace (set : List ℕ) : Type 0 where
  place : ℕ
  low : place < length set
  some : 0 < slice_index set place

occupied_place : (set : List ℕ) → 0 < size set → OccupiedPlace set
occupied_place [] some = absurd (let none : size [] ≡ 0 = refl in omega arith)
occupied_place (life ∷ lives) some = split_on_bool (nat_lt 0 life)
    (λ t. record { place = 0; low = omega arith; some = grind (arith, nat_tests) })
    (λ f.
    let none : size (life ∷ lives) ≡ 0 + size lives = size_cons life lives ∙ ap (λ (b : Bool). (if b then 1 else 0) + size lives) f in
    let h = occupied_place lives (omega arith) in
    let low = h.low in
    record { place = suc h.place; low = omega arith; some = h.some })

-- a set of names that isn't empty has a name
pub somebody_is_in : (set : List ℕ) → length set ≡ 16 → nat_lt 0 (size set) ≡ true → (name : ℕ) × (has set name ≡ true)
somebody_is_in set long t =
    let some : 0 < size set = grind (arith, nat_tests) in
    let h = occupied_place set some in
    let low = h.low in
    let life = h.some in
    let name = name_of_place_and_life h.place (slice_index set h.place) in
    let place : place_of_name name ≡ h.place = omega arith in
    let same : life_of_name name ≡ slice_index set h.place = omega arith in
    let there : slice_index set (place_of_name name) ≡ life_of_name name = ap (slice_index set) place ∙ (let x = same in omega arith) in
    (name, grind (arith, nat_tests))

pub sixteen_that_pass : (test : ℕ → Bool) (set : List ℕ) → length (names_that_pass test set) ≡ 16
unfolding those_that_pass
sixteen_that_pass test set = length-by_place (λ place. life_where_name_passes test place (slice_index set place))

-- ---- counts

pub count_le_of_weaker : (p q : ℕ → Bool) (xs : List ℕ) → ((x : ℕ) → p x ≡ true → q x ≡ true) → count_by p xs ≤ count_by q xs
count_le_of_weaker p q [] weaker = omega arith
count_le_of_weaker p q (x ∷ xs) weaker =
    let h = count_le_of_weaker p q xs weaker in
    let a = count_by_of_cons p x xs in
    let b = count_by_of_cons q x xs in
    split_on_bool (p x)
    (λ t. let u = weaker x t in rw (a, b, t, u) (omega arith))
    (λ f. split_on_bool (q x) (λ u. rw (a, b, f, u) (omega arith)) (λ u. rw (a, b, f, u) (omega arith)))

-- fewer of a list pass, where one of it passes the other test alone
pub count_lt_of_weaker : (p q : ℕ → Bool) (xs : List ℕ) (k : ℕ) → ((x : ℕ) → p x ≡ true → q x ≡ true) → list_any (λ x. x == k) xs ≡ true → p k ≡ false → q k ≡ true → count_by p xs < count_by q xs
count_lt_of_weaker p q [] k weaker there fails passes = absurd (cc)
count_lt_of_weaker p q (x ∷ xs) k weaker there fails passes =
    let a = count_by_of_cons p x xs in
    let b = count_by_of_cons q x xs in
    split_on_bool (x == k)
    (λ t.
    let same : x ≡ k = grind (arith, nat_tests) in
    let f : p x ≡ false = ap p same ∙ fails in
    let u : q x ≡ true = ap q same ∙ passes in
    let h = count_le_of_weaker p q xs weaker in
    rw (a, b, f, u) (omega arith))
    (λ g.
    let rest : list_any (λ x. x == k) xs ≡ true = rw g at there in
    let h = count_lt_of_weaker p q xs k weaker rest fails passes in
    split_on_bool (p x)
    (λ t. let u = weaker x t in rw (a, b, t, u) (omega arith))
    (λ f. split_on_bool (q x) (λ u. rw (a, b, f, u) (omega arith)) (λ u. rw (a, b, f, u) (omega arith))))

-- ---- a part of a set

any_place : (place : ℕ) → place < 16 → list_any (λ x. x == place) (range_with_len 0 16) ≡ true
any_place place low = grind (arith, nat_tests)

size_by_place : (f : ℕ → ℕ) → size (list_by_place f) ≡ count_by (λ place. nat_lt 0 (f place)) (range_with_len 0 16)
unfolding sixteen_by_place
size_by_place f = refl

-- fewer names of a set pass, if one of it doesn't
pub selection_is_smaller : (test : ℕ → Bool) (set : List ℕ) (name : ℕ) → length set ≡ 16 → has set name ≡ true → test name ≡ false → size (names_that_pass test set) < size set
unfolding those_that_pass
selection_is_smaller test set name long there fails =
    let f : ℕ → ℕ = λ place. life_where_name_passes test place (slice_index set place) in
    let at : slice_index set (place_of_name name) ≡ life_of_name name = grind (arith, nat_tests) in
    let low : place_of_name name < 16 = omega arith in
    let same : name_of_place_and_life (place_of_name name) (life_of_name name) ≡ name = omega arith in
    let none : life_where_name_passes test (place_of_name name) (slice_index set (place_of_name name)) ≡ 0 =
    ap (life_where_name_passes test (place_of_name name)) at ∙ nobody_there test name (ap test same ∙ fails) in
    let whole : set ≡ list_by_place (slice_index set) = sixteen_items_are_by_place (slice_index set) set 0 long (λ k small. refl) in
    let fewer = count_lt_of_weaker (λ place. nat_lt 0 (f place)) (λ place. nat_lt 0 (slice_index set place)) (range_with_len 0 16) (place_of_name name)
    (λ place t. passes_there test place (slice_index set place) t) (any_place (place_of_name name) low) (ap (nat_lt 0) none)
    (ap (nat_lt 0) at ∙ (let up : nat_lt 0 (life_of_name name) ≡ true = grind (arith, nat_tests) in up)) in
    let a = size_by_place f in
    let c = ap size whole ∙ size_by_place (slice_index set) in
    omega arith
  where
    nobody_there : (test : ℕ → Bool) (name : ℕ) → test (name_of_place_and_life (place_of_name name) (life_of_name name)) ≡ false → life_where_name_passes test (place_of_name name) (life_of_name name) ≡ 0
    nobody_there test name f = split_on_bool (life_of_name name == 0) (λ t. rw t refl) (λ g. rw (g, f) refl)

    passes_there : (test : ℕ → Bool) (place life : ℕ) → nat_lt 0 (life_where_name_passes test place life) ≡ true → nat_lt 0 life ≡ true
    passes_there test place life t = split_on_bool (life == 0)
        (λ u. absurd (let z = rw u at t in cc))
        (λ g. grind (arith, nat_tests))
