-- Names of sets, one by one, and sums over them.
use Rattle.am_repair.proofs.RepairWords.{◌≡◌, ℕ, zero, suc, ◌+◌, ◌<◌, ◌≤◌, ◌==◌, Bool, true, false, List, [], ◌∷◌, length, sym, ap, subst, arith, split_on_bool}
use Rattle.am_repair.proofs.RepairWords.{◌⊎◌, inl, inr, either, nat_lt, All, All-nil, All-cons, All-head, All-tail, nat_tests, slice_index, place_of_name, life_of_name, has, names_from, names_of}
use Rattle.am_base.specs.Names.{name_of_place_and_life}
use Rattle.std.specs.List.{sum_by}
use Rattle.std.proofs.lemmas.List.Sums.{sum_by-cons}

-- ---- what is so of each name of a set

all_from : (P : ℕ → Type 0) (from : ℕ) (lives : List ℕ)
    → ((k : ℕ) → k < length lives → 0 < slice_index lives k → P (name_of_place_and_life (from + k) (slice_index lives k))) → All P (names_from from lives)
all_from P from [] h = All-nil P
all_from P from (zero ∷ lives) h = all_from P (from + 1) lives (λ k low some.
    let at : from + suc k ≡ from + 1 + k = omega arith in
    subst (λ i. P (name_of_place_and_life i (slice_index lives k))) at (h (suc k) (omega arith) some))
all_from P from (suc b ∷ lives) h = All-cons P (name_of_place_and_life from (suc b)) (names_from (from + 1) lives)
    (let at : from + zero ≡ from = omega arith in subst (λ i. P (name_of_place_and_life i (suc b))) at (h zero (omega arith) (omega arith)))
    (all_from P (from + 1) lives (λ k low some.
    let at : from + suc k ≡ from + 1 + k = omega arith in
    subst (λ i. P (name_of_place_and_life i (slice_index lives k))) at (h (suc k) (omega arith) some)))

pub names_all : (P : ℕ → Type 0) (set : List ℕ) → length set ≡ 16 → ((name : ℕ) → has set name ≡ true → P name) → All P (names_of set)
names_all P set long h = all_from P 0 set (λ k low some.
    let life = slice_index set k in
    let name = name_of_place_and_life (0 + k) life in
    let place : place_of_name name ≡ k = omega arith in
    let there : has set name ≡ true = (let at : slice_index set (place_of_name name) ≡ life = ap (slice_index set) place in grind (arith, nat_tests)) in
    h name there)

-- ---- sums

pub sums_low : (f g : ℕ → ℕ) (xs : List ℕ) → All (λ x. f x ≤ g x) xs → sum_by f xs ≤ sum_by g xs
sums_low f g [] h = omega arith
sums_low f g (x ∷ xs) h =
    let one = All-head (λ x. f x ≤ g x) x xs h in
    let rest = sums_low f g xs (All-tail (λ x. f x ≤ g x) x xs h) in
    let a = sum_by-cons f x xs in
    let b = sum_by-cons g x xs in
    omega arith

sums_fall : (f g : ℕ → ℕ) (from place : ℕ) (lives : List ℕ) → place < length lives → 0 < slice_index lives place
    → All (λ x. f x ≤ g x) (names_from from lives)
    → f (name_of_place_and_life (from + place) (slice_index lives place)) + 1 ≤ g (name_of_place_and_life (from + place) (slice_index lives place))
    → sum_by f (names_from from lives) + 1 ≤ sum_by g (names_from from lives)
sums_fall f g from (suc k) (zero ∷ lives) low some all h =
    let at : from + suc k ≡ from + 1 + k = omega arith in
    sums_fall f g (from + 1) k lives (omega arith) some all
    (subst (λ i. f (name_of_place_and_life i (slice_index lives k)) + 1 ≤ g (name_of_place_and_life i (slice_index lives k))) at h)
sums_fall f g from zero (suc b ∷ lives) low some all h =
    let x = name_of_place_and_life from (suc b) in
    let xs = names_from (from + 1) lives in
    let at : from + zero ≡ from = omega arith in
    let one : f x + 1 ≤ g x = subst (λ i. f (name_of_place_and_life i (suc b)) + 1 ≤ g (name_of_place_and_life i (suc b))) at h in
    let rest = sums_low f g xs (All-tail (λ x. f x ≤ g x) x xs all) in
    let a = sum_by-cons f x xs in
    let c = sum_by-cons g x xs in
    omega arith
sums_fall f g from (suc k) (suc b ∷ lives) low some all h =
    let x = name_of_place_and_life from (suc b) in
    let xs = names_from (from + 1) lives in
    let at : from + suc k ≡ from + 1 + k = omega arith in
    let one = All-head (λ x. f x ≤ g x) x xs all in
    let rest = sums_fall f g (from + 1) k lives (omega arith) some (All-tail (λ x. f x ≤ g x) x xs all)
    (subst (λ i. f (name_of_place_and_life i (slice_index lives k)) + 1 ≤ g (name_of_place_and_life i (slice_index lives k))) at h) in
    let a = sum_by-cons f x xs in
    let c = sum_by-cons g x xs in
    omega arith
sums_fall f g from _ _ low some all h = absurd (omega arith)

-- where nobody's is more, and one name's is less
pub set_falls : (f g : ℕ → ℕ) (set : List ℕ) (name : ℕ) → length set ≡ 16 → has set name ≡ true → ((other : ℕ) → has set other ≡ true → f other ≤ g other)
    → f name + 1 ≤ g name → sum_by f (names_of set) + 1 ≤ sum_by g (names_of set)
set_falls f g set name long there each less =
    let life : slice_index set (place_of_name name) ≡ life_of_name name = (let z : (slice_index set (place_of_name name) == life_of_name name) ≡ true = there in
    grind (arith, nat_tests)) in
    let same : name_of_place_and_life (0 + place_of_name name) (slice_index set (place_of_name name)) ≡ name = omega arith in
    sums_fall f g 0 (place_of_name name) set (omega arith) (omega arith) (names_all (λ x. f x ≤ g x) set long each)
    (subst (λ i. f i + 1 ≤ g i) (sym same) less)

-- ---- each name of a set passes a test, or one fails

find_below : (test : ℕ → Bool) (set : List ℕ) (k : ℕ) → k ≤ 16
    → ((name : ℕ) → has set name ≡ true → place_of_name name < k → test name ≡ true) ⊎ ((name : ℕ) × (has set name ≡ true) × (test name ≡ false))
find_below test set zero low = inl (λ name there below. absurd (omega arith))
find_below test set (suc k) low = either (find_below test set k (omega arith))
    (λ rest. split_on_bool (nat_lt 0 (slice_index set k))
    (λ some.
    let one = name_of_place_and_life k (slice_index set k) in
    let place : place_of_name one ≡ k = grind (arith, nat_tests) in
    let life : life_of_name one ≡ slice_index set k = grind (arith, nat_tests) in
    let there : has set one ≡ true = (let at : slice_index set (place_of_name one) ≡ slice_index set k = ap (slice_index set) place in grind (arith, nat_tests)) in
    split_on_bool (test one)
    (λ t. inl (λ name here below. split_on_bool (place_of_name name == k)
    (λ same. let e : place_of_name name ≡ k = grind (arith, nat_tests) in
    let at : slice_index set (place_of_name name) ≡ slice_index set k = ap (slice_index set) e in
    let life_ : slice_index set (place_of_name name) ≡ life_of_name name = grind (arith, nat_tests) in
    let is : one ≡ name = omega arith in
    subst (λ i. test i ≡ true) is t)
    (λ other. let e : (place_of_name name == k) ≡ false = other in rest name here (grind (arith, nat_tests)))))
    (λ f. inr (one, there, f)))
    (λ none. inl (λ name here below. split_on_bool (place_of_name name == k)
    (λ same. absurd (let e : place_of_name name ≡ k = grind (arith, nat_tests) in
    let at : slice_index set (place_of_name name) ≡ slice_index set k = ap (slice_index set) e in
    let z : ⊥ = grind (arith, nat_tests) in z))
    (λ other. rest name here (grind (arith, nat_tests))))))
    (λ found. inr found)

pub find_one : (test : ℕ → Bool) (set : List ℕ)
    → ((name : ℕ) → has set name ≡ true → test name ≡ true) ⊎ ((name : ℕ) × (has set name ≡ true) × (test name ≡ false))
find_one test set = either (find_below test set 16 (omega arith))
    (λ all. inl (λ name there. all name there (omega arith)))
    (λ one. inr one)
