-- Names in sets.
use Rattle.am_repair.proofs.RepairWords.{occupied_place_counts_in_size, ◌≡◌, ◌≢◌, ℕ, zero, suc, ◌+◌, ◌==◌, Bool, true, false, nat_lt, if◌then◌else◌, List, [], ◌∷◌, slice_index}
use Rattle.am_repair.proofs.RepairWords.{slice_set, get_or-set_other, count_by, refl, sym, ap, ◌∙◌, arith, All, nat_tests, All-head, All-tail}
use Rattle.am_repair.proofs.RepairWords.{place_of_name, life_of_name, has, without_name, size, names_from, count_by_of_cons, set_of_one_name, split_on_bool}

-- ---- who is there

is_there : (set : List ℕ) (name : ℕ) → has set name ≡ true → slice_index set (place_of_name name) ≡ life_of_name name
is_there set name h = grind (arith, nat_tests)

-- a set that has a name isn't empty
pub set_with_name_not_empty : (set : List ℕ) (name : ℕ) → has set name ≡ true → (size set == 0) ≡ false
set_with_name_not_empty set name h =
    let is = is_there set name h in
    let some = occupied_place_counts_in_size set (place_of_name name) (omega arith) in
    grind (arith, nat_tests)

pub only_name_has_name : (name : ℕ) → has (set_of_one_name name) name ≡ true
only_name_has_name name =
    grind (arith, nat_tests)

pub only_name_is_not_empty : (name : ℕ) → (size (set_of_one_name name) == 0) ≡ false
only_name_is_not_empty name = set_with_name_not_empty (set_of_one_name name) name (only_name_has_name name)

-- without another name it is still there
pub without_name_has_others : (set : List ℕ) (who other : ℕ) → has set other ≡ true → (other == who) ≡ false → has (without_name set who) other ≡ true
without_name_has_others set who other h differs = split_on_bool (has set who)
    (λ t.
    let a = is_there set who t in
    let b = is_there set other h in
    let place : place_of_name other ≢ place_of_name who = (λ same. (let life : life_of_name other ≡ life_of_name who = sym b ∙ ap (slice_index set) same ∙ a in
    let e : other ≡ who = omega arith in let z : ⊥ = grind (arith, nat_tests) in z)) in
    let is : slice_index (slice_set set (place_of_name who) 0) (place_of_name other) ≡ life_of_name other = get_or-set_other set (place_of_name who) (place_of_name other) 0 0 place
    ∙ b in
    rw t (grind (arith, nat_tests)))
    (λ f. rw f h)

-- ---- how many of them pass

pub count_by_all_is_size : (p : ℕ → Bool) (lives : List ℕ) (from : ℕ) → All (λ name. p name ≡ true) (names_from from lives)
    → count_by p (names_from from lives) ≡ size lives
count_by_all_is_size p [] from h = refl
count_by_all_is_size p (zero ∷ lives) from h =
    let rest = count_by_all_is_size p lives (from + 1) h in
    let none : size (zero ∷ lives) ≡ size lives = count_by_of_cons (λ x. nat_lt 0 x) zero lives ∙ (omega arith) in
    rest ∙ sym none
count_by_all_is_size p (suc before ∷ lives) from h =
    let first = All-head (λ name. p name ≡ true) _ _ h in
    let rest = count_by_all_is_size p lives (from + 1) (All-tail (λ name. p name ≡ true) _ _ h) in
    let c = count_by_of_cons p _ (names_from (from + 1) lives) ∙ ap (λ b. (if b then 1 else 0) + count_by p (names_from (from + 1) lives)) first in
    let t : nat_lt 0 (suc before) ≡ true = grind (arith, nat_tests) in
    let d = count_by_of_cons (λ x. nat_lt 0 x) (suc before) lives ∙ ap (λ b. (if b then 1 else 0) + size lives) t in
    omega arith
