-- The names of a set, and those of them that pass a test.
use Rattle.std.proofs.Common.{◌≡◌, ℕ, zero, suc, ◌+◌, ◌<◌, List, [], ◌∷◌, Bool, true, false, ◌==◌, nat_lt, if◌then◌else◌, slice_index, refl, ap, ◌∙◌, arith}
use Rattle.std.proofs.lemmas.Bool.Decides.{nat_tests}
use Rattle.am_base.specs.Names.{place_of_name, life_of_name, name_of_place_and_life, has, size, list_by_place}
use Rattle.am_base.proofs.Places.{slice_index-by_place}
use Rattle.am_node_defs.proofs.ReportLaws.{count_by_of_cons}
use Rattle.am_model.specs.Node.{life_where_name_passes, names_that_pass}

pub size_cons : (life : ℕ) (lives : List ℕ) → size (life ∷ lives) ≡ (if nat_lt 0 life then 1 else 0) + size lives
size_cons life lives = count_by_of_cons (λ x. nat_lt 0 x) life lives

-- a set with a life in it isn't empty
pub occupied_place_counts_in_size : (set : List ℕ) (place : ℕ) → 0 < slice_index set place → 0 < size set
occupied_place_counts_in_size [] place is = absurd (omega arith)
occupied_place_counts_in_size (life ∷ lives) zero is =
    let t : nat_lt 0 life ≡ true = grind (arith, nat_tests) in
    let e : size (life ∷ lives) ≡ 1 + size lives = size_cons life lives ∙ ap (λ (b : Bool). (if b then 1 else 0) + size lives) t in
    omega arith
occupied_place_counts_in_size (life ∷ lives) (suc place) is =
    let h = occupied_place_counts_in_size lives place is in
    let e = size_cons life lives in
    omega arith

-- nor one with a name in it
pub set_with_name_has_size : (set : List ℕ) (who : ℕ) → has set who ≡ true → 0 < size set
set_with_name_has_size set who h = let is : slice_index set (place_of_name who) ≡ life_of_name who = grind (arith, nat_tests) in occupied_place_counts_in_size set (place_of_name who) (omega arith)

-- the place of a name that passes has its life
life_there : (test : ℕ → Bool) (who : ℕ) → test who ≡ true → life_where_name_passes test (place_of_name who) (life_of_name who) ≡ life_of_name who
life_there test who t =
    let some : (life_of_name who == 0) ≡ false = grind (arith, nat_tests) in
    let same : name_of_place_and_life (place_of_name who) (life_of_name who) ≡ who = omega arith in
    let passes : test (name_of_place_and_life (place_of_name who) (life_of_name who)) ≡ true = ap test same ∙ t in
    rw (some, passes) refl

-- a name of the set that passes is among those
pub passing_name_is_in_those : (test : ℕ → Bool) (set : List ℕ) (who : ℕ) → has set who ≡ true → test who ≡ true → has (names_that_pass test set) who ≡ true
unfolding names_that_pass
passing_name_is_in_those test set who there passes =
    let f : ℕ → ℕ = λ place. life_where_name_passes test place (slice_index set place) in
    let place : place_of_name who < 16 = omega arith in
    let is : slice_index set (place_of_name who) ≡ life_of_name who = grind (arith, nat_tests) in
    let value : slice_index (list_by_place f) (place_of_name who) ≡ life_of_name who = slice_index-by_place f (place_of_name who) place ∙ ap (life_where_name_passes test (place_of_name who)) is
    ∙ life_there test who passes in
    grind (arith, nat_tests)
