-- Whether a name is among so many lowest of a set.
use Rattle.am_ordering.proofs.ReceivingWords.{◌≡◌, ℕ, zero, suc, ◌+◌, ◌<◌, ◌≤◌, List, [], ◌∷◌, length, take, slice_index, refl, sym, ◌∙◌, ap, Bool, true, false, ◌&&◌}
use Rattle.am_ordering.proofs.ReceivingWords.{◌==◌, if◌then◌else◌, nat_lt, count_by, arith, list_any, nat_tests, count_by_of_cons, IsSetOfNames, has, place_of_name, life_of_name, name_of_place_and_life}
use Rattle.am_ordering.proofs.ReceivingWords.{names_from, names_of}

-- how many places there are a life of
abbrev lives_in : List ℕ → ℕ
lives_in lives = count_by (λ life. nat_lt 0 life) lives

other_place : (who p b : ℕ) → p < 16 → (place_of_name who ≡ p → ⊥) → (name_of_place_and_life p (suc b) == who) ≡ false
other_place who p b h ne =
    let no : name_of_place_and_life p (suc b) ≡ who → ⊥ = λ e. ne (omega arith) in
    grind (arith, nat_tests)

same_place : (who p b : ℕ) → place_of_name who ≡ p → (name_of_place_and_life p (suc b) == who) ≡ (suc b == life_of_name who)
same_place who p b at = grind (arith, nat_tests)

life_more : (b : ℕ) (lives : List ℕ) → lives_in (suc b ∷ lives) ≡ 1 + lives_in lives
life_more b lives =
    let some : nat_lt 0 (suc b) ≡ true = grind (arith, nat_tests) in
    count_by_of_cons (λ life. nat_lt 0 life) (suc b) lives ∙ ap (λ (t : Bool). (if t then 1 else 0) + lives_in lives) some

one_more : (n r : ℕ) → nat_lt n r ≡ nat_lt (1 + n) (suc r)
one_more n r = grind (arith, nat_tests)

none_above : (lives : List ℕ) (who p r : ℕ) → p + length lives ≤ 16 → place_of_name who < p → list_any (λ name. name == who) (take r (names_from p lives)) ≡ false
none_above lives who p zero h past = refl
none_above [] who p (suc r) h past = refl
none_above (zero ∷ lives) who p (suc r) h past = none_above lives who (p + 1) (suc r) (omega arith) (omega arith)
none_above (suc b ∷ lives) who p (suc r) h past =
    let here = other_place who p b (omega arith) (λ e. omega arith) in
    let rest = none_above lives who (p + 1) r (omega arith) (omega arith) in
    rw (here, rest) refl

among : (lives : List ℕ) (who p i r : ℕ) → p + length lives ≤ 16 → place_of_name who ≡ p + i
    → list_any (λ name. name == who) (take r (names_from p lives)) ≡ ((slice_index lives i == life_of_name who) && nat_lt (lives_in (take i lives)) r)
among [] who p i zero h at = grind (arith, nat_tests)
among [] who p i (suc r) h at = grind (arith, nat_tests)
among (zero ∷ lives) who p zero r h at =
    let rest = none_above lives who (p + 1) r (omega arith) (omega arith) in
    let no : (0 == life_of_name who) ≡ false = grind (arith, nat_tests) in
    rw (rest, no) refl
among (zero ∷ lives) who p (suc j) r h at = among lives who (p + 1) j r (omega arith) (omega arith)
among (suc b ∷ lives) who p i zero h at = grind (arith, nat_tests)
among (suc b ∷ lives) who p zero (suc r) h at =
    let rest = none_above lives who (p + 1) r (omega arith) (omega arith) in
    let here = same_place who p b (omega arith) in
    rw (rest, here) (grind (arith, nat_tests))
among (suc b ∷ lives) who p (suc j) (suc r) h at =
    let here = other_place who p b (omega arith) (λ e. omega arith) in
    let rest = among lives who (p + 1) j r (omega arith) (omega arith) in
    rw (here, rest) (ap (λ t. (slice_index lives j == life_of_name who) && t) (one_more (lives_in (take j lives)) r
    ∙ ap (λ k. nat_lt k (suc r)) (sym (life_more b (take j lives)))))

pub name_among_lowest_of_set : (set : List ℕ) (who count : ℕ) → IsSetOfNames set
    → list_any (λ name. name == who) (take count (names_of set)) ≡ (has set who && nat_lt (lives_in (take (place_of_name who) set)) count)
name_among_lowest_of_set set who count is = let l = is.places in among set who 0 (place_of_name who) count (omega arith) (omega arith)
