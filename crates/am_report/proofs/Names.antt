-- Sets of names, place by place.
use Rattle.std.proofs.Common.{◌≡◌, ℕ, zero, suc, ◌+◌, ◌<◌, ◌≤◌, List, [], ◌∷◌, ◌++◌, length, drop, slice_index, Bool, true, false, IsTrue, ◌↔◌, EachIndex, nat_le, refl, sym, ap, ◌∙◌, arith}
use Rattle.std.specs.List.{list_all}
use Rattle.std.proofs.lemmas.List.{at_drop_all, drop_more}
use Rattle.std.proofs.lemmas.List.Folds.{list_all_at}
use Rattle.std.proofs.lemmas.Bool.Decides.{nat_tests}
use Rattle.am_base.specs.Names.{names_from}
use Rattle.am_report.specs.Names.{rest_text, place_text, is_next_first}

-- after the last place nobody is left
pub names_from_past_last_place : (set : List ℕ) (place : ℕ) → length set ≤ place → names_from place (drop place set) ≡ []
names_from_past_last_place set place h = at_drop_all (λ lives. names_from place lives) set place h

-- the place that comes next, and those after it
by_life : (first : Bool) (place life : ℕ) (later : List ℕ) → rest_text first (names_from place (life ∷ later))
    ≡ place_text first place life ++ rest_text (is_next_first first life) (names_from (place + 1) later)
by_life true place zero later = refl
by_life true place (suc before) later = refl
by_life false place zero later = refl
by_life false place (suc before) later = refl

pub text_of_places_left : (set : List ℕ) (place : ℕ) (first still : Bool) → place < length set → still ≡ is_next_first first (slice_index set place)
    → rest_text first (names_from place (drop place set))
    ≡ place_text first place (slice_index set place) ++ rest_text still (names_from (place + 1) (drop (place + 1) set))
text_of_places_left set place first still within is =
    ap (λ lives. rest_text first (names_from place lives)) (drop_more set place 0 within)
    ∙ by_life first place (slice_index set place) (drop (place + 1) set)
    ∙ ap (λ b. place_text first place (slice_index set place) ++ rest_text b (names_from (place + 1) (drop (place + 1) set))) (sym is)

from_each : (set : List ℕ) → EachIndex set (λ place. slice_index set place ≤ 1) → list_all (λ life. nat_le life 1) set ≡ true
from_each [] each = refl
from_each (life ∷ lives) each = let h : life ≤ 1 = each 0 (omega arith) in let more = from_each lives (λ place within. each (suc place) (omega arith)) in
    grind (arith, nat_tests)

to_each : (set : List ℕ) → list_all (λ life. nat_le life 1) set ≡ true → EachIndex set (λ place. slice_index set place ≤ 1)
to_each set all = λ place within. grind (arith, nat_tests, list_all_at (λ life. nat_le life 1) set place 0 within)

false_of : (b : Bool) → (b ≡ true → false ≡ true) → false ≡ b
false_of true h = h refl
false_of false h = refl

-- the test that every life is the first one or none
pub all_lives_are_first_lives : (set : List ℕ) (test : Bool) → (IsTrue test ↔ EachIndex set (λ place. slice_index set place ≤ 1))
    → test ≡ list_all (λ life. nat_le life 1) set
all_lives_are_first_lives set true says = sym (from_each set (says.0 refl))
all_lives_are_first_lives set false says = false_of (list_all (λ life. nat_le life 1) set) (λ all. says.1 (to_each set all))
