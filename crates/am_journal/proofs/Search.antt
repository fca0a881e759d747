-- The letters for a name, one after the other.
use Rattle.std.proofs.Common.{◌≡◌, ℕ, zero, suc, ◌+◌, ◌≤◌, true, false, List, [], ◌∷◌, length, drop, Option, Some, None, slice_get, refl, sym, ap, ◌∙◌, arith}
use Rattle.std.proofs.lemmas.List.{drop_all}
use Rattle.am_packet.specs.Boxes.{Letter}
use Rattle.am_group.specs.Journals.{letter_at}
use Rattle.am_group.specs.Addressed.{is_for, first_for, next_for}

letter_next : (letters : List Letter) (n : ℕ) → letter_at letters (n + 1) ≡ slice_get letters n
letter_next letters n = let e : n + 1 ≡ suc n = omega arith in ap (letter_at letters) e

rest_none : (letters : List Letter) (n : ℕ) → slice_get letters n ≡ None → drop n letters ≡ []
rest_none [] zero h = refl
rest_none [] (suc n) h = refl
rest_none (l ∷ ls) zero h = absurd cc
rest_none (l ∷ ls) (suc n) h = rest_none ls n h

rest_some : (letters : List Letter) (n : ℕ) (letter : Letter) → slice_get letters n ≡ Some letter → drop n letters ≡ letter ∷ drop (n + 1) letters
rest_some [] n letter h = absurd cc
rest_some (l ∷ ls) zero letter h = let same : l ≡ letter = cc in ap (λ x. x ∷ ls) same
rest_some (l ∷ ls) (suc n) letter h = let e : suc n + 1 ≡ suc (n + 1) = omega arith in rest_some ls n letter h ∙ ap (λ k. letter ∷ drop k (l ∷ ls)) (sym e)

pub search_begins_after_number : (letters : List Letter) (name after : ℕ) → first_for (drop after letters) (after + 1) name ≡ next_for letters name after
unfolding next_for
search_begins_after_number letters name after = refl

-- there is no such letter
pub search_finds_none_past_last : (letters : List Letter) (name n : ℕ) (all : Option ℕ) → letter_at letters (n + 1) ≡ None → first_for (drop n letters) (n + 1) name ≡ all
    → None ≡ all
search_finds_none_past_last letters name n all h so_far = ap (λ ls. first_for ls (n + 1) name) (sym (rest_none letters n (sym (letter_next letters n) ∙ h))) ∙ so_far

-- a letter that is for the name, or isn't
pub search_finds_letter_for_name : (letters : List Letter) (name n : ℕ) (letter : Letter) (all : Option ℕ) → letter_at letters (n + 1) ≡ Some letter → is_for letter name ≡ true
    → first_for (drop n letters) (n + 1) name ≡ all → Some (n + 1) ≡ all
search_finds_letter_for_name letters name n letter all h is so_far =
    let here : first_for (letter ∷ drop (n + 1) letters) (n + 1) name ≡ Some (n + 1) = rw is refl in
    sym here ∙ ap (λ ls. first_for ls (n + 1) name) (sym (rest_some letters n letter (sym (letter_next letters n) ∙ h))) ∙ so_far

pub search_passes_other_letter : (letters : List Letter) (name n : ℕ) (letter : Letter) (all : Option ℕ) → letter_at letters (n + 1) ≡ Some letter
    → is_for letter name ≡ false → first_for (drop n letters) (n + 1) name ≡ all → first_for (drop (n + 1) letters) (n + 1 + 1) name ≡ all
search_passes_other_letter letters name n letter all h isnt so_far =
    let here : first_for (letter ∷ drop (n + 1) letters) (n + 1) name ≡ first_for (drop (n + 1) letters) (n + 1 + 1) name = rw isnt refl in
    sym here ∙ ap (λ ls. first_for ls (n + 1) name) (sym (rest_some letters n letter (sym (letter_next letters n) ∙ h))) ∙ so_far

-- no letter has so great a number
pub search_past_all_letters : (letters : List Letter) (name n : ℕ) (all : Option ℕ) → length letters ≤ n → first_for (drop n letters) (n + 1) name ≡ all → None ≡ all
search_past_all_letters letters name n all few so_far = ap (λ ls. first_for ls (n + 1) name) (sym (drop_all n letters few)) ∙ so_far
