-- Where texts are cut.
use Rattle.std.proofs.Common.{◌≡◌, ℕ, zero, suc, ◌<◌, List, [], ◌∷◌, length, take, drop, get_or, Option, Some, None, Bool, true, false, cond, ◌==◌, refl, ap, ◌∙◌}
use Rattle.std.proofs.Common.{arith}
use Rattle.std.specs.List.{onto_first}
use Rattle.std.proofs.lemmas.Bool.Decides.{nat_tests}
use Rattle.am_text_defs.specs.Fields.{cut_of, onto_cut, split_text}

pub cut_of_leading_separator : (separator x : ℕ) (xs : List ℕ) → x ≡ separator → cut_of separator (x ∷ xs) ≡ ([], Some xs)
cut_of_leading_separator separator x xs is = let yes : (x == separator) ≡ true = grind (arith, nat_tests) in rw yes refl

pub cut_of_other_first_byte : (separator x : ℕ) (xs : List ℕ) → (x ≡ separator → ⊥) → cut_of separator (x ∷ xs) ≡ onto_cut x (cut_of separator xs)
cut_of_other_first_byte separator x xs other = let no : (x == separator) ≡ false = grind (arith, nat_tests) in rw no refl

pub cut_of_at_first_separator : (separator : ℕ) (xs : List ℕ) (i : ℕ) → ((k : ℕ) → k < i → get_or xs k 0 ≡ separator → ⊥) → i < length xs → get_or xs i 0 ≡ separator
    → cut_of separator xs ≡ (take i xs, Some (drop (suc i) xs))
cut_of_at_first_separator separator [] i before within at = absurd (omega arith)
cut_of_at_first_separator separator (x ∷ xs) zero before within at = cut_of_leading_separator separator x xs at
cut_of_at_first_separator separator (x ∷ xs) (suc i) before within at =
    cut_of_other_first_byte separator x xs (before 0 (omega arith))
    ∙ ap (onto_cut x) (cut_of_at_first_separator separator xs i (λ k h. before (suc k) (omega arith)) (omega arith) at)

pub cut_of_without_separator : (separator : ℕ) (xs : List ℕ) → ((k : ℕ) → k < length xs → get_or xs k 0 ≡ separator → ⊥) → cut_of separator xs ≡ (xs, None)
cut_of_without_separator separator [] before = refl
cut_of_without_separator separator (x ∷ xs) before =
    cut_of_other_first_byte separator x xs (before 0 (omega arith))
    ∙ ap (onto_cut x) (cut_of_without_separator separator xs (λ k h. before (suc k) (omega arith)))

-- the parts after the first
abbrev pub parts_of_rest_of_cut : ℕ → Option (List ℕ) → List (List ℕ)
parts_of_rest_of_cut separator None = []
parts_of_rest_of_cut separator (Some rest) = split_text separator rest

begin_by : (separator : ℕ) (b : Bool) (x : ℕ) (xs : List ℕ) (cut : List ℕ × Option (List ℕ)) → split_text separator xs ≡ cut.0 ∷ parts_of_rest_of_cut separator cut.1
    → cond b ([] ∷ split_text separator xs) (onto_first x (split_text separator xs))
    ≡ (cond b ([], Some xs) (onto_cut x cut)).0 ∷ parts_of_rest_of_cut separator (cond b ([], Some xs) (onto_cut x cut)).1
begin_by separator true x xs cut h = refl
begin_by separator false x xs cut h = ap (onto_first x) h

-- the parts of a text begin with the first
pub parts_of_by_first_cut : (separator : ℕ) (text : List ℕ) → split_text separator text ≡ (cut_of separator text).0 ∷ parts_of_rest_of_cut separator (cut_of separator text).1
parts_of_by_first_cut separator [] = refl
parts_of_by_first_cut separator (x ∷ xs) = begin_by separator (x == separator) x xs (cut_of separator xs) (parts_of_by_first_cut separator xs)
