-- Numbers digit by digit.
use Rattle.std.proofs.Common.{◌≡◌, ℕ, zero, suc, [], ◌∷◌, ◌+◌, ◌-◌, ◌*◌, ◌<◌, List, length, take, get_or, true, min, refl, sym, ap, ◌∙◌, arith}
use Rattle.std.specs.Char.{is_ascii_digit, digit_value}
use Rattle.std.specs.Str.Parse.{digits_value}
use Rattle.std.proofs.lemmas.Bool.Decides.{nat_tests}
use Rattle.std.proofs.lemmas.List.Folds.{list_all_at}
use Rattle.std.proofs.lemmas.Int.Digits.{digits_value_more}
use Rattle.am_text_defs.specs.Fields.{is_numeral, capped_value}

digit_is : (c : ℕ) → is_ascii_digit c ≡ true → digit_value c ≡ c - 48
digit_is c is = grind (arith, nat_tests)

capped : (value old new most d : ℕ) → new ≡ old * 10 + d → value ≡ min old (most + 1) → min (10 * value + d) (most + 1) ≡ min new (most + 1)
capped value old new most d is before = omega arith

pub capped_value_with_next_digit : (most value : ℕ) (word : List ℕ) (i c : ℕ) → i < length word → c ≡ get_or word i 0 → is_ascii_digit c ≡ true
    → value ≡ capped_value most (take i word)
    → min (10 * value + (c - 48)) (most + 1) ≡ capped_value most (take (i + 1) word)
capped_value_with_next_digit most value word i c within is digit before =
    capped value (digits_value 10 (take i word)) (digits_value 10 (take (i + 1) word)) most (c - 48)
    (digits_value_more 10 word i within ∙ ap (λ (d : ℕ). digits_value 10 (take i word) * 10 + digit_value d) (sym is)
    ∙ ap (λ (d : ℕ). digits_value 10 (take i word) * 10 + d) (digit_is c digit)) before

one_digit : (word : List ℕ) (i : ℕ) → get_or word 0 0 ≡ 48 → length word ≡ 1 → i < length word → is_ascii_digit (get_or word i 0) ≡ true
one_digit [] i is one within = absurd (omega arith)
one_digit (c ∷ cs) zero is one within = rw is refl
one_digit (c ∷ cs) (suc i) is one within = absurd (omega arith)

-- each byte of a numeral is a digit
pub digit_of_numeral_at : (word : List ℕ) (i : ℕ) → is_numeral word ≡ true → i < length word → is_ascii_digit (get_or word i 0) ≡ true
digit_of_numeral_at word i numeral within = grind (arith, nat_tests, one_digit word i, list_all_at is_ascii_digit word i 0 within)
