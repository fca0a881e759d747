-- What a text of digits is read as.
use Rattle.std.proofs.Common.{◌≡◌, ℕ, ◌<◌, ◌≤◌, List, length, true, false, None, Result, Ok, Err, refl, arith, rules}
use Rattle.std.specs.List.{list_all}
use Rattle.std.specs.Char.{is_ascii_digit}
use Rattle.std.specs.Result.{result_ok}
use Rattle.std.specs.Str.Parse.{ParsesUnsigned, digits_value}
use Rattle.std.proofs.lemmas.Str.Parse.{IsNumeralModel, numerals_by_value, parse_digits}
use Rattle.std.proofs.lemmas.Bool.Decides.{nat_tests}
use Rattle.am_cli_words.specs.Forms.{seed_of}

own : IsNumeralModel (λ ds. list_all is_ascii_digit ds ≡ true) (digits_value 10)
own = numerals_by_value _ (search rules)

pub number_parsed_is_number_of : {E : Type 0} → (text : List ℕ) (r : Result ℕ E) → ParsesUnsigned 64 10 text r → length text ≤ 20 → list_all is_ascii_digit text ≡ true
    → result_ok r ≡ seed_of text
unfolding seed_of
number_parsed_is_number_of {E = E} text (Ok x) h few all =
    let p = parse_digits own {E = E} 64 text (Ok x) h all in
    grind (arith, nat_tests)
number_parsed_is_number_of {E = E} text (Err e) h few all =
    let p = parse_digits own {E = E} 64 text (Err e) h all in
    grind (arith, nat_tests)

pub number_of_too_long_text : (text : List ℕ) → 20 < length text → None ≡ seed_of text
unfolding seed_of
number_of_too_long_text text long = grind (arith, nat_tests)

pub number_of_text_without_digits : (text : List ℕ) → list_all is_ascii_digit text ≡ false → None ≡ seed_of text
unfolding seed_of
number_of_text_without_digits text other = rw other refl
