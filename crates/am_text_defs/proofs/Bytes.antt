-- Bytes pair by pair.
use Rattle.std.proofs.Common.{◌≡◌, ℕ, ◌+◌, ◌*◌, ◌/◌, ◌%◌, ◌<◌, ◌≤◌, List, [], ◌∷◌, length, drop, get_or, true, false, Ok, ap, ◌∙◌, arith}
use Rattle.std.proofs.lemmas.List.{drop_more, drop_all}
use Rattle.std.proofs.lemmas.Bool.Decides.{nat_tests}
use Rattle.std.specs.Prelude.{codes}
use Rattle.am_text_defs.specs.Fields.{same, digit_value, are_pairs, bytes_in, bytes_of}

-- the byte of two digits
abbrev pair_at : List ℕ → ℕ → ℕ
pair_at word i = 16 * digit_value (get_or word (2 * i) 0) + digit_value (get_or word (2 * i + 1) 0)

pub bytes_in_with_next_pair : (word : List ℕ) (i : ℕ) → 2 * i + 1 < length word → bytes_in (drop (2 * i) word) ≡ pair_at word i ∷ bytes_in (drop (2 * (i + 1)) word)
unfolding bytes_in
bytes_in_with_next_pair word i within =
    let first = drop_more word (2 * i) 0 (omega arith) in
    let second = drop_more word (2 * i + 1) 0 within in
    let two : 2 * i + 1 + 1 ≡ 2 * (i + 1) = omega arith in
    ap bytes_in (first ∙ ap (λ ds. get_or word (2 * i) 0 ∷ ds) (second ∙ ap (λ (n : ℕ). get_or word (2 * i + 1) 0 ∷ drop n word) two))

pub bytes_in_past_last_pair : (word : List ℕ) (i : ℕ) → length word ≤ 2 * i → bytes_in (drop (2 * i) word) ≡ []
unfolding bytes_in
bytes_in_past_last_pair word i over = ap bytes_in (drop_all (2 * i) word over)

pub bytes_of_is_bytes_in : (most : ℕ) (word : List ℕ) → same word (codes "-") ≡ false → are_pairs word ≡ true → length word / 2 ≤ most → bytes_of most word ≡ Ok (bytes_in word)
unfolding bytes_of
bytes_of_is_bytes_in most word other pairs few = rw (other, pairs) (grind (arith, nat_tests))

pub pairs_have_even_length : (word : List ℕ) → are_pairs word ≡ true → length word % 2 ≡ 0
pairs_have_even_length word pairs = grind (arith, nat_tests)
