-- What is read is what texts print.
use Rattle.std.proofs.Common.{◌≡◌, ℕ, ◌+◌, ◌*◌, ◌/◌, ◌%◌, ◌^◌, ◌<◌, ◌≤◌, List, [], ◌∷◌, ◌++◌, length, get_or, Bool, true, false, ◌&&◌, ◌⊎◌, inl, inr, ◌==◌}
use Rattle.std.proofs.Common.{nat_le, nat_lt, if◌then◌else◌, lit<, refl, sym, ap, ap₂, ◌∙◌, arith}
use Rattle.std.proofs.Common.{Option, Some, None, Result, Ok, Err}
use Rattle.std.specs.Prelude.{codes, decimal}
use Rattle.std.specs.List.{list_all, flat_map}
use Rattle.std.specs.Char.{is_ascii_digit}
use Rattle.std.specs.Cmp.Lexicographic.{same_text}
use Rattle.std.specs.Str.Parse.{digits_value}
use Rattle.std.specs.Fmt.{digit_glyph}
use Rattle.std.proofs.lemmas.Fmt.{decimal-digits_value}
use Rattle.std.proofs.lemmas.Bool.Decides.{nat_tests}
use Rattle.am_base.specs.Names.{place_of_name, life_of_name, name_of_place_and_life}
use Rattle.am_text_defs.specs.declared.fault.FieldFault.{FieldFault}
use Rattle.am_text_defs.specs.declared.fault.FieldFault.TheVariants.{Form, Limit}
use Rattle.am_text_defs.specs.Fields.{cut_of, onto_cut, and_then, is_numeral, number_up_to, life_of_word, name_with, name_in_text, is_pair_digit, digit_value}
use Rattle.am_text_defs.specs.Fields.{are_pairs, bytes_in, bytes_of, same}
use Rattle.am_group_defs.specs.Text.{name_text, hex_byte, body_text}
use Rattle.am_text_laws.proofs.Printed.{decimal_is_numeral_model}

-- ---- numbers

none_left : (xs : List ℕ) → length xs ≡ 0 → xs ≡ []
none_left [] is = refl
none_left (x ∷ xs) is = absurd (omega arith)

digits_by : (b : Bool) (c : ℕ) (cs : List ℕ) → (c == 48) ≡ b → (if b then length (c ∷ cs) == 1 else list_all is_ascii_digit (c ∷ cs)) ≡ true
    → list_all is_ascii_digit (c ∷ cs) ≡ true
digits_by true c cs is h =
    let nought : c ≡ 48 = grind (arith, nat_tests) in
    let alone : length cs ≡ 0 = grind (arith, nat_tests) in
    ap₂ (λ (x : ℕ) (xs : List ℕ). list_all is_ascii_digit (x ∷ xs)) nought (none_left cs alone)
digits_by false c cs is h = h

numeral_digits : (word : List ℕ) → is_numeral word ≡ true → list_all is_ascii_digit word ≡ true
numeral_digits [] is = refl
numeral_digits (c ∷ cs) is = digits_by (c == 48) c cs refl (by_length (c ∷ cs) (if c == 48 then length (c ∷ cs) == 1 else list_all is_ascii_digit
    (c ∷ cs)) (omega arith) is)
  where
    by_length : (xs : List ℕ) (b : Bool) → 0 < length xs → (if length xs == 0 then false else b) ≡ true → b ≡ true
    by_length xs b some h = let other : (length xs == 0) ≡ false = grind (arith, nat_tests) in rw other at h

numeral_some : (word : List ℕ) → is_numeral word ≡ true → 0 < length word
numeral_some [] is = cc
numeral_some (c ∷ cs) is = omega arith

numeral_leads : (word : List ℕ) → is_numeral word ≡ true → get_or word 0 0 ≡ 48 → length word ≡ 1
numeral_leads word is nought = grind (arith, nat_tests)

number_parts : (b c : Bool) (v n : ℕ) → (if b then (if c then Ok v else Err Limit) else Err Form) ≡ Ok n → (b ≡ true) × (c ≡ true) × (v ≡ n)
number_parts true true v n is = (refl, refl, cc)
number_parts true false v n is = cc
number_parts false c v n is = cc

-- a number that is read is printed so
pub number_up_to_gives_decimal : (most n : ℕ) (word : List ℕ) → most < 2 ^ 64 → number_up_to most word ≡ Ok n → (decimal n ≡ word) × (n ≤ most)
unfolding number_up_to
number_up_to_gives_decimal most n word low is =
    let parts = number_parts (is_numeral word) (nat_le (digits_value 10 word) most) (digits_value 10 word) n is in
    let within : digits_value 10 word ≤ most = let h = parts.1 in grind (arith, nat_tests) in (
      ap decimal (sym parts.2) ∙ decimal-digits_value decimal_is_numeral_model word (numeral_digits word parts.0) (numeral_some word parts.0) (numeral_leads word parts.0)
          (omega arith),
      let same = parts.2 in omega arith,
    )

-- ---- names

pub and_then_ok_gives_parts : {A B : Type 0} (r : Result A FieldFault) (k : A → Result B FieldFault) (y : B) → and_then r k ≡ Ok y → (x : A) × (r ≡ Ok x) × (k x ≡ Ok y)
and_then_ok_gives_parts (Ok x) k y is = (x, refl, is)
and_then_ok_gives_parts (Err fault) k y is = cc

joined : ℕ → List ℕ → Option (List ℕ) → List ℕ
joined separator first None = first
joined separator first (Some rest) = first ++ separator ∷ rest

joined_on : (separator x : ℕ) (first : List ℕ) (rest : Option (List ℕ)) → joined separator (x ∷ first) rest ≡ x ∷ joined separator first rest
unfolding joined
joined_on separator x first None = refl
joined_on separator x first (Some rest) = refl

join_by : (b : Bool) (separator x : ℕ) (xs : List ℕ) → (x == separator) ≡ b → xs ≡ joined separator (cut_of separator xs).0 (cut_of separator xs).1
    → x ∷ xs ≡ joined separator (if b then ([], Some xs) else onto_cut x (cut_of separator xs)).0 (if b then ([], Some xs) else onto_cut x
    (cut_of separator xs)).1
unfolding joined
join_by true separator x xs is whole = let same : x ≡ separator = grind (arith, nat_tests) in ap (λ (c : ℕ). c ∷ xs) same
join_by false separator x xs is whole = ap (λ (ys : List ℕ). x ∷ ys) whole ∙ sym (joined_on separator x (cut_of separator xs).0 (cut_of separator xs).1)

cut_whole : (separator : ℕ) (xs : List ℕ) → xs ≡ joined separator (cut_of separator xs).0 (cut_of separator xs).1
unfolding joined
cut_whole separator [] = refl
cut_whole separator (x ∷ xs) = join_by (x == separator) separator x xs refl (cut_whole separator xs)

first_text : (place : ℕ) → place ≤ 15 → name_text (name_of_place_and_life place 1) ≡ decimal place
unfolding name_text
first_text place low =
    let one : (life_of_name (name_of_place_and_life place 1) == 1) ≡ true = grind (arith, nat_tests) in
    let its : place_of_name (name_of_place_and_life place 1) ≡ place = omega arith in
    rw one (ap decimal its)

later_text : (place life : ℕ) → place ≤ 15 → 2 ≤ life → life ≤ 16 → name_text (name_of_place_and_life place life) ≡ decimal place ++ 47 ∷ decimal life
unfolding name_text
later_text place life low later most =
    let its : place_of_name (name_of_place_and_life place life) ≡ place = omega arith in
    let own : life_of_name (name_of_place_and_life place life) ≡ life = omega arith in
    let other : (life_of_name (name_of_place_and_life place life) == 1) ≡ false = grind (arith, nat_tests) in
    rw other (ap₂ (λ (p l : ℕ). decimal p ++ 47 ∷ decimal l) its own)

life_by : (b : Bool) (life n : ℕ) → nat_lt life 2 ≡ b → (if b then Err Limit else Ok life) ≡ Ok n → (2 ≤ life) × (life ≡ n)
life_by true life n is h = cc
life_by false life n is h = (grind (arith, nat_tests), cc)

name_with_is : (first word : List ℕ) (rest : Option (List ℕ)) (place name : ℕ) → word ≡ joined 47 first rest → decimal place ≡ first → place ≤ 15
    → name_with place rest ≡ Ok name → (name_text name ≡ word) × (name < 256)
unfolding joined
name_with_is first word None place name whole same low is =
    let its : name_of_place_and_life place 1 ≡ name = cc in
    (ap name_text (sym its) ∙ first_text place low ∙ same ∙ sym whole, omega arith)
name_with_is first word (Some rest) place name whole same low is =
    let outer = and_then_ok_gives_parts (life_of_word rest) (λ n. Ok (name_of_place_and_life place n)) name is in
    let inner = and_then_ok_gives_parts (number_up_to 16 rest) (λ life. if nat_lt life 2 then Err Limit else Ok life) outer.0 outer.1 in
    let read = number_up_to_gives_decimal 16 inner.0 rest (lit< tt) inner.1 in
    let fits = life_by (nat_lt inner.0 2) inner.0 outer.0 refl inner.2 in
    let made : Ok (name_of_place_and_life place outer.0) ≡ Ok name = outer.2 in
    let its : name_of_place_and_life place outer.0 ≡ name = cc in
    let life : inner.0 ≡ outer.0 = fits.1 in
    let later : 2 ≤ outer.0 = let h = fits.0 in omega arith in
    let most : outer.0 ≤ 16 = let h = read.1 in omega arith in (
      ap name_text (sym its) ∙ later_text place outer.0 low later most
          ∙ ap₂ (λ (xs ys : List ℕ). xs ++ 47 ∷ ys) same (ap decimal (sym life) ∙ read.0) ∙ sym whole,
      omega arith,
    )

-- a name that is read is printed so
pub name_of_gives_name_text : (word : List ℕ) (name : ℕ) → name_in_text word ≡ Ok name → (name_text name ≡ word) × (name < 256)
unfolding name_in_text
name_of_gives_name_text word name is =
    let parts = and_then_ok_gives_parts (number_up_to 15 (cut_of 47 word).0) (λ place. name_with place (cut_of 47 word).1) name is in
    let read = number_up_to_gives_decimal 15 parts.0 (cut_of 47 word).0 (lit< tt) parts.1 in
    name_with_is (cut_of 47 word).0 word (cut_of 47 word).1 parts.0 name (cut_whole 47 word) read.0 read.1 parts.2

-- ---- bytes

glyph_of : (c : ℕ) → is_pair_digit c ≡ true → digit_glyph false (digit_value c) ≡ c
glyph_of c is = grind (arith, nat_tests)

value_low : (c : ℕ) → is_pair_digit c ≡ true → digit_value c < 16
value_low c is = grind (arith, nat_tests)

both_true : (a b : Bool) → (a && b) ≡ true → (a ≡ true) × (b ≡ true)
both_true true b is = (refl, is)
both_true false b is = cc

hex_whole : (word : List ℕ) → length word % 2 ≡ 0 → list_all is_pair_digit word ≡ true → flat_map hex_byte (bytes_in word) ≡ word
unfolding bytes_in
hex_whole [] even all = refl
hex_whole (digit ∷ []) even all = absurd (omega arith)
hex_whole (high ∷ low ∷ rest) even all =
    let one = both_true (is_pair_digit high) (is_pair_digit low && list_all is_pair_digit rest) all in
    let two = both_true (is_pair_digit low) (list_all is_pair_digit rest) one.1 in
    let h = value_low high one.0 in
    let l = value_low low two.0 in
    let first : (16 * digit_value high + digit_value low) / 16 ≡ digit_value high = omega (arith, h, l) in
    let second : (16 * digit_value high + digit_value low) % 16 ≡ digit_value low = omega (arith, h, l) in
    ap₂ (λ (x y : ℕ). digit_glyph false x ∷ digit_glyph false y ∷ flat_map hex_byte (bytes_in rest)) first second
    ∙ ap₂ (λ (x y : ℕ). x ∷ y ∷ flat_map hex_byte (bytes_in rest)) (glyph_of high one.0) (glyph_of low two.0)
    ∙ ap (λ (xs : List ℕ). high ∷ low ∷ xs) (hex_whole rest (omega arith) two.1)

bytes_length : (word : List ℕ) → length word % 2 ≡ 0 → 2 * length (bytes_in word) ≡ length word
unfolding bytes_in
bytes_length [] even = refl
bytes_length (digit ∷ []) even = absurd (omega arith)
bytes_length (high ∷ low ∷ rest) even = let more = bytes_length rest (omega arith) in omega arith

body_some : (bytes : List ℕ) → 0 < length bytes → body_text bytes ≡ flat_map hex_byte bytes
unfolding body_text
body_some [] some = absurd (omega arith)
body_some (b ∷ bs) some = refl

bytes_parts : (a b c : Bool) (xs bytes : List ℕ) → (if a then Ok [] else if b then (if c then Ok xs else Err Limit) else Err Form) ≡ Ok bytes
    → ((a ≡ true) × ([] ≡ bytes)) ⊎ ((a ≡ false) × (b ≡ true) × (c ≡ true) × (xs ≡ bytes))
bytes_parts true b c xs bytes is = inl (refl, cc)
bytes_parts false true true xs bytes is = inr (refl, refl, refl, cc)
bytes_parts false true false xs bytes is = cc
bytes_parts false false c xs bytes is = cc

none_text : body_text [] ≡ codes "-"
unfolding body_text
none_text = refl

-- bytes that are read are printed so
pub bytes_of_gives_body_text : (most : ℕ) (word bytes : List ℕ) → bytes_of most word ≡ Ok bytes → (body_text bytes ≡ word) × (length bytes ≤ most)
unfolding bytes_of
bytes_of_gives_body_text most word bytes is =
    elim (bytes_parts (same word (codes "-")) (are_pairs word) (nat_le (length word / 2) most) (bytes_in word) bytes is) [
      | inl h ↦ (ap body_text (sym h.1) ∙ none_text ∙ sym (same_text word (codes "-") (sym h.0)), let few = ap length h.1 in omega (arith, few))
      | inr h ↦
          let pairs = h.1 in
          let within = h.2 in
          let even : length word % 2 ≡ 0 = grind (arith, nat_tests) in
          let all : list_all is_pair_digit word ≡ true = grind (arith, nat_tests) in
          let some : 0 < length word = grind (arith, nat_tests) in
          let few : length word / 2 ≤ most = grind (arith, nat_tests) in
          let long = bytes_length word even in
          (ap body_text (sym h.3) ∙ body_some (bytes_in word) (omega arith) ∙ hex_whole word even all, omega (arith, ap length h.3))
    ]
