-- What texts print has no blank, no newline and no mark in it, and a stamp and a body are read as they are printed.
use Rattle.std.proofs.Common.{◌≡◌, ℕ, zero, suc, ◌/◌, ◌%◌, ◌<◌, ◌≤◌, List, [], ◌∷◌, ◌++◌, length, get_or, Bool, true, false, not, ◌&&◌, ◌==◌}
use Rattle.std.proofs.Common.{cond, lit<, refl, ap, ◌∙◌, arith, Some, None, Ok}
use Rattle.std.specs.Prelude.{codes, decimal}
use Rattle.std.specs.List.{list_all, flat_map}
use Rattle.std.specs.Fmt.{digit_glyph, digits, digits_onto}
use Rattle.std.specs.Int.{IsInRange}
use Rattle.std.proofs.lemmas.List.Folds.{list_all-append}
use Rattle.std.proofs.lemmas.Bool.Decides.{nat_tests}
use Rattle.am_base.specs.Most.{greatest_number}
use Rattle.am_base.specs.Names.{place_of_name, life_of_name, names_of}
use Rattle.am_base.specs.declared.name.Stamp.{Stamp}
use Rattle.am_packet.specs.Laws.{IsBytes}
use Rattle.am_text_defs.specs.Fields.{cut_of, onto_cut, stamp_in_text, bytes_of}
use Rattle.am_text_defs.proofs.Cuts.{cut_of_other_first_byte}
use Rattle.am_group_defs.specs.Text.{name_text, stamp_text, list_text, names_text, hex_byte, body_text}
use Rattle.am_text_laws.proofs.Printed.{number_up_to_decimal, name_of_name_text, decimal_lacks_other_byte, cut_of_at_separator, bytes_of_hex_text}

-- ---- bytes of words, and of what is between marks

-- no blank, no newline, no colon, no bar
abbrev pub byte_is_of_word : ℕ → Bool
byte_is_of_word c = not (c == 32) && (not (c == 10) && (not (c == 58) && not (c == 124)))

abbrev pub TextIsWord : List ℕ → Type 0
TextIsWord text = list_all byte_is_of_word text ≡ true

-- no newline, no colon, no bar
abbrev pub byte_is_plain : ℕ → Bool
byte_is_plain c = not (c == 10) && (not (c == 58) && not (c == 124))

abbrev pub TextIsPlain : List ℕ → Type 0
TextIsPlain text = list_all byte_is_plain text ≡ true

pub and_true_gives_both : (a b : Bool) → (a && b) ≡ true → (a ≡ true) × (b ≡ true)
and_true_gives_both true b is = (refl, is)
and_true_gives_both false b is = cc

and_both : (a b : Bool) → a ≡ true → b ≡ true → (a && b) ≡ true
and_both a b h k = ap (λ c. c && b) h ∙ k

pub list_all_of_append : (p : ℕ → Bool) (xs ys : List ℕ) → list_all p xs ≡ true → list_all p ys ≡ true → list_all p (xs ++ ys) ≡ true
list_all_of_append p xs ys h k = list_all-append p xs ys ∙ and_both (list_all p xs) (list_all p ys) h k

pub list_all_of_weaker_test : (p q : ℕ → Bool) (xs : List ℕ) → ((c : ℕ) → p c ≡ true → q c ≡ true) → list_all p xs ≡ true → list_all q xs ≡ true
list_all_of_weaker_test p q [] h is = refl
list_all_of_weaker_test p q (x ∷ xs) h is =
    let parts = and_true_gives_both (p x) (list_all p xs) is in
    and_both (q x) (list_all q xs) (h x parts.0) (list_all_of_weaker_test p q xs h parts.1)

pub word_is_plain_text : (text : List ℕ) → TextIsWord text → TextIsPlain text
word_is_plain_text text is = list_all_of_weaker_test byte_is_of_word byte_is_plain text (λ c h. (and_true_gives_both (not (c == 32)) (byte_is_plain c) h).1) is

words : (xs ys : List ℕ) → TextIsWord xs → TextIsWord ys → TextIsWord (xs ++ ys)
words xs ys h k = list_all_of_append byte_is_of_word xs ys h k

pub appended_plain_texts_are_plain : (xs ys : List ℕ) → TextIsPlain xs → TextIsPlain ys → TextIsPlain (xs ++ ys)
appended_plain_texts_are_plain xs ys h k = list_all_of_append byte_is_plain xs ys h k

-- ---- numbers

glyph_word : (d : ℕ) → d < 16 → byte_is_of_word (digit_glyph false d) ≡ true
glyph_word d low = grind (arith, nat_tests)

onto_by : (b : Bool) (g : ℕ) (acc more : List ℕ) → byte_is_of_word g ≡ true → TextIsWord acc → TextIsWord more → TextIsWord (cond b (g ∷ acc) more)
onto_by true g acc more h k l = and_both (byte_is_of_word g) (list_all byte_is_of_word acc) h k
onto_by false g acc more h k l = l

digits_word : (k n : ℕ) (acc : List ℕ) → TextIsWord acc → TextIsWord (digits_onto k 10 false n acc)
digits_word zero n acc h = h
digits_word (suc k) n acc h =
    let g = glyph_word (n % 10) (omega arith) in
    onto_by (n / 10 == 0) (digit_glyph false (n % 10)) acc _ g h
    (digits_word k (n / 10) (digit_glyph false (n % 10) ∷ acc) (and_both (byte_is_of_word (digit_glyph false (n % 10))) (list_all byte_is_of_word acc) g h))

pub decimal_is_word : (n : ℕ) → TextIsWord (decimal n)
unfolding digits
decimal_is_word n = digits_word 64 n [] refl

-- ---- names

name_by : (b : Bool) (place life : ℕ) → TextIsWord (cond b (decimal place) (decimal place ++ (codes "/" ++ decimal life)))
name_by true place life = decimal_is_word place
name_by false place life = words (decimal place) (codes "/" ++ decimal life) (decimal_is_word place) (words (codes "/") (decimal life) refl (decimal_is_word life))

pub name_text_is_word : (name : ℕ) → TextIsWord (name_text name)
unfolding name_text
name_text_is_word name = name_by (life_of_name name == 1) (place_of_name name) (life_of_name name)

pub stamp_text_is_word : (stamp : Stamp) → TextIsWord (stamp_text stamp)
unfolding stamp_text
stamp_text_is_word stamp = words (decimal stamp.round) (codes "." ++ name_text stamp.by) (decimal_is_word stamp.round)
    (words (codes ".") (name_text stamp.by) refl (name_text_is_word stamp.by))

others_word : (names : List ℕ) → TextIsWord (flat_map (λ name. codes "," ++ name_text name) names)
others_word [] = refl
others_word (name ∷ names) =
    words (codes "," ++ name_text name) (flat_map (λ n. codes "," ++ name_text n) names) (words (codes ",") (name_text name) refl (name_text_is_word name))
    (others_word names)

list_word : (names : List ℕ) → TextIsWord (list_text names)
list_word [] = refl
list_word (name ∷ names) = words (name_text name) (flat_map (λ n. codes "," ++ name_text n) names) (name_text_is_word name) (others_word names)

pub names_text_is_word : (set : List ℕ) → TextIsWord (names_text set)
unfolding names_text
names_text_is_word set = list_word (names_of set)

-- ---- bytes

pub hex_text_is_word : (bytes : List ℕ) → ((i : ℕ) → get_or bytes i 0 < 256) → TextIsWord (flat_map hex_byte bytes)
hex_text_is_word [] low = refl
hex_text_is_word (b ∷ bs) low =
    let here = low 0 in
    words (hex_byte b) (flat_map hex_byte bs)
    (and_both (byte_is_of_word (digit_glyph false (b / 16))) (byte_is_of_word (digit_glyph false (b % 16)) && true) (glyph_word (b / 16) (omega arith))
    (and_both (byte_is_of_word (digit_glyph false (b % 16))) true (glyph_word (b % 16) (omega arith)) refl))
    (hex_text_is_word bs (λ i. low (suc i)))

pub body_text_is_word : (body : List ℕ) → IsBytes body → TextIsWord (body_text body)
unfolding body_text
body_text_is_word [] low = refl
body_text_is_word (b ∷ bs) low = hex_text_is_word (b ∷ bs) low

-- ---- words in a text

not_blank : (c : ℕ) → byte_is_of_word c ≡ true → c ≡ 32 → ⊥
not_blank c is blank = grind (arith, nat_tests)

-- a word ends at a blank
pub cut_of_word_at_blank : (word rest : List ℕ) → TextIsWord word → cut_of 32 (word ++ 32 ∷ rest) ≡ (word, Some rest)
cut_of_word_at_blank [] rest is = refl
cut_of_word_at_blank (c ∷ cs) rest is =
    let parts = and_true_gives_both (byte_is_of_word c) (list_all byte_is_of_word cs) is in
    cut_of_other_first_byte 32 c (cs ++ 32 ∷ rest) (not_blank c parts.0) ∙ ap (onto_cut c) (cut_of_word_at_blank cs rest parts.1)

-- or with the text
pub cut_of_whole_word : (word : List ℕ) → TextIsWord word → cut_of 32 word ≡ (word, None)
cut_of_whole_word [] is = refl
cut_of_whole_word (c ∷ cs) is =
    let parts = and_true_gives_both (byte_is_of_word c) (list_all byte_is_of_word cs) is in
    cut_of_other_first_byte 32 c cs (not_blank c parts.0) ∙ ap (onto_cut c) (cut_of_whole_word cs parts.1)

-- ---- stamps and bodies

dot : IsInRange 48 57 46 → ⊥
dot is = omega arith

pub stamp_of_stamp_text : (stamp : Stamp) → stamp.round ≤ greatest_number → stamp.by < 256 → stamp_in_text (stamp_text stamp) ≡ Ok stamp
unfolding stamp_in_text stamp_text
stamp_of_stamp_text stamp round by =
    rw (
      cut_of_at_separator 46 (decimal stamp.round) (name_text stamp.by) (decimal_lacks_other_byte stamp.round 46 (omega arith) dot),
      number_up_to_decimal greatest_number stamp.round round (lit< tt),
      name_of_name_text stamp.by by,
    ) refl

pub bytes_of_body_text : (most : ℕ) (body : List ℕ) → IsBytes body → length body ≤ most → bytes_of most (body_text body) ≡ Ok body
unfolding bytes_of body_text
bytes_of_body_text most [] low few = refl
bytes_of_body_text most (b ∷ bs) low few = bytes_of_hex_text most (b ∷ bs) low (omega arith) few
