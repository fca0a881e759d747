-- What texts print is read again.
use Rattle.std.proofs.Common.{◌≡◌, ℕ, zero, suc, ◌+◌, ◌*◌, ◌/◌, ◌%◌, ◌^◌, ◌<◌, ◌≤◌, List, [], ◌∷◌, ◌++◌, length, get_or, Bool, true, false, ◌==◌, nat_le}
use Rattle.std.proofs.Common.{nat_lt, if◌then◌else◌, lit<, refl, sym, ap, ◌∙◌, arith, rules}
use Rattle.std.proofs.Common.{Option, Some, Result, Ok, Err, append-nil, append_assoc, length-append, map, replicate}
use Rattle.std.specs.Prelude.{codes, decimal, slice_set}
use Rattle.std.specs.List.{list_all, flat_map}
use Rattle.std.specs.Char.{is_ascii_digit}
use Rattle.std.specs.Int.{IsInRange}
use Rattle.std.specs.Str.Parse.{digits_value}
use Rattle.std.specs.Fmt.{digit_glyph}
use Rattle.std.proofs.lemmas.Str.Parse.{IsNumeralModel, numerals_by_value, not_in_digits}
use Rattle.std.proofs.lemmas.Fmt.{decimal_digit, decimal_nonempty, length-decimal-le, first_decimal, digits_decimal, digits_value-decimal}
use Rattle.std.proofs.lemmas.Bool.Decides.{nat_tests}
use Rattle.am_base.specs.Names.{place_of_name, life_of_name, name_of_place_and_life, names_from, with_name, empty_set_of_names, IsSetOfNames}
use Rattle.am_text_defs.specs.declared.fault.FieldFault.TheVariants.{Form}
use Rattle.am_text_defs.specs.declared.fault.FieldFault.{FieldFault}
use Rattle.am_text_defs.specs.Fields.{names_in_text, names_onto, split_text, cut_of, onto_cut, and_then, is_numeral, number_up_to, name_in_text, is_pair_digit}
use Rattle.am_text_defs.specs.Fields.{digit_value, are_pairs, bytes_in, bytes_of, same}
use Rattle.am_text_defs.proofs.Cuts.{cut_of_leading_separator, cut_of_other_first_byte, cut_of_without_separator, parts_of_rest_of_cut, parts_of_by_first_cut}
use Rattle.am_group_defs.specs.Text.{name_text, list_text, names_text, hex_byte}

-- ---- numbers

pub decimal_is_numeral_model : IsNumeralModel (λ ds. list_all is_ascii_digit ds ≡ true) (digits_value 10)
decimal_is_numeral_model = numerals_by_value _ (search rules)

numeral_by : (word : List ℕ) → 0 < length word → 48 < get_or word 0 0 → list_all is_ascii_digit word ≡ true → is_numeral word ≡ true
numeral_by word some first all = grind (arith, nat_tests)

decimal_numeral : (n : ℕ) → n < 2 ^ 64 → is_numeral (decimal n) ≡ true
decimal_numeral zero low = rw (decimal_digit 0 (lit< tt)) refl
decimal_numeral (suc n) low = numeral_by (decimal (suc n)) (decimal_nonempty (suc n) low) (first_decimal (suc n) (omega arith) low) (digits_decimal decimal_is_numeral_model
    (suc n) low)

pub number_up_to_decimal : (most n : ℕ) → n ≤ most → most < 2 ^ 64 → number_up_to most (decimal n) ≡ Ok n
unfolding number_up_to
number_up_to_decimal most n within low =
    let fits : n < 2 ^ 64 = omega arith in
    let few : nat_le n most ≡ true = grind (arith, nat_tests) in
    rw (decimal_numeral n fits, digits_value-decimal decimal_is_numeral_model n fits, few) refl

pub decimal_lacks_other_byte : (n c : ℕ) → n < 2 ^ 64 → (IsInRange 48 57 c → ⊥) → (i : ℕ) → i < length (decimal n) → get_or (decimal n) i 0 ≡ c → ⊥
decimal_lacks_other_byte n c low other i within is = not_in_digits decimal_is_numeral_model (decimal n) c (digits_decimal decimal_is_numeral_model n low) other i within is

pub cut_of_at_separator : (separator : ℕ) (xs rest : List ℕ) → ((i : ℕ) → i < length xs → get_or xs i 0 ≡ separator → ⊥)
    → cut_of separator (xs ++ separator ∷ rest) ≡ (xs, Some rest)
cut_of_at_separator separator [] rest none = cut_of_leading_separator separator separator rest refl
cut_of_at_separator separator (x ∷ xs) rest none =
    cut_of_other_first_byte separator x (xs ++ separator ∷ rest) (none 0 (omega arith))
    ∙ ap (onto_cut x) (cut_of_at_separator separator xs rest (λ i within. none (suc i) (omega arith)))

-- ---- names

slash : IsInRange 48 57 47 → ⊥
slash is = omega arith

first_again : (place : ℕ) → place ≤ 15 → name_in_text (decimal place) ≡ Ok (name_of_place_and_life place 1)
unfolding name_in_text
first_again place low =
    let fits : place < 2 ^ 64 = omega arith in
    rw (cut_of_without_separator 47 (decimal place) (decimal_lacks_other_byte place 47 fits slash), number_up_to_decimal 15 place low (lit< tt)) refl

later_again : (place life : ℕ) → place ≤ 15 → 2 ≤ life → life ≤ 16 → name_in_text (decimal place ++ (47 ∷ decimal life)) ≡ Ok (name_of_place_and_life place life)
unfolding name_in_text
later_again place life low later most =
    let fits : place < 2 ^ 64 = omega arith in
    let two : nat_lt life 2 ≡ false = grind (arith, nat_tests) in
    rw (
      cut_of_at_separator 47 (decimal place) (decimal life) (decimal_lacks_other_byte place 47 fits slash),
      number_up_to_decimal 15 place low (lit< tt),
      number_up_to_decimal 16 life most
          (lit< tt),
      two,
    ) refl

name_by : (b : Bool) (name : ℕ) → (life_of_name name == 1) ≡ b → name < 256 → name_in_text (name_text name) ≡ Ok name
unfolding name_text
name_by true name is low =
    let one : life_of_name name ≡ 1 = grind (arith, nat_tests) in
    let same : name_of_place_and_life (place_of_name name) 1 ≡ name = omega arith in
    rw is (first_again (place_of_name name) (omega arith) ∙ ap (λ (n : ℕ). Ok n) same)
name_by false name is low =
    let later : 2 ≤ life_of_name name = grind (arith, nat_tests) in
    let same : name_of_place_and_life (place_of_name name) (life_of_name name) ≡ name = omega arith in
    rw is (later_again (place_of_name name) (life_of_name name) (omega arith) later (omega arith) ∙ ap (λ (n : ℕ). Ok n) same)

-- a name as it is printed is read as that name
pub name_of_name_text : (name : ℕ) → name < 256 → name_in_text (name_text name) ≡ Ok name
name_of_name_text name low = name_by (life_of_name name == 1) name refl low

-- ---- bytes

glyph_digit : (d : ℕ) → d < 16 → is_pair_digit (digit_glyph false d) ≡ true
glyph_digit d low = grind (arith, nat_tests)

glyph_value : (d : ℕ) → d < 16 → digit_value (digit_glyph false d) ≡ d
glyph_value d low = grind (arith, nat_tests)

glyph_dash : (d : ℕ) → d < 16 → (digit_glyph false d == 45) ≡ false
glyph_dash d low = grind (arith, nat_tests)

abbrev AreBytes : List ℕ → Type 0
AreBytes bytes = (i : ℕ) → get_or bytes i 0 < 256

pairs_again : (bytes : List ℕ) → ((i : ℕ) → get_or bytes i 0 < 256) → list_all is_pair_digit (flat_map hex_byte bytes) ≡ true
pairs_again [] low = refl
pairs_again (b ∷ bs) low =
    let here = low 0 in
    rw (glyph_digit (b / 16) (omega arith), glyph_digit (b % 16) (omega arith)) (pairs_again bs (λ i. low (suc i)))

bytes_again : (bytes : List ℕ) → ((i : ℕ) → get_or bytes i 0 < 256) → bytes_in (flat_map hex_byte bytes) ≡ bytes
unfolding bytes_in
bytes_again [] low = refl
bytes_again (b ∷ bs) low =
    let here = low 0 in
    let whole : 16 * (b / 16) + b % 16 ≡ b = omega arith in
    rw (glyph_value (b / 16) (omega arith), glyph_value (b % 16) (omega arith), whole, bytes_again bs (λ i. low (suc i))) refl

pub length_of_hex_text : (bytes : List ℕ) → length (flat_map hex_byte bytes) ≡ 2 * length bytes
length_of_hex_text [] = refl
length_of_hex_text (b ∷ bs) = let more = length_of_hex_text bs in omega arith

-- bytes as they are printed are read as these bytes
pub bytes_of_hex_text : (most : ℕ) (bytes : List ℕ) → ((i : ℕ) → get_or bytes i 0 < 256) → 0 < length bytes → length bytes ≤ most
    → bytes_of most (flat_map hex_byte bytes) ≡ Ok bytes
unfolding bytes_of
bytes_of_hex_text most [] low some few = absurd (omega arith)
bytes_of_hex_text most (b ∷ bs) low some few =
    let here = low 0 in
    let long = length_of_hex_text (b ∷ bs) in
    let text = flat_map hex_byte (b ∷ bs) in
    let other : same text (codes "-") ≡ false = rw (glyph_dash (b / 16) (omega arith)) refl in
    let all = pairs_again (b ∷ bs) low in
    let pairs : are_pairs text ≡ true = grind (arith, nat_tests) in
    let within : nat_le (length text / 2) most ≡ true = grind (arith, nat_tests) in
    rw (other, pairs, within) (ap (λ (xs : List ℕ). Ok xs) (bytes_again (b ∷ bs) low))

-- ---- bytes that a text lacks

abbrev pub TextLacksByte : ℕ → List ℕ → Type 0
TextLacksByte c xs = (i : ℕ) → i < length xs → get_or xs i 0 ≡ c → ⊥

lacks_cons : (c x : ℕ) (xs : List ℕ) → (x ≡ c → ⊥) → ((i : ℕ) → i < length xs → get_or xs i 0 ≡ c → ⊥) → (i : ℕ) → i < length (x ∷ xs)
    → get_or (x ∷ xs) i 0 ≡ c → ⊥
lacks_cons c x xs other none zero within is = other is
lacks_cons c x xs other none (suc i) within is = none i (omega arith) is

pub appended_texts_lack_byte : (c : ℕ) (xs ys : List ℕ) → ((i : ℕ) → i < length xs → get_or xs i 0 ≡ c → ⊥) → ((i : ℕ) → i < length ys → get_or ys i 0 ≡ c → ⊥)
    → (i : ℕ) → i < length (xs ++ ys) → get_or (xs ++ ys) i 0 ≡ c → ⊥
appended_texts_lack_byte c [] ys none never i within is = never i within is
appended_texts_lack_byte c (x ∷ xs) ys none never zero within is = none 0 (omega arith) is
appended_texts_lack_byte c (x ∷ xs) ys none never (suc i) within is = appended_texts_lack_byte c xs ys (λ k h. none (suc k) (omega arith)) never i (omega arith) is

name_lacks_by : (b : Bool) (name c : ℕ) → (life_of_name name == 1) ≡ b → name < 256 → (IsInRange 48 57 c → ⊥) → (47 ≡ c → ⊥)
    → (i : ℕ) → i < length (name_text name) → get_or (name_text name) i 0 ≡ c → ⊥
unfolding name_text
name_lacks_by true name c is low digit other = rw is (decimal_lacks_other_byte (place_of_name name) c (omega arith) digit)
name_lacks_by false name c is low digit other =
    rw is (appended_texts_lack_byte c (decimal (place_of_name name)) (47 ∷ decimal (life_of_name name)) (decimal_lacks_other_byte (place_of_name name) c (omega arith) digit)
    (lacks_cons c 47 (decimal (life_of_name name)) other (decimal_lacks_other_byte (life_of_name name) c (omega arith) digit)))

pub name_text_lacks_other_byte : (name c : ℕ) → name < 256 → (IsInRange 48 57 c → ⊥) → (47 ≡ c → ⊥) → (i : ℕ) → i < length (name_text name)
    → get_or (name_text name) i 0 ≡ c → ⊥
name_text_lacks_other_byte name c low digit other = name_lacks_by (life_of_name name == 1) name c refl low digit other

-- ---- sets of names

-- each name is one of a byte
unfoldable pub AllAreNames : List ℕ → Type 0
AllAreNames [] = Unit {0}
AllAreNames (name ∷ names) = (name < 256) × AllAreNames names

comma : IsInRange 48 57 44 → ⊥
comma is = omega arith

-- the parts of a list's text are its names' texts
list_parts : (first : ℕ) (others : List ℕ) → first < 256 → AllAreNames others → split_text 44 (list_text (first ∷ others)) ≡ map name_text (first ∷ others)
unfolding AllAreNames
list_parts first [] low all =
    let whole : name_text first ++ [] ≡ name_text first = append-nil (name_text first) in
    let cut = cut_of_without_separator 44 (name_text first) (name_text_lacks_other_byte first 44 low comma (λ e. absurd (omega (arith, e)))) in
    ap (split_text 44) whole ∙ parts_of_by_first_cut 44 (name_text first) ∙ ap (λ (c : List ℕ × Option (List ℕ)). c.0 ∷ parts_of_rest_of_cut 44 c.1) cut
list_parts first (second ∷ others) low all =
    let text = list_text (first ∷ second ∷ others) in
    let cut = cut_of_at_separator 44 (name_text first) (list_text (second ∷ others)) (name_text_lacks_other_byte first 44 low comma (λ e. absurd (omega (arith, e)))) in
    parts_of_by_first_cut 44 text ∙ ap (λ (c : List ℕ × Option (List ℕ)). c.0 ∷ parts_of_rest_of_cut 44 c.1) cut
    ∙ ap (λ (ps : List (List ℕ)). name_text first ∷ ps) (list_parts second others all.0 all.1)

pub slice_set_after_front : (front rest : List ℕ) (x v i : ℕ) → length front ≡ i → slice_set (front ++ x ∷ rest) i v ≡ front ++ v ∷ rest
slice_set_after_front [] rest x v zero is = refl
slice_set_after_front [] rest x v (suc i) is = absurd (omega arith)
slice_set_after_front (f ∷ fs) rest x v zero is = absurd (omega arith)
slice_set_after_front (f ∷ fs) rest x v (suc i) is = ap (λ (xs : List ℕ). f ∷ xs) (slice_set_after_front fs rest x v i (omega arith))

unfoldable pub AllAreLives : List ℕ → Type 0
AllAreLives [] = Unit {0}
AllAreLives (life ∷ lives) = (life ≤ 16) × AllAreLives lives

-- the names of lives are read onto those before
onto_again : (least place : ℕ) (front lives : List ℕ) → length front ≡ place → place + length lives ≡ 16 → least ≤ place → AllAreLives lives
    → names_onto least (front ++ replicate (length lives) 0) (map name_text (names_from place lives)) ≡ Ok (front ++ lives)
unfolding AllAreLives
onto_again least place front [] at many above all = refl
onto_again least place front (zero ∷ lives) at many above all =
    ap (λ (set : List ℕ). names_onto least set (map name_text (names_from (place + 1) lives))) (sym (append_assoc front (0 ∷ []) (replicate (length lives) 0)))
    ∙ onto_again least (place + 1) (front ++ 0 ∷ []) lives (omega (arith, length-append front (0 ∷ []))) (omega arith) (omega arith) all.1
    ∙ ap (λ (set : List ℕ). Ok set) (append_assoc front (0 ∷ []) lives)
onto_again least place front (suc before ∷ lives) at many above all =
    let low : suc before ≤ 16 = all.0 in
    let name = name_of_place_and_life place (suc before) in
    let small : name < 256 = omega arith in
    let its : place_of_name name ≡ place = omega arith in
    let life : life_of_name name ≡ suc before = omega arith in
    let in_order : nat_lt (place_of_name name) least ≡ false = grind (arith, nat_tests) in
    let rest = map name_text (names_from (place + 1) lives) in
    let set = front ++ replicate (length (suc before ∷ lives)) 0 in
    let with : with_name set name ≡ (front ++ suc before ∷ []) ++ replicate (length lives) 0 =
    ap (λ (v : ℕ). slice_set set (place_of_name name) v) life
    ∙ slice_set_after_front front (replicate (length lives) 0) 0 (suc before) (place_of_name name) (at ∙ sym its)
    ∙ sym (append_assoc front (suc before ∷ []) (replicate (length lives) 0)) in
    ap (λ (r : Result ℕ FieldFault). and_then r (λ n. if nat_lt (place_of_name n) least then Err Form else names_onto (place_of_name n + 1) (with_name set n) rest))
    (name_of_name_text name small)
    ∙ rw in_order (ap (λ (p : ℕ). names_onto (p + 1) (with_name set name) rest) its
    ∙ ap (λ (s : List ℕ). names_onto (place + 1) s rest) with
    ∙ onto_again (place + 1) (place + 1) (front ++ suc before ∷ []) lives (omega (arith, length-append front (suc before ∷ []))) (omega arith)
    (omega arith) all.1
    ∙ ap (λ (s : List ℕ). Ok s) (append_assoc front (suc before ∷ []) lives))

none_listed : (place : ℕ) (lives : List ℕ) → names_from place lives ≡ [] → lives ≡ replicate (length lives) 0
none_listed place [] is = refl
none_listed place (zero ∷ lives) is = ap (λ (xs : List ℕ). 0 ∷ xs) (none_listed (place + 1) lives is)
none_listed place (suc before ∷ lives) is = cc

pub names_from_lives_are_names : (place : ℕ) (lives : List ℕ) → place + length lives ≡ 16 → AllAreLives lives → AllAreNames (names_from place lives)
unfolding AllAreNames AllAreLives
names_from_lives_are_names place [] many all = tt
names_from_lives_are_names place (zero ∷ lives) many all = names_from_lives_are_names (place + 1) lives (omega arith) all.1
names_from_lives_are_names place (suc before ∷ lives) many all = let low = all.0 in (omega arith, names_from_lives_are_names (place + 1) lives (omega arith) all.1)

pub lives_of_set_are_lives : (set : List ℕ) → ((i : ℕ) → i < length set → get_or set i 0 ≤ 16) → AllAreLives set
unfolding AllAreLives
lives_of_set_are_lives [] each = tt
lives_of_set_are_lives (life ∷ lives) each = (each 0 (omega arith), lives_of_set_are_lives lives (λ i within. each (suc i) (omega arith)))

no_dash : (text : List ℕ) → 0 < length text → (get_or text 0 0 ≡ 45 → ⊥) → same text (codes "-") ≡ false
no_dash [] some other = absurd (omega arith)
no_dash (c ∷ cs) some other = let differs : (c == 45) ≡ false = grind (arith, nat_tests) in rw differs refl

decimal_starts : (n : ℕ) (rest : List ℕ) (c : ℕ) → n < 2 ^ 64 → (IsInRange 48 57 c → ⊥) → get_or (decimal n ++ rest) 0 0 ≡ c → ⊥
decimal_starts n rest c low other is =
    let some = decimal_nonempty n low in
    decimal_lacks_other_byte n c low other 0 some (sym (first_of (decimal n) rest some) ∙ is)
  where
    first_of : (xs ys : List ℕ) → 0 < length xs → get_or (xs ++ ys) 0 0 ≡ get_or xs 0 0
    first_of [] ys some = absurd (omega arith)
    first_of (x ∷ xs) ys some = refl

name_starts_by : (b : Bool) (name : ℕ) (rest : List ℕ) (c : ℕ) → (life_of_name name == 1) ≡ b → name < 256 → (IsInRange 48 57 c → ⊥)
    → get_or (name_text name ++ rest) 0 0 ≡ c → ⊥
unfolding name_text
name_starts_by true name rest c is low other = rw is (decimal_starts (place_of_name name) rest c (omega arith) other)
name_starts_by false name rest c is low other =
    rw is (λ e. decimal_starts (place_of_name name) ((47 ∷ decimal (life_of_name name)) ++ rest) c (omega arith) other
    (ap (λ (xs : List ℕ). get_or xs 0 0) (sym (append_assoc (decimal (place_of_name name)) (47 ∷ decimal (life_of_name name)) rest)) ∙ e))

-- a name's text begins with a digit
pub name_text_begins_with_digit : (name : ℕ) (rest : List ℕ) (c : ℕ) → name < 256 → (IsInRange 48 57 c → ⊥) → get_or (name_text name ++ rest) 0 0 ≡ c → ⊥
name_text_begins_with_digit name rest c low other = name_starts_by (life_of_name name == 1) name rest c refl low other

name_some_by : (b : Bool) (name : ℕ) → (life_of_name name == 1) ≡ b → name < 256 → 0 < length (name_text name)
unfolding name_text
name_some_by true name is low = rw is (decimal_nonempty (place_of_name name) (omega arith))
name_some_by false name is low =
    rw is (omega (arith, decimal_nonempty (place_of_name name) (omega arith), length-append (decimal (place_of_name name)) (47 ∷ decimal (life_of_name name))))

set_by : (set names : List ℕ) → names_from 0 set ≡ names → length set ≡ 16 → AllAreLives set → AllAreNames names → names_in_text (list_text names) ≡ Ok set
unfolding names_in_text AllAreNames
set_by set [] is many all low =
    ap (λ (s : List ℕ). Ok s) (sym (none_listed 0 set is ∙ ap (λ (n : ℕ). replicate n 0) many))
set_by set (first ∷ others) is many all low =
    let text = list_text (first ∷ others) in
    let rest = flat_map (λ name. codes "," ++ name_text name) others in
    let some : 0 < length text = omega (arith, name_some_by (life_of_name first == 1) first refl low.0, length-append (name_text first) rest) in
    let other : same text (codes "-") ≡ false = no_dash text some (name_text_begins_with_digit first rest 45 low.0 (λ digit. absurd (omega (arith, digit)))) in
    rw other (ap (names_onto 0 empty_set_of_names) (list_parts first others low.0 low.1)
    ∙ ap (λ (ns : List ℕ). names_onto 0 empty_set_of_names (map name_text ns)) (sym is)
    ∙ ap (λ (n : ℕ). names_onto 0 (replicate n 0) (map name_text (names_from 0 set))) (sym many)
    ∙ onto_again 0 0 [] set refl (omega arith) (omega arith) all)

-- a set of names as it is printed is read as that set
pub names_of_names_text : (set : List ℕ) → IsSetOfNames set → names_in_text (names_text set) ≡ Ok set
unfolding names_text
names_of_names_text set is =
    let all = lives_of_set_are_lives set is.lives in
    set_by set (names_from 0 set) refl is.places all (names_from_lives_are_names 0 set (omega (arith, is.places)) all)

-- ---- lengths

short_decimal : (n : ℕ) → n < 10 ^ 2 → length (decimal n) ≤ 2
short_decimal n low = length-decimal-le 2 n (lit< tt) low (omega arith)

name_short_by : (b : Bool) (name : ℕ) → (life_of_name name == 1) ≡ b → name < 256 → length (name_text name) ≤ 5
unfolding name_text
name_short_by true name is low = rw is (omega (arith, short_decimal (place_of_name name) (omega arith)))
name_short_by false name is low =
    rw is (omega (
      arith,
      short_decimal (place_of_name name) (omega arith),
      short_decimal (life_of_name name) (omega arith),
      length-append (decimal (place_of_name name))
          (47 ∷ decimal (life_of_name name)),
    ))

-- a name and what stands after it
name_and_short : (name : ℕ) (behind : List ℕ) (rest : ℕ) → name < 256 → length behind ≤ rest → length (name_text name ++ behind) ≤ 5 + rest
name_and_short name behind rest low few = omega (arith, name_short_by (life_of_name name == 1) name refl low, few, length-append (name_text name) behind)

others_short : (names : List ℕ) → AllAreNames names → length (flat_map (λ name. codes "," ++ name_text name) names) ≤ 6 * length names
unfolding AllAreNames
others_short [] low = omega arith
others_short (name ∷ names) low =
    omega (arith, name_and_short name (flat_map (λ n. codes "," ++ name_text n) names) (6 * length names) low.0 (others_short names low.1))

list_short : (names : List ℕ) → AllAreNames names → length (list_text names) ≤ 6 * length names + 1
unfolding AllAreNames
list_short [] low = omega arith
list_short (name ∷ names) low =
    omega (arith, name_and_short name (flat_map (λ n. codes "," ++ name_text n) names) (6 * length names) low.0 (others_short names low.1))

few_names : (place : ℕ) (lives : List ℕ) → length (names_from place lives) ≤ length lives
few_names place [] = omega arith
few_names place (zero ∷ lives) = omega (arith, few_names (place + 1) lives)
few_names place (suc before ∷ lives) = omega (arith, few_names (place + 1) lives)

pub names_text_length_le_97 : (set : List ℕ) → IsSetOfNames set → length (names_text set) ≤ 97
unfolding names_text
names_text_length_le_97 set is =
    let low = names_from_lives_are_names 0 set (omega (arith, is.places)) (lives_of_set_are_lives set is.lives) in
    omega (arith, list_short (names_from 0 set) low, few_names 0 set, is.places)
