-- Lists of one, of five and of six words.
use Rattle.std.proofs.Common.{◌≡◌, ◌≢◌, Option, Bool, true, false, if◌then◌else◌, codes, ℕ, zero, suc, ◌<◌, ◌≤◌, List, [], ◌∷◌, length, drop, map, Bor, Some, None, slice_index_or, option_map}
use Rattle.std.proofs.Common.{subst, refl, ap, arith}
use Rattle.am_cli_words.specs.declared.form.Form.TheVariants as form
use Rattle.am_cli_words.specs.declared.form.SeedAndCount.{SeedAndCount}
use Rattle.am_cli_words.specs.declared.node.NodeWords.{NodeWords}
use Rattle.am_cli_words.specs.Nodes.{node_words_in}
use Rattle.am_cli_words.specs.Forms.{same_word, form_of, one_form, shown_by_word, other_form, unscripted, is_node, gen_of, IsGen}
use Rattle.am_cli_words.specs.declared.form.RunText.{RunText}

abbrev pub texts_of_borrowed_words : List (Bor (List ℕ)) → List (List ℕ)
texts_of_borrowed_words words = map (λ w. w.now) words

one_word : (words : List (Bor (List ℕ))) (d : Bor (List ℕ)) → length words ≡ 1 → texts_of_borrowed_words words ≡ (slice_index_or words 0 d).now ∷ []
one_word [] d one = absurd (omega arith)
one_word (a ∷ []) d one = refl
one_word (a ∷ b ∷ ws) d one = absurd (omega arith)

five_words : (words : List (Bor (List ℕ))) (d e f g h : Bor (List ℕ)) → length words ≡ 5
    → texts_of_borrowed_words words ≡ (slice_index_or words 0 d).now ∷ (slice_index_or words 1 e).now ∷ (slice_index_or words 2 f).now ∷ (slice_index_or words 3 g).now
    ∷ (slice_index_or words 4 h).now ∷ []
five_words [] d e f g h five = absurd (omega arith)
five_words (a ∷ []) d e f g h five = absurd (omega arith)
five_words (a ∷ b ∷ []) d e f g h five = absurd (omega arith)
five_words (a ∷ b ∷ c ∷ []) d e f g h five = absurd (omega arith)
five_words (a ∷ b ∷ c ∷ x ∷ []) d e f g h five = absurd (omega arith)
five_words (a ∷ b ∷ c ∷ x ∷ y ∷ []) d e f g h five = refl
five_words (a ∷ b ∷ c ∷ x ∷ y ∷ z ∷ ws) d e f g h five = absurd (omega arith)

six_words : (words : List (Bor (List ℕ))) (d : Bor (List ℕ)) → length words ≡ 6
    → texts_of_borrowed_words words ≡ (slice_index_or words 0 d).now ∷ (slice_index_or words 1 d).now ∷ (slice_index_or words 2 d).now ∷ (slice_index_or words 3 d).now
    ∷ (slice_index_or words 4 d).now ∷ (slice_index_or words 5 d).now ∷ []
six_words [] d six = absurd (omega arith)
six_words (a ∷ []) d six = absurd (omega arith)
six_words (a ∷ b ∷ []) d six = absurd (omega arith)
six_words (a ∷ b ∷ c ∷ []) d six = absurd (omega arith)
six_words (a ∷ b ∷ c ∷ x ∷ []) d six = absurd (omega arith)
six_words (a ∷ b ∷ c ∷ x ∷ y ∷ []) d six = absurd (omega arith)
six_words (a ∷ b ∷ c ∷ x ∷ y ∷ z ∷ []) d six = refl
six_words (a ∷ b ∷ c ∷ x ∷ y ∷ z ∷ v ∷ ws) d six = absurd (omega arith)

-- other lists of words have no form
pub other_form_of_other_count : (words : List (Bor (List ℕ))) → length words ≢ 1 → length words ≢ 5 → length words ≢ 6 → None ≡ other_form (texts_of_borrowed_words words)
unfolding other_form
other_form_of_other_count [] one five six = refl
other_form_of_other_count (a ∷ []) one five six = absurd (one refl)
other_form_of_other_count (a ∷ b ∷ []) one five six = refl
other_form_of_other_count (a ∷ b ∷ c ∷ []) one five six = refl
other_form_of_other_count (a ∷ b ∷ c ∷ x ∷ []) one five six = refl
other_form_of_other_count (a ∷ b ∷ c ∷ x ∷ y ∷ []) one five six = absurd (five refl)
other_form_of_other_count (a ∷ b ∷ c ∷ x ∷ y ∷ z ∷ []) one five six = absurd (six refl)
other_form_of_other_count (a ∷ b ∷ c ∷ x ∷ y ∷ z ∷ v ∷ ws) one five six = refl

-- one word has its form, and so have five
pub other_form_of_one_word : (words : List (Bor (List ℕ))) (d : Bor (List ℕ)) → length words ≡ 1 → one_form (slice_index_or words 0 d).now ≡ other_form (texts_of_borrowed_words words)
unfolding other_form
other_form_of_one_word words d one = rw (one_word words d one) refl

pub other_form_of_five_words : (words : List (Bor (List ℕ))) (d e f g h : Bor (List ℕ)) (numbers : Option SeedAndCount) → length words ≡ 5
    → numbers ≡ gen_of ((slice_index_or words 0 d).now ∷ (slice_index_or words 1 e).now ∷ (slice_index_or words 2 f).now
    ∷ (slice_index_or words 3 g).now ∷ (slice_index_or words 4 h).now ∷ []) → option_map form.Gen numbers ≡ other_form (texts_of_borrowed_words words)
unfolding other_form
other_form_of_five_words words d e f g h numbers five is = rw (five_words words d e f g h five, is) refl

-- one word's form
pub one_form_of_race : (word : List ℕ) → same_word word (codes "race") ≡ true → Some form.Race ≡ one_form word
unfolding one_form
one_form_of_race word is = rw is refl

pub one_form_of_audit : (word : List ℕ) → same_word word (codes "race") ≡ false → same_word word (codes "audit") ≡ true → Some form.Audit ≡ one_form word
unfolding one_form
one_form_of_audit word other is = rw (other, is) refl

pub one_form_of_parts : (word : List ℕ) → same_word word (codes "race") ≡ false → same_word word (codes "audit") ≡ false → same_word word (codes "parts") ≡ true
    → Some form.Parts ≡ one_form word
unfolding one_form
one_form_of_parts word other another is = rw (other, another, is) refl

pub one_form_of_play : (word : List ℕ) → same_word word (codes "race") ≡ false → same_word word (codes "audit") ≡ false → same_word word (codes "parts") ≡ false
    → option_map form.Play (shown_by_word word) ≡ one_form word
unfolding one_form
one_form_of_play word other another none = rw (other, another, none) refl

-- six words, where --script stands second, fourth or sixth, or nowhere there
pub other_form_script_at_second : (words : List (Bor (List ℕ))) (d : Bor (List ℕ)) → length words ≡ 6 → same_word (slice_index_or words 1 d).now (codes "--script") ≡ true
    → option_map form.Script (gen_of ((slice_index_or words 0 d).now ∷ (slice_index_or words 2 d).now ∷ (slice_index_or words 3 d).now
    ∷ (slice_index_or words 4 d).now ∷ (slice_index_or words 5 d).now ∷ [])) ≡ other_form (texts_of_borrowed_words words)
unfolding other_form
other_form_script_at_second words d six is = rw (six_words words d six, is) refl

pub other_form_script_at_fourth : (words : List (Bor (List ℕ))) (d : Bor (List ℕ)) → length words ≡ 6 → same_word (slice_index_or words 1 d).now (codes "--script") ≡ false
    → same_word (slice_index_or words 3 d).now (codes "--script") ≡ true
    → option_map form.Script (gen_of ((slice_index_or words 0 d).now ∷ (slice_index_or words 1 d).now ∷ (slice_index_or words 2 d).now
    ∷ (slice_index_or words 4 d).now ∷ (slice_index_or words 5 d).now ∷ [])) ≡ other_form (texts_of_borrowed_words words)
unfolding other_form
other_form_script_at_fourth words d six other is = rw (six_words words d six, other, is) refl

pub other_form_script_at_sixth : (words : List (Bor (List ℕ))) (d : Bor (List ℕ)) → length words ≡ 6 → same_word (slice_index_or words 1 d).now (codes "--script") ≡ false
    → same_word (slice_index_or words 3 d).now (codes "--script") ≡ false → same_word (slice_index_or words 5 d).now (codes "--script") ≡ true
    → option_map form.Script (gen_of ((slice_index_or words 0 d).now ∷ (slice_index_or words 1 d).now ∷ (slice_index_or words 2 d).now
    ∷ (slice_index_or words 3 d).now ∷ (slice_index_or words 4 d).now ∷ [])) ≡ other_form (texts_of_borrowed_words words)
unfolding other_form
other_form_script_at_sixth words d six other another is = rw (six_words words d six, other, another, is) refl

pub other_form_without_script : (words : List (Bor (List ℕ))) (d : Bor (List ℕ)) → length words ≡ 6 → same_word (slice_index_or words 1 d).now (codes "--script") ≡ false
    → same_word (slice_index_or words 3 d).now (codes "--script") ≡ false → same_word (slice_index_or words 5 d).now (codes "--script") ≡ false
    → None ≡ other_form (texts_of_borrowed_words words)
unfolding other_form
other_form_without_script words d six other another none = rw (six_words words d six, other, another, none) refl

shown_is_not_gen : (shown : Option RunText) → IsGen (option_map form.Play shown) → ⊥
shown_is_not_gen None is = is
shown_is_not_gen (Some shown) is = is

one_is_not_gen : (race audit parts : Bool) (shown : Option RunText)
    → IsGen (if race then Some form.Race else (if audit then Some form.Audit else (if parts then Some form.Parts else option_map form.Play shown))) → ⊥
one_is_not_gen true audit parts shown is = is
one_is_not_gen false true parts shown is = is
one_is_not_gen false false true shown is = is
one_is_not_gen false false false shown is = shown_is_not_gen shown is

script_is_not_gen : (numbers : Option SeedAndCount) → IsGen (option_map form.Script numbers) → ⊥
script_is_not_gen None is = is
script_is_not_gen (Some numbers) is = is

-- words that are gen have numbers
other_gen : (words : List (List ℕ)) → IsGen (other_form words) → gen_of words ≢ None
unfolding other_form one_form
other_gen [] is none = is
other_gen (a ∷ []) is none = one_is_not_gen (same_word a (codes "race")) (same_word a (codes "audit")) (same_word a (codes "parts")) (shown_by_word a) is
other_gen (a ∷ b ∷ []) is none = is
other_gen (a ∷ b ∷ c ∷ []) is none = is
other_gen (a ∷ b ∷ c ∷ x ∷ []) is none = is
other_gen (a ∷ b ∷ c ∷ x ∷ y ∷ []) is none = subst (λ n. IsGen (option_map form.Gen n)) none is
other_gen (a ∷ b ∷ c ∷ x ∷ y ∷ z ∷ []) is none = script_is_not_gen (gen_of (unscripted (a ∷ b ∷ c ∷ x ∷ y ∷ z ∷ []))) is
other_gen (a ∷ b ∷ c ∷ x ∷ y ∷ z ∷ v ∷ ws) is none = is

node_is_not_gen : (node : Option NodeWords) → IsGen (option_map form.Node node) → ⊥
node_is_not_gen None is = is
node_is_not_gen (Some node) is = is

gen_by : (b : Bool) (words : List (List ℕ)) (node : Option NodeWords) → IsGen (if b then option_map form.Node node else other_form words) → gen_of words ≢ None
gen_by true words node is none = node_is_not_gen node is
gen_by false words node is none = other_gen words is none

pub gen_of_words_is_some : (words : List (List ℕ)) → IsGen (form_of words) → gen_of words ≢ None
unfolding form_of
gen_of_words_is_some words is = gen_by (is_node words) words (node_words_in (drop 1 words)) is

-- and the form of these
other_numbers : (words : List (List ℕ)) (numbers : SeedAndCount) → gen_of words ≡ Some numbers → other_form words ≡ Some (form.Gen numbers)
unfolding other_form
other_numbers [] numbers is = absurd cc
other_numbers (a ∷ []) numbers is = absurd cc
other_numbers (a ∷ b ∷ []) numbers is = absurd cc
other_numbers (a ∷ b ∷ c ∷ []) numbers is = absurd cc
other_numbers (a ∷ b ∷ c ∷ x ∷ []) numbers is = absurd cc
other_numbers (a ∷ b ∷ c ∷ x ∷ y ∷ []) numbers is = ap (option_map form.Gen) is
other_numbers (a ∷ b ∷ c ∷ x ∷ y ∷ z ∷ ws) numbers is = absurd cc

numbers_by : (b : Bool) (words : List (List ℕ)) (node : Option NodeWords) (numbers : SeedAndCount) → IsGen (if b then option_map form.Node node else other_form words)
    → gen_of words ≡ Some numbers → (if b then option_map form.Node node else other_form words) ≡ Some (form.Gen numbers)
numbers_by true words node numbers is some = absurd (node_is_not_gen node is)
numbers_by false words node numbers is some = other_numbers words numbers some

pub form_of_gen_words : (words : List (List ℕ)) (numbers : SeedAndCount) → IsGen (form_of words) → gen_of words ≡ Some numbers → form_of words ≡ Some (form.Gen numbers)
unfolding form_of
form_of_gen_words words numbers is some = numbers_by (is_node words) words (node_words_in (drop 1 words)) numbers is some

-- ---- words after the first

texts_behind : (words : List (Bor (List ℕ))) (n : ℕ) → texts_of_borrowed_words (drop n words) ≡ drop n (texts_of_borrowed_words words)
texts_behind words zero = refl
texts_behind [] (suc n) = refl
texts_behind (w ∷ ws) (suc n) = texts_behind ws n

pub first_text_is_word_node : (words : List (Bor (List ℕ))) (d : Bor (List ℕ)) → 0 < length words → is_node (texts_of_borrowed_words words) ≡ same_word (slice_index_or words 0 d).now (codes "node")
first_text_is_word_node [] d some = absurd (omega arith)
first_text_is_word_node (w ∷ ws) d some = refl

pub texts_of_two_words : (words : List (Bor (List ℕ))) (d e : Bor (List ℕ)) → 2 ≤ length words
    → texts_of_borrowed_words words ≡ (slice_index_or words 0 d).now ∷ (slice_index_or words 1 e).now ∷ texts_of_borrowed_words (drop 2 words)
texts_of_two_words [] d e two = absurd (omega arith)
texts_of_two_words (a ∷ []) d e two = absurd (omega arith)
texts_of_two_words (a ∷ b ∷ ws) d e two = refl
