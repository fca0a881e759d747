-- The words of `gen` fit its command.
use Rattle.std.proofs.Common.{refl, sym, ap, ◌∙◌, subst, codes, true, false, Bool, List, [], ◌∷◌, ◌≡◌, ◌≢◌, ◌==◌, ◌&&◌, ℕ, true≢false, Option, Some, None}
use Rattle.std.proofs.Common.{option_map}
use Rattle.std.proofs.Common.{arith}
use Rattle.std.specs.Char.{is_ascii_digit}
use Rattle.std.proofs.lemmas.Bool.Decides.{nat_tests}
use Rattle.std.specs.Cmp.Lexicographic.{same_text}
use Rattle.clap.specs.Words.{App, Rule, Text, first_of, is_simple, new_app, new_rule, takes, with_rule}
use Rattle.clap.specs.Simple.{matches_of}
use Rattle.clap.specs.declared.builder.action.ArgAction.TheVariants.{Set}
use Rattle.clap.proofs.OnLiterals.{clap_on_literals}
use Rattle.am_cli_words.specs.Forms.{same_word, seed_of, with_numbers, has_options, texts_of, gen_of}

-- ---- the command, and words that fit it

abbrev pub rule_of_gen_option : Text → Rule
rule_of_gen_option id = record (new_rule id) { long = Some id; required = true; action = Some Set }

abbrev pub command_of_gen_words : App
command_of_gen_words = with_rule (with_rule (new_app (codes "gen")) (rule_of_gen_option (codes "seed"))) (rule_of_gen_option (codes "count"))

pub command_of_gen_is_simple : is_simple command_of_gen_words ≡ true
unfolding clap_on_literals
command_of_gen_is_simple = refl

abbrev seed_first : Text → Text → List Text
seed_first s c = codes "gen" ∷ codes "--seed" ∷ s ∷ codes "--count" ∷ c ∷ []

abbrev count_first : Text → Text → List Text
count_first s c = codes "gen" ∷ codes "--count" ∷ c ∷ codes "--seed" ∷ s ∷ []

-- the command takes these words, which give its options these texts
record Taken (words : List Text) (s c : Text) : Type 0 where
  takes_them : takes command_of_gen_words words ≡ true
  seed : first_of (codes "seed") (matches_of command_of_gen_words words) ≡ Some s
  count : first_of (codes "count") (matches_of command_of_gen_words words) ≡ Some c

in_order : (d : ℕ) (ds : Text) (e : ℕ) (es : Text) → (d == 45) ≡ false → (e == 45) ≡ false → Taken (seed_first (d ∷ ds) (e ∷ es)) (d ∷ ds) (e ∷ es)
unfolding clap_on_literals
in_order d ds e es nd ne = record { takes_them = simp (nd, ne) refl; seed = simp (nd, ne) refl; count = simp (nd, ne) refl }

turned : (d : ℕ) (ds : Text) (e : ℕ) (es : Text) → (d == 45) ≡ false → (e == 45) ≡ false → Taken (count_first (d ∷ ds) (e ∷ es)) (d ∷ ds) (e ∷ es)
unfolding clap_on_literals
turned d ds e es nd ne = record { takes_them = simp (nd, ne) refl; seed = simp (nd, ne) refl; count = simp (nd, ne) refl }

-- ---- texts of numbers begin with no hyphen

split : {A : Type 0} (b : Bool) → (b ≡ true → A) → (b ≡ false → A) → A
split true t f = t refl
split false t f = f refl

both : (a b : Bool) → (a && b) ≡ true → (a ≡ true) × (b ≡ true)
both true true is = (refl, refl)
both true false is = absurd (true≢false (sym is))
both false b is = absurd (true≢false (sym is))

data IsWord : Text → Type 0 where
  word : (d : ℕ) (ds : Text) → (d == 45) ≡ false → IsWord (d ∷ ds)

no_hyphen : (d : ℕ) → is_ascii_digit d ≡ true → (d == 45) ≡ false
no_hyphen d is = grind (arith, nat_tests)

no_digit : (d : ℕ) (ds : Text) → is_ascii_digit d ≡ false → seed_of (d ∷ ds) ≡ None
unfolding seed_of
no_digit d ds other = rw other refl

is_word : (t : Text) → seed_of t ≢ None → IsWord t
unfolding seed_of
is_word [] some = absurd (some refl)
is_word (d ∷ ds) some = split (is_ascii_digit d) (λ is. word d ds (no_hyphen d is)) (λ other. absurd (some (no_digit d ds other)))

first_some : (a b : Option ℕ) → with_numbers a b ≢ None → a ≢ None
first_some None b some none = some refl
first_some (Some x) b some none = absurd cc

second_some : (a b : Option ℕ) → with_numbers a b ≢ None → b ≢ None
second_some None b some none = some refl
second_some (Some x) None some none = some refl
second_some (Some x) (Some y) some none = absurd cc

-- ---- words that are gen

-- they fit the command, which gives their texts
pub record WordsFitGenCommand (words : List Text) : Type 0 where
  pub takes_them : takes command_of_gen_words words ≡ true
  pub seed_of : first_of (codes "seed") (matches_of command_of_gen_words words) ≡ option_map (λ t. t.0) (texts_of words)
  pub count_of : first_of (codes "count") (matches_of command_of_gen_words words) ≡ option_map (λ t. t.1) (texts_of words)

fitting : (words : List Text) (s c : Text) → texts_of words ≡ Some (s, c) → Taken words s c → WordsFitGenCommand words
fitting words s c is taken = record {
  takes_them = taken.takes_them;
  seed_of = taken.seed ∙ sym (ap (option_map (λ t. t.0)) is);
  count_of = taken.count ∙ sym (ap (option_map (λ t. t.1)) is);
}

fits_first : (s c : Text) → IsWord s → IsWord c → WordsFitGenCommand (seed_first s c)
fits_first s c (word d ds nd) (word e es ne) = fitting (seed_first s c) s c refl (in_order d ds e es nd ne)

fits_back : (s c : Text) → IsWord s → IsWord c → WordsFitGenCommand (count_first s c)
fits_back s c (word d ds nd) (word e es ne) = fitting (count_first s c) s c refl (turned d ds e es nd ne)

-- five words with options of these names in turn
are_options : (w f a g b one other : Text) → has_options w f g one other ≡ true → w ∷ f ∷ a ∷ g ∷ b ∷ [] ≡ codes "gen" ∷ one ∷ a ∷ other ∷ b ∷ []
are_options w f a g b one other is =
    let first = both (same_word w (codes "gen")) (same_word f one && same_word g other) is in
    let second = both (same_word f one) (same_word g other) first.1 in
    let gen = same_text w (codes "gen") (sym first.0) in
    let x = same_text f one (sym second.0) in
    let y = same_text g other (sym second.1) in
    λ k. gen k ∷ x k ∷ a ∷ y k ∷ b ∷ []

some_first : (w f a g b : Text) → gen_of (w ∷ f ∷ a ∷ g ∷ b ∷ []) ≢ None → has_options w f g (codes "--seed") (codes "--count") ≡ true
    → with_numbers (seed_of a) (seed_of b) ≢ None
some_first w f a g b some is = rw is at some

some_back : (w f a g b : Text) → gen_of (w ∷ f ∷ a ∷ g ∷ b ∷ []) ≢ None → has_options w f g (codes "--seed") (codes "--count") ≡ false
    → has_options w f g (codes "--count") (codes "--seed") ≡ true → with_numbers (seed_of b) (seed_of a) ≢ None
some_back w f a g b some other is = rw (other, is) at some

none_left : (w f a g b : Text) → has_options w f g (codes "--seed") (codes "--count") ≡ false → has_options w f g (codes "--count") (codes "--seed") ≡ false
    → gen_of (w ∷ f ∷ a ∷ g ∷ b ∷ []) ≡ None
none_left w f a g b other none = rw (other, none) refl

pub gen_words_fit_command : (words : List Text) → gen_of words ≢ None → WordsFitGenCommand words
gen_words_fit_command [] some = absurd (some refl)
gen_words_fit_command (w ∷ []) some = absurd (some refl)
gen_words_fit_command (w ∷ f ∷ []) some = absurd (some refl)
gen_words_fit_command (w ∷ f ∷ a ∷ []) some = absurd (some refl)
gen_words_fit_command (w ∷ f ∷ a ∷ g ∷ []) some = absurd (some refl)
gen_words_fit_command (w ∷ f ∷ a ∷ g ∷ b ∷ []) some =
    split (has_options w f g (codes "--seed") (codes "--count"))
    (λ is.
    let numbers = some_first w f a g b some is in
    subst WordsFitGenCommand (sym (are_options w f a g b (codes "--seed") (codes "--count") is))
    (fits_first a b (is_word a (first_some (seed_of a) (seed_of b) numbers)) (is_word b (second_some (seed_of a) (seed_of b) numbers))))
    (λ other. split (has_options w f g (codes "--count") (codes "--seed"))
    (λ is.
    let numbers = some_back w f a g b some other is in
    subst WordsFitGenCommand (sym (are_options w f a g b (codes "--count") (codes "--seed") is))
    (fits_back b a (is_word b (first_some (seed_of b) (seed_of a) numbers)) (is_word a (second_some (seed_of b) (seed_of a) numbers))))
    (λ none. absurd (some (none_left w f a g b other none))))
gen_words_fit_command (w ∷ f ∷ a ∷ g ∷ b ∷ h ∷ ws) some = absurd (some refl)
