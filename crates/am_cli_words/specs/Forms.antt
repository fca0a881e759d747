-- The forms of the program's words.
use Rattle.std.specs.Prelude.{ℕ, ◌^◌, ◌≤◌, List, [], ◌∷◌, length, codes, Option, Some, None, option_map, Bool, false, drop, ◌&&◌, nat_eq, nat_lt, nat_le, if◌then◌else◌}
use Rattle.std.specs.Cmp.Lexicographic.{pointwise}
use Rattle.std.specs.List.{list_all}
use Rattle.std.specs.Char.{is_ascii_digit}
use Rattle.std.specs.Str.Parse.{digits_value}
use Rattle.am_base.specs.Most.{most_events_of_run}
use Rattle.am_cli_words.specs.declared.form.Form.{Form}
use Rattle.am_cli_words.specs.declared.form.Form.TheVariants as form
use Rattle.am_cli_words.specs.declared.form.SeedAndCount.{SeedAndCount}
use Rattle.am_cli_words.specs.declared.form.RunText.{RunText}
use Rattle.am_cli_words.specs.declared.form.RunText.TheVariants as shown
use Rattle.am_cli_words.specs.Nodes.{node_words_in}

-- whether two texts are the same, byte by byte
abbrev pub same_word : List ℕ → List ℕ → Bool
same_word text other = pointwise nat_eq text other

-- ---- numbers

-- a text of one to twenty decimal digits
abbrev pub is_short_numeral : List ℕ → Bool
is_short_numeral text = list_all is_ascii_digit text && (nat_le 1 (length text) && nat_le (length text) 20)

-- its number, where it has 64 bits
unfoldable pub seed_of : List ℕ → Option ℕ
seed_of text = if is_short_numeral text && nat_lt (digits_value 10 text) (2 ^ 64) then Some (digits_value 10 text) else None

-- two numbers, of which the second is 1 to 100,000
abbrev pub with_numbers : Option ℕ → Option ℕ → Option SeedAndCount
with_numbers (Some seed) (Some count) = if nat_le 1 count && nat_le count most_events_of_run then Some (record { seed = seed; count = count }) else None
with_numbers _ _ = None

abbrev pub numbers_of : List ℕ → List ℕ → Option SeedAndCount
numbers_of seed count = with_numbers (seed_of seed) (seed_of count)

-- ---- forms

-- words are gen with options of these names in turn
abbrev pub has_options : List ℕ → List ℕ → List ℕ → List ℕ → List ℕ → Bool
has_options word first second one other = same_word word (codes "gen") && (same_word first one && same_word second other)

-- the texts of the seed and of the count, where words are gen with these two options, in either order
abbrev pub texts_of : List (List ℕ) → Option (List ℕ × List ℕ)
texts_of (word ∷ first ∷ one ∷ second ∷ other ∷ []) =
    if has_options word first second (codes "--seed") (codes "--count") then Some (one, other)
    else if has_options word first second (codes "--count") (codes "--seed") then Some (other, one)
    else None
texts_of _ = None

-- the numbers of gen
abbrev pub numbers_in : Option (List ℕ × List ℕ) → Option SeedAndCount
numbers_in None = None
numbers_in (Some texts) = numbers_of texts.0 texts.1

abbrev pub gen_of : List (List ℕ) → Option SeedAndCount
gen_of words = numbers_in (texts_of words)

-- what a word asks for of a script's run
abbrev pub shown_by_word : List ℕ → Option RunText
shown_by_word word = if same_word word (codes "play") then Some shown.Text else (if same_word word (codes "messages") then Some shown.Messages
    else (if same_word word (codes "directory") then Some shown.Directories else (if same_word word (codes "snapshots") then Some shown.Snapshots else None)))

-- the form of one word
unfoldable pub one_form : List ℕ → Option Form
one_form word = if same_word word (codes "race") then Some form.Race else (if same_word word (codes "audit") then Some form.Audit
    else (if same_word word (codes "parts") then Some form.Parts else option_map form.Play (shown_by_word word)))

-- five of six words: all but --script, which stands before, between or after the two options
abbrev pub unscripted : List (List ℕ) → List (List ℕ)
unscripted (word ∷ a ∷ b ∷ c ∷ d ∷ e ∷ []) =
    if same_word a (codes "--script") then word ∷ b ∷ c ∷ d ∷ e ∷ []
    else if same_word c (codes "--script") then word ∷ a ∷ b ∷ d ∷ e ∷ []
    else if same_word e (codes "--script") then word ∷ a ∷ b ∷ c ∷ d ∷ []
    else []
unscripted _ = []

-- a word that has a form by itself, or gen with its options
unfoldable pub other_form : List (List ℕ) → Option Form
other_form (word ∷ []) = one_form word
other_form (word ∷ a ∷ b ∷ c ∷ d ∷ e ∷ []) = option_map form.Script (gen_of (unscripted (word ∷ a ∷ b ∷ c ∷ d ∷ e ∷ [])))
other_form words = option_map form.Gen (gen_of words)

-- words begin with node
abbrev pub is_node : List (List ℕ) → Bool
is_node [] = false
is_node (word ∷ words) = same_word word (codes "node")

-- one of these, or node with its options
unfoldable pub form_of : List (List ℕ) → Option Form
form_of words = if is_node words then option_map form.Node (node_words_in (drop 1 words)) else other_form words

-- the words are gen, for a summary
abbrev pub IsGen : Option Form → Type 0
IsGen (Some (form.Gen numbers)) = Unit {0}
IsGen _ = ⊥

-- the words are gen
abbrev pub Generates : Option Form → Type 0
Generates (Some (form.Gen numbers)) = Unit {0}
Generates (Some (form.Script numbers)) = Unit {0}
Generates _ = ⊥

-- a script of gen is of a run of at most 100,000 events
abbrev pub ScriptIsShort : Form → Type 0
ScriptIsShort (form.Script numbers) = numbers.count ≤ most_events_of_run
ScriptIsShort _ = Unit {0}
