-- A letter's part of an answer is a line.
use Rattle.std.proofs.Common.{◌≡◌, ℕ, zero, suc, ◌<◌, ◌≤◌, List, [], ◌∷◌, ◌++◌, length, get_or, Bool, true, false, nat_lt, if◌then◌else◌, Ok, refl, ◌∙◌, arith, length-append}
use Rattle.std.specs.Prelude.{codes}
use Rattle.std.specs.List.{flat_map}
use Rattle.std.specs.Int.{IsInRange}
use Rattle.std.proofs.lemmas.Bool.Decides.{nat_tests}
use Rattle.am_base.specs.Founding.{Rules}
use Rattle.am_base.specs.Most.{most_bytes_of_packet}
use Rattle.am_base.specs.Names.{IsSetOfNames, names_from}
use Rattle.am_group_defs.specs.Text.{name_text, list_text, names_text, hex_byte}
use Rattle.am_node_lines.specs.declared.line.Line.TheVariants as line
use Rattle.am_node_lines.specs.Lines.{most_line, node_line_of, hear_line, is_for_any, addressees_of}
use Rattle.am_node_lines.specs.Answers.{to_text}
use Rattle.am_node_lines.specs.Laws.{LettersAreLines}
use Rattle.am_text_laws.proofs.Printed.{AllAreNames, cut_of_at_separator, appended_texts_lack_byte, name_text_lacks_other_byte, names_of_names_text, names_text_length_le_97, bytes_of_hex_text, length_of_hex_text, names_from_lives_are_names, lives_of_set_are_lives, name_text_begins_with_digit}

-- ---- a set's text has no blank and doesn't begin with a star

blank : IsInRange 48 57 32 → ⊥
blank is = omega arith

one_lacks : (c x : ℕ) → (x ≡ c → ⊥) → (i : ℕ) → i < length (x ∷ []) → get_or (x ∷ []) i 0 ≡ c → ⊥
one_lacks c x other zero within is = other is
one_lacks c x other (suc i) within is = absurd (omega arith)

others_lack : (names : List ℕ) → AllAreNames names → (i : ℕ) → i < length (flat_map (λ name. codes "," ++ name_text name) names)
    → get_or (flat_map (λ name. codes "," ++ name_text name) names) i 0 ≡ 32 → ⊥
unfolding AllAreNames
others_lack [] low = λ i within is. absurd (omega arith)
others_lack (name ∷ names) low =
    appended_texts_lack_byte 32 (44 ∷ name_text name) (flat_map (λ n. codes "," ++ name_text n) names)
    (appended_texts_lack_byte 32 (44 ∷ []) (name_text name) (one_lacks 32 44 (λ e. absurd (omega (arith, e)))) (name_text_lacks_other_byte name 32 low.0 blank (λ e. absurd (omega (arith, e)))))
    (others_lack names low.1)

list_lacks : (names : List ℕ) → AllAreNames names → (i : ℕ) → i < length (list_text names) → get_or (list_text names) i 0 ≡ 32 → ⊥
unfolding AllAreNames
list_lacks [] low = one_lacks 32 45 (λ e. absurd (omega (arith, e)))
list_lacks (name ∷ names) low =
    appended_texts_lack_byte 32 (name_text name) (flat_map (λ n. codes "," ++ name_text n) names) (name_text_lacks_other_byte name 32 low.0 blank (λ e. absurd (omega (arith, e)))) (others_lack names low.1)

set_lacks : (set : List ℕ) → IsSetOfNames set → (i : ℕ) → i < length (names_text set) → get_or (names_text set) i 0 ≡ 32 → ⊥
unfolding names_text
set_lacks set is = list_lacks (names_from 0 set) (names_from_lives_are_names 0 set (omega (arith, is.places)) (lives_of_set_are_lives set is.lives))

list_starts : (names : List ℕ) → AllAreNames names → get_or (list_text names) 0 0 ≡ 42 → ⊥
unfolding AllAreNames
list_starts [] low is = absurd (omega arith)
list_starts (name ∷ names) low is = name_text_begins_with_digit name (flat_map (λ n. codes "," ++ name_text n) names) 42 low.0 (λ digit. absurd (omega (arith, digit))) is

no_star : (set : List ℕ) → IsSetOfNames set → is_for_any (names_text set) ≡ false
unfolding names_text
no_star set is =
    let other = list_starts (names_from 0 set) (names_from_lives_are_names 0 set (omega (arith, is.places)) (lives_of_set_are_lives set is.lives)) in
    grind (arith, nat_tests)

-- ---- addressees

star_first : (text : List ℕ) → is_for_any (42 ∷ text) ≡ true
star_first text = refl

to_by : (any : Bool) (set : List ℕ) → List ℕ
to_by any set = if any then codes "*" ++ names_text set else names_text set

to_read : (any : Bool) (set : List ℕ) → IsSetOfNames set → addressees_of (to_by any set) ≡ Ok set
unfolding to_by
to_read true set is = names_of_names_text set is
to_read false set is = rw (no_star set is) (names_of_names_text set is)

to_any : (any : Bool) (set : List ℕ) → IsSetOfNames set → is_for_any (to_by any set) ≡ any
unfolding to_by
to_any true set is = refl
to_any false set is = no_star set is

to_lacks : (any : Bool) (set : List ℕ) → IsSetOfNames set → (i : ℕ) → i < length (to_by any set) → get_or (to_by any set) i 0 ≡ 32 → ⊥
unfolding to_by
to_lacks true set is = appended_texts_lack_byte 32 (42 ∷ []) (names_text set) (one_lacks 32 42 (λ e. absurd (omega (arith, e)))) (set_lacks set is)
to_lacks false set is = set_lacks set is

to_short : (any : Bool) (set : List ℕ) → IsSetOfNames set → length (to_by any set) ≤ 98
unfolding to_by
to_short true set is = omega (arith, names_text_length_le_97 set is)
to_short false set is = omega (arith, names_text_length_le_97 set is)

-- ---- the line

hear_is : (any : Bool) (set bytes : List ℕ) → IsSetOfNames set → ((i : ℕ) → get_or bytes i 0 < 256) → 0 < length bytes → length bytes ≤ most_bytes_of_packet
    → hear_line (to_by any set ++ (32 ∷ flat_map hex_byte bytes)) ≡ line.Hears any set bytes
hear_is any set bytes is low some few =
    rw (cut_of_at_separator 32 (to_by any set) (flat_map hex_byte bytes) (to_lacks any set is), to_read any set is, to_any any set is, bytes_of_hex_text most_bytes_of_packet bytes low some few) refl

line_is : (rules : Rules) (rest : List ℕ) → length rest ≤ 4000 → node_line_of rules (codes "hear " ++ rest) ≡ hear_line rest
unfolding node_line_of
line_is rules rest few =
    let fits : nat_lt most_line (length (codes "hear " ++ rest)) ≡ false = grind (arith, nat_tests) in
    rw fits refl

pub letters_of_answers_are_lines : LettersAreLines
unfolding to_text to_by
letters_of_answers_are_lines rules letter bytes is low some few =
    let text = to_by letter.any letter.to ++ (32 ∷ flat_map hex_byte bytes) in
    line_is rules text
    (omega (arith, to_short letter.any letter.to is, length_of_hex_text bytes, few, length-append (to_by letter.any letter.to) (32 ∷ flat_map hex_byte bytes)))
    ∙ hear_is letter.any letter.to bytes is low some few
