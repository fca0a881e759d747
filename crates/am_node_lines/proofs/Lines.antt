-- Lines of bytes, piece by piece.
use Rattle.std.proofs.Common.{◌≡◌, ℕ, ◌+◌, ◌<◌, ◌≤◌, List, [], ◌∷◌, ◌++◌, length, take, Bool, true, false, cond, ◌==◌, Option, ◌⊎◌, refl, sym, ap, ◌∙◌}
use Rattle.std.proofs.Common.{inl, inr, nat_lt, add-zero, append_assoc, append-nil, arith, take_all, length-take, subst}
use Rattle.std.proofs.lemmas.List.{take-append-le, length-take}
use Rattle.std.proofs.Math.Seq.{take-append-add}
use Rattle.std.proofs.lemmas.Bool.{cases_lt}
use Rattle.std.proofs.lemmas.Bool.Decides.{nat_tests}
use Rattle.std.specs.Io.KnownBytes.{Appends}
use Rattle.am_base.specs.Founding.{Rules}
use Rattle.am_model.specs.Node.{Node}
use Rattle.am_group_defs.specs.Text.{newline}
use Rattle.am_node_lines.specs.declared.line.BadLine.TheVariants.{TooLong}
use Rattle.am_node_lines.specs.declared.line.Line.TheVariants as line
use Rattle.am_node_lines.specs.Lines.{most_line, node_line_of}
use Rattle.am_node_lines.specs.Answers.{answer_to, line_answer}
use Rattle.am_io.proofs.Bytes.{sink_appended_both_parts}
use Rattle.am_node_lines.specs.Speaking.{with_spoken_line, spoken_lines_from, whole_from, whole_lines, rest_from, answers_of, node_after, WrotePart}

-- ---- lines

line_more : (first : List ℕ) (xs ys : List (List ℕ)) → with_spoken_line first (xs ++ ys) ≡ with_spoken_line first xs ++ ys
line_more [] xs ys = refl
line_more (b ∷ bs) xs ys = refl

whole_by : (b : Bool) (byte : ℕ) (begun xs ys : List ℕ)
    → whole_from [] (xs ++ ys) ≡ whole_from [] xs ++ whole_from (rest_from [] xs) ys
    → whole_from (begun ++ byte ∷ []) (xs ++ ys) ≡ whole_from (begun ++ byte ∷ []) xs ++ whole_from (rest_from (begun ++ byte ∷ []) xs) ys
    → cond b (with_spoken_line begun (whole_from [] (xs ++ ys))) (whole_from (begun ++ byte ∷ []) (xs ++ ys))
    ≡ cond b (with_spoken_line begun (whole_from [] xs)) (whole_from (begun ++ byte ∷ []) xs) ++ whole_from (cond b (rest_from [] xs) (rest_from (begun ++ byte ∷ []) xs)) ys
whole_by true byte begun xs ys ended going = ap (with_spoken_line begun) ended ∙ line_more begun (whole_from [] xs) (whole_from (rest_from [] xs) ys)
whole_by false byte begun xs ys ended going = going

pub whole_from_of_appended_bytes : (begun xs ys : List ℕ) → whole_from begun (xs ++ ys) ≡ whole_from begun xs ++ whole_from (rest_from begun xs) ys
unfolding whole_from rest_from
whole_from_of_appended_bytes begun [] ys = refl
whole_from_of_appended_bytes begun (x ∷ xs) ys = whole_by (x == 10) x begun xs ys (whole_from_of_appended_bytes [] xs ys) (whole_from_of_appended_bytes (begun ++ x ∷ []) xs ys)

rest_by : (b : Bool) (byte : ℕ) (begun xs ys : List ℕ) → rest_from [] (xs ++ ys) ≡ rest_from (rest_from [] xs) ys
    → rest_from (begun ++ byte ∷ []) (xs ++ ys) ≡ rest_from (rest_from (begun ++ byte ∷ []) xs) ys
    → cond b (rest_from [] (xs ++ ys)) (rest_from (begun ++ byte ∷ []) (xs ++ ys)) ≡ rest_from (cond b (rest_from [] xs) (rest_from (begun ++ byte ∷ []) xs)) ys
rest_by true byte begun xs ys ended going = ended
rest_by false byte begun xs ys ended going = going

rest_more : (begun xs ys : List ℕ) → rest_from begun (xs ++ ys) ≡ rest_from (rest_from begun xs) ys
unfolding rest_from
rest_more begun [] ys = refl
rest_more begun (x ∷ xs) ys = rest_by (x == 10) x begun xs ys (rest_more [] xs ys) (rest_more (begun ++ x ∷ []) xs ys)

lines_by : (b : Bool) (byte : ℕ) (begun xs : List ℕ) → spoken_lines_from [] xs ≡ whole_from [] xs ++ with_spoken_line (rest_from [] xs) []
    → spoken_lines_from (begun ++ byte ∷ []) xs ≡ whole_from (begun ++ byte ∷ []) xs ++ with_spoken_line (rest_from (begun ++ byte ∷ []) xs) []
    → cond b (with_spoken_line begun (spoken_lines_from [] xs)) (spoken_lines_from (begun ++ byte ∷ []) xs)
    ≡ cond b (with_spoken_line begun (whole_from [] xs)) (whole_from (begun ++ byte ∷ []) xs) ++ with_spoken_line (cond b (rest_from [] xs) (rest_from (begun ++ byte ∷ []) xs)) []
lines_by true byte begun xs ended going = ap (with_spoken_line begun) ended ∙ line_more begun (whole_from [] xs) (with_spoken_line (rest_from [] xs) [])
lines_by false byte begun xs ended going = going

-- all lines are those that a newline ends, and the rest
pub lines_from_by_whole_lines : (begun xs : List ℕ) → spoken_lines_from begun xs ≡ whole_from begun xs ++ with_spoken_line (rest_from begun xs) []
unfolding spoken_lines_from whole_from rest_from
lines_from_by_whole_lines begun [] = refl
lines_from_by_whole_lines begun (x ∷ xs) = lines_by (x == 10) x begun xs (lines_from_by_whole_lines [] xs) (lines_from_by_whole_lines (begun ++ x ∷ []) xs)

-- a newline ends the rest
pub whole_lines_after_newline : (given : List ℕ) → whole_lines (given ++ 10 ∷ []) ≡ whole_lines given ++ with_spoken_line (rest_from [] given) []
unfolding whole_from
whole_lines_after_newline given = whole_from_of_appended_bytes [] given (10 ∷ [])

pub rest_after_newline_is_empty : (given : List ℕ) → rest_from [] (given ++ 10 ∷ []) ≡ []
unfolding rest_from
rest_after_newline_is_empty given = rest_more [] given (10 ∷ [])

-- another byte goes on with it
pub whole_lines_after_other_byte : (given : List ℕ) (byte : ℕ) → (byte == 10) ≡ false → whole_lines (given ++ byte ∷ []) ≡ whole_lines given
unfolding whole_from
whole_lines_after_other_byte given byte other = whole_from_of_appended_bytes [] given (byte ∷ []) ∙ rw other (append-nil (whole_lines given))

pub rest_after_other_byte : (given : List ℕ) (byte : ℕ) → (byte == 10) ≡ false → rest_from [] (given ++ byte ∷ []) ≡ rest_from [] given ++ byte ∷ []
unfolding rest_from
rest_after_other_byte given byte other = rest_more [] given (byte ∷ []) ∙ rw other refl

-- ---- answers

pub answers_of_appended_lines : (rules : Rules) (m : Node) (xs ys : List (List ℕ)) → answers_of rules m (xs ++ ys) ≡ answers_of rules m xs ++ answers_of rules (node_after rules m xs) ys
unfolding answers_of node_after
answers_of_appended_lines rules m [] ys = refl
answers_of_appended_lines rules m (x ∷ xs) ys =
    ap (λ (t : List ℕ). ((line_answer rules m x).text ++ newline) ++ t) (answers_of_appended_lines rules (line_answer rules m x).node xs ys)
    ∙ sym (append_assoc ((line_answer rules m x).text ++ newline) (answers_of rules (line_answer rules m x).node xs)
    (answers_of rules (node_after rules (line_answer rules m x).node xs) ys))

pub node_after_appended_lines : (rules : Rules) (m : Node) (xs ys : List (List ℕ)) → node_after rules m (xs ++ ys) ≡ node_after rules (node_after rules m xs) ys
unfolding node_after
node_after_appended_lines rules m [] ys = refl
node_after_appended_lines rules m (x ∷ xs) ys = node_after_appended_lines rules (line_answer rules m x).node xs ys

-- ---- long lines

too_long : (rules : Rules) (text : List ℕ) → most_line < length text → node_line_of rules text ≡ line.Bad TooLong
unfolding node_line_of
too_long rules text long = let yes : nat_lt most_line (length text) ≡ true = grind (arith, nat_tests) in rw yes refl

cut_by : (rules : Rules) (m : Node) (text : List ℕ) → (most_line < length text) ⊎ (length text ≤ most_line) → line_answer rules m (take 4097 text) ≡ line_answer rules m text
unfolding line_answer
cut_by rules m text (inr short) = ap (λ (t : List ℕ). answer_to rules m (node_line_of rules t)) (take_all 4097 text (omega arith))
cut_by rules m text (inl long) = ap (answer_to rules m) (too_long rules (take 4097 text) (omega (arith, length-take 4097 text)) ∙ sym (too_long rules text long))

-- a line that is too long is answered as its beginning is
pub answer_of_cut_line : (rules : Rules) (m : Node) (text : List ℕ) → line_answer rules m (take 4097 text) ≡ line_answer rules m text
answer_of_cut_line rules m text = cut_by rules m text (cases_lt most_line (length text))

-- ---- beginnings

pub whole_text_wrote_its_part : (start held : Option (List ℕ)) (text : List ℕ) → Appends start held text → WrotePart start held text
whole_text_wrote_its_part start held text all = (length text, subst (λ (t : List ℕ). Appends start held t) (sym (take_all (length text) text (omega arith))) all)

part_by : (start held : Option (List ℕ)) (text more : List ℕ) (count : ℕ) → Appends start held (take count text) → (length text < count) ⊎ (count ≤ length text)
    → WrotePart start held (text ++ more)
part_by start held text more count part (inr within) = (count, subst (λ (t : List ℕ). Appends start held t) (sym (take-append-le count text more within)) part)
part_by start held text more count part (inl beyond) = (
  length text,
  subst (λ (t : List ℕ). Appends start held t)
      (take_all count text (omega arith) ∙ sym (append-nil text) ∙ sym (take-append-add text more 0) ∙ ap (λ (k : ℕ). take k (text ++ more)) (add-zero (length text))) part,
)

-- a beginning is one of what goes on
pub wrote_part_of_longer_text : (start held : Option (List ℕ)) (text more : List ℕ) → WrotePart start held text → WrotePart start held (text ++ more)
wrote_part_of_longer_text start held text more part = part_by start held text more part.0 part.1 (cases_lt (length text) part.0)

-- a beginning of what comes after a text
pub wrote_part_after_first_text : (start held after : Option (List ℕ)) (text more : List ℕ) (n : ℕ) → Appends start held text → Appends held after (take n more)
    → WrotePart start after (text ++ more)
wrote_part_after_first_text start held after text more n before part =
    (length text + n, subst (λ (t : List ℕ). Appends start after t) (sym (take-append-add text more n)) (sink_appended_both_parts start held after text (take n more) before part))
