-- A bad line stays bad, whatever stands after it.
use Rattle.std.proofs.Common.{◌≡◌, ℕ, ◌+◌, ◌<◌, ◌≤◌, ◌==◌, ◌&&◌, not, List, [], ◌∷◌, ◌++◌, length}
use Rattle.std.proofs.Common.{Option, Some, Result, Ok, Err, IsErr, Bool, true, false, cond}
use Rattle.std.proofs.Common.{refl, sym, subst, ap, ◌∙◌, arith}
use Rattle.std.specs.Prelude.{slice_index}
use Rattle.std.specs.List.{list_all}
use Rattle.am_text_defs.specs.declared.fault.FieldFault.{FieldFault}
use Rattle.am_text_defs.specs.Fields.{cut_of, onto_cut, split_text}
use Rattle.am_audit_defs.specs.Lines.{Reading, nothing_read, is_text_end, add_line, read_lines, read_behind, read_text}
use Rattle.am_audit_defs.specs.Agreement.{lines_before_rest, HasNoNewline, AreLines}
use Rattle.am_audit_defs.proofs.Texts.{read_lines_takes_good_line, read_lines_at_bad_line}

cut_on : (c : ℕ) (b : Bool) (line rest : List ℕ) → b ≡ false → cut_of 10 (line ++ 10 ∷ rest) ≡ (line, Some rest)
    → cond b ([], Some (line ++ 10 ∷ rest)) (onto_cut c (cut_of 10 (line ++ 10 ∷ rest))) ≡ (c ∷ line, Some rest)
cut_on c true line rest other cut = cc
cut_on c false line rest other cut = ap (onto_cut c) cut

split : (c : ℕ) (b rest : Bool) → (not b && rest) ≡ true → (b ≡ false) × (rest ≡ true)
split c true rest h = cc
split c false rest h = (refl, h)

-- a line ends at its newline
pub cut_of_line_at_newline : (line rest : List ℕ) → HasNoNewline line → cut_of 10 (line ++ 10 ∷ rest) ≡ (line, Some rest)
cut_of_line_at_newline [] rest whole = refl
cut_of_line_at_newline (c ∷ line) rest whole =
    let both = split c (c == 10) (list_all (λ c. not (c == 10)) line) whole in
    cut_on c (c == 10) line rest both.0 (cut_of_line_at_newline line rest both.1)

not_past : (number line : ℕ) (s : Reading) (b : Bool) → cond b (Ok s) (Err number) ≡ Err line → line ≡ number
not_past number line s true h = cc
not_past number line s false h = cc

stays_by : (number line : ℕ) (s : Reading) (first : List ℕ) (lines : List (List ℕ)) (more : List ℕ) (r : Result Reading FieldFault) → add_line s first ≡ r
    → HasNoNewline first → read_lines number s (split_text 10 (first ++ 10 ∷ lines_before_rest lines [])) ≡ Err line
    → ((t : Reading) → read_lines (number + 1) t (split_text 10 (lines_before_rest lines [])) ≡ Err line
    → read_lines (number + 1) t (split_text 10 (lines_before_rest lines more)) ≡ Err line)
    → read_lines number s (split_text 10 (first ++ 10 ∷ lines_before_rest lines more)) ≡ Err line
stays_by number line s first lines more (Ok t) is whole bad later =
    read_lines_takes_good_line number s t (first ++ 10 ∷ lines_before_rest lines more) first (lines_before_rest lines more) (cut_of_line_at_newline first (lines_before_rest lines more) whole) is
    ∙ later t (sym (read_lines_takes_good_line number s t (first ++ 10 ∷ lines_before_rest lines []) first (lines_before_rest lines []) (cut_of_line_at_newline first (lines_before_rest lines []) whole) is) ∙ bad)
stays_by number line s first lines more (Err fault) is whole bad later =
    let wrong : IsErr (add_line s first) = subst IsErr (sym is) refl in
    read_lines_at_bad_line number s (first ++ 10 ∷ lines_before_rest lines more) first (lines_before_rest lines more) (cut_of_line_at_newline first (lines_before_rest lines more) whole) wrong
    ∙ sym (read_lines_at_bad_line number s (first ++ 10 ∷ lines_before_rest lines []) first (lines_before_rest lines []) (cut_of_line_at_newline first (lines_before_rest lines []) whole) wrong) ∙ bad

stays : (number line : ℕ) (s : Reading) (lines : List (List ℕ)) (more : List ℕ) → AreLines lines → line < number + length lines
    → read_lines number s (split_text 10 (lines_before_rest lines [])) ≡ Err line → read_lines number s (split_text 10 (lines_before_rest lines more)) ≡ Err line
stays number line s [] more whole low bad = absurd (omega (arith, low, not_past number line s (is_text_end s.stage) bad))
stays number line s (first ∷ lines) more whole low bad =
    stays_by number line s first lines more (add_line s first) refl whole.0 bad
    (λ t h. stays (number + 1) line t lines more whole.1 (omega (arith, low)) h)

behind_by : (line : ℕ) (first : List ℕ) (lines : List (List ℕ)) (more : List ℕ) (b : Bool) → HasNoNewline first → AreLines lines → line < 1 + length (first ∷ lines)
    → cond b (read_behind (cut_of 10 (first ++ 10 ∷ lines_before_rest lines [])).1) (read_lines 1 nothing_read (split_text 10
    (first ++ 10 ∷ lines_before_rest lines []))) ≡ Err line
    → cond b (read_behind (cut_of 10 (first ++ 10 ∷ lines_before_rest lines more)).1) (read_lines 1 nothing_read (split_text 10
    (first ++ 10 ∷ lines_before_rest lines more))) ≡ Err line
behind_by line first lines more true one whole low bad =
    ap (λ (c : List ℕ × Option (List ℕ)). read_behind c.1) (cut_of_line_at_newline first (lines_before_rest lines more) one)
    ∙ stays 2 line nothing_read lines more whole (omega (arith, low))
    (ap (λ (c : List ℕ × Option (List ℕ)). read_behind c.1) (sym (cut_of_line_at_newline first (lines_before_rest lines []) one)) ∙ bad)
behind_by line first lines more false one whole low bad = stays 1 line nothing_read (first ∷ lines) more (one, whole) low bad

pub first_byte_before_newline : (first rest other : List ℕ) → slice_index (first ++ 10 ∷ rest) 0 ≡ slice_index (first ++ 10 ∷ other) 0
first_byte_before_newline [] rest other = refl
first_byte_before_newline (c ∷ first) rest other = refl

-- no text begins with lines of which one is bad
pub bad_line_stays_bad : (lines : List (List ℕ)) (more : List ℕ) (line : ℕ) → AreLines lines → line ≤ length lines → read_text (lines_before_rest lines []) ≡ Err line
    → read_text (lines_before_rest lines more) ≡ Err line
bad_line_stays_bad [] more line whole low bad = absurd (omega (arith, low, not_past 1 line nothing_read false bad))
bad_line_stays_bad (first ∷ lines) more line whole low bad =
    ap (λ (n : ℕ). cond (n == 123) (read_behind (cut_of 10 (first ++ 10 ∷ lines_before_rest lines more)).1) (read_lines 1 nothing_read (split_text 10
    (first ++ 10 ∷ lines_before_rest lines more))))
    (first_byte_before_newline first (lines_before_rest lines more) (lines_before_rest lines []))
    ∙ behind_by line first lines more (slice_index (first ++ 10 ∷ lines_before_rest lines []) 0 == 123) whole.0 whole.1 (omega (arith, low)) bad
