-- A text line by line.
use Rattle.std.proofs.Common.{◌≡◌, ℕ, ◌+◌, List, [], ◌∷◌, Option, Some, None, Result, Ok, Err, IsErr, Bool, true, false, cond, ◌==◌, refl, sym, ap, ◌∙◌}
use Rattle.am_text_defs.specs.declared.fault.FieldFault.{FieldFault}
use Rattle.am_text_defs.specs.Fields.{cut_of, onto_cut, split_text}
use Rattle.am_text_defs.proofs.Cuts.{parts_of_rest_of_cut, parts_of_by_first_cut}
use Rattle.am_audit_defs.specs.Lines.{Reading, add_line, finish_text, read_on, read_lines}

whole_on : (c : ℕ) (b : Bool) (cs : List ℕ) (cut : List ℕ × Option (List ℕ)) → (cut.1 ≡ None → cut.0 ≡ cs)
    → (cond b ([], Some cs) (onto_cut c cut)).1 ≡ None → (cond b ([], Some cs) (onto_cut c cut)).0 ≡ c ∷ cs
whole_on c true cs cut h none = cc
whole_on c false cs cut h none = ap (λ (xs : List ℕ). c ∷ xs) (h none)

-- where a text isn't cut, its first part is the whole
cut_whole : (separator : ℕ) (text : List ℕ) → (cut_of separator text).1 ≡ None → (cut_of separator text).0 ≡ text
cut_whole separator [] none = refl
cut_whole separator (c ∷ cs) none = whole_on c (c == separator) cs (cut_of separator cs) (cut_whole separator cs) none

-- where it is, the parts go on after the first
parts_on : (text line behind : List ℕ) → cut_of 10 text ≡ (line, Some behind)
    → split_text 10 text ≡ line ∷ (cut_of 10 behind).0 ∷ parts_of_rest_of_cut 10 (cut_of 10 behind).1
parts_on text line behind cut =
    parts_of_by_first_cut 10 text ∙ ap (λ (c : List ℕ × Option (List ℕ)). c.0 ∷ parts_of_rest_of_cut 10 c.1) cut ∙ ap (λ (ps : List (List ℕ)). line ∷ ps) (parts_of_by_first_cut 10 behind)

-- a line that is taken
pub read_lines_takes_good_line : (number : ℕ) (s t : Reading) (text line behind : List ℕ) → cut_of 10 text ≡ (line, Some behind) → add_line s line ≡ Ok t
    → read_lines number s (split_text 10 text) ≡ read_lines (number + 1) t (split_text 10 behind)
read_lines_takes_good_line number s t text line behind cut taken =
    let next = λ (u : Reading). read_lines (number + 1) u ((cut_of 10 behind).0 ∷ parts_of_rest_of_cut 10 (cut_of 10 behind).1) in
    ap (read_lines number s) (parts_on text line behind cut) ∙ ap (λ r. read_on number r next) taken
    ∙ ap (read_lines (number + 1) t) (sym (parts_of_by_first_cut 10 behind))

bad_read : (number : ℕ) (r : Result Reading FieldFault) (next : Reading → Result Reading ℕ) → IsErr r → read_on number r next ≡ Err number
bad_read number (Ok s) next h = cc
bad_read number (Err fault) next h = refl

-- a line that isn't
pub read_lines_at_bad_line : (number : ℕ) (s : Reading) (text line behind : List ℕ) → cut_of 10 text ≡ (line, Some behind) → IsErr (add_line s line)
    → read_lines number s (split_text 10 text) ≡ Err number
read_lines_at_bad_line number s text line behind cut bad =
    ap (read_lines number s) (parts_on text line behind cut)
    ∙ bad_read number (add_line s line) (λ u. read_lines (number + 1) u ((cut_of 10 behind).0 ∷ parts_of_rest_of_cut 10 (cut_of 10 behind).1)) bad

-- after the last newline
pub read_lines_at_last_line : (number : ℕ) (s : Reading) (text : List ℕ) → (cut_of 10 text).1 ≡ None → read_lines number s (split_text 10 text) ≡ finish_text number s text
read_lines_at_last_line number s text none =
    ap (read_lines number s) (parts_of_by_first_cut 10 text ∙ ap (λ (o : Option (List ℕ)). (cut_of 10 text).0 ∷ parts_of_rest_of_cut 10 o) none)
    ∙ ap (finish_text number s) (cut_whole 10 text none)
