-- What comes next of a log, by its first number and how many lines were counted.
use Rattle.std.proofs.Common.{◌≡◌, ℕ, zero, suc, ◌+◌, ◌<◌, ◌≤◌, ◌==◌, ◌&&◌, nat_lt, List, [], ◌∷◌, length, Option, Some, None}
use Rattle.std.proofs.Common.{slice_get, Bool, true, false, cond, get_or, set, length-set, refl, sym, subst, ap, ◌∙◌, arith}
use Rattle.std.proofs.Common.{⊎_elim, replicate}
use Rattle.std.proofs.lemmas.List.{get_or-replicate, length-replicate}
use Rattle.std.proofs.lemmas.Bool.{cases_eq, eq-eqb, eqb-true, lt-ltb, le-ltb}
use Rattle.std.proofs.lemmas.Bool.Decides.{nat_tests}
use Rattle.std.proofs.lemmas.Option.{slice_get_within}
use Rattle.std.proofs.lemmas.Slice.Eq.{bytes_eq-Decides}
use Rattle.am_group.specs.Journals.{item_at}
use Rattle.am_text_defs.specs.Fields.{same}
use Rattle.am_audit_defs.specs.Lines.{Line}
use Rattle.am_audit_defs.specs.Verdicts.{first_fault, is_text, first_astray, lines_of, count_of, is_line}
use Rattle.am_audit_defs.proofs.Segments.{LinesRunFromNumber, AllLinesAreInGroup, first_number_of_lines, faultless_log_runs_from_lead, count_of_name_is_length, faithful_logs_are_in_group, log_of_name_in_group, number_of_line_in_run, line_text_is_in_group}
use Rattle.am_audit.specs.Keeping.{CountsEachName, first_number, is_next}
use Rattle.am_audit.proofs.Passing.{get_or_of_set_list}

lead_by : (name : ℕ) (b : Bool) (line : Line) (n : ℕ) (lines : List Line) → n ≡ first_number_of_lines lines → cond b line.number n ≡ first_number_of_lines (cond b (line ∷ lines) lines)
lead_by name true line n lines is = refl
lead_by name false line n lines is = is

first_is_lead : (name : ℕ) (logs : List Line) → first_number name logs ≡ first_number_of_lines (lines_of name logs)
first_is_lead name [] = refl
first_is_lead name (line ∷ logs) = lead_by name (line.name == name) line (first_number name logs) (lines_of name logs) (first_is_lead name logs)

-- ---- what comes next of a log

text_there : (found : Option (List ℕ)) (text other : List ℕ) → is_text found text ≡ true → same text other ≡ is_text found other
text_there None text other is = cc
text_there (Some found) text other is = ap (λ (t : List ℕ). same t other) (sym ((bytes_eq-Decides found text).0 is))

next_some : (group : List (List ℕ)) (start k count : ℕ) (line taken : Line) → line.number ≡ start + k → is_text (item_at group line.number) line.text ≡ true
    → k < count → is_line (Some line) taken ≡ is_next group start count k taken
next_some group start k count line taken number there within =
    let inside : nat_lt k count ≡ true = lt-ltb k count within in
    ⊎_elim
    (λ (e : line.number ≡ taken.number).
    let yes : (line.number == taken.number) ≡ true = eq-eqb line.number taken.number e in
    let yes' : (taken.number == start + k) ≡ true = eq-eqb taken.number (start + k) (sym e ∙ number) in
    let texts : same line.text taken.text ≡ is_text (item_at group taken.number) taken.text
    = text_there (item_at group line.number) line.text taken.text there ∙ ap (λ (n : ℕ). is_text (item_at group n) taken.text) e in
    ap (λ b. b && same line.text taken.text) yes ∙ texts
    ∙ sym (ap (λ b. b && ((taken.number == start + k) && is_text (item_at group taken.number) taken.text)) inside
    ∙ ap (λ b. b && is_text (item_at group taken.number) taken.text) yes'))
    (λ (ne : line.number ≡ taken.number → ⊥).
    let no : (line.number == taken.number) ≡ false = grind (arith, nat_tests) in
    let other : taken.number ≡ start + k → ⊥ = λ e. ne (number ∙ sym e) in
    let no' : (taken.number == start + k) ≡ false = grind (arith, nat_tests) in
    ap (λ b. b && same line.text taken.text) no
    ∙ sym (ap (λ b. b && ((taken.number == start + k) && is_text (item_at group taken.number) taken.text)) inside
    ∙ ap (λ b. b && is_text (item_at group taken.number) taken.text) no'))
    (cases_eq line.number taken.number)

none_past : (lines : List Line) (k : ℕ) → slice_get lines k ≡ None → length lines ≤ k
none_past [] k is = omega arith
none_past (line ∷ lines) zero is = cc
none_past (line ∷ lines) (suc k) is = omega (arith, none_past lines k is)

next_by : (group : List (List ℕ)) (start k : ℕ) (lines : List Line) (taken : Line) (o : Option Line) → LinesRunFromNumber start lines → AllLinesAreInGroup group lines
    → slice_get lines k ≡ o
    → is_line o taken ≡ is_next group start (length lines) k taken
next_by group start k lines taken (Some line) run all is =
    next_some group start k (length lines) line taken (number_of_line_in_run start k lines line run is) (line_text_is_in_group group k lines line all is)
    (slice_get_within lines k line is)
next_by group start k lines taken None run all is =
    let past : length lines ≤ k = none_past lines k is in
    sym (ap (λ b. b && ((taken.number == start + k) && is_text (item_at group taken.number) taken.text)) (le-ltb k (length lines) past))

-- a take is what a log has after so many lines, or isn't, by the log's first number and length
next_is : (group : List (List ℕ)) (logs : List Line) (k : ℕ) (taken : Line) → first_fault [] logs ≡ None → first_astray group logs ≡ None
    → is_line (slice_get (lines_of taken.name logs) k) taken ≡ is_next group (first_number taken.name logs) (count_of taken.name logs) k taken
next_is group logs k taken faultless listed =
    next_by group (first_number taken.name logs) k (lines_of taken.name logs) taken (slice_get (lines_of taken.name logs) k)
    (subst (λ (n : ℕ). LinesRunFromNumber n (lines_of taken.name logs)) (sym (first_is_lead taken.name logs)) (faultless_log_runs_from_lead logs taken.name faultless))
    (log_of_name_in_group group taken.name logs (faithful_logs_are_in_group group logs listed)) refl
    ∙ ap (λ (n : ℕ). is_next group (first_number taken.name logs) n k taken) (sym (count_of_name_is_length taken.name logs))

-- ---- counts with one line more

counted_by : (b : Bool) (x y z : ℕ) → (b ≡ true → x ≡ z) → y ≡ z → cond b (x + 1) y ≡ cond b (z + 1) z
counted_by true x y z same other = ap (λ (n : ℕ). n + 1) (same refl)
counted_by false x y z same other = other

-- before any line
pub nothing_is_counted_at_first : CountsEachName (replicate 256 0) []
nothing_is_counted_at_first = record { size = length-replicate {A = ℕ} 256 0; counted = λ name low. get_or-replicate 256 name 0 0 low }

count_more_at : (done : List ℕ) (before : List Line) (line : Line) → line.name < 256 → CountsEachName done before
    → CountsEachName (set done line.name (get_or done line.name 0 + 1)) (line ∷ before)
count_more_at done before line named kept = record {
  size = length-set done line.name (get_or done line.name 0 + 1) ∙ kept.size;
  counted = λ name low. get_or_of_set_list done line.name name (get_or done line.name 0 + 1) 0 (omega (arith, kept.size))
      ∙ counted_by (line.name == name) (get_or done line.name 0) (get_or done name 0) (count_of name before)
      (λ is. ap (λ (n : ℕ). get_or done n 0) (eqb-true line.name name is) ∙ kept.counted name low) (kept.counted name low);
}

pub count_with_one_line_more : (done : List ℕ) (before : List Line) (line : Line) (n : ℕ) → line.name < 256 → n ≡ line.name → CountsEachName done before
    → CountsEachName (set done n (get_or done n 0 + 1)) (line ∷ before)
count_with_one_line_more done before line n named is kept =
    subst (λ (k : ℕ). CountsEachName (set done k (get_or done k 0 + 1)) (line ∷ before)) (sym is) (count_more_at done before line named kept)

-- whether a take is what its log has next, by what is kept of logs and takes
pub taken_line_comes_next : (group : List (List ℕ)) (logs before : List Line) (taken : Line) (firsts lengths done : List ℕ) (n : ℕ) (b : Bool)
    → first_fault [] logs ≡ None → first_astray group logs ≡ None → taken.name < 256 → n ≡ taken.name
    → ((name : ℕ) → name < 256 → get_or firsts name 0 ≡ first_number name logs) → CountsEachName lengths logs → CountsEachName done before
    → b ≡ is_next group (get_or firsts n 0) (get_or lengths n 0) (get_or done n 0) taken
    → is_line (slice_get (lines_of taken.name logs) (count_of taken.name before)) taken ≡ b
taken_line_comes_next group logs before taken firsts lengths done n b faultless listed named is first_is lengths_are done_are found =
    next_is group logs (count_of taken.name before) taken faultless listed
    ∙ ap (λ (x : ℕ). is_next group x (count_of taken.name logs) (count_of taken.name before) taken) (sym (first_is taken.name named))
    ∙ ap (λ (x : ℕ). is_next group (get_or firsts taken.name 0) x (count_of taken.name before) taken) (sym (lengths_are.counted taken.name named))
    ∙ ap (λ (x : ℕ). is_next group (get_or firsts taken.name 0) (get_or lengths taken.name 0) x taken) (sym (done_are.counted taken.name named))
    ∙ ap (λ (k : ℕ). is_next group (get_or firsts k 0) (get_or lengths k 0) (get_or done k 0) taken) (sym is) ∙ sym found
