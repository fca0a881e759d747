-- Logs without a fault are pieces of the list.
use Rattle.std.proofs.Common.{◌≡◌, ℕ, zero, suc, ◌+◌, ◌≤◌, ◌==◌, List, [], ◌∷◌, length, Option, Some, None}
use Rattle.std.proofs.Common.{slice_get, Bool, true, false, cond, refl, sym, subst, ap, ◌∙◌, arith}
use Rattle.std.proofs.lemmas.Bool.{eqb-true}
use Rattle.am_group.specs.Journals.{item_at}
use Rattle.am_audit_defs.specs.declared.verdict.Verdict.TheVariants as verdicts
use Rattle.am_audit_defs.specs.Lines.{Line, Reading}
use Rattle.am_audit_defs.specs.Verdicts.{or_else, wrong_lists, last_of, gap_at, fault_at, first_fault, is_text, astray_at, first_astray, lines_of, count_of}

-- numbers from one on
abbrev pub LinesRunFromNumber : ℕ → List Line → Type 0
LinesRunFromNumber start [] = Unit {0}
LinesRunFromNumber start (line ∷ lines) = (line.number ≡ start) × LinesRunFromNumber (start + 1) lines

-- the list has each line
abbrev pub AllLinesAreInGroup : List (List ℕ) → List Line → Type 0
AllLinesAreInGroup group [] = Unit {0}
AllLinesAreInGroup group (line ∷ lines) = (is_text (item_at group line.number) line.text ≡ true) × AllLinesAreInGroup group lines

-- lines go on after a last one
abbrev Follows : Option ℕ → List Line → Type 0
Follows (Some last) lines = LinesRunFromNumber (last + 1) lines
Follows None [] = Unit {0}
Follows None (line ∷ lines) = LinesRunFromNumber (line.number + 1) lines

-- the first number
abbrev pub first_number_of_lines : List Line → ℕ
first_number_of_lines [] = 0
first_number_of_lines (line ∷ lines) = line.number

pub or_else_none_first : {A : Type 0} (o p : Option A) → or_else o p ≡ None → o ≡ None
or_else_none_first None p h = refl
or_else_none_first (Some x) p h = cc

pub or_else_none_second : {A : Type 0} (o p : Option A) → or_else o p ≡ None → p ≡ None
or_else_none_second None p h = h
or_else_none_second (Some x) p h = cc

-- ---- no fault

no_gap : (last : ℕ) (line : Line) (b : Bool) → (last + 1 == line.number) ≡ b → gap_at (Some last) line ≡ None → b ≡ true
no_gap last line true is none = refl
no_gap last line false is none = let some = ap (λ c. cond c None (Some (verdicts.Gap line.name line.number))) is in cc

follows_here : (o : Option ℕ) (line : Line) (lines : List Line) → gap_at o line ≡ None → LinesRunFromNumber (line.number + 1) lines → Follows o (line ∷ lines)
follows_here None line lines none run = run
follows_here (Some last) line lines none run =
    let next : last + 1 ≡ line.number = eqb-true (last + 1) line.number (no_gap last line (last + 1 == line.number) refl none) in
    (sym next, subst (λ (n : ℕ). LinesRunFromNumber (n + 1) lines) (sym next) run)

follows_end : (o : Option ℕ) → Follows o []
follows_end None = tt
follows_end (Some last) = tt

follows_by : (name : ℕ) (b : Bool) (o : Option ℕ) (line : Line) (lines : List Line) → (b ≡ true → gap_at o line ≡ None)
    → Follows (cond b (Some line.number) o) lines → Follows o (cond b (line ∷ lines) lines)
follows_by name true o line lines none follows = follows_here o line lines (none refl) follows
follows_by name false o line lines none follows = follows

follows : (logs before : List Line) (name : ℕ) → first_fault before logs ≡ None → Follows (last_of name before) (lines_of name logs)
follows [] before name none = follows_end (last_of name before)
follows (line ∷ logs) before name none =
    let here : fault_at before line ≡ None = or_else_none_first (fault_at before line) (first_fault (line ∷ before) logs) none in
    let later : first_fault (line ∷ before) logs ≡ None = or_else_none_second (fault_at before line) (first_fault (line ∷ before) logs) none in
    let gap : gap_at (last_of line.name before) line ≡ None = or_else_none_first (gap_at (last_of line.name before) line) _ here in
    follows_by name (line.name == name) (last_of name before) line (lines_of name logs)
    (λ is. ap (λ (n : ℕ). gap_at (last_of n before) line) (sym (eqb-true line.name name is)) ∙ gap)
    (follows logs (line ∷ before) name later)

run_from : (lines : List Line) → Follows None lines → LinesRunFromNumber (first_number_of_lines lines) lines
run_from [] follows = tt
run_from (line ∷ lines) follows = (refl, follows)

-- a faultless log's numbers go up by one from its first
pub faultless_log_runs_from_lead : (logs : List Line) (name : ℕ) → first_fault [] logs ≡ None → LinesRunFromNumber (first_number_of_lines (lines_of name logs)) (lines_of name logs)
faultless_log_runs_from_lead logs name none = run_from (lines_of name logs) (follows logs [] name none)

count_by_length : (b : Bool) (line : Line) (n : ℕ) (lines : List Line) → n ≡ length lines → cond b (n + 1) n ≡ length (cond b (line ∷ lines) lines)
count_by_length true line n lines is = omega (arith, is)
count_by_length false line n lines is = is

pub count_of_name_is_length : (name : ℕ) (logs : List Line) → count_of name logs ≡ length (lines_of name logs)
count_of_name_is_length name [] = refl
count_of_name_is_length name (line ∷ logs) = count_by_length (line.name == name) line (count_of name logs) (lines_of name logs) (count_of_name_is_length name logs)

count_by_le : (b : Bool) (n m : ℕ) → n ≤ m → cond b (n + 1) n ≤ m + 1
count_by_le true n m le = omega (arith, le)
count_by_le false n m le = omega (arith, le)

pub count_of_name_le_lines : (name : ℕ) (lines : List Line) → count_of name lines ≤ length lines
count_of_name_le_lines name [] = omega arith
count_of_name_le_lines name (line ∷ lines) = omega (arith, count_by_le (line.name == name) (count_of name lines) (length lines) (count_of_name_le_lines name lines))

-- ---- in the list

in_list : (group : List (List ℕ)) (line : Line) (b : Bool) → is_text (item_at group line.number) line.text ≡ b → astray_at group line ≡ None → b ≡ true
in_list group line true is none = refl
in_list group line false is none = let some = ap (λ c. cond c None (Some (verdicts.Astray line.name line.number))) is in cc

pub faithful_logs_are_in_group : (group : List (List ℕ)) (logs : List Line) → first_astray group logs ≡ None → AllLinesAreInGroup group logs
faithful_logs_are_in_group group [] none = tt
faithful_logs_are_in_group group (line ∷ logs) none = (
  in_list group line (is_text (item_at group line.number) line.text) refl (or_else_none_first (astray_at group line) (first_astray group logs) none),
  faithful_logs_are_in_group group logs (or_else_none_second (astray_at group line) (first_astray group logs) none),
)

in_by : (group : List (List ℕ)) (b : Bool) (line : Line) (lines : List Line) → is_text (item_at group line.number) line.text ≡ true → AllLinesAreInGroup group lines
    → AllLinesAreInGroup group (cond b (line ∷ lines) lines)
in_by group true line lines here later = (here, later)
in_by group false line lines here later = later

pub log_of_name_in_group : (group : List (List ℕ)) (name : ℕ) (logs : List Line) → AllLinesAreInGroup group logs → AllLinesAreInGroup group (lines_of name logs)
log_of_name_in_group group name [] all = tt
log_of_name_in_group group name (line ∷ logs) all = in_by group (line.name == name) line (lines_of name logs) all.0 (log_of_name_in_group group name logs all.1)

-- ---- one line of a log

pub number_of_line_in_run : (start k : ℕ) (lines : List Line) (line : Line) → LinesRunFromNumber start lines → slice_get lines k ≡ Some line → line.number ≡ start + k
number_of_line_in_run start k [] line run is = cc
number_of_line_in_run start zero (first ∷ lines) line run is = let same : first ≡ line = cc in ap (λ (x : Line). x.number) (sym same) ∙ run.0 ∙ omega arith
number_of_line_in_run start (suc k) (first ∷ lines) line run is = number_of_line_in_run (start + 1) k lines line run.1 is ∙ omega arith

pub line_text_is_in_group : (group : List (List ℕ)) (k : ℕ) (lines : List Line) (line : Line) → AllLinesAreInGroup group lines → slice_get lines k ≡ Some line
    → is_text (item_at group line.number) line.text ≡ true
line_text_is_in_group group k [] line all is = cc
line_text_is_in_group group zero (first ∷ lines) line all is = let same : first ≡ line = cc in
    subst (λ (x : Line). is_text (item_at group x.number) x.text ≡ true) same all.0
line_text_is_in_group group (suc k) (first ∷ lines) line all is = line_text_is_in_group group k lines line all.1 is

-- lists with nothing wrong are without a fault, and in the list
pub logs_faultless_if_lists_right : (s : Reading) → wrong_lists s ≡ None → first_fault [] s.logs ≡ None
unfolding wrong_lists
logs_faultless_if_lists_right s none = or_else_none_first (first_fault [] s.logs) _ none

pub logs_listed_if_lists_right : (s : Reading) → wrong_lists s ≡ None → first_astray s.group s.logs ≡ None
unfolding wrong_lists
logs_listed_if_lists_right s none = or_else_none_first (first_astray s.group s.logs) _ (or_else_none_second (first_fault [] s.logs) _ none)
