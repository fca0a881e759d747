-- One line more in a pass over lines.
use Rattle.std.proofs.Common.{◌≡◌, ℕ, ◌+◌, ◌<◌, ◌≤◌, ◌==◌, List, [], ◌∷◌, length, drop, get_or, set, Option, Some}
use Rattle.std.proofs.Common.{None, slice_get, Result, Ok, Err, IfOk, true, false, cond, sym, ap, ◌∙◌, refl, arith, ⊎_elim, length-set, replicate}
use Rattle.std.specs.Option.{option_map}
use Rattle.std.specs.Ordering.{nat_cmp}
use Rattle.std.specs.Map.{lookup}
use Rattle.std.specs.BTreeMap.{BTreeMap, IsEmpty, is_at, get}
use Rattle.std.proofs.lemmas.Bool.{cases_eq, eq-eqb}
use Rattle.std.proofs.lemmas.Bool.Decides.{nat_tests}
use Rattle.std.proofs.lemmas.List.{get_or-set_same, get_or-set_other, get_or-replicate, length-replicate, drop_more, drop_all}
use Rattle.std.proofs.lemmas.Option.{slice_get-map, slice_get-get_or}
use Rattle.am_audit_defs.specs.declared.verdict.Verdict.{Verdict}
use Rattle.am_audit_defs.specs.Lines.{Line}
use Rattle.am_audit_defs.specs.Verdicts.{or_else, last_of}
use Rattle.am_audit.specs.declared.line.TextLine.{TextLine}
use Rattle.am_audit.specs.Keeping.{AreLastNumbers, IsPassing}
use Rattle.am_audit.specs.Views.{line_seen, lines_in}

-- no line
abbrev pub line_that_is_empty : TextLine
line_that_is_empty = record { name = 0; number = 0; text = record { ref_ptr = (0, 0); now = [] } }

-- what holds of what was returned, and what follows
pub if_ok_by_implied_claim : {T E : Type 0} (r : Result T E) (P Q : T → Type 0) → ((x : T) → P x → Q x) → IfOk r P → IfOk r Q
if_ok_by_implied_claim (Ok x) P Q h p = h x p
if_ok_by_implied_claim (Err e) P Q h p = tt

-- the line at an index, as it is kept
pub line_read_at_index : (logs : List TextLine) (at : ℕ) (d : TextLine) (line : Line) → at < length logs → slice_get (lines_in logs) at ≡ Some line
    → line ≡ line_seen (get_or logs at d)
line_read_at_index logs at d line within is =
    let found : slice_get (lines_in logs) at ≡ Some (line_seen (get_or logs at d))
    = slice_get-map line_seen logs at ∙ ap (option_map line_seen) (slice_get-get_or logs at d within) in
    cc

pub slice_get_of_lines_in : (logs : List TextLine) (at : ℕ) (d : TextLine) → at < length logs → slice_get (lines_in logs) at ≡ Some (line_seen (get_or logs at d))
slice_get_of_lines_in logs at d within = slice_get-map line_seen logs at ∙ ap (option_map line_seen) (slice_get-get_or logs at d within)

-- the lines from an index on
pub lines_in_from_index : (logs : List TextLine) (at : ℕ) (d : TextLine) → at < length logs
    → lines_in (drop at logs) ≡ line_seen (get_or logs at d) ∷ lines_in (drop (at + 1) logs)
lines_in_from_index logs at d within = ap lines_in (drop_more logs at d within)

-- what each name has, where one gets something
pub get_or_of_set_list : {A : Type 0} (xs : List A) (at q : ℕ) (x d : A) → at < length xs → get_or (set xs at x) q d ≡ cond (at == q) x (get_or xs q d)
get_or_of_set_list {A} xs at q x d within = ⊎_elim
    (λ (same : at ≡ q). let yes : (at == q) ≡ true = eq-eqb at q same in
    ap (λ (k : ℕ). get_or (set xs at x) k d) (sym same) ∙ get_or-set_same xs at x d within ∙ sym (ap (λ b. cond b x (get_or xs q d)) yes))
    (λ (other : at ≡ q → ⊥). let no : (at == q) ≡ false = grind (arith, nat_tests) in
    get_or-set_other xs at q x d (λ e. other (sym e)) ∙ sym (ap (λ b. cond b x (get_or xs q d)) no))
    (cases_eq at q)

-- the first of two is there, or isn't
pub or_else_of_none : {A : Type 0} (o second : Option A) → o ≡ None → or_else o second ≡ second
or_else_of_none o second none = ap (λ p. or_else p second) none

pub or_else_of_some : {A : Type 0} (o second : Option A) (x : A) → o ≡ Some x → or_else o second ≡ Some x
or_else_of_some o second x some = ap (λ p. or_else p second) some

-- no line is left
pub lines_in_past_end : (logs : List TextLine) (at : ℕ) → length logs ≤ at → lines_in (drop at logs) ≡ []
lines_in_past_end logs at past = ap lines_in (drop_all at logs past)

-- an empty map has nothing
pub get_of_empty_map : {X : Type 0} (m : BTreeMap ℕ X) (key : ℕ) → IsEmpty m → get nat_cmp m key ≡ None
get_of_empty_map m key empty = ap (lookup (is_at (nat_cmp key))) empty

-- the last number of each name, with one line more
last_more : (last : List (Option ℕ)) (before : List Line) (line : Line) (n : ℕ) → length last ≡ 256 → line.name < 256 → n ≡ line.name
    → AreLastNumbers last before → AreLastNumbers (set last n (Some line.number)) (line ∷ before)
last_more last before line n size named is kept = λ name low.
    ap (λ (k : ℕ). get_or (set last k (Some line.number)) name None) is ∙ get_or_of_set_list last line.name name (Some line.number) None (omega arith)
    ∙ ap (cond (line.name == name) (Some line.number)) (kept name low)

at_last : (last : List (Option ℕ)) (before : List Line) (name n : ℕ) → name < 256 → n ≡ name → AreLastNumbers last before → get_or last n None ≡ last_of name before
at_last last before name n named is kept = ap (λ (k : ℕ). get_or last k None) is ∙ kept name named

-- a pass begins, and goes on by a line in which it finds nothing
pub pass_begins_with_all_lines : (first : List Line → List Line → Option Verdict) (lines : List Line) → IsPassing first (replicate 256 None) lines lines
pass_begins_with_all_lines first lines = record {
  before = [];
  size = length-replicate {A = Option ℕ} 256 None;
  numbers = λ name low. get_or-replicate 256 name None None low;
  finds = refl;
}

pub pass_goes_on_by_line : (first : List Line → List Line → Option Verdict) (test : Option ℕ → Line → Option Verdict)
    → ((before : List Line) (line : Line) (lines : List Line) → first before (line ∷ lines) ≡ or_else (test (last_of line.name before) line) (first (line ∷ before) lines))
    → (logs : List TextLine) (at n m : ℕ) (last : List (Option ℕ)) → at < length logs → n ≡ (get_or logs at line_that_is_empty).name → m ≡ (get_or logs at line_that_is_empty).name
    → (get_or logs at line_that_is_empty).name < 256 → test (get_or last n None) (line_seen (get_or logs at line_that_is_empty)) ≡ None
    → IsPassing first last (lines_in (drop at logs)) (lines_in logs)
    → IsPassing first (set last m (Some (get_or logs at line_that_is_empty).number)) (lines_in (drop (at + 1) logs)) (lines_in logs)
pass_goes_on_by_line first test steps logs at n m last within here there named none inv =
    let line = line_seen (get_or logs at line_that_is_empty) in
    let passed : test (last_of line.name inv.before) line ≡ None
    = ap (λ o. test o line) (sym (at_last last inv.before line.name n named here inv.numbers)) ∙ none in
    record {
      before = line ∷ inv.before;
      size = length-set last m (Some line.number) ∙ inv.size;
      numbers = last_more last inv.before line m inv.size named there inv.numbers;
      finds = sym (or_else_of_none _ _ passed) ∙ sym (steps inv.before line (lines_in (drop (at + 1) logs)))
          ∙ ap (first inv.before) (sym (lines_in_from_index logs at line_that_is_empty within)) ∙ inv.finds;
    }
