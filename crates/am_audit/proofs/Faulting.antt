-- What is kept of log lines, with one line more.
use Rattle.std.proofs.Common.{◌≡◌, ℕ, ◌<◌, ◌==◌, List, [], ◌∷◌, length, get_or, set, Option, Some}
use Rattle.std.proofs.Common.{None, slice_get, Bool, true, false, cond, sym, ap, ◌∙◌, subst, arith}
use Rattle.std.specs.Ordering.{nat_cmp}
use Rattle.std.specs.BTreeMap.{BTreeMap, get}
use Rattle.std.proofs.lemmas.Option.{slice_get-get_or}
use Rattle.am_audit_defs.specs.declared.verdict.Verdict.{Verdict}
use Rattle.am_audit_defs.specs.Fields.{data_in}
use Rattle.am_audit_defs.specs.Lines.{Line}
use Rattle.am_audit_defs.specs.Verdicts.{or_else, last_of, first_with, gap_at, differs_at, twice_at, fault_at}
use Rattle.am_audit.specs.Keeping.{IsIndexOfFound, AreFirstNumbers, IsKept, twice_by_key}
use Rattle.am_audit.proofs.Keys.{twice_at_by_keys}
use Rattle.am_audit.proofs.Passing.{get_or_of_set_list}

first_new : (logs : List Line) (found : Option Line) (line : Line) (at : ℕ) (b : Bool) → slice_get logs at ≡ Some line → at < length logs → found ≡ None
    → IsIndexOfFound logs (cond b (Some at) None) (or_else found (cond b (Some line) None))
first_new logs found line at true is within none = (ap (λ f. or_else f (Some line)) none ∙ sym is, within)
first_new logs found line at false is within none = ap (λ f. or_else f None) none

first_old : (logs : List Line) (found other : Option Line) (at : ℕ) → (found ≡ slice_get logs at) → at < length logs → or_else found other ≡ slice_get logs at
first_old logs found other at is within =
    let line = get_or logs at (record { name = 0; number = 0; text = [] }) in
    let some : slice_get logs at ≡ Some line = slice_get-get_or logs at (record { name = 0; number = 0; text = [] }) within in
    ap (λ f. or_else f other) (is ∙ some) ∙ sym some

first_more : (logs : List Line) (o : Option ℕ) (found : Option Line) (line : Line) (at : ℕ) (b : Bool) → slice_get logs at ≡ Some line → at < length logs
    → IsIndexOfFound logs o found → IsIndexOfFound logs (or_else o (cond b (Some at) None)) (or_else found (cond b (Some line) None))
first_more logs None found line at b is within none = first_new logs found line at b is within none
first_more logs (Some first) found line at b is within known = (first_old logs found (cond b (Some line) None) first known.0 known.1, known.1)

-- a line that doesn't fault is kept
kept_more : (logs : List Line) (last : List (Option ℕ)) (first after sent later : BTreeMap ℕ ℕ) (line : Line) (before : List Line) (at : ℕ)
    → slice_get logs at ≡ Some line → at < length logs → length last ≡ 256 → line.name < 256
    → ((q : ℕ) → get nat_cmp after q ≡ or_else (get nat_cmp first q) (cond (line.number == q) (Some at) None))
    → AreFirstNumbers later (line ∷ before) → IsKept logs last first sent before → IsKept logs (set last line.name (Some line.number)) after later (line ∷ before)
kept_more logs last first after sent later line before at is within size named added sends kept = record {
  numbers = λ name low. get_or_of_set_list last line.name name (Some line.number) None (omega arith)
      ∙ ap (cond (line.name == name) (Some line.number)) (kept.numbers name low);
  lines = λ number. subst (λ o. IsIndexOfFound logs o (first_with number (line ∷ before))) (sym (added number))
      (first_more logs (get nat_cmp first number) (first_with number before) line at (line.number == number) is within (kept.lines number));
  sends = sends;
}

-- a line that faults not by its number, and not by its entry, faults by its send
fault_by_send : (before : List Line) (line : Line) (verdict : Option Verdict) → gap_at (last_of line.name before) line ≡ None
    → differs_at (first_with line.number before) line ≡ None → verdict ≡ twice_at before (data_in line.text) line.number → verdict ≡ fault_at before line
fault_by_send before line verdict gap differs twice =
    let second = or_else (differs_at (first_with line.number before) line) (twice_at before (data_in line.text) line.number) in
    twice ∙ sym (ap (λ o. or_else o (twice_at before (data_in line.text) line.number)) differs) ∙ sym (ap (λ o. or_else o second) gap)

pub fault_at_other_entry : (before : List Line) (line : Line) (verdict : Verdict) → gap_at (last_of line.name before) line ≡ None
    → Some verdict ≡ differs_at (first_with line.number before) line → Some verdict ≡ fault_at before line
fault_at_other_entry before line verdict gap differs =
    let second = or_else (differs_at (first_with line.number before) line) (twice_at before (data_in line.text) line.number) in
    ap (λ o. or_else o (twice_at before (data_in line.text) line.number)) differs ∙ sym (ap (λ o. or_else o second) gap)

fault_by_number : (before : List Line) (line : Line) (verdict : Verdict) → Some verdict ≡ gap_at (last_of line.name before) line
    → Some verdict ≡ fault_at before line
fault_by_number before line verdict gap =
    let second = or_else (differs_at (first_with line.number before) line) (twice_at before (data_in line.text) line.number) in
    ap (λ o. or_else o second) gap

faulted_item : (logs : List Line) (last : List (Option ℕ)) (first after sent later : BTreeMap ℕ ℕ) (known : Option ℕ) (at : ℕ) (item : Line)
    (before : List Line)
    (verdict : Option Verdict) → slice_get logs at ≡ Some item → at < length logs → length last ≡ 256 → item.name < 256
    → gap_at (get_or last item.name None) item ≡ None → ((found : Option Line) → IsIndexOfFound logs known found → None ≡ differs_at found item)
    → known ≡ get nat_cmp first item.number
    → ((q : ℕ) → get nat_cmp after q ≡ or_else (get nat_cmp first q) (cond (item.number == q) (Some at) None))
    → (AreFirstNumbers sent before → (verdict ≡ twice_by_key before (data_in item.text) item.number) × AreFirstNumbers later (item ∷ before))
    → IsKept logs last first sent before
    → (verdict ≡ fault_at before item) × (verdict ≡ None → IsKept logs (set last item.name (Some item.number)) after later (item ∷ before))
faulted_item logs last first after sent later known at item before verdict is within size named gap differs looked added twice kept =
    let no_gap : gap_at (last_of item.name before) item ≡ None = ap (λ o. gap_at o item) (sym (kept.numbers item.name named)) ∙ gap in
    let no_other : differs_at (first_with item.number before) item ≡ None
    = sym (differs (first_with item.number before) (subst (λ o. IsIndexOfFound logs o (first_with item.number before)) (sym looked) (kept.lines item.number))) in (
      fault_by_send before item verdict no_gap no_other ((twice kept.sends).0 ∙ twice_at_by_keys before item.text item.number),
      λ none. kept_more logs last first after sent later item before at is within size named added (twice kept.sends).1 kept,
    )

-- what was found of a line, and that it is kept where it doesn't fault
pub first_fault_with_next_line : (logs : List Line) (last : List (Option ℕ)) (first after sent later : BTreeMap ℕ ℕ) (known : Option ℕ) (at n m : ℕ) (item line : Line)
    (before : List Line) (verdict : Option Verdict) → slice_get logs at ≡ Some line → line ≡ item → at < length logs → length last ≡ 256 → item.name < 256
    → n ≡ item.name → m ≡ item.name
    → gap_at (get_or last n None) item ≡ None → ((found : Option Line) → IsIndexOfFound logs known found → None ≡ differs_at found item)
    → known ≡ get nat_cmp first item.number
    → ((q : ℕ) → get nat_cmp after q ≡ or_else (get nat_cmp first q) (cond (item.number == q) (Some at) None))
    → (AreFirstNumbers sent before → (verdict ≡ twice_by_key before (data_in item.text) item.number) × AreFirstNumbers later (item ∷ before))
    → IsKept logs last first sent before
    → (verdict ≡ fault_at before line) × (verdict ≡ None → IsKept logs (set last m (Some item.number)) after later (line ∷ before))
first_fault_with_next_line logs last first after sent later known at n m item line before verdict is same within size named en em gap differs looked added twice kept =
    let here : slice_get logs at ≡ Some item = is ∙ ap Some same in
    let there = faulted_item logs last first after sent later known at item before verdict here within size named
    (ap (λ (k : ℕ). gap_at (get_or last k None) item) (sym en) ∙ gap) differs looked added twice kept in (
      there.0 ∙ ap (fault_at before) (sym same),
      λ none. subst (λ (k : ℕ). IsKept logs (set last k (Some item.number)) after later (line ∷ before)) (sym em)
          (subst (λ (x : Line). IsKept logs (set last item.name (Some item.number)) after later (x ∷ before)) (sym same) (there.1 none)),
    )

-- where its number isn't the next
pub fault_at_gap_of_numbers : (last : List (Option ℕ)) (n : ℕ) (item line : Line) (before : List Line) (verdict : Verdict) → line ≡ item → n ≡ item.name
    → Some verdict ≡ gap_at (get_or last n None) item → (get_or last item.name None ≡ last_of item.name before) → Some verdict ≡ fault_at before line
fault_at_gap_of_numbers last n item line before verdict same en gap kept =
    fault_by_number before item verdict (gap ∙ ap (λ (k : ℕ). gap_at (get_or last k None) item) en ∙ ap (λ o. gap_at o item) kept)
    ∙ ap (fault_at before) (sym same)
