-- What a verdict that agrees means: of lists and logs.
use Rattle.std.proofs.Common.{◌≡◌, ◌≢◌, ℕ, zero, suc, ◌+◌, ◌<◌, ◌==◌, ◌&&◌, nat_le, List, [], ◌∷◌, map, Option, Some, None, slice_get, Result, Ok, Err, Bool}
use Rattle.std.proofs.Common.{true, false, cond, refl, sym, subst, ap, ◌∙◌, arith, add-one}
use Rattle.std.proofs.lemmas.Bool.{eq-eqb, eqb-true}
use Rattle.std.proofs.lemmas.Bool.Decides.{nat_tests}
use Rattle.std.proofs.lemmas.Slice.Eq.{bytes_eq-Decides}
use Rattle.am_base.specs.Most.{greatest_number}
use Rattle.am_base.specs.Names.{has}
use Rattle.am_base.specs.Lists.{blank, after, fits, AllEntriesFit}
use Rattle.am_base.specs.declared.image.Image.{Image}
use Rattle.am_base.specs.declared.entry.GroupView.{GroupView}
use Rattle.am_group.specs.Journals.{item_at}
use Rattle.am_text_defs.specs.declared.fault.FieldFault.{FieldFault}
use Rattle.am_audit_defs.specs.declared.verdict.Verdict.TheVariants as verdicts
use Rattle.am_audit_defs.specs.declared.outline.Outline.{Outline}
use Rattle.am_audit_defs.specs.declared.outline.Outline.TheVariants as outlines
use Rattle.am_audit_defs.specs.declared.line.AnsweredSend.{AnsweredSend}
use Rattle.am_audit_defs.specs.Fields.{outline_of, data_in, is_send}
use Rattle.am_audit_defs.specs.Lines.{Line, Reading}
use Rattle.am_audit_defs.specs.Verdicts.{or_else, last_of, first_fault, is_text, first_astray, once_more, stands, is_at, lost_at, first_lost, may_begin, early_at}
use Rattle.am_audit_defs.specs.Verdicts.{first_early, bare_entry, founds, fits_at, image_after, first_misfit, lines_of, wrong_lists}
use Rattle.am_audit_defs.specs.Agreement.{IsPiece, LogBegins, LogBeginsAt, StandsAlone, IsFounding, IsFounded, AreFitting, Lists}
use Rattle.am_audit_defs.proofs.Founders.{founding_outline_is_view}
use Rattle.am_audit_defs.proofs.Segments.{or_else_none_first, or_else_none_second, faultless_log_runs_from_lead, log_of_name_in_group, faithful_logs_are_in_group, number_of_line_in_run, line_text_is_in_group, first_number_of_lines}

pub condition_without_verdict_is_true : {A : Type 0} (b : Bool) (x : A) → cond b None (Some x) ≡ None → b ≡ true
condition_without_verdict_is_true true x none = refl
condition_without_verdict_is_true false x none = cc

pub both_conditions_of_and : (a b : Bool) → (a && b) ≡ true → (a ≡ true) × (b ≡ true)
both_conditions_of_and true b h = (refl, h)
both_conditions_of_and false b h = cc

pub is_text_of_found_text : (found : Option (List ℕ)) (text : List ℕ) → is_text found text ≡ true → found ≡ Some text
is_text_of_found_text None text is = cc
is_text_of_found_text (Some found) text is = ap (λ (t : List ℕ). Some t) ((bytes_eq-Decides found text).0 is)

-- ---- pieces

piece_of : (group : List (List ℕ)) (logs : List Line) (name : ℕ) → first_fault [] logs ≡ None → first_astray group logs ≡ None
    → IsPiece group (lines_of name logs) (first_number_of_lines (lines_of name logs))
piece_of group logs name faultless listed = record {
  each = λ k line is. (
    number_of_line_in_run (first_number_of_lines (lines_of name logs)) k (lines_of name logs) line (faultless_log_runs_from_lead logs name faultless) is,
    is_text_of_found_text (item_at group line.number) line.text (line_text_is_in_group group k (lines_of name logs) line (log_of_name_in_group group name logs (faithful_logs_are_in_group group logs listed)) is),
  );
}

-- a log begins rightly
abbrev BeginOf : List Line → Type 0
BeginOf [] = Unit {0}
BeginOf (line ∷ lines) = may_begin line (outline_of line.text) ≡ true

begun_here : (o : Option ℕ) (line : Line) → o ≡ None → early_at o line ≡ None → may_begin line (outline_of line.text) ≡ true
begun_here None line none h = condition_without_verdict_is_true (may_begin line (outline_of line.text)) (verdicts.Early line.name line.number) h
begun_here (Some last) line none h = cc

begun_by : (b : Bool) (o : Option ℕ) (line : Line) (lines : List Line) → (b ≡ true → may_begin line (outline_of line.text) ≡ true)
    → (cond b (Some line.number) o ≡ None → BeginOf lines) → o ≡ None → BeginOf (cond b (line ∷ lines) lines)
begun_by true o line lines here later none = here refl
begun_by false o line lines here later none = later none

begun : (logs before : List Line) (name : ℕ) → first_early before logs ≡ None → last_of name before ≡ None → BeginOf (lines_of name logs)
begun [] before name none first = tt
begun (line ∷ logs) before name none first =
    begun_by (line.name == name) (last_of name before) line (lines_of name logs)
    (λ is. begun_here (last_of line.name before) line (ap (λ (n : ℕ). last_of n before) (eqb-true line.name name is) ∙ first)
    (or_else_none_first (early_at (last_of line.name before) line) (first_early (line ∷ before) logs) none))
    (begun logs (line ∷ before) name (or_else_none_second (early_at (last_of line.name before) line) (first_early (line ∷ before) logs) none))
    first

begins_by : (line : Line) (r : Result Outline FieldFault) → may_begin line r ≡ true
    → (outline : Outline) × (r ≡ Ok outline) × LogBegins line.number line.name outline
begins_by line (Err fault) h = cc
begins_by line (Ok (outlines.Data from req)) h = cc
begins_by line (Ok (outlines.Join name)) h = (outlines.Join name, refl, eqb-true name line.name h)
begins_by line (Ok (outlines.Leave name)) h = cc
begins_by line (Ok (outlines.View v)) h =
    let both = both_conditions_of_and (line.number == 1) (has v.members line.name) h in
    (outlines.View v, refl, (eqb-true line.number 1 both.0, both.1))

-- each line of a name's log has its name
named_by : (name : ℕ) (b : Bool) (line : Line) (lines : List Line) (k : ℕ) (x : Line) → (b ≡ true → line.name ≡ name)
    → ((j : ℕ) → slice_get lines j ≡ Some x → x.name ≡ name) → slice_get (cond b (line ∷ lines) lines) k ≡ Some x → x.name ≡ name
named_by name true line lines zero x here later is = let same : line ≡ x = cc in ap (λ (l : Line). l.name) (sym same) ∙ here refl
named_by name true line lines (suc k) x here later is = later k is
named_by name false line lines k x here later is = later k is

pub line_of_name_has_name : (name : ℕ) (logs : List Line) (k : ℕ) (line : Line) → slice_get (lines_of name logs) k ≡ Some line → line.name ≡ name
line_of_name_has_name name [] k line is = cc
line_of_name_has_name name (first ∷ logs) k line is =
    named_by name (first.name == name) first (lines_of name logs) k line (eqb-true first.name name) (λ j h. line_of_name_has_name name logs j line h) is

begins_of : (group : List (List ℕ)) (name : ℕ) (log : List Line) (start : ℕ) → log ≢ [] → start ≡ first_number_of_lines log → BeginOf log → IsPiece group log start
    → ((k : ℕ) (line : Line) → slice_get log k ≡ Some line → line.name ≡ name) → LogBeginsAt group name start
begins_of group name [] start some is begin piece named = absurd (some refl)
begins_of group name (line ∷ log) start some is begin piece named =
    let found = begins_by line (outline_of line.text) begin in
    let there = (piece.each 0 line refl).1 in (
      line.text,
      found.0,
      ap (item_at group) is ∙ there,
      found.1,
      subst (λ (n : ℕ). LogBegins n name found.0) (sym is) (subst (λ (n : ℕ). LogBegins line.number n found.0) (named 0 line refl) found.2),
    )

segment_of : (s : Reading) (name : ℕ) → first_fault [] s.logs ≡ None → first_astray s.group s.logs ≡ None → first_early [] s.logs ≡ None
    → lines_of name s.logs ≢ [] → (start : ℕ) × LogBeginsAt s.group name start × IsPiece s.group (lines_of name s.logs) start
segment_of s name faultless listed begin some =
    let piece = piece_of s.group s.logs name faultless listed in (
      first_number_of_lines (lines_of name s.logs),
      begins_of s.group name (lines_of name s.logs) (first_number_of_lines (lines_of name s.logs)) some refl
          (begun s.logs [] name begin refl) piece (line_of_name_has_name name s.logs),
      piece,
    )

-- ---- answered sends

pub is_send_finds_body : (from req : ℕ) (sent : Result (ℕ × ℕ × List ℕ) FieldFault) → is_send from req sent ≡ true → (body : List ℕ) × (sent ≡ Ok (from, req, body))
is_send_finds_body from req (Ok parts) is =
    let both = both_conditions_of_and (parts.0 == from) (parts.1 == req) is in
    (parts.2, ap (λ (n : ℕ). Ok (n, parts.1, parts.2)) (eqb-true parts.0 from both.0) ∙ ap (λ (n : ℕ). Ok (from, n, parts.2)) (eqb-true parts.1 req both.1))
is_send_finds_body from req (Err fault) is = cc

pub is_send_of_read_send : (from req : ℕ) (body : List ℕ) (sent : Result (ℕ × ℕ × List ℕ) FieldFault) → sent ≡ Ok (from, req, body) → is_send from req sent ≡ true
is_send_of_read_send from req body sent is =
    ap (is_send from req) is ∙ ap (λ b. b && (req == req)) (eq-eqb from from refl) ∙ eq-eqb req req refl

-- where a send stands in entries from a number on
abbrev Stood : ℕ → ℕ → ℕ → List (List ℕ) → Option (Option ℕ) → Type 0
Stood number from req texts None = (k : ℕ) (text body : List ℕ) → slice_get texts k ≡ Some text → data_in text ≡ Ok (from, req, body) → ⊥
Stood number from req texts (Some None) = Unit {0}
Stood number from req texts (Some (Some n)) = (j : ℕ) × (text body : List ℕ) × (n ≡ number + j) × (slice_get texts j ≡ Some text)
    × (data_in text ≡ Ok (from, req, body))
    × ((k : ℕ) (text' body' : List ℕ) → slice_get texts k ≡ Some text' → data_in text' ≡ Ok (from, req, body') → k ≡ j)

only_first : (from req : ℕ) (text : List ℕ) (texts : List (List ℕ)) → ((k : ℕ) (text body : List ℕ) → slice_get texts k ≡ Some text
    → data_in text ≡ Ok (from, req, body) → ⊥)
    → (k : ℕ) (other body : List ℕ) → slice_get (text ∷ texts) k ≡ Some other → data_in other ≡ Ok (from, req, body) → k ≡ 0
only_first from req text texts later zero other body is sent = refl
only_first from req text texts later (suc k) other body is sent = absurd (later k other body is sent)

never : (from req : ℕ) (text : List ℕ) (texts : List (List ℕ)) → is_send from req (data_in text) ≡ false
    → ((k : ℕ) (text body : List ℕ) → slice_get texts k ≡ Some text → data_in text ≡ Ok (from, req, body) → ⊥)
    → (k : ℕ) (other body : List ℕ) → slice_get (text ∷ texts) k ≡ Some other → data_in other ≡ Ok (from, req, body) → ⊥
never from req text texts other_one later zero other body is sent =
    let same : text ≡ other = cc in
    let yes : is_send from req (data_in text) ≡ true = is_send_of_read_send from req body (data_in text) (ap data_in same ∙ sent) in
    cc
never from req text texts other_one later (suc k) other body is sent = later k other body is sent

only_later : (from req : ℕ) (text : List ℕ) (texts : List (List ℕ)) (j : ℕ) → is_send from req (data_in text) ≡ false
    → ((k : ℕ) (text body : List ℕ) → slice_get texts k ≡ Some text → data_in text ≡ Ok (from, req, body) → k ≡ j)
    → (k : ℕ) (other body : List ℕ) → slice_get (text ∷ texts) k ≡ Some other → data_in other ≡ Ok (from, req, body) → k ≡ j + 1
only_later from req text texts j other_one later zero other body is sent =
    let same : text ≡ other = cc in
    let yes : is_send from req (data_in text) ≡ true = is_send_of_read_send from req body (data_in text) (ap data_in same ∙ sent) in
    absurd cc
only_later from req text texts j other_one later (suc k) other body is sent = omega (arith, later k other body is sent)

stood_here : (number from req : ℕ) (text : List ℕ) (texts : List (List ℕ)) (o : Option (Option ℕ)) → is_send from req (data_in text) ≡ true
    → Stood (number + 1) from req texts o → Stood number from req (text ∷ texts) (Some (once_more number o))
stood_here number from req text texts None here later =
    let found = is_send_finds_body from req (data_in text) here in
    (0, text, found.0, omega arith, refl, found.1, only_first from req text texts later)
stood_here number from req text texts (Some before) here later = tt

stood_later : (number from req : ℕ) (text : List ℕ) (texts : List (List ℕ)) (o : Option (Option ℕ)) → is_send from req (data_in text) ≡ false
    → Stood (number + 1) from req texts o → Stood number from req (text ∷ texts) o
stood_later number from req text texts None other later = never from req text texts other later
stood_later number from req text texts (Some None) other later = tt
stood_later number from req text texts (Some (Some n)) other later = (
  later.0 + 1,
  later.1,
  later.2,
  omega (arith, later.3),
  ap (slice_get (text ∷ texts)) (add-one later.0) ∙ later.4,
  later.5,
  only_later from req text texts later.0 other later.6,
)

stood_by : (number from req : ℕ) (text : List ℕ) (texts : List (List ℕ)) (b : Bool) (o : Option (Option ℕ)) → is_send from req (data_in text) ≡ b
    → Stood (number + 1) from req texts o → Stood number from req (text ∷ texts) (cond b (Some (once_more number o)) o)
stood_by number from req text texts true o is later = stood_here number from req text texts o is later
stood_by number from req text texts false o is later = stood_later number from req text texts o is later

stood : (number from req : ℕ) (texts : List (List ℕ)) → Stood number from req texts (stands number from req texts)
stood number from req [] = λ k text body is sent. cc
stood number from req (text ∷ texts) =
    stood_by number from req text texts (is_send from req (data_in text)) (stands (number + 1) from req texts) refl (stood (number + 1) from req texts)

-- an item's index is its number less one
pub item_at_has_index : (group : List (List ℕ)) (k : ℕ) (text : List ℕ) → item_at group k ≡ Some text → (j : ℕ) × (k ≡ j + 1) × (slice_get group j ≡ Some text)
item_at_has_index group zero text is = cc
item_at_has_index group (suc j) text is = (j, omega arith, is)

alone_by : (group : List (List ℕ)) (from req number : ℕ) (o : Option (Option ℕ)) → Stood 1 from req group o → is_at number o ≡ true
    → StandsAlone group from req number
alone_by group from req number None stood is = cc
alone_by group from req number (Some None) stood is = cc
alone_by group from req number (Some (Some n)) stood is =
    let same : n ≡ number = eqb-true n number is in
    let at : number ≡ suc stood.0 = omega (arith, stood.3, same) in
    record {
      there = (stood.1, stood.2, ap (item_at group) at ∙ stood.4, stood.5);
      only = λ k sent.
          let item = item_at_has_index group k sent.0 sent.2 in
          omega (arith, item.1, at, stood.6 item.0 sent.0 sent.1 item.2 sent.3);
    }

alone : (group : List (List ℕ)) (answers : List AnsweredSend) → first_lost group answers ≡ None → (k : ℕ) (answer : AnsweredSend) → slice_get answers k ≡ Some answer
    → StandsAlone group answer.name answer.req answer.number
alone group [] none k answer is = cc
alone group (first ∷ answers) none zero answer is =
    let same : first ≡ answer = cc in
    let right = condition_without_verdict_is_true (is_at first.number (stands 1 first.name first.req group)) (verdicts.Lost first.name first.req)
    (or_else_none_first (lost_at group first) (first_lost group answers) none) in
    subst (λ (a : AnsweredSend). StandsAlone group a.name a.req a.number) same
    (alone_by group first.name first.req first.number (stands 1 first.name first.req group) (stood 1 first.name first.req group) right)
alone group (first ∷ answers) none (suc k) answer is = alone group answers (or_else_none_second (lost_at group first) (first_lost group answers) none) k answer is

-- ---- the list

fit_by : (number : ℕ) (image : Image) (r : Result Outline FieldFault) → 1 < number → fits_at number image r ≡ true
    → (outline : Outline) × (r ≡ Ok outline) × (fits image (bare_entry outline) ≡ true)
fit_by number image (Err fault) behind h = cc
fit_by number image (Ok outline) behind h =
    let other : (number == 1) ≡ false = grind (arith, nat_tests) in
    let rest : (nat_le number greatest_number && fits image (bare_entry outline)) ≡ true
    = sym (ap (λ b. cond b (founds outline) (nat_le number greatest_number && fits image (bare_entry outline))) other) ∙ h in
    (outline, refl, (both_conditions_of_and (nat_le number greatest_number) (fits image (bare_entry outline)) rest).1)

fitting : (number : ℕ) (image : Image) (texts : List (List ℕ)) → 1 < number → first_misfit number image texts ≡ None
    → (list : List Outline) × (map outline_of texts ≡ map Ok list) × AllEntriesFit image number (map bare_entry list)
unfolding AllEntriesFit
fitting number image [] behind none = ([], refl, tt)
fitting number image (text ∷ texts) behind none =
    let later = first_misfit (number + 1) (image_after number image (outline_of text)) texts in
    let fit = fit_by number image (outline_of text) behind (condition_without_verdict_is_true (fits_at number image (outline_of text)) (verdicts.Misfit number)
    (or_else_none_first (cond (fits_at number image (outline_of text)) None (Some (verdicts.Misfit number))) later none)) in
    let rest = fitting (number + 1) (after image number (bare_entry fit.0)) texts (omega (arith, behind))
    (subst (λ (r : Result Outline FieldFault). first_misfit (number + 1) (image_after number image r) texts ≡ None) fit.1
    (or_else_none_second (cond (fits_at number image (outline_of text)) None (Some (verdicts.Misfit number))) later none)) in (
      fit.0 ∷ rest.0,
      ap (λ (r : Result Outline FieldFault). r ∷ map outline_of texts) fit.1 ∙ ap (λ (rs : List (Result Outline FieldFault)). Ok fit.0 ∷ rs) rest.1,
      (fit.2, rest.2),
    )

found_by : (r : Result Outline FieldFault) → fits_at 1 blank r ≡ true → (view : GroupView) × (r ≡ Ok (outlines.View view)) × IsFounding view
found_by (Err fault) h = cc
found_by (Ok outline) h = let found = founding_outline_is_view outline h in (found.0, ap (λ (o : Outline). Ok o) found.1, found.2)

founded_first : (group : List (List ℕ)) → first_misfit 1 blank group ≡ None → IsFounded group
founded_first [] none text is = cc
founded_first (first ∷ texts) none text is =
    let same : first ≡ text = cc in
    let found = found_by (outline_of first) (condition_without_verdict_is_true (fits_at 1 blank (outline_of first)) (verdicts.Misfit 1)
    (or_else_none_first (cond (fits_at 1 blank (outline_of first)) None (Some (verdicts.Misfit 1))) (first_misfit 2 (image_after 1 blank
    (outline_of first)) texts) none)) in
    (found.0, ap outline_of (sym same) ∙ found.1, found.2)

first_read : (r : Result Outline FieldFault) → fits_at 1 blank r ≡ true → (outline : Outline) × (r ≡ Ok outline)
first_read (Err fault) h = cc
first_read (Ok outline) h = (outline, refl)

founded_fits : (group : List (List ℕ)) → first_misfit 1 blank group ≡ None → AreFitting group
founded_fits [] none = ([], refl, tt)
founded_fits (first ∷ texts) none =
    let later = first_misfit 2 (image_after 1 blank (outline_of first)) texts in
    let here = cond (fits_at 1 blank (outline_of first)) None (Some (verdicts.Misfit 1)) in
    let found = first_read (outline_of first) (condition_without_verdict_is_true (fits_at 1 blank (outline_of first)) (verdicts.Misfit 1) (or_else_none_first here later none)) in
    let rest = fitting 2 (after blank 1 (bare_entry found.0)) texts (omega arith)
    (subst (λ (r : Result Outline FieldFault). first_misfit 2 (image_after 1 blank r) texts ≡ None) found.1 (or_else_none_second here later none)) in (
      found.0 ∷ rest.0,
      ap (λ (r : Result Outline FieldFault). r ∷ map outline_of texts) found.1
          ∙ ap (λ (rs : List (Result Outline FieldFault)). Ok found.0 ∷ rs) rest.1,
      rest.2,
    )

-- lists and logs with nothing wrong
pub lists_not_wrong_list : (s : Reading) → wrong_lists s ≡ None → Lists s
unfolding wrong_lists
lists_not_wrong_list s none =
    let misfit = first_misfit 1 blank s.group in
    let early = or_else (first_early [] s.logs) misfit in
    let lost = or_else (first_lost s.group s.answers) early in
    let astray = or_else (first_astray s.group s.logs) lost in
    let behind_fault = or_else_none_second (first_fault [] s.logs) astray none in
    let behind_astray = or_else_none_second (first_astray s.group s.logs) lost behind_fault in
    let behind_lost = or_else_none_second (first_lost s.group s.answers) early behind_astray in
    let fit = or_else_none_second (first_early [] s.logs) misfit behind_lost in
    record {
      segment = λ name. segment_of s name (or_else_none_first (first_fault [] s.logs) astray none) (or_else_none_first (first_astray s.group s.logs) lost behind_fault)
          (or_else_none_first (first_early [] s.logs) misfit behind_lost);
      once = alone s.group s.answers (or_else_none_first (first_lost s.group s.answers) early behind_astray);
      founded = founded_first s.group fit;
      fits = founded_fits s.group fit;
    }
