-- What a verdict that agrees means: of events.
use Rattle.std.proofs.Common.{◌≡◌, ℕ, zero, suc, ◌+◌, ◌<◌, ◌≤◌, ◌==◌, ◌&&◌, nat_lt, List, [], ◌∷◌, length, Option}
use Rattle.std.proofs.Common.{Some, None, slice_get, Ok, Bool, true, false, cond, refl, sym, subst, ap, ◌∙◌, arith}
use Rattle.std.specs.Prelude.{unwrap_or, option_map}
use Rattle.std.proofs.lemmas.Bool.{eqb-true, ltb-true}
use Rattle.std.proofs.lemmas.Slice.Eq.{bytes_eq-Decides}
use Rattle.am_text_defs.specs.Fields.{same}
use Rattle.am_audit_defs.specs.declared.verdict.Verdict.TheVariants as verdicts
use Rattle.am_audit_defs.specs.Fields.{data_in}
use Rattle.am_audit_defs.specs.Lines.{Line, Reading}
use Rattle.am_audit_defs.specs.Verdicts.{or_else, last_of, is_text, skipped_at, first_skipped, first_asked}
use Rattle.am_audit_defs.specs.Verdicts.{body_at, unsent_at, first_unsent, lines_of, count_of, is_line}
use Rattle.am_audit_defs.specs.Verdicts.{unlogged_at, first_unlogged, untaken_at, first_untaken, wrong_events}
use Rattle.am_audit_defs.specs.Agreement.{Lists, Agreed}
use Rattle.am_audit_defs.proofs.Segments.{LinesRunFromNumber, or_else_none_first, or_else_none_second, number_of_line_in_run, count_of_name_is_length}
use Rattle.am_audit_defs.proofs.Meaning.{condition_without_verdict_is_true, both_conditions_of_and, is_text_of_found_text, item_at_has_index, line_of_name_has_name}

-- ---- each name's sends in turn

turned_by : (b : Bool) (o : Option ℕ) (send : Line) (sends : List Line) → (b ≡ true → send.number ≡ unwrap_or o 0 + 1)
    → LinesRunFromNumber (unwrap_or (cond b (Some send.number) o) 0 + 1) sends → LinesRunFromNumber (unwrap_or o 0 + 1) (cond b (send ∷ sends) sends)
turned_by true o send sends here later = (here refl, subst (λ (n : ℕ). LinesRunFromNumber (n + 1) sends) (here refl) later)
turned_by false o send sends here later = later

pub requests_run_in_turn : (sends before : List Line) (name : ℕ) → first_skipped before sends ≡ None → LinesRunFromNumber (unwrap_or (last_of name before) 0 + 1) (lines_of name sends)
requests_run_in_turn [] before name none = tt
requests_run_in_turn (send ∷ sends) before name none =
    let here = eqb-true send.number (unwrap_or (last_of send.name before) 0 + 1)
    (condition_without_verdict_is_true (send.number == unwrap_or (last_of send.name before) 0 + 1) (verdicts.Skipped send.name send.number)
    (or_else_none_first (skipped_at (last_of send.name before) send) (first_skipped (send ∷ before) sends) none)) in
    turned_by (send.name == name) (last_of name before) send (lines_of name sends)
    (λ is. here ∙ ap (λ (n : ℕ). unwrap_or (last_of n before) 0 + 1) (eqb-true send.name name is))
    (requests_run_in_turn sends (send ∷ before) name (or_else_none_second (skipped_at (last_of send.name before) send) (first_skipped (send ∷ before) sends) none))

-- ---- each send of the list was asked for

asked_by : (at from req : ℕ) (b : Bool) (send : Line) (sends : List Line) (o : Option ℕ) (j : ℕ) → (b ≡ true → (send.name ≡ from) × (send.number ≡ req))
    → (o ≡ Some j → (k : ℕ) × (x : Line) × (j ≡ at + 1 + k) × (slice_get sends k ≡ Some x) × (x.name ≡ from) × (x.number ≡ req))
    → cond b (Some at) o ≡ Some j → (k : ℕ) × (x : Line) × (j ≡ at + k) × (slice_get (send ∷ sends) k ≡ Some x) × (x.name ≡ from) × (x.number ≡ req)
asked_by at from req true send sends o j here later is =
    let same : at ≡ j = cc in (0, send, omega (arith, same), refl, (here refl).0, (here refl).1)
asked_by at from req false send sends o j here later is =
    let found = later is in (suc found.0, found.1, omega (arith, found.2), found.3, found.4, found.5)

asked_at : (at from req : ℕ) (sends : List Line) (j : ℕ) → first_asked at from req sends ≡ Some j
    → (k : ℕ) × (x : Line) × (j ≡ at + k) × (slice_get sends k ≡ Some x) × (x.name ≡ from) × (x.number ≡ req)
asked_at at from req [] j is = cc
asked_at at from req (send ∷ sends) j is =
    asked_by at from req ((send.name == from) && (send.number == req)) send sends (first_asked (at + 1) from req sends) j
    (λ b. let both = both_conditions_of_and (send.name == from) (send.number == req) b in (eqb-true send.name from both.0, eqb-true send.number req both.1))
    (asked_at (at + 1) from req sends j) is

body_by : (sends : List Line) (from req : ℕ) (body : List ℕ) (o : Option ℕ) → first_asked 0 from req sends ≡ o → is_text (body_at sends o) body ≡ true
    → (j : ℕ) × (send : Line) × (slice_get sends j ≡ Some send) × (send.name ≡ from) × (send.number ≡ req) × (send.text ≡ body)
body_by sends from req body None is h = cc
body_by sends from req body (Some j) is h =
    let found = asked_at 0 from req sends j is in
    let there : slice_get sends j ≡ Some found.1 = ap (slice_get sends) (omega (arith, found.2)) ∙ found.3 in
    let told : body_at sends (Some j) ≡ Some body = is_text_of_found_text (body_at sends (Some j)) body h in
    let text : Some found.1.text ≡ Some body = sym (ap (option_map (λ (send : Line). send.text)) there) ∙ told in
    (j, found.1, there, found.4, found.5, cc)

sent_by : (sends : List Line) (text : List ℕ) (from req : ℕ) (body : List ℕ) → data_in text ≡ Ok (from, req, body) → unsent_at sends (data_in text) ≡ None
    → (j : ℕ) × (send : Line) × (slice_get sends j ≡ Some send) × (send.name ≡ from) × (send.number ≡ req) × (send.text ≡ body)
sent_by sends text from req body sent none =
    let here : unsent_at sends (Ok (from, req, body)) ≡ None = ap (unsent_at sends) (sym sent) ∙ none in
    body_by sends from req body (first_asked 0 from req sends) refl
    (condition_without_verdict_is_true (is_text (body_at sends (first_asked 0 from req sends)) body) (verdicts.Unsent from req) here)

sent_all : (sends : List Line) (group : List (List ℕ)) → first_unsent sends group ≡ None → (k : ℕ) (text : List ℕ) → slice_get group k ≡ Some text
    → unsent_at sends (data_in text) ≡ None
sent_all sends [] none k text is = cc
sent_all sends (first ∷ group) none zero text is =
    let same : first ≡ text = cc in
    ap (λ (t : List ℕ). unsent_at sends (data_in t)) (sym same) ∙ or_else_none_first (unsent_at sends (data_in first)) (first_unsent sends group) none
sent_all sends (first ∷ group) none (suc k) text is = sent_all sends group (or_else_none_second (unsent_at sends (data_in first))
    (first_unsent sends group) none) k text is

-- ---- each log is what was taken

line_is : (found : Option Line) (line : Line) → is_line found line ≡ true → (x : Line) × (found ≡ Some x) × (x.number ≡ line.number) × (x.text ≡ line.text)
line_is None line h = cc
line_is (Some x) line h =
    let both = both_conditions_of_and (x.number == line.number) (same x.text line.text) h in
    (x, refl, eqb-true x.number line.number both.0, (bytes_eq-Decides x.text line.text).0 both.1)

abbrev IsThere : List Line → ℕ → Line → Type 0
IsThere log k line = (x : Line) × (slice_get log k ≡ Some x) × (x.number ≡ line.number) × (x.text ≡ line.text)

there_by : (log : List Line) (b : Bool) (count k : ℕ) (taken : Line) (takes : List Line) (line : Line) → (b ≡ true → IsThere log count taken)
    → ((j : ℕ) → slice_get takes j ≡ Some line → IsThere log (cond b (count + 1) count + j) line)
    → slice_get (cond b (taken ∷ takes) takes) k ≡ Some line → IsThere log (count + k) line
there_by log true count zero taken takes line here later is =
    let same : taken ≡ line = cc in
    let at : count ≡ count + 0 = omega arith in
    subst (λ (n : ℕ). IsThere log n line) at (subst (IsThere log count) same (here refl))
there_by log true count (suc k) taken takes line here later is =
    let at : count + 1 + k ≡ count + suc k = omega arith in subst (λ (n : ℕ). IsThere log n line) at (later k is)
there_by log false count k taken takes line here later is = later k is

taken_there : (logs before takes : List Line) (name k : ℕ) (line : Line) → first_unlogged logs before takes ≡ None
    → slice_get (lines_of name takes) k ≡ Some line
    → IsThere (lines_of name logs) (count_of name before + k) line
taken_there logs before [] name k line none is = cc
taken_there logs before (taken ∷ takes) name k line none is =
    let right = condition_without_verdict_is_true (is_line (slice_get (lines_of taken.name logs) (count_of taken.name before)) taken) (verdicts.Unlogged taken.name taken.number)
    (or_else_none_first (unlogged_at logs before taken) (first_unlogged logs (taken ∷ before) takes) none) in
    there_by (lines_of name logs) (taken.name == name) (count_of name before) k taken (lines_of name takes) line
    (λ b. subst (λ (n : ℕ). IsThere (lines_of n logs) (count_of n before) taken) (eqb-true taken.name name b)
    (line_is (slice_get (lines_of taken.name logs) (count_of taken.name before)) taken right))
    (λ j h. taken_there logs (taken ∷ before) takes name j line (or_else_none_second (unlogged_at logs before taken) (first_unlogged logs
    (taken ∷ before) takes) none) h)
    is

counted_by : (b : Bool) (before later whole : ℕ) → (b ≡ true → before < whole) → before ≤ whole → (cond b (before + 1) before ≤ whole
    → cond b (before + 1) before + later ≤ whole)
    → before + cond b (later + 1) later ≤ whole
counted_by true before later whole here low rest = omega (arith, rest (omega (arith, here refl)))
counted_by false before later whole here low rest = rest low

all_taken : (takes before logs : List Line) (name : ℕ) → first_untaken takes before logs ≡ None → count_of name before ≤ count_of name takes
    → count_of name before + count_of name logs ≤ count_of name takes
all_taken takes before [] name none low = omega (arith, low)
all_taken takes before (line ∷ logs) name none low =
    let right = condition_without_verdict_is_true (nat_lt (count_of line.name before) (count_of line.name takes)) (verdicts.Untaken line.name line.number)
    (or_else_none_first (untaken_at takes before line) (first_untaken takes (line ∷ before) logs) none) in
    counted_by (line.name == name) (count_of name before) (count_of name logs) (count_of name takes)
    (λ b. subst (λ (n : ℕ). count_of n before < count_of n takes) (eqb-true line.name name b) (ltb-true (count_of line.name before)
    (count_of line.name takes) right))
    low
    (all_taken takes (line ∷ before) logs name (or_else_none_second (untaken_at takes before line) (first_untaken takes (line ∷ before) logs) none))

same_line : (a b : Line) → a.name ≡ b.name → a.number ≡ b.number → a.text ≡ b.text → a ≡ b
same_line a b name number text =
    ap (λ (n : ℕ). record { name = n; number = a.number; text = a.text }) name
    ∙ ap (λ (n : ℕ). record { name = b.name; number = n; text = a.text }) number
    ∙ ap (λ (t : List ℕ). record { name = b.name; number = b.number; text = t }) text

same_lists : (xs ys : List Line) → length ys ≤ length xs → ((k : ℕ) (x : Line) → slice_get xs k ≡ Some x → slice_get ys k ≡ Some x) → xs ≡ ys
same_lists [] [] few each = refl
same_lists [] (y ∷ ys) few each = absurd (omega (arith, few))
same_lists (x ∷ xs) [] few each = let there = each 0 x refl in cc
same_lists (x ∷ xs) (y ∷ ys) few each =
    let there : y ≡ x = let h = each 0 x refl in cc in
    ap (λ (l : Line). l ∷ xs) (sym there) ∙ ap (λ (ls : List Line). y ∷ ls) (same_lists xs ys (omega (arith, few)) (λ k z is. each (suc k) z is))

taken_is : (s : Reading) (name : ℕ) → first_unlogged s.logs [] s.takes ≡ None → first_untaken s.takes [] s.logs ≡ None
    → lines_of name s.takes ≡ lines_of name s.logs
taken_is s name logged taken =
    let few = all_taken s.takes [] s.logs name taken (omega arith) in
    same_lists (lines_of name s.takes) (lines_of name s.logs) (omega (arith, few, count_of_name_is_length name s.takes, count_of_name_is_length name s.logs))
    (λ k line is.
    let there = taken_there s.logs [] s.takes name k line logged is in
    let at : k ≡ 0 + k = omega arith in
    let found : slice_get (lines_of name s.logs) k ≡ Some there.0 = ap (slice_get (lines_of name s.logs)) at ∙ there.1 in
    found ∙ ap (λ (l : Line). Some l) (same_line there.0 line (line_of_name_has_name name s.logs k there.0 found ∙ sym (line_of_name_has_name name s.takes k line is)) there.2 there.3))

-- events with nothing wrong, where lists and logs have nothing wrong
pub events_not_wrong_agree : (s : Reading) → Lists s → wrong_events s ≡ None → Agreed s
unfolding wrong_events
events_not_wrong_agree s lists none =
    let untaken = first_untaken s.takes [] s.logs in
    let unlogged = or_else (first_unlogged s.logs [] s.takes) untaken in
    let unsent = or_else (first_unsent s.sends s.group) unlogged in
    let behind_skipped = or_else_none_second (first_skipped [] s.sends) unsent none in
    let behind_unsent = or_else_none_second (first_unsent s.sends s.group) unlogged behind_skipped in
    record {
      lists = lists;
      turn = λ name k send is. number_of_line_in_run 1 k (lines_of name s.sends) send (requests_run_in_turn s.sends [] name (or_else_none_first
          (first_skipped [] s.sends) unsent none)) is ∙ omega arith;
      asked = λ k from req text body is sent.
          let item = item_at_has_index s.group k text is in
          sent_by s.sends text from req body sent (sent_all s.sends s.group (or_else_none_first
          (first_unsent s.sends s.group) unlogged behind_skipped) item.0 text item.2);
      taken = λ name. taken_is s name (or_else_none_first (first_unlogged s.logs [] s.takes) untaken behind_unsent) (or_else_none_second
          (first_unlogged s.logs [] s.takes) untaken behind_unsent);
    }
