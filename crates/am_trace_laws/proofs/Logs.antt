-- The logs of a run whose list fits are pieces of it, as they are read.
use Rattle.am_trace_laws.proofs.Words.{◌≡◌, ◌≢◌, ℕ, zero, suc, ◌+◌, ◌*◌, ◌/◌, ◌%◌, ◌<◌, ◌≤◌, ◌==◌, ◌&&◌, Bool, true, false, if◌then◌else◌, List, [], ◌∷◌, ◌++◌}
use Rattle.am_trace_laws.proofs.Words.{map, refl, sym, ap, ◌∙◌, arith, subst, Option, Some, None, Ok, ◌⊎◌, ⊎_elim, inl, inr, All, option_map, flat_map}
use Rattle.am_trace_laws.proofs.Words.{range_with_len, flat_map-append, append-nil, slice_get-map, and_parts, nat_tests, Rules, blank, AllEntriesFit, has, Entry, split_on_bool}
use Rattle.am_trace_laws.proofs.Words.{item_at, deliveries, same, founders_entry, has_log_by_status, entry_text, World, logs, BeginsAt, IsSegment, Segment, all_gives_item_at}
use Rattle.am_trace_laws.proofs.Words.{no_send_stands_twice, Verdict, outline_of, data_in, is_send, Line, or_else, last_of, first_with, first_sent, gap_at, differs_at}
use Rattle.am_trace_laws.proofs.Words.{twice_by, twice_at, fault_at, first_fault, is_text, first_astray, may_begin, early_at, first_early, IsSayable, IsRaised}
use Rattle.am_trace_laws.proofs.Words.{entry_texts_of, log_in, logs_in}
use Rattle.am_trace_laws.proofs.{Outcomes.same_text_as_itself, Entries.outline_of_entry_as_read, Entries.outline_of_entry_text, Entries.entry_is_send_of, Entries.data_of_entry_as_read, Entries.data_in_entry_text}
use Rattle.am_base.specs.declared.entry.Entry.TheVariants as entries
use Rattle.am_audit_defs.specs.declared.verdict.Verdict.TheVariants as verdicts

-- ---- a list that fits

-- it fits, begins with the founders' view, and is read
pub record GroupListIsReadable (rules : Rules) (group : List Entry) : Type 0 where
  pub fits : AllEntriesFit blank 1 group
  pub say : All IsSayable group
  pub raised : All (IsRaised rules) group
  pub rest : List Entry
  pub begins : group ≡ founders_entry rules ∷ rest

-- a line has an entry of the list
pub record LineHasEntryOfList (rules : Rules) (group : List Entry) (line : Line) : Type 0 where
  pub entry : Entry
  pub there : item_at group line.number ≡ Some entry
  pub text : line.text ≡ entry_text rules entry

abbrev pub LinesHaveEntriesOfList : Rules → List Entry → List Line → Type 0
LinesHaveEntriesOfList rules group [] = Unit {0}
LinesHaveEntriesOfList rules group (line ∷ lines) = LineHasEntryOfList rules group line × LinesHaveEntriesOfList rules group lines

-- a line is a log's first and may be that, or comes next in it
abbrev pub LineComesNextInLog : List Line → Line → Type 0
LineComesNextInLog before line = ((last_of line.name before ≡ None) × (may_begin line (outline_of line.text) ≡ true))
    ⊎ ((last : ℕ) × (last_of line.name before ≡ Some last) × (last + 1 ≡ line.number))

abbrev pub LinesComeNextInLogs : Rules → List Entry → List Line → List Line → Type 0
LinesComeNextInLogs rules group before [] = Unit {0}
LinesComeNextInLogs rules group before (line ∷ lines) = LineComesNextInLog before line × LineHasEntryOfList rules group line × LinesComeNextInLogs rules group (line ∷ before) lines

-- ---- faults

gap_none : (last : Option ℕ) (line : Line) → (last ≡ None) ⊎ ((n : ℕ) × (last ≡ Some n) × (n + 1 ≡ line.number)) → gap_at last line ≡ None
gap_none last line (inl none) = ap (λ o. gap_at o line) none
gap_none last line (inr some) =
    let next : (some.0 + 1 == line.number) ≡ true = let is = some.2 in grind (arith, nat_tests) in
    ap (λ o. gap_at o line) some.1 ∙ ap (λ b. if b then None else Some (verdicts.Gap line.name line.number)) next

goes_on : (before : List Line) (line : Line) → LineComesNextInLog before line → gap_at (last_of line.name before) line ≡ None
goes_on before line goes = gap_none (last_of line.name before) line (⊎_elim (λ first. inl first.0) (λ next. inr next) goes)

with_by : (o : Option Line) (b : Bool) (line first : Line) → or_else o (if b then Some line else None) ≡ Some first → (o ≡ Some first) ⊎ ((b ≡ true)
    × (line ≡ first))
with_by (Some x) b line first is = inl is
with_by None true line first is = inr (refl, let same : line ≡ first = cc in same)
with_by None false line first is = absurd (cc)

first_placed : (rules : Rules) (group : List Entry) (number : ℕ) (before : List Line) (first : Line) → LinesHaveEntriesOfList rules group before
    → first_with number before ≡ Some first → (first.number ≡ number) × LineHasEntryOfList rules group first
first_placed rules group number [] first placed is = absurd (cc)
first_placed rules group number (line ∷ before) first placed is = ⊎_elim
    (λ earlier. first_placed rules group number before first placed.1 earlier)
    (λ here.
    let test = here.0 in
    let at : line.number ≡ number = grind (arith, nat_tests) in
    (ap (λ (l : Line). l.number) (sym here.1) ∙ at, subst (LineHasEntryOfList rules group) here.1 placed.0))
    (with_by (first_with number before) (line.number == number) line first is)

some_entry : (x y : Entry) → Some x ≡ Some y → x ≡ y
some_entry x y is = cc

differs_none : (rules : Rules) (group : List Entry) (before : List Line) (line : Line) (o : Option Line) → LinesHaveEntriesOfList rules group before
    → LineHasEntryOfList rules group line → first_with line.number before ≡ o → differs_at o line ≡ None
differs_none rules group before line None placed here is = refl
differs_none rules group before line (Some first) placed here is =
    let f = first_placed rules group line.number before first placed is in
    let entry : f.1.entry ≡ here.entry = some_entry f.1.entry here.entry (sym f.1.there ∙ ap (item_at group) f.0 ∙ here.there) in
    let text : first.text ≡ line.text = f.1.text ∙ ap (entry_text rules) entry ∙ sym here.text in
    ap (λ b. if b then None else Some (verdicts.Differs first.name line.name line.number))
    (ap (λ t. same t line.text) text ∙ same_text_as_itself line.text)

-- ---- sends

test_of : (from req : ℕ) (e : Entry) → is_send from req (data_of_entry_as_read e) ≡ entry_is_send_of from req e
test_of from req (entries.Data f r body) = refl
test_of from req (entries.Join name) = refl
test_of from req (entries.Leave name) = refl
test_of from req (entries.View v) = refl

pub is_send_of_entry_text : (rules : Rules) (from req : ℕ) (e : Entry) → IsSayable e → is_send from req (data_in (entry_text rules e)) ≡ entry_is_send_of from req e
is_send_of_entry_text rules from req e say = ap (is_send from req) (data_in_entry_text rules e say) ∙ test_of from req e

pub entry_of_send_is_data : (from req : ℕ) (e : Entry) → entry_is_send_of from req e ≡ true → (body : List ℕ) × (e ≡ entries.Data from req body)
entry_of_send_is_data from req (entries.Data f r body) is =
    let parts = and_parts (f == from) (r == req) is in
    let a = parts.0 in
    let b = parts.1 in
    let sender : f ≡ from = grind (arith, nat_tests) in
    let request : r ≡ req = grind (arith, nat_tests) in
    (body, ap (λ (n : ℕ). entries.Data n r body) sender ∙ ap (λ (n : ℕ). entries.Data from n body) request)
entry_of_send_is_data from req _ is = absurd (cc)

sent_by : (o : Option ℕ) (b : Bool) (number n : ℕ) → or_else o (if b then Some number else None) ≡ Some n → (o ≡ Some n) ⊎ ((b ≡ true) × (number ≡ n))
sent_by (Some x) b number n is = inl is
sent_by None true number n is = inr (refl, let same : number ≡ n = cc in same)
sent_by None false number n is = absurd (cc)

sent_placed : (rules : Rules) (group : List Entry) (from req : ℕ) (before : List Line) (n : ℕ) → All IsSayable group → LinesHaveEntriesOfList rules group before
    → first_sent from req before ≡ Some n → (body : List ℕ) × (item_at group n ≡ Some (entries.Data from req body))
sent_placed rules group from req [] n say placed is = absurd (cc)
sent_placed rules group from req (line ∷ before) n say placed is = ⊎_elim
    (λ earlier. sent_placed rules group from req before n say placed.1 earlier)
    (λ here.
    let one = placed.0 in
    let test : entry_is_send_of from req one.entry ≡ true = sym (is_send_of_entry_text rules from req one.entry (all_gives_item_at IsSayable group line.number one.entry say one.there))
    ∙ ap (λ t. is_send from req (data_in t)) (sym one.text) ∙ here.0 in
    let found = entry_of_send_is_data from req one.entry test in
    (found.0, ap (item_at group) (sym here.1) ∙ one.there ∙ ap (λ (e : Entry). Some e) found.1))
    (sent_by (first_sent from req before) (is_send from req (data_in line.text)) line.number n is)

twice_none : (o : Option ℕ) (from req number : ℕ) → ((n : ℕ) → o ≡ Some n → n ≡ number) → twice_by o from req number ≡ None
twice_none None from req number h = refl
twice_none (Some first) from req number h =
    let is = h first refl in
    let test : (first == number) ≡ true = grind (arith, nat_tests) in
    ap (λ b. if b then None else Some (verdicts.Twice from req)) test

not_twice : (rules : Rules) (group : List Entry) (before : List Line) (number : ℕ) (e : Entry) → GroupListIsReadable rules group → LinesHaveEntriesOfList rules group before
    → item_at group number ≡ Some e → twice_at before (data_of_entry_as_read e) number ≡ None
not_twice rules group before number (entries.Data from req body) right placed there =
    twice_none (first_sent from req before) from req number (λ n is.
    let other = sent_placed rules group from req before n right.say placed is in
    no_send_stands_twice group right.fits from req n number other.0 body other.1 there)
not_twice rules group before number _ right placed there = refl

three_none : (a b c : Option Verdict) → a ≡ None → b ≡ None → c ≡ None → or_else a (or_else b c) ≡ None
three_none a b c x y z = ap (λ o. or_else o (or_else b c)) x ∙ ap (λ o. or_else o c) y ∙ z

fault_none : (rules : Rules) (group : List Entry) (before : List Line) (line : Line) → GroupListIsReadable rules group → LinesHaveEntriesOfList rules group before → LineComesNextInLog before line
    → LineHasEntryOfList rules group line → fault_at before line ≡ None
fault_none rules group before line right placed goes here =
    three_none (gap_at (last_of line.name before) line) (differs_at (first_with line.number before) line) (twice_at before (data_in line.text) line.number)
    (goes_on before line goes)
    (differs_none rules group before line (first_with line.number before) placed here refl)
    (ap (λ t. twice_at before (data_in t) line.number) here.text
    ∙ ap (λ d. twice_at before d line.number) (data_in_entry_text rules here.entry (all_gives_item_at IsSayable group line.number here.entry right.say here.there))
    ∙ not_twice rules group before line.number here.entry right placed here.there)

pub first_fault_of_good_logs : (rules : Rules) (group : List Entry) (before lines : List Line) → GroupListIsReadable rules group → LinesHaveEntriesOfList rules group before
    → LinesComeNextInLogs rules group before lines → first_fault before lines ≡ None
first_fault_of_good_logs rules group before [] right placed all = refl
first_fault_of_good_logs rules group before (line ∷ lines) right placed all =
    ap (λ o. or_else o (first_fault (line ∷ before) lines)) (fault_none rules group before line right placed all.0 all.1)
    ∙ first_fault_of_good_logs rules group (line ∷ before) lines right (all.1, placed) all.2

-- ---- astray, early

item_text : (rules : Rules) (group : List Entry) (number : ℕ) (e : Entry) → item_at group number ≡ Some e
    → item_at (entry_texts_of rules group) number ≡ Some (entry_text rules e)
item_text rules group zero e is = absurd (cc)
item_text rules group (suc before) e is = slice_get-map (entry_text rules) group before ∙ ap (option_map (entry_text rules)) is

pub first_astray_of_good_logs : (rules : Rules) (group : List Entry) (before lines : List Line) → LinesComeNextInLogs rules group before lines
    → first_astray (entry_texts_of rules group) lines ≡ None
first_astray_of_good_logs rules group before [] all = refl
first_astray_of_good_logs rules group before (line ∷ lines) all =
    let here = all.1 in
    let test : is_text (item_at (entry_texts_of rules group) line.number) line.text ≡ true =
    ap (λ o. is_text o line.text) (item_text rules group line.number here.entry here.there) ∙ ap (λ t. same t line.text) (sym here.text)
    ∙ same_text_as_itself line.text in
    ap (λ b. or_else (if b then None else Some (verdicts.Astray line.name line.number)) (first_astray (entry_texts_of rules group) lines)) test
    ∙ first_astray_of_good_logs rules group (line ∷ before) lines all.2

early_none : (last : Option ℕ) (line : Line) → ((last ≡ None) × (may_begin line (outline_of line.text) ≡ true)) ⊎ ((n : ℕ) × (last ≡ Some n)
    × (n + 1 ≡ line.number))
    → early_at last line ≡ None
early_none last line (inl first) =
    ap (λ o. early_at o line) first.0 ∙ ap (λ b. if b then None else Some (verdicts.Early line.name line.number)) first.1
early_none last line (inr next) = ap (λ o. early_at o line) next.1

pub first_early_of_good_logs : (rules : Rules) (group : List Entry) (before lines : List Line) → LinesComeNextInLogs rules group before lines → first_early before lines ≡ None
first_early_of_good_logs rules group before [] all = refl
first_early_of_good_logs rules group before (line ∷ lines) all =
    ap (λ o. or_else o (first_early (line ∷ before) lines)) (early_none (last_of line.name before) line all.0)
    ∙ first_early_of_good_logs rules group (line ∷ before) lines all.2

-- ---- the logs of a run

-- the last lines of all other names
abbrev OthersStay : ℕ → List Line → List Line → Type 0
OthersStay name before after = (other : ℕ) → (name ≡ other → ⊥) → last_of other after ≡ last_of other before

other_stays : (name other number : ℕ) (text : List ℕ) (before : List Line) → (name ≡ other → ⊥)
    → last_of other (record { name = name; number = number; text = text } ∷ before) ≡ last_of other before
other_stays name other number text before differ =
    let test : (name == other) ≡ false = grind (arith, nat_tests) in
    ap (λ b. if b then Some number else last_of other before) test

own_last : (name number : ℕ) (text : List ℕ) (before : List Line) → last_of name (record { name = name; number = number; text = text } ∷ before) ≡ Some number
own_last name number text before =
    let test : (name == name) ≡ true = grind (arith, nat_tests) in
    ap (λ b. if b then Some number else last_of name before) test

-- what comes next of a name's log
more_go : (rules : Rules) (group : List Entry) (name last : ℕ) (given : List (ℕ × Entry)) (before rest : List Line) → last_of name before ≡ Some last
    → IsSegment given (last + 1) group → ((after : List Line) → OthersStay name before after → LinesComeNextInLogs rules group after rest)
    → LinesComeNextInLogs rules group before (log_in rules name given ++ rest)
more_go rules group name last [] before rest is segment onward = onward before (λ other differ. refl)
more_go rules group name last ((number, e) ∷ given) before rest is segment onward =
    let here = segment 0 number e refl in
    let line : Line = record { name = name; number = number; text = entry_text rules e } in
    let next : last + 1 ≡ number = let n = here.0 in omega arith in
    let there : item_at group number ≡ Some e = ap (item_at group) (let n = here.0 in omega arith) ∙ here.1 in (
      inr (last, is, next),
      record { entry = e; there = there; text = refl },
      more_go rules group name number given (line ∷ before) rest (own_last name number (entry_text rules e) before)
          (λ k n x at. (let s = segment (suc k) n x at in
          let same : last + 1 + suc k ≡ number + 1 + k = omega arith in
          (s.0 ∙ same, ap (item_at group) (sym same) ∙ s.1)))
          (λ after stays. onward after (λ other differ. stays other differ ∙ other_stays name other number (entry_text rules e) before differ)),
    )

-- a log may begin with the entry where its name was let in
may_start : (rules : Rules) (w : World) (name s number : ℕ) (e : Entry) → GroupListIsReadable rules w.group → BeginsAt rules w name s → number ≡ s
    → item_at w.group number ≡ Some e → may_begin (record { name = name; number = number; text = entry_text rules e }) (outline_of (entry_text rules e)) ≡ true
may_start rules w name s number e right begins is there =
    let line : Line = record { name = name; number = number; text = entry_text rules e } in
    let read : outline_of (entry_text rules e) ≡ Ok (outline_of_entry_as_read rules e) =
    outline_of_entry_text rules e (all_gives_item_at IsSayable w.group number e right.say there) (all_gives_item_at (IsRaised rules) w.group number e right.raised there) in
    ap (may_begin line) read ∙ split_on_bool (has rules.founders name)
    (λ t.
    let one : number ≡ 1 = is ∙ begins.founder t in
    let first : e ≡ founders_entry rules = some_entry e (founders_entry rules)
    (sym there ∙ ap (item_at w.group) one ∙ ap (λ (g : List Entry). item_at g 1) right.begins) in
    let at : (number == 1) ≡ true = grind (arith, nat_tests) in
    ap (λ x. may_begin line (Ok (outline_of_entry_as_read rules x))) first ∙ ap (λ b. b && has rules.founders name) at ∙ t)
    (λ f.
    let join = (begins.joiner f).1 in
    let its : e ≡ entries.Join name = some_entry e (entries.Join name) (sym there ∙ ap (item_at w.group) is ∙ join) in
    let own : (name == name) ≡ true = grind (arith, nat_tests) in
    ap (λ x. may_begin line (Ok (outline_of_entry_as_read rules x))) its ∙ own)

log_goes : (rules : Rules) (w : World) (name : ℕ) (given : List (ℕ × Entry)) (before rest : List Line) → GroupListIsReadable rules w.group
    → (given ≢ [] → (s : ℕ) × BeginsAt rules w name s × IsSegment given s w.group) → last_of name before ≡ None
    → ((after : List Line) → OthersStay name before after → LinesComeNextInLogs rules w.group after rest) → LinesComeNextInLogs rules w.group before (log_in rules name given ++ rest)
log_goes rules w name [] before rest right segment none onward = onward before (λ other differ. refl)
log_goes rules w name ((number, e) ∷ given) before rest right segment none onward =
    let found = segment (λ is. absurd (cc)) in
    let here = found.2 0 number e refl in
    let line : Line = record { name = name; number = number; text = entry_text rules e } in
    let at : number ≡ found.0 = let n = here.0 in omega arith in
    let there : item_at w.group number ≡ Some e = ap (item_at w.group) (let n = here.0 in omega arith) ∙ here.1 in (
      inl (none, may_start rules w name found.0 number e right found.1 at there),
      record { entry = e; there = there; text = refl },
      more_go rules w.group name number given (line ∷ before) rest (own_last name number (entry_text rules e) before)
          (λ k n x is. (let s = found.2 (suc k) n x is in
          let same : found.0 + suc k ≡ number + 1 + k = omega arith in
          (s.0 ∙ same, ap (item_at w.group) (sym same) ∙ s.1)))
          (λ after stays. onward after (λ other differ. stays other differ ∙ other_stays name other number (entry_text rules e) before differ)),
    )

-- the names by their ranks
abbrev pub name_by_rank : ℕ → ℕ
name_by_rank rank = rank / 16 + 16 * (rank % 16)

abbrev pub log_of_name_in_world : World → ℕ → List (ℕ × List (ℕ × Entry))
log_of_name_in_world w name = if has_log_by_status (w.nodes name).status then (name, deliveries w.records name) ∷ [] else []

abbrev pub logs_of_names_in_world : World → ℕ → ℕ → List (ℕ × List (ℕ × Entry))
logs_of_names_in_world w a n = flat_map (log_of_name_in_world w) (map (λ rank. rank / 16 + 16 * (rank % 16)) (range_with_len a n))

other_rank : (a b : ℕ) → a < 256 → b < 256 → a < b → name_by_rank a ≡ name_by_rank b → ⊥
other_rank a b low small less same =
    let x : a / 16 < 16 = omega arith in
    let y : b / 16 < 16 = omega arith in
    omega arith

logs_go : (rules : Rules) (w : World) (a n : ℕ) (before : List Line) → GroupListIsReadable rules w.group → Segment rules w → a + n ≤ 256
    → ((b : ℕ) → a ≤ b → b < 256 → last_of (name_by_rank b) before ≡ None) → LinesComeNextInLogs rules w.group before (logs_in rules (logs_of_names_in_world w a n))
logs_go rules w a zero before right segment low fresh = tt
logs_go rules w a (suc n) before right segment low fresh =
    let name = name_by_rank a in
    let later = logs_of_names_in_world w (a + 1) n in
    let small : a < 256 = omega arith in
    let whole : logs_in rules (log_of_name_in_world w name ++ later) ≡ logs_in rules (log_of_name_in_world w name) ++ logs_in rules later =
    flat_map-append (λ (log : ℕ × List (ℕ × Entry)). log_in rules log.0 log.1) (log_of_name_in_world w name) later in
    subst (LinesComeNextInLogs rules w.group before) (sym whole) (split_on_bool (has_log_by_status (w.nodes name).status)
    (λ t.
    let one : logs_in rules (log_of_name_in_world w name) ≡ log_in rules name (deliveries w.records name) =
    ap (λ b. logs_in rules (if b then (name, deliveries w.records name) ∷ [] else [])) t ∙ append-nil (log_in rules name (deliveries w.records name)) in
    subst (λ l. LinesComeNextInLogs rules w.group before (l ++ logs_in rules later)) (sym one)
    (log_goes rules w name (deliveries w.records name) before (logs_in rules later) right (segment.each name) (fresh a (omega arith) small)
    (λ after stays. logs_go rules w (a + 1) n after right segment (omega arith)
    (λ b above few. stays (name_by_rank b) (other_rank a b small few (omega arith)) ∙ fresh b (omega arith) few))))
    (λ f.
    let none : logs_in rules (log_of_name_in_world w name) ≡ [] = ap (λ b. logs_in rules (if b then (name, deliveries w.records name) ∷ [] else [])) f in
    subst (λ l. LinesComeNextInLogs rules w.group before (l ++ logs_in rules later)) (sym none)
    (logs_go rules w (a + 1) n before right segment (omega arith) (λ b above few. fresh b (omega arith) few))))

-- each line of the logs is a log's first, or comes next in it, and has an entry of the list
pub logs_of_run_come_next : (rules : Rules) (w : World) → GroupListIsReadable rules w.group → Segment rules w → LinesComeNextInLogs rules w.group [] (logs_in rules (logs w))
logs_of_run_come_next rules w right segment = logs_go rules w 0 256 [] right segment (omega arith) (λ b above few. refl)
