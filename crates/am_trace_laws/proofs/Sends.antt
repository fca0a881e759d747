-- The sends of a run are as the list has them, and its answers, as they are read.
use Rattle.am_trace_laws.proofs.Words.{◌≡◌, ℕ, zero, suc, ◌+◌, ◌==◌, Bool, true, false, if◌then◌else◌, List, [], ◌∷◌, ◌++◌, length, map, unwrap_or, refl, sym}
use Rattle.am_trace_laws.proofs.Words.{ap, ◌∙◌, arith, Option, Some, None, slice_get, map-append, All, range_with_len, and_from, nat_tests, All-head, All-tail}
use Rattle.am_trace_laws.proofs.Words.{Rules, Entry, Outcome, split_on_bool, Act, Record, acting_name_of_record, entry_text, AcceptedSend, accepted_send_of_outcome, accepted_sends, StandsOnce, AnsweredSend}
use Rattle.am_trace_laws.proofs.Words.{data_in, is_send, Line, or_else, last_of, once_more, stands, is_at, first_lost, first_skipped, lines_of, count_of}
use Rattle.am_trace_laws.proofs.Words.{IsSayable, IsAnswerOfAct, IsSound, queued_in, queued_by, requests_given, send_lines_in, sends_of, line_answers_in, record_answers, entry_texts_of}
use Rattle.am_trace_laws.proofs.{Entries.entry_is_send_of, Logs.is_send_of_entry_text, Logs.entry_of_send_is_data}
use Rattle.am_base.specs.declared.entry.Entry.TheVariants as entries
use Rattle.am_base.specs.declared.outcome.Outcome.TheVariants as said
use Rattle.am_group.specs.declared.event.Act.TheVariants as acts
use Rattle.am_audit_defs.specs.declared.verdict.Verdict.TheVariants as verdicts
use Rattle.am_group.proofs.Places.{slice_get_of_append_back}

-- ---- where a send stands

stands_on : (number from req : ℕ) (b : Bool) (later : Option (Option ℕ)) (text : List ℕ) (texts : List (List ℕ)) → is_send from req (data_in text) ≡ b
    → stands (number + 1) from req texts ≡ later → stands number from req (text ∷ texts) ≡ (if b then Some (once_more number later) else later)
stands_on number from req b later text texts is rest =
    ap (λ t. if t then Some (once_more number (stands (number + 1) from req texts)) else stands (number + 1) from req texts) is
    ∙ ap (λ o. if b then Some (once_more number o) else o) rest

stands_nowhere : (rules : Rules) (number from req : ℕ) (es : List Entry) → All IsSayable es
    → ((k : ℕ) (body : List ℕ) → slice_get es k ≡ Some (entries.Data from req body) → ⊥) → stands number from req (entry_texts_of rules es) ≡ None
stands_nowhere rules number from req [] say none = refl
stands_nowhere rules number from req (e ∷ es) say none =
    let test : is_send from req (data_in (entry_text rules e)) ≡ false =
    is_send_of_entry_text rules from req e (All-head IsSayable e es say)
    ∙ split_on_bool (entry_is_send_of from req e)
    (λ t. absurd (let found = entry_of_send_is_data from req e t in none 0 found.0 (ap (λ (x : Entry). Some x) found.1)))
    (λ f. f) in
    stands_on number from req false None (entry_text rules e) (entry_texts_of rules es) test
    (stands_nowhere rules (number + 1) from req es (All-tail IsSayable e es say) (λ k body at. none (suc k) body at))

stands_at : (rules : Rules) (number from req : ℕ) (es : List Entry) (i : ℕ) (body : List ℕ) → All IsSayable es
    → slice_get es i ≡ Some (entries.Data from req body)
    → ((k : ℕ) (other : List ℕ) → slice_get es k ≡ Some (entries.Data from req other) → k ≡ i)
    → stands number from req (entry_texts_of rules es) ≡ Some (Some (number + i))
stands_at rules number from req [] i body say there only = absurd (cc)
stands_at rules number from req (e ∷ es) zero body say there only =
    let is : e ≡ entries.Data from req body = cc in
    let yes : entry_is_send_of from req e ≡ true =
    ap (entry_is_send_of from req) is ∙ and_from (from == from) (req == req) (grind (arith, nat_tests)) (grind (arith, nat_tests)) in
    let none = stands_nowhere rules (number + 1) from req es (All-tail IsSayable e es say)
    (λ k other at. let no : suc k ≡ 0 = only (suc k) other at in absurd (omega arith)) in
    stands_on number from req true None (entry_text rules e) (entry_texts_of rules es)
    (is_send_of_entry_text rules from req e (All-head IsSayable e es say) ∙ yes) none
    ∙ ap (λ n. Some (Some n)) (omega arith)
stands_at rules number from req (e ∷ es) (suc i) body say there only =
    let test : is_send from req (data_in (entry_text rules e)) ≡ false =
    is_send_of_entry_text rules from req e (All-head IsSayable e es say)
    ∙ split_on_bool (entry_is_send_of from req e)
    (λ t. absurd (let found = entry_of_send_is_data from req e t in
    let no : 0 ≡ suc i = only 0 found.0 (ap (λ (x : Entry). Some x) found.1) in omega arith))
    (λ f. f) in
    stands_on number from req false (Some (Some (number + 1 + i))) (entry_text rules e) (entry_texts_of rules es) test
    (stands_at rules (number + 1) from req es i body (All-tail IsSayable e es say) there
    (λ k other at. let same : suc k ≡ suc i = only (suc k) other at in omega arith))
    ∙ ap (λ n. Some (Some n)) (omega arith)

at_number : (rules : Rules) (from req number : ℕ) (es : List Entry) → All IsSayable es → StandsOnce es from req number
    → stands 1 from req (entry_texts_of rules es) ≡ Some (Some number)
at_number rules from req zero es say once = absurd (let there = once.there.1 in cc)
at_number rules from req (suc before) es say once =
    stands_at rules 1 from req es before once.there.0 say once.there.1
    (λ k other at. let same : suc k ≡ suc before = once.only (suc k) other at in omega arith)
    ∙ ap (λ n. Some (Some n)) (omega arith)

-- ---- answers

abbrev pub AnswersStandOnceInList : List Entry → List AnsweredSend → Type 0
AnswersStandOnceInList group [] = Unit {0}
AnswersStandOnceInList group (a ∷ others) = StandsOnce group a.name a.req a.number × AnswersStandOnceInList group others

once_more_of : (group : List Entry) (xs ys : List AnsweredSend) → AnswersStandOnceInList group xs → AnswersStandOnceInList group ys → AnswersStandOnceInList group (xs ++ ys)
once_more_of group [] ys h k = k
once_more_of group (x ∷ xs) ys h k = (h.0, once_more_of group xs ys h.1 k)

pub first_lost_of_standing_answers : (rules : Rules) (group : List Entry) (answers : List AnsweredSend) → All IsSayable group → AnswersStandOnceInList group answers
    → first_lost (entry_texts_of rules group) answers ≡ None
first_lost_of_standing_answers rules group [] say once = refl
first_lost_of_standing_answers rules group (a ∷ answers) say once =
    let own : (a.number == a.number) ≡ true = grind (arith, nat_tests) in
    let test : is_at a.number (stands 1 a.name a.req (entry_texts_of rules group)) ≡ true =
    ap (is_at a.number) (at_number rules a.name a.req a.number group say once.0) ∙ own in
    ap (λ b. or_else (if b then None else Some (verdicts.Lost a.name a.req)) (first_lost (entry_texts_of rules group) answers)) test
    ∙ first_lost_of_standing_answers rules group answers say once.1

-- each accepted send of some records
abbrev pub AcceptedStandOnceInList : List Entry → List AcceptedSend → Type 0
AcceptedStandOnceInList group accepted = (k : ℕ) (s : AcceptedSend) → slice_get accepted k ≡ Some s → StandsOnce group s.name s.req s.number

answered_once : (group : List Entry) (name : ℕ) (act : Act) (outcome : Outcome) (rest : List AcceptedSend) → AcceptedStandOnceInList group (accepted_send_of_outcome name outcome ++ rest)
    → AnswersStandOnceInList group (line_answers_in name act outcome)
answered_once group name (acts.Done asked) (said.Sent req number) rest once = (once 0 (record { name = name; req = req; number = number }) refl, tt)
answered_once group name _ _ rest once = tt

pub accepted_answers_stand_once : (group : List Entry) (records : List Record) → AcceptedStandOnceInList group (accepted_sends records) → AnswersStandOnceInList group (record_answers records)
accepted_answers_stand_once group [] once = tt
accepted_answers_stand_once group (r ∷ rs) once =
    once_more_of group (line_answers_in (acting_name_of_record r) r.event.act r.outcome) (record_answers rs)
    (answered_once group (acting_name_of_record r) r.event.act r.outcome (accepted_sends rs) once)
    (accepted_answers_stand_once group rs (λ k s at. once (length (accepted_send_of_outcome (acting_name_of_record r) r.outcome) + k) s
    (slice_get_of_append_back (accepted_send_of_outcome (acting_name_of_record r) r.outcome) (accepted_sends rs) k ∙ at)))

-- ---- requests in turn

abbrev pub numbers_of_name_in_lines : ℕ → List Line → List ℕ
numbers_of_name_in_lines name lines = map (λ line. line.number) (lines_of name lines)

-- the last number of each name is how many it has
abbrev pub LastNumbersAreCounts : List Line → Type 0
LastNumbersAreCounts before = (name : ℕ) → unwrap_or (last_of name before) 0 ≡ count_of name before

-- and the next ones go on from there
abbrev pub NumbersGoOnFromCounts : List Line → List Line → Type 0
NumbersGoOnFromCounts before lines = (name : ℕ) → numbers_of_name_in_lines name lines ≡ range_with_len (count_of name before + 1) (length (numbers_of_name_in_lines name lines))

heads : (x y : ℕ) (xs ys : List ℕ) → x ∷ xs ≡ y ∷ ys → (x ≡ y) × (xs ≡ ys)
heads x y xs ys is = (cc, cc)

own_numbers : (line : Line) (lines : List Line) → numbers_of_name_in_lines line.name (line ∷ lines) ≡ line.number ∷ numbers_of_name_in_lines line.name lines
own_numbers line lines = let own : (line.name == line.name) ≡ true = grind (arith, nat_tests) in rw own refl

other_numbers : (name : ℕ) (line : Line) (lines : List Line) → (line.name == name) ≡ false → numbers_of_name_in_lines name (line ∷ lines) ≡ numbers_of_name_in_lines name lines
other_numbers name line lines other = rw other refl

pub first_skipped_of_turn : (before sends : List Line) → LastNumbersAreCounts before → NumbersGoOnFromCounts before sends → first_skipped before sends ≡ None
first_skipped_of_turn before [] counted go = refl
first_skipped_of_turn before (send ∷ sends) counted go =
    let name = send.name in
    let c = count_of name before in
    let n = length (numbers_of_name_in_lines name sends) in
    let all : send.number ∷ numbers_of_name_in_lines name sends ≡ (c + 1) ∷ range_with_len (c + 1 + 1) n =
    sym (own_numbers send sends) ∙ go name ∙ ap (λ (l : List ℕ). range_with_len (c + 1) (length l)) (own_numbers send sends) in
    let parts = heads send.number (c + 1) (numbers_of_name_in_lines name sends) (range_with_len (c + 1 + 1) n) all in
    let last = counted name in
    let next : (send.number == unwrap_or (last_of name before) 0 + 1) ≡ true = let is = parts.0 in grind (arith, nat_tests) in
    ap (λ b. or_else (if b then None else Some (verdicts.Skipped send.name send.number)) (first_skipped (send ∷ before) sends)) next
    ∙ first_skipped_of_turn (send ∷ before) sends
    (λ other. split_on_bool (send.name == other)
    (λ t. let is : name ≡ other = grind (arith, nat_tests) in rw t (parts.0 ∙ ap (λ (x : ℕ). count_of x before + 1) is))
    (λ f. rw f (counted other)))
    (λ other. split_on_bool (send.name == other)
    (λ t. let is : name ≡ other = grind (arith, nat_tests) in
    rw t (ap (λ (x : ℕ). numbers_of_name_in_lines x sends) (sym is) ∙ parts.1
    ∙ ap (λ (x : ℕ). range_with_len (count_of x before + 1 + 1) (length (numbers_of_name_in_lines x sends))) is))
    (λ f. rw f (sym (other_numbers other send sends f) ∙ go other
    ∙ ap (λ (l : List ℕ). range_with_len (count_of other before + 1) (length l)) (other_numbers other send sends f))))

pub lines_of_appended_lines : (name : ℕ) (xs ys : List Line) → lines_of name (xs ++ ys) ≡ lines_of name xs ++ lines_of name ys
lines_of_appended_lines name [] ys = refl
lines_of_appended_lines name (x ∷ xs) ys = split_on_bool (x.name == name)
    (λ t. rw t (ap (λ (l : List Line). x ∷ l) (lines_of_appended_lines name xs ys)))
    (λ f. rw f (lines_of_appended_lines name xs ys))

numbers_more : (name : ℕ) (xs ys : List Line) → numbers_of_name_in_lines name (xs ++ ys) ≡ numbers_of_name_in_lines name xs ++ numbers_of_name_in_lines name ys
numbers_more name xs ys = ap (map (λ line. line.number)) (lines_of_appended_lines name xs ys) ∙ map-append (λ line. line.number) (lines_of name xs) (lines_of name ys)

-- the requests of one record
one_given : (name who : ℕ) (act : Act) (outcome : Outcome) → IsAnswerOfAct act outcome
    → numbers_of_name_in_lines name (send_lines_in who act outcome) ≡ (if who == name then queued_in outcome else [])
one_given name who act (said.Queued req) answer =
    let body = answer.0.0 in
    ap (λ a. numbers_of_name_in_lines name (send_lines_in who a (said.Queued req))) answer.0.1
    ∙ split_on_bool (who == name) (λ t. rw t refl) (λ f. rw f refl)
one_given name who act outcome answer = none_by act (who == name)
  where
    none_by : (a : Act) (b : Bool) → numbers_of_name_in_lines name (send_lines_in who a outcome) ≡ (if b then queued_in outcome else [])
    none_by (acts.Send body) true = refl
    none_by (acts.Send body) false = refl
    none_by _ true = refl
    none_by _ false = refl

pub numbers_of_sends_are_requests : (name : ℕ) (records : List Record) → All IsSound records → numbers_of_name_in_lines name (sends_of records) ≡ requests_given name records
numbers_of_sends_are_requests name [] sound = refl
numbers_of_sends_are_requests name (r ∷ rs) sound =
    numbers_more name (send_lines_in (acting_name_of_record r) r.event.act r.outcome) (sends_of rs)
    ∙ ap (λ l. l ++ numbers_of_name_in_lines name (sends_of rs)) (one_given name (acting_name_of_record r) r.event.act r.outcome (All-head IsSound r rs sound).answer)
    ∙ ap (λ l. queued_by name r ++ l) (numbers_of_sends_are_requests name rs (All-tail IsSound r rs sound))
