-- The records of one call: what may stand there, and what they answer.
use Rattle.am_race_laws.proofs.Words.{◌≡◌, ℕ, ◌-◌, ◌≤◌, List, [], ◌∷◌, ◌++◌, length, cond, Bool, true, false, true≢false, Option, Some, None, is_some, sym, refl}
use Rattle.am_race_laws.proofs.Words.{ap, ◌∙◌, subst, arith, eq-eqb, nat_le, unwrap_or, count_by, sum_by, ◌==◌, ◌&&◌, ◌||◌, if◌then◌else◌, fold}
use Rattle.am_race_laws.proofs.Words.{list_all, list_any, and_parts, lt-ltb, sum_by-cons, sum_by-append, fold-append, Outcome, Act, Part, Call, Turn, Check}
use Rattle.am_race_laws.proofs.Words.{Record, CallAnswer, Came, is_own, is_turn_part, is_check, own_of, ballot_answer, join_answer, leave_answer, left_answer}
use Rattle.am_race_laws.proofs.Words.{send_answer, take_answer, stop_answer, own_answer, end_answer, answer_or_else, queued_request, sent_request, request_of_act, request_by}
use Rattle.am_race_laws.proofs.Words.{put_off_in, late_after, late, answer_in, act_of_call, first_answer, is_take, is_end_of, is_end, answer_of, same_bytes}
use Rattle.am_race_laws.proofs.Words.{same_act, asks, is_followed, is_receive, is_other, is_one_call, IsUnanswered, round_in, is_call}
use Rattle.am_race_laws.proofs.Words.{has_check, end_act, end_part, told_at_end, request_in_call, IsOwn, CallHasBegun}
use Rattle.am_base.specs.declared.outcome.Outcome.TheVariants as said
use Rattle.am_group.specs.declared.event.Act.TheVariants as act
use Rattle.am_race_laws.specs.declared.answer.CallAnswer.TheVariants as answer
use Rattle.std.proofs.lemmas.Bool.{and_from}
use Rattle.am_race_laws.proofs.Words.{split_on_bool}
use Rattle.am_race_laws.proofs.Words.{append-nil}
use Rattle.std.proofs.Math.Bool.{or-true}

-- ---- parts

abbrev pub RecordsAreTurns : List Record → Type 0
RecordsAreTurns records = list_all (λ r. is_turn_part r.by.part) records ≡ true

pub turn_part_is_not_own : (p : Part) → is_turn_part p ≡ true → is_own p ≡ false
turn_part_is_not_own Call e = absurd (true≢false (sym e))
turn_part_is_not_own _ e = refl

no_check : (p : Part) → is_turn_part p ≡ true → is_check p ≡ false
no_check (Turn lost) e = refl
no_check _ e = absurd (true≢false (sym e))

own_turns : (p : Part) → is_own p ≡ true → is_turn_part p ≡ false
own_turns (Turn lost) e = absurd (true≢false (sym e))
own_turns _ e = refl

check_turns : (p : Part) → is_check p ≡ true → is_turn_part p ≡ false
check_turns (Turn lost) e = absurd (true≢false (sym e))
check_turns _ e = refl

own_check : (p : Part) → is_check p ≡ true → is_own p ≡ false
own_check Call e = absurd (true≢false (sym e))
own_check _ e = refl

pub head_of_turns_is_turn : (r : Record) (rs : List Record) → RecordsAreTurns (r ∷ rs) → is_turn_part r.by.part ≡ true
head_of_turns_is_turn r rs all = (and_parts (is_turn_part r.by.part) (list_all (λ q. is_turn_part q.by.part) rs) all).0

pub tail_of_turns_is_turns : (r : Record) (rs : List Record) → RecordsAreTurns (r ∷ rs) → RecordsAreTurns rs
tail_of_turns_is_turns r rs all = (and_parts (is_turn_part r.by.part) (list_all (λ q. is_turn_part q.by.part) rs) all).1

-- ---- planned

followed : (turns : ℕ) (own : Record) (ts more : List Record) → RecordsAreTurns ts → length ts ≤ turns → ((k : ℕ) → is_followed k own more ≡ true)
    → is_followed turns own (ts ++ more) ≡ true
unfolding is_followed
followed turns own [] more all few rest = rest turns
followed turns own (t ∷ ts) more all few rest = rw (head_of_turns_is_turn t ts all, lt-ltb 0 turns (omega arith))
    (followed (turns - 1) own ts more (tail_of_turns_is_turns t ts all) (omega arith) rest)

received : (turns : ℕ) (ts more : List Record) → RecordsAreTurns ts → length ts ≤ turns → ((k : ℕ) → is_receive k more ≡ true) → is_receive turns (ts ++ more) ≡ true
unfolding is_receive
received turns [] more all few rest = rest turns
received turns (t ∷ ts) more all few rest = rw (head_of_turns_is_turn t ts all, lt-ltb 0 turns (omega arith))
    (received (turns - 1) ts more (tail_of_turns_is_turns t ts all) (omega arith) rest)

same_body : (a : List ℕ) → same_bytes a a ≡ true
same_body [] = refl
same_body (x ∷ xs) = and_from (x == x) (same_bytes xs xs) (eq-eqb x x refl) (same_body xs)

-- a call is the same as itself
pub call_is_same_as_itself : (a : Act) → is_call a ≡ true → same_act a a ≡ true
call_is_same_as_itself (act.Send body) e = same_body body
call_is_same_as_itself act.Take e = refl
call_is_same_as_itself act.Join e = refl
call_is_same_as_itself act.Leave e = refl
call_is_same_as_itself (act.Reset least resilience) e = and_from (least == least) (resilience == resilience) (eq-eqb least least refl) (eq-eqb resilience resilience refl)
call_is_same_as_itself act.Stop e = refl
call_is_same_as_itself _ e = absurd (true≢false (sym e))

check_calls : (a : Act) → has_check a ≡ true → is_call a ≡ true
check_calls (act.Send body) e = refl
check_calls act.Join e = refl
check_calls act.Leave e = refl
check_calls (act.Reset least resilience) e = refl
check_calls _ e = absurd (true≢false (sym e))

no_receive : (a : Act) → has_check a ≡ true → is_take a ≡ false
no_receive (act.Send body) e = refl
no_receive act.Join e = refl
no_receive act.Leave e = refl
no_receive (act.Reset least resilience) e = refl
no_receive _ e = absurd (true≢false (sym e))

pub call_without_take_is_other : (turns : ℕ) (a : Act) (records : List Record) → is_take a ≡ false → is_one_call turns a records ≡ is_other turns a records
call_without_take_is_other turns a records no_ = ap (λ (b : Bool). if b then is_receive turns records else is_other turns a records) no_

-- after an own act without an answer
other_goes : (turns : ℕ) (a : Act) (own : Record) (rest : List Record) → is_own own.by.part ≡ true → same_act a own.event.act ≡ true
    → own_answer a own.outcome ≡ None
    → is_followed turns own rest ≡ true → is_other turns a (own ∷ rest) ≡ true
other_goes turns a own rest part same none goes = rw (part, same, none) goes

-- alone
pub own_act_is_other_call : (turns : ℕ) (a : Act) (own : Record) → is_own own.by.part ≡ true → same_act a own.event.act ≡ true → is_other turns a (own ∷ []) ≡ true
unfolding is_followed
own_act_is_other_call turns a own part same = rw (part, same) (split_on_bool (is_some (own_answer a own.outcome)) (λ t. rw t refl) (λ f. rw f refl))

same_as : (a : Act) (own : Record) → is_call a ≡ true → own.event.act ≡ a → same_act a own.event.act ≡ true
same_as a own call e = ap (same_act a) e ∙ call_is_same_as_itself a call

ends_with : (own e : Record) (k : ℕ) → is_check e.by.part ≡ true → asks own.event.act own.outcome own.packets e.event.act ≡ true
    → is_followed k own (e ∷ []) ≡ true
unfolding is_followed
ends_with own e k part is = rw (check_turns e.by.part part, part, is) refl

takes_at_end : (e : Record) (k : ℕ) → is_own e.by.part ≡ true → is_take e.event.act ≡ true → is_receive k (e ∷ []) ≡ true
unfolding is_receive
takes_at_end e k part is = rw (own_turns e.by.part part, part, is) refl

-- what a check asks
asks_it : (a : Act) (came : Came) (own : Record) → has_check a ≡ true → own.event.act ≡ a → own.outcome ≡ came.outcome → round_in own.packets ≡ came.round
    → asks own.event.act own.outcome own.packets (end_act a (Some came)) ≡ true
asks_it a came own is e outcome round = ap (λ (x : Act). asks x own.outcome own.packets (end_act a (Some came))) e ∙ by_act a is
  where
    by_act : (x : Act) → has_check x ≡ true → asks x own.outcome own.packets (end_act x (Some came)) ≡ true
    by_act (act.Send body) h = eq-eqb (sent_request came.outcome) (sent_request own.outcome) (ap sent_request (sym outcome))
    by_act act.Join h = refl
    by_act act.Leave h = refl
    by_act (act.Reset least resilience) h = eq-eqb came.round (round_in own.packets) (sym round)
    by_act _ h = absurd (true≢false (sym h))

-- an end's record
pub record RecordIsEndOfCall (a : Act) (came : Option Came) (e : Record) : Type 0 where
  pub act_ : e.event.act ≡ end_act a came
  pub part : e.by.part ≡ end_part a

pub call_with_turns_is_planned : (turns : ℕ) (a : Act) (came : Option Came) (first ts : List Record) → CallHasBegun a came first → RecordsAreTurns ts → length ts ≤ turns
    → is_one_call turns a (first ++ ts) ≡ true
unfolding is_followed is_receive
call_with_turns_is_planned turns a None first ts begun all few = rw (begun.1, begun.0) (rw append-nil at (received turns ts [] all few (λ k. refl)))
call_with_turns_is_planned turns a (Some came) first ts begun all few =
    let own : Record = begun.2.0 in
    let is = begun.2.2 in
    rw (begun.2.1, no_receive a begun.0)
    (other_goes turns a own ts is.part (same_as a own (check_calls a begun.0) is.act_) (ap (own_answer a) is.outcome ∙ begun.1)
    (rw append-nil at (followed turns own ts [] all few (λ k. refl))))

part_of_take : (a : Act) → is_take a ≡ true → end_part a ≡ Call
part_of_take a yes_ = ap (λ (b : Bool). if b then Call else Check) yes_

part_of_check : (a : Act) → is_take a ≡ false → end_part a ≡ Check
part_of_check a no_ = ap (λ (b : Bool). if b then Call else Check) no_

take_is : (a : Act) → is_take a ≡ true → a ≡ act.Take
take_is act.Take e = refl
take_is _ e = absurd (true≢false (sym e))

pub call_with_end_is_planned : (turns : ℕ) (a : Act) (came : Option Came) (first ts : List Record) (e : Record) → CallHasBegun a came first → RecordsAreTurns ts → length ts ≤ turns
    → RecordIsEndOfCall a came e
    → is_one_call turns a (first ++ (ts ++ e ∷ [])) ≡ true
call_with_end_is_planned turns a None first ts e begun all few is = rw (begun.1, begun.0)
    (received turns ts (e ∷ []) all few (λ k. takes_at_end e k (ap is_own (is.part ∙ part_of_take a begun.0))
    (ap is_take (is.act_ ∙ ap (λ (x : Act). end_act x None) (take_is a begun.0)))))
call_with_end_is_planned turns a (Some came) first ts e begun all few is =
    let own : Record = begun.2.0 in
    let its = begun.2.2 in
    rw (begun.2.1, no_receive a begun.0)
    (other_goes turns a own (ts ++ e ∷ []) its.part (same_as a own (check_calls a begun.0) its.act_) (ap (own_answer a) its.outcome ∙ begun.1)
    (followed turns own ts (e ∷ []) all few (λ k. ends_with own e k (ap is_check (is.part ∙ part_of_check a (no_receive a begun.0)))
    (ap (asks own.event.act own.outcome own.packets) is.act_ ∙ asks_it a came own begun.0 its.act_ its.outcome its.round))))

-- ---- answers

nothing_told : (own : Act) (r : Record) → is_turn_part r.by.part ≡ true → answer_in own r ≡ None
nothing_told own r is = rw (turn_part_is_not_own r.by.part is, no_check r.by.part is) refl

turns_tell_nothing : (own : Act) (ts more : List Record) → RecordsAreTurns ts → first_answer own (ts ++ more) ≡ first_answer own more
turns_tell_nothing own [] more all = refl
turns_tell_nothing own (t ∷ ts) more all = rw (nothing_told own t (head_of_turns_is_turn t ts all)) (turns_tell_nothing own ts more (tail_of_turns_is_turns t ts all))

none_behind : (o : Option CallAnswer) → answer_or_else o None ≡ o
none_behind None = refl
none_behind (Some a) = refl

own_behind : (ts : List Record) (e : Record) → RecordsAreTurns ts → is_own e.by.part ≡ true → own_of (ts ++ e ∷ []) ≡ Some e
own_behind [] e all is = rw is refl
own_behind (t ∷ ts) e all is = rw (turn_part_is_not_own t.by.part (head_of_turns_is_turn t ts all)) (own_behind ts e (tail_of_turns_is_turns t ts all) is)

pub own_of_first_record : (own : Record) (rest : List Record) → is_own own.by.part ≡ true → own_of (own ∷ rest) ≡ Some own
own_of_first_record own rest is = rw is refl

-- how many turns there are
pub count_of_turns_is_length : (ts : List Record) → RecordsAreTurns ts → count_by (λ r. is_turn_part r.by.part) ts ≡ length ts
count_of_turns_is_length [] all = refl
count_of_turns_is_length (t ∷ ts) all =
    let e = sum_by-cons (λ (r : Record). cond (is_turn_part r.by.part) 1 0) t ts in
    let one : ◌≡◌ {A = ℕ} (cond (is_turn_part t.by.part) 1 0) 1 = rw (head_of_turns_is_turn t ts all) refl in
    let rest = count_of_turns_is_length ts (tail_of_turns_is_turns t ts all) in
    omega arith

with_end : (ts : List Record) (e : Record) → RecordsAreTurns ts → is_turn_part e.by.part ≡ false → count_by (λ r. is_turn_part r.by.part) (ts ++ e ∷ []) ≡ length ts
with_end ts e all no_ =
    let both_ = sum_by-append (λ (r : Record). cond (is_turn_part r.by.part) 1 0) ts (e ∷ []) in
    let last = sum_by-cons (λ (r : Record). cond (is_turn_part r.by.part) 1 0) e [] in
    let none : ◌≡◌ {A = ℕ} (cond (is_turn_part e.by.part) 1 0) 0 = rw no_ refl in
    let zero_ : sum_by (λ (r : Record). cond (is_turn_part r.by.part) 1 0) [] ≡ 0 = refl in
    let rest = count_of_turns_is_length ts all in
    omega arith

any_last : (ts : List Record) (e : Record) → is_end e ≡ true → list_any is_end (ts ++ e ∷ []) ≡ true
any_last [] e is = rw is refl
any_last (t ∷ ts) e is = rw (any_last ts e is) (or-true (is_end t))

pub late_with_one_more_record : (turns : ℕ) (request : Option ℕ) (xs : List Record) (e : Record)
    → late turns request (xs ++ e ∷ []) ≡ late_after request (late turns request xs) e.outcome
late_with_one_more_record turns request xs e = fold-append (λ a (r : Record). late_after request a r.outcome) (answer.Late turns) xs (e ∷ [])

-- an own act that queued a send puts nothing off
own_puts_nothing_off : (a : Act) (o : Outcome) (its : CallAnswer) → late_after (request_of_act a o) its o ≡ its
own_puts_nothing_off (act.Send body) o its = by_outcome o
  where
    by_outcome : (x : Outcome) → late_after (queued_request x) its x ≡ its
    by_outcome (said.Queued req) = refl
    by_outcome _ = refl
own_puts_nothing_off _ o its = refl

-- after turns and an end: its answer, or late where all turns are used
abbrev pub answer_of_ended_call : ℕ → Act → Option ℕ → List Record → Record → Option CallAnswer
answer_of_ended_call turns a request ts e = answer_or_else (told_at_end a e.outcome)
    (if nat_le turns (length ts) then Some (late_after request (late turns request ts) e.outcome) else None)

-- what records answer, by what their end tells, how many turns they have, and how late they are
ends_as : (turns many : ℕ) (recs : List Record) (told : Option CallAnswer) (last : CallAnswer) → first_answer (act_of_call (own_of recs)) recs ≡ told
    → list_any is_end recs ≡ true → count_by (λ r. is_turn_part r.by.part) recs ≡ many → late turns (request_by (own_of recs)) recs ≡ last
    → answer_of turns recs ≡ answer_or_else told (if nat_le turns many then Some last else None)
unfolding answer_of
ends_as turns many recs told last first ends counted lates = rw (first, ends, counted, lates) refl

take_answers : (turns : ℕ) (a : Act) (ts : List Record) (e : Record) → is_take a ≡ true → RecordsAreTurns ts → is_own e.by.part ≡ true → e.event.act ≡ act.Take
    → answer_of turns (ts ++ e ∷ []) ≡ answer_of_ended_call turns a None ts e
take_answers turns a ts e take all part is =
    let recs : List Record = ts ++ e ∷ [] in
    let own : own_of recs ≡ Some e = own_behind ts e all part in
    let first : first_answer (act_of_call (own_of recs)) recs ≡ told_at_end a e.outcome =
    rw (own, turns_tell_nothing e.event.act ts (e ∷ []) all, part, is, take, take_is a take) (none_behind (own_answer act.Take e.outcome)) in
    let ends : list_any is_end recs ≡ true = any_last ts e (rw (part, is) (or-true (is_check e.by.part))) in
    let counted : count_by (λ r. is_turn_part r.by.part) recs ≡ length ts = with_end ts e all (own_turns e.by.part part) in
    let lates : late turns (request_by (own_of recs)) recs ≡ late_after None (late turns None ts) e.outcome =
    rw own (ap (λ (x : Act). late turns (request_of_act x e.outcome) recs) is ∙ late_with_one_more_record turns None ts e) in
    ends_as turns (length ts) recs (told_at_end a e.outcome) (late_after None (late turns None ts) e.outcome) first ends counted lates

check_answers : (turns : ℕ) (a : Act) (came : Came) (own : Record) (ts : List Record) (e : Record) → has_check a ≡ true → own_answer a came.outcome ≡ None
    → IsOwn a came own → RecordsAreTurns ts
    → is_check e.by.part ≡ true → answer_of turns (own ∷ (ts ++ e ∷ [])) ≡ answer_of_ended_call turns a (request_of_act a came.outcome) ts e
check_answers turns a came own ts e has none is all part =
    let rest : List Record = ts ++ e ∷ [] in
    let recs : List Record = own ∷ rest in
    let request : Option ℕ = request_of_act a came.outcome in
    let found : own_of recs ≡ Some own = own_of_first_record own rest is.part in
    let own_none : answer_in own.event.act own ≡ None = rw (is.part, is.act_, is.outcome) none in
    let first : first_answer (act_of_call (own_of recs)) recs ≡ told_at_end a e.outcome =
    subst (λ (o : Option Record). first_answer (act_of_call o) recs ≡ told_at_end a e.outcome) (sym found)
    (rw (own_none, turns_tell_nothing own.event.act ts (e ∷ []) all, own_check e.by.part part, part, is.act_, no_receive a has)
    (none_behind (end_answer a e.outcome))) in
    let ends : list_any is_end recs ≡ true = any_last (own ∷ ts) e (ap (λ (b : Bool). b || (is_own e.by.part && is_take e.event.act)) part) in
    let counted : count_by (λ r. is_turn_part r.by.part) recs ≡ length ts =
    (let c = sum_by-cons (λ (r : Record). cond (is_turn_part r.by.part) 1 0) own rest in
    let z : ◌≡◌ {A = ℕ} (cond (is_turn_part own.by.part) 1 0) 0 = rw (own_turns own.by.part is.part) refl in
    let w = with_end ts e all (check_turns e.by.part part) in
    omega arith)
    in
    let asked : request_by (Some own) ≡ request = rw (is.act_, is.outcome) refl in
    let begins : late_after request (answer.Late turns) own.outcome ≡ answer.Late turns =
    rw is.outcome (own_puts_nothing_off a came.outcome (answer.Late turns)) in
    let lates : late turns (request_by (own_of recs)) recs ≡ late_after request (late turns request ts) e.outcome =
    rw (found, asked) (ap (λ (x : CallAnswer). fold (λ y (r : Record). late_after request y r.outcome) x rest) begins ∙ late_with_one_more_record turns request ts e) in
    ends_as turns (length ts) recs (told_at_end a e.outcome) (late_after request (late turns request ts) e.outcome) first ends counted lates

pub answer_of_call_with_end : (turns : ℕ) (a : Act) (came : Option Came) (first ts : List Record) (e : Record) → CallHasBegun a came first → RecordsAreTurns ts → RecordIsEndOfCall a came e
    → answer_of turns (first ++ (ts ++ e ∷ [])) ≡ answer_of_ended_call turns a (request_in_call a came) ts e
answer_of_call_with_end turns a None first ts e begun all is =
    ap (λ (l : List Record). answer_of turns (l ++ (ts ++ e ∷ []))) begun.1
    ∙ take_answers turns a ts e begun.0 all (ap is_own (is.part ∙ part_of_take a begun.0)) (is.act_ ∙ ap (λ (x : Act). end_act x None) (take_is a begun.0))
answer_of_call_with_end turns a (Some came) first ts e begun all is =
    ap (λ (l : List Record). answer_of turns (l ++ (ts ++ e ∷ []))) begun.2.1
    ∙ check_answers turns a came begun.2.0 ts e begun.0 begun.1 begun.2.2 all (ap is_check (is.part ∙ part_of_check a (no_receive a begun.0)))

-- a call that its own act answers
pub answer_of_own_act : (turns : ℕ) (a : Act) (came : Came) (own : Record) (its : CallAnswer) → IsOwn a came own → own_answer a came.outcome ≡ Some its
    → answer_of turns (own ∷ []) ≡ Some its
unfolding answer_of
answer_of_own_act turns a came own its is told =
    let found : own_of (own ∷ []) ≡ Some own = own_of_first_record own [] is.part in
    let here : answer_in own.event.act own ≡ Some its = rw (is.part, is.act_, is.outcome) told in
    rw (found, here) refl

-- ---- records without an answer

turns_end_nothing : (ts : List Record) → RecordsAreTurns ts → list_any is_end ts ≡ false
turns_end_nothing [] all = refl
turns_end_nothing (t ∷ ts) all = rw (no_end t.by.part t.event.act (head_of_turns_is_turn t ts all)) (turns_end_nothing ts (tail_of_turns_is_turns t ts all))
  where
    no_end : (p : Part) (a : Act) → is_turn_part p ≡ true → is_end_of p a ≡ false
    no_end (Turn lost) a e = refl
    no_end _ a e = absurd (true≢false (sym e))

-- records that tell nothing, and come to no end, have no answer
tells_none : (turns : ℕ) (recs : List Record) → first_answer (act_of_call (own_of recs)) recs ≡ None → list_any is_end recs ≡ false
    → IsUnanswered turns recs
unfolding answer_of
tells_none turns recs first ends = record { none = rw (first, ends) refl; unended = ends }

alone_tell_nothing : (own : Act) (ts : List Record) → RecordsAreTurns ts → first_answer own ts ≡ None
alone_tell_nothing own [] all = refl
alone_tell_nothing own (t ∷ ts) all = rw (nothing_told own t (head_of_turns_is_turn t ts all)) (alone_tell_nothing own ts (tail_of_turns_is_turns t ts all))

-- a call's own act without an answer, and turns after it
pub call_without_end_is_unanswered : (turns : ℕ) (a : Act) (came : Option Came) (first ts : List Record) → CallHasBegun a came first → RecordsAreTurns ts → IsUnanswered turns (first ++ ts)
call_without_end_is_unanswered turns a None first ts begun all =
    rw begun.1 (tells_none turns ts (alone_tell_nothing (act_of_call (own_of ts)) ts all) (turns_end_nothing ts all))
call_without_end_is_unanswered turns a (Some came) first ts begun all =
    let own : Record = begun.2.0 in
    let is = begun.2.2 in
    let silent : answer_in own.event.act own ≡ None = rw (is.part, is.act_, is.outcome) begun.1 in
    rw begun.2.1 (tells_none turns (own ∷ ts)
    (subst (λ (o : Option Record). first_answer (act_of_call o) (own ∷ ts) ≡ None) (sym (own_of_first_record own ts is.part))
    (rw silent (alone_tell_nothing own.event.act ts all)))
    (rw (is.act_, no_end own.by.part (no_receive a begun.0) is.part) (turns_end_nothing ts all)))
  where
    no_end : (p : Part) → is_take a ≡ false → is_own p ≡ true → is_end_of p a ≡ false
    no_end Call no_ e = no_
    no_end _ no_ e = absurd (true≢false (sym e))

-- ---- answers that are of records

abbrev pub answer_is_plain : CallAnswer → Bool
answer_is_plain answer.Stopped = false
answer_is_plain answer.Spent = false
answer_is_plain answer.NoMemory = false
answer_is_plain _ = true

abbrev pub optional_answer_is_plain : Option CallAnswer → Bool
optional_answer_is_plain None = true
optional_answer_is_plain (Some a) = answer_is_plain a

plain_ballot : (o : Outcome) → optional_answer_is_plain (ballot_answer o) ≡ true
plain_ballot (said.Decided number members) = refl
plain_ballot _ = refl

plain_join : (o : Outcome) → optional_answer_is_plain (join_answer o) ≡ true
plain_join (said.Joined number) = refl
plain_join _ = refl

plain_leave : (o : Outcome) → optional_answer_is_plain (leave_answer o) ≡ true
plain_leave said.Departed = refl
plain_leave _ = refl

plain_left : (o : Outcome) → optional_answer_is_plain (left_answer o) ≡ true
plain_left said.Leaving = refl
plain_left _ = refl

plain_send : (o : Outcome) → optional_answer_is_plain (send_answer o) ≡ true
plain_send (said.Sent req number) = refl
plain_send _ = refl

plain_take : (o : Outcome) → optional_answer_is_plain (take_answer o) ≡ true
plain_take (said.Took number entry) = refl
plain_take _ = refl

plain_stop : (o : Outcome) → optional_answer_is_plain (stop_answer o) ≡ true
plain_stop said.Stopped = refl
plain_stop _ = refl

pub own_answer_is_plain : (a : Act) (o : Outcome) → optional_answer_is_plain (own_answer a o) ≡ true
unfolding own_answer
own_answer_is_plain (act.Send body) o = plain_send o
own_answer_is_plain act.Take o = plain_take o
own_answer_is_plain act.Join o = plain_join o
own_answer_is_plain act.Leave o = plain_leave o
own_answer_is_plain (act.Reset least resilience) o = plain_ballot o
own_answer_is_plain act.Stop o = plain_stop o
own_answer_is_plain _ o = refl

plain_end : (a : Act) (o : Outcome) → optional_answer_is_plain (end_answer a o) ≡ true
unfolding end_answer
plain_end (act.Send body) o = plain_send o
plain_end act.Join o = plain_join o
plain_end act.Leave o = plain_left o
plain_end (act.Reset least resilience) o = plain_ballot o
plain_end _ o = refl

plain_told : (a : Act) (o : Outcome) → optional_answer_is_plain (told_at_end a o) ≡ true
plain_told a o = split_on_bool (is_take a) (λ t. rw t (own_answer_is_plain a o)) (λ f. rw f (plain_end a o))

plain_put_off : (request : Option ℕ) (o : Outcome) → optional_answer_is_plain (put_off_in request o) ≡ true
plain_put_off (Some req) (said.PutOff its base top) = split_on_bool (its == req) (λ t. rw t refl) (λ f. rw f refl)
plain_put_off _ _ = refl

plain_or : (o : Option CallAnswer) (a : CallAnswer) → optional_answer_is_plain o ≡ true → answer_is_plain a ≡ true → answer_is_plain (unwrap_or o a) ≡ true
plain_or None a p q = q
plain_or (Some x) a p q = p

plain_late : (request : Option ℕ) (a : CallAnswer) (o : Outcome) → answer_is_plain a ≡ true → answer_is_plain (late_after request a o) ≡ true
plain_late request a o p = plain_or (put_off_in request o) a (plain_put_off request o) p

pub answer_at_end_is_plain : (a : Act) (request : Option ℕ) (o : Outcome) (its : CallAnswer) → answer_is_plain its ≡ true
    → answer_is_plain (unwrap_or (told_at_end a o) (late_after request its o)) ≡ true
answer_at_end_is_plain a request o its p = plain_or (told_at_end a o) (late_after request its o) (plain_told a o) (plain_late request its o p)

pub late_answer_is_plain : (turns : ℕ) (request : Option ℕ) (ts : List Record) → answer_is_plain (late turns request ts) ≡ true
late_answer_is_plain turns request ts = from (answer.Late turns) ts refl
  where
    from : (a : CallAnswer) (xs : List Record) → answer_is_plain a ≡ true → answer_is_plain (fold (λ x (r : Record). late_after request x r.outcome) a xs) ≡ true
    from a [] p = p
    from a (x ∷ xs) p = from (late_after request a x.outcome) xs (plain_late request a x.outcome p)
