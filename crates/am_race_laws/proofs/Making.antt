-- A call that is made: its turns so far, its end, and what its caller then has.
use Rattle.am_race_laws.proofs.Words.{◌≡◌, ℕ, zero, suc, ◌+◌, ◌-◌, ◌<◌, ◌≤◌, List, [], ◌∷◌, ◌++◌, length, get_or, take, drop, cond, Bool, true, false}
use Rattle.am_race_laws.proofs.Words.{true≢false, Option, Some, None, sym, refl, ap, ◌∙◌, subst, arith, append-nil, length-append, ne_eqb, nat_le, unwrap_or}
use Rattle.am_race_laws.proofs.Words.{slice_get, count_by, All, ◌==◌, ◌&&◌, if◌then◌else◌, list_all, prefix_len, and_parts, le-leb, eqb-true, All-append}
use Rattle.am_race_laws.proofs.Words.{sum_by-append, none-some, Outcome, place_of_name, Act, By, Record, RacePlan, Caller, GoesOn, records_go_on_to_themselves, CallAnswer, Tag, Came}
use Rattle.am_race_laws.proofs.Words.{of_caller, of_call, own_of, is_turn_part, own_answer, answer_or_else, late_after, late, is_take, answer_of, IsRefused, same_act}
use Rattle.am_race_laws.proofs.Words.{is_one_call, is_receive, at_one_place, first_call, records_behind, are_calls, is_callers, Calling, IsUnanswered, IsAnswerOfCall, HasMade}
use Rattle.am_race_laws.proofs.Words.{Called, is_call, has_check, told_at_end, request_in_call, IsCame, CallHasBegun, Began, TurnIsMade, EndIsMade, WasRefused, CallerHasSeenMore, Made}
use Rattle.am_race_laws.proofs.Growing.{list_all_of_appended_lists, list_all_of_one_item, no_records_of_new_call, records_of_call_grow, no_growth_without_own_record, growth_by_one_record, growth_through_middle}
use Rattle.am_race_laws.proofs.Shapes.{RecordsAreTurns, RecordIsEndOfCall, answer_of_ended_call, call_is_same_as_itself, call_with_turns_is_planned, call_with_end_is_planned, answer_of_call_with_end, answer_of_own_act, late_with_one_more_record, call_without_end_is_unanswered}
use Rattle.am_race_laws.proofs.Shapes.{count_of_turns_is_length, own_act_is_other_call, call_without_take_is_other, answer_is_plain, optional_answer_is_plain, own_answer_is_plain, answer_at_end_is_plain, late_answer_is_plain, own_of_first_record, turn_part_is_not_own}
use Rattle.am_race_laws.proofs.Shapes.{head_of_turns_is_turn, tail_of_turns_is_turns}
use Rattle.am_race_laws.proofs.{Boxing.own_key_times_positive, Finishing.no_calls_leave_no_records}
use Rattle.am_base.specs.declared.outcome.Outcome.TheVariants as said
use Rattle.am_group.specs.declared.event.Act.TheVariants as act
use Rattle.am_race_laws.specs.declared.answer.CallAnswer.TheVariants as answer
use Rattle.std.proofs.lemmas.List.{take-append-le}
use Rattle.am_step_laws.proofs.Items.{slice_get_of_pushed}
use Rattle.am_race_laws.proofs.Words.{split_on_bool}
use Rattle.std.proofs.lemmas.List.{take_all, drop_all, drop-append-le, length-take}
use Rattle.std.proofs.lemmas.List.Elements.{All-drop}
use Rattle.std.proofs.lemmas.List.Sums.{prefix_len-le-length}

-- ---- answers of records, and refusals

answer_is : (turns : ℕ) (mine seen : List Record) (node : ℕ) (its : CallAnswer) → answer_is_plain its ≡ true → answer_of turns mine ≡ Some its
    → IsAnswerOfCall turns mine seen node its
answer_is turns mine seen node answer.Stopped plain is = absurd (true≢false (sym plain))
answer_is turns mine seen node answer.Spent plain is = absurd (true≢false (sym plain))
answer_is turns mine seen node answer.NoMemory plain is = absurd (true≢false (sym plain))
answer_is turns mine seen node _ plain is = is

refused_is : (turns : ℕ) (mine seen : List Record) (node : ℕ) (its : CallAnswer) → IsUnanswered turns mine → IsRefused seen (place_of_name node) its
    → IsAnswerOfCall turns mine seen node its
refused_is turns mine seen node answer.Stopped none is = (is, none)
refused_is turns mine seen node answer.Spent none is = (is, none)
refused_is turns mine seen node answer.NoMemory none is = none
refused_is turns mine seen node _ none is = absurd is

not_spent : (its : CallAnswer) → answer_is_plain its ≡ true → its ≡ answer.Spent → ⊥
not_spent its plain e = true≢false (sym plain ∙ ap answer_is_plain e)

-- ---- turns so far

-- so many turns were made of a call that had begun, and it would be this late
pub record CallHasTurned (plan : RacePlan) (node : ℕ) (tag : Tag) (request : Option ℕ) (old new : List Record) (spent : ℕ) (its : CallAnswer) : Type 0 where
  pub mine : List Record
  pub grows : CallerHasSeenMore (place_of_name node) tag old new mine
  pub turns : RecordsAreTurns mine
  pub count : length mine ≡ spent
  pub late_ : its ≡ late plan.turns request mine

pub call_begins_without_turns : (plan : RacePlan) (node : ℕ) (tag : Tag) (request : Option ℕ) (seen : List Record) → CallerHasSeenMore (place_of_name node) tag seen seen []
    → CallHasTurned plan node tag request seen seen 0 (answer.Late plan.turns)
call_begins_without_turns plan node tag request seen grows = record { mine = []; grows = grows; turns = refl; count = refl; late_ = refl }

its_place : (node : ℕ) (item : Record) → item.event.node ≡ place_of_name node → place_of_name item.event.node ≡ place_of_name node
its_place node item e = omega arith

pub call_with_one_more_turn : (plan : RacePlan) (node : ℕ) (tag : Tag) (request : Option ℕ) (old middle new : List Record) (spent : ℕ) (its : CallAnswer) (outcome : Outcome)
    → CallHasTurned plan node tag request old middle spent its → TurnIsMade (place_of_name node) tag outcome middle new
    → CallHasTurned plan node tag request old new (spent + 1) (late_after request its outcome)
call_with_one_more_turn plan node tag request old middle new spent its outcome so t =
    let one = growth_by_one_record (place_of_name node) tag middle new t.item t.grown (its_place node t.item t.is.node) t.is.caller t.is.call in record {
      mine = so.mine ++ t.item ∷ [];
      grows = growth_through_middle (place_of_name node) tag old middle new so.mine (t.item ∷ []) so.grows one;
      turns = list_all_of_appended_lists (λ (r : Record). is_turn_part r.by.part) so.mine (t.item ∷ []) so.turns
          (list_all_of_one_item (λ (r : Record). is_turn_part r.by.part) t.item t.is.part);
      count = let l = length-append so.mine (t.item ∷ []) in let c = so.count in omega arith;
      late_ = rw (so.late_, ← t.is.came) (sym (late_with_one_more_record plan.turns request so.mine t.item));
    }

-- the records of a call begin with those before its turns
first_few : (a : Act) (came : Option Came) (first : List Record) → CallHasBegun a came first → length first ≤ 1
first_few a None first begun = let e : length first ≡ length {A = Record} [] = ap length begun.1 in omega arith
first_few a (Some came) first begun = let e : length first ≡ length (begun.2.0 ∷ []) = ap length begun.2.1 in omega arith

-- what came of its own act is what its records say, also after turns
none_own : (ts : List Record) → RecordsAreTurns ts → own_of ts ≡ None
none_own [] all = refl
none_own (t ∷ ts) all = rw (turn_part_is_not_own t.by.part (head_of_turns_is_turn t ts all)) (none_own ts (tail_of_turns_is_turns t ts all))

own_came : (a : Act) (came : Option Came) (first ts : List Record) → CallHasBegun a came first → RecordsAreTurns ts → IsCame a came (own_of (first ++ ts))
own_came a None first ts begun all = (begun.0, ap (λ (l : List Record). own_of (l ++ ts)) begun.1 ∙ none_own ts all)
own_came a (Some came) first ts begun all =
    (begun.2.0, ap (λ (l : List Record). own_of (l ++ ts)) begun.2.1 ∙ own_of_first_record begun.2.0 ts begun.2.2.part, begun.2.2)

pub own_outcome_stays_after_turns : (plan : RacePlan) (node : ℕ) (tag : Tag) (a : Act) (came : Option Came) (request : Option ℕ) (old new : List Record) (spent : ℕ) (its : CallAnswer)
    → CallHasBegun a came (of_call tag.caller tag.call old) → CallHasTurned plan node tag request old new spent its
    → IsCame a came (own_of (of_call tag.caller tag.call new))
own_outcome_stays_after_turns plan node tag a came request old new spent its begun so =
    rw (records_of_call_grow (place_of_name node) tag old new so.mine so.grows) (own_came a came (of_call tag.caller tag.call old) so.mine begun so.turns)

-- all turns that it made are among its records
pub spent_turns_are_all_turns : (plan : RacePlan) (node : ℕ) (tag : Tag) (request : Option ℕ) (old new : List Record) (spent : ℕ) (its : CallAnswer)
    → CallHasTurned plan node tag request old new spent its → plan.turns ≤ spent
    → plan.turns ≤ count_by (λ r. is_turn_part r.by.part) (of_call tag.caller tag.call new)
spent_turns_are_all_turns plan node tag request old new spent its so used =
    let first : List Record = of_call tag.caller tag.call old in
    let all = ap (count_by (λ (r : Record). is_turn_part r.by.part)) (records_of_call_grow (place_of_name node) tag old new so.mine so.grows) in
    let both_ = sum_by-append (λ (r : Record). cond (is_turn_part r.by.part) 1 0) first so.mine in
    let mine = count_of_turns_is_length so.mine so.turns in
    let c = so.count in
    omega arith

-- ---- a call's end

-- it was refused at a look
pub look_refused_call_is_made : (plan : RacePlan) (node : ℕ) (tag : Tag) (a : Act) (came : Option Came) (request : Option ℕ) (old middle new : List Record) (spent : ℕ)
    (late its : CallAnswer)
    → CallHasBegun a came (of_call tag.caller tag.call old) → CallHasTurned plan node tag request old middle spent late → spent ≤ plan.turns
    → WasRefused (place_of_name node) tag.caller middle new its → Made plan node tag a (of_call tag.caller tag.call old) old new its
look_refused_call_is_made plan node tag a came request old middle new spent late its begun so le was =
    let first : List Record = of_call tag.caller tag.call old in
    let all = growth_through_middle (place_of_name node) tag old middle new so.mine [] so.grows (no_growth_without_own_record (place_of_name node) tag middle new was.0) in
    let few = first_few a came first begun in
    let c = so.count in
    let l = length-append first so.mine in record {
      mine = so.mine;
      grows = subst (CallerHasSeenMore (place_of_name node) tag old new) (append-nil so.mine) all;
      planned = call_with_turns_is_planned plan.turns a came first so.mine begun so.turns (omega arith);
      most = omega arith;
      spent = λ e. omega arith;
      answer_ = refused_is plan.turns (first ++ so.mine) new node its (call_without_end_is_unanswered plan.turns a came first so.mine begun so.turns) was.1;
    }

told_or_late : (turns spent : ℕ) (o : Option CallAnswer) (its : CallAnswer) → (o ≡ None → turns ≤ spent)
    → answer_or_else o (if nat_le turns spent then Some its else None) ≡ Some (unwrap_or o its)
told_or_late turns spent None its used = rw (le-leb turns spent (used refl)) refl
told_or_late turns spent (Some x) its used = refl

-- it came to its end
pub call_that_ends_is_made : (plan : RacePlan) (node : ℕ) (tag : Tag) (a : Act) (came : Option Came) (old middle new : List Record) (spent : ℕ) (its : CallAnswer)
    (outcome : Outcome)
    → CallHasBegun a came (of_call tag.caller tag.call old) → CallHasTurned plan node tag (request_in_call a came) old middle spent its → spent ≤ plan.turns
    → (told_at_end a outcome ≡ None → plan.turns ≤ spent) → EndIsMade (place_of_name node) tag a came outcome middle new
    → Made plan node tag a (of_call tag.caller tag.call old) old new (unwrap_or (told_at_end a outcome) (late_after (request_in_call a came) its outcome))
call_that_ends_is_made plan node tag a came old middle new spent its outcome begun so le used end =
    let first : List Record = of_call tag.caller tag.call old in
    let request : Option ℕ = request_in_call a came in
    let one = growth_by_one_record (place_of_name node) tag middle new end.item end.grown (its_place node end.item end.is.node) (ap (λ (by : By). by.caller) end.is.by_)
    (ap (λ (by : By). by.call) end.is.by_) in
    let is : RecordIsEndOfCall a came end.item = record { act_ = end.is.act_; part = ap (λ (by : By). by.part) end.is.by_ } in
    let few = first_few a came first begun in
    let c = so.count in
    let l = length-append first (so.mine ++ end.item ∷ []) in
    let m = length-append so.mine (end.item ∷ []) in
    let plain : answer_is_plain its ≡ true = ap answer_is_plain so.late_ ∙ late_answer_is_plain plan.turns request so.mine in
    let plain_ = answer_at_end_is_plain a request outcome its plain in
    let told : answer_of_ended_call plan.turns a request so.mine end.item ≡ Some (unwrap_or (told_at_end a outcome) (late_after request its outcome)) =
    rw (end.is.told, ← so.late_)
    (told_or_late plan.turns (length so.mine) (told_at_end a outcome) (late_after request its outcome) (λ none. let u = used none in omega arith))
    in record {
      mine = so.mine ++ end.item ∷ [];
      grows = growth_through_middle (place_of_name node) tag old middle new so.mine (end.item ∷ []) so.grows one;
      planned = call_with_end_is_planned plan.turns a came first so.mine end.item begun so.turns (omega arith) is;
      most = omega arith;
      spent = λ e. absurd (not_spent (unwrap_or (told_at_end a outcome) (late_after request its outcome)) plain_ e);
      answer_ = answer_is plan.turns (first ++ (so.mine ++ end.item ∷ [])) new node (unwrap_or (told_at_end a outcome) (late_after request its outcome)) plain_
          (answer_of_call_with_end plan.turns a came first so.mine end.item begun so.turns is ∙ told);
    }

-- ---- a call's beginning

pub receive_begins_without_own_act : (a : Act) (first : List Record) → is_take a ≡ true → first ≡ [] → CallHasBegun a None first
receive_begins_without_own_act a first take none = (take, none)

none_planned : (turns : ℕ) (a : Act) → is_one_call turns a [] ≡ true
unfolding is_receive
none_planned turns a = split_on_bool (is_take a) (λ t. rw t refl) (λ f. rw f refl)

nothing_answers : (turns : ℕ) → IsUnanswered turns []
unfolding answer_of
nothing_answers turns = record { none = refl; unended = refl }

-- its own act was refused
pub act_refused_call_is_made : (plan : RacePlan) (node : ℕ) (tag : Tag) (a : Act) (old new : List Record) (its : CallAnswer)
    → WasRefused (place_of_name node) tag.caller old new its → Made plan node tag a [] old new its
act_refused_call_is_made plan node tag a old new its was = record {
  mine = [];
  grows = no_growth_without_own_record (place_of_name node) tag old new was.0;
  planned = none_planned plan.turns a;
  most = omega arith;
  spent = λ e. omega arith;
  answer_ = refused_is plan.turns [] new node its (nothing_answers plan.turns) was.1;
}

-- nothing of it was done
pub call_without_memory_is_made : (plan : RacePlan) (node : ℕ) (tag : Tag) (a : Act) (seen : List Record) → Made plan node tag a [] seen seen answer.NoMemory
call_without_memory_is_made plan node tag a seen = act_refused_call_is_made plan node tag a seen seen answer.NoMemory (records_go_on_to_themselves (Caller tag.caller ∷ []) seen, tt)

began_grows : (node : ℕ) (tag : Tag) (a : Act) (came : Came) (old new : List Record) (began : Began (place_of_name node) tag a came old new)
    → CallerHasSeenMore (place_of_name node) tag old new (began.item ∷ [])
began_grows node tag a came old new began =
    growth_by_one_record (place_of_name node) tag old new began.item began.grown (its_place node began.item began.node) (ap (λ (by : By). by.caller) began.by_)
    (ap (λ (by : By). by.call) began.by_)

-- its own act answers it
pub act_answered_call_is_made : (plan : RacePlan) (node : ℕ) (tag : Tag) (a : Act) (came : Came) (old new : List Record) (its : CallAnswer) → is_call a ≡ true → is_take a ≡ false
    → Began (place_of_name node) tag a came old new → own_answer a came.outcome ≡ Some its → Made plan node tag a [] old new its
act_answered_call_is_made plan node tag a came old new its call no_ began told =
    let plain : answer_is_plain its ≡ true = ap optional_answer_is_plain (sym told) ∙ own_answer_is_plain a came.outcome in record {
      mine = began.item ∷ [];
      grows = began_grows node tag a came old new began;
      planned = call_without_take_is_other plan.turns a (began.item ∷ []) no_
          ∙ own_act_is_other_call plan.turns a began.item began.own.part (ap (same_act a) began.own.act_ ∙ call_is_same_as_itself a call);
      most = omega arith;
      spent = λ e. absurd (not_spent its plain e);
      answer_ = answer_is plan.turns (began.item ∷ []) new node its plain (answer_of_own_act plan.turns a came began.item its began.own told);
    }

-- a call without an answer has a check
checks_then : (a : Act) (outcome : Outcome) → is_call a ≡ true → is_take a ≡ false → (a ≡ act.Stop → outcome ≡ said.Stopped) → own_answer a outcome ≡ None
    → has_check a ≡ true
unfolding own_answer
checks_then (act.Send body) outcome call no_ stops none = refl
checks_then act.Take outcome call no_ stops none = absurd (true≢false no_)
checks_then act.Join outcome call no_ stops none = refl
checks_then act.Leave outcome call no_ stops none = refl
checks_then (act.Reset least resilience) outcome call no_ stops none = refl
checks_then act.Stop outcome call no_ stops none = absurd (none-some answer.StopDone (sym none ∙ ap (own_answer act.Stop) (stops refl)))
checks_then _ outcome call no_ stops none = absurd (true≢false (sym call))

-- it goes on after its own act
pub call_begins_by_own_act : (node : ℕ) (tag : Tag) (a : Act) (came : Came) (old new : List Record) → is_call a ≡ true → is_take a ≡ false
    → of_call tag.caller tag.call old ≡ []
    → Began (place_of_name node) tag a came old new → own_answer a came.outcome ≡ None → CallHasBegun a (Some came) (of_call tag.caller tag.call new)
call_begins_by_own_act node tag a came old new call no_ fresh began none = (
  checks_then a came.outcome call no_ began.stops none,
  none,
  (
    began.item,
    records_of_call_grow (place_of_name node) tag old new (began.item ∷ []) (began_grows node tag a came old new began) ∙ ap (λ (l : List Record). l ++ began.item ∷ []) fresh,
    began.own,
  ),
)

pub continued_call_is_made : (plan : RacePlan) (node : ℕ) (tag : Tag) (a : Act) (came : Came) (old middle new : List Record) (its : CallAnswer)
    → of_call tag.caller tag.call old ≡ []
    → Began (place_of_name node) tag a came old middle → Made plan node tag a (of_call tag.caller tag.call middle) middle new its
    → Made plan node tag a [] old new its
continued_call_is_made plan node tag a came old middle new its fresh began made =
    let one = began_grows node tag a came old middle began in
    let first : of_call tag.caller tag.call middle ≡ began.item ∷ [] =
    records_of_call_grow (place_of_name node) tag old middle (began.item ∷ []) one ∙ ap (λ (l : List Record). l ++ began.item ∷ []) fresh
    in
    let same : of_call tag.caller tag.call middle ++ made.mine ≡ began.item ∷ made.mine = ap (λ (l : List Record). l ++ made.mine) first in record {
      mine = began.item ∷ made.mine;
      grows = growth_through_middle (place_of_name node) tag old middle new (began.item ∷ []) made.mine one made.grows;
      planned = subst (λ (l : List Record). is_one_call plan.turns a l ≡ true) same made.planned;
      most = subst (λ (l : List Record). length l ≤ plan.turns + 2) same made.most;
      spent = λ e. subst (λ (l : List Record). length l ≤ plan.turns + 1) same (made.spent e);
      answer_ = subst (λ (l : List Record). IsAnswerOfCall plan.turns l new node its) same made.answer_;
    }

-- ---- one call after the others

-- a record of an earlier call is of none from here on
stuck : (turns n : ℕ) (calls : List Act) (r : Record) (rs : List Record) → r.by.call < n → are_calls turns n calls (r ∷ rs) ≡ true → ⊥
unfolding are_calls
stuck turns n [] r rs low is = true≢false (sym is)
stuck turns n (a ∷ calls) r rs low is =
    let other : (r.by.call == n) ≡ false = ne_eqb r.by.call n (λ e. omega arith) in
    let none : first_call n (r ∷ rs) ≡ [] = ap (λ (b : Bool). take (cond b (1 + prefix_len (λ (q : Record). q.by.call == n) rs) 0) (r ∷ rs)) other in
    let same : records_behind n (r ∷ rs) ≡ r ∷ rs = ap (λ (l : List Record). drop (length l) (r ∷ rs)) none in
    let all = and_parts (is_one_call turns a (first_call n (r ∷ rs))) _ is in
    let rest = (and_parts (at_one_place (first_call n (r ∷ rs))) _ all.1).1 in
    stuck turns (n + 1) calls r rs (omega arith) (ap (are_calls turns (n + 1) calls) (sym same) ∙ rest)

pub AreOf : ℕ → List Record → Type 0
AreOf call records = list_all (λ r. r.by.call == call) records ≡ true

whole_prefix : (call : ℕ) (mine : List Record) → AreOf call mine → prefix_len (λ (r : Record). r.by.call == call) mine ≡ length mine
unfolding AreOf
whole_prefix call [] own = refl
whole_prefix call (r ∷ mine) own =
    let p = and_parts (r.by.call == call) (list_all (λ q. q.by.call == call) mine) own in
    let e : prefix_len (λ (q : Record). q.by.call == call) (r ∷ mine) ≡ 1 + prefix_len (λ (q : Record). q.by.call == call) mine = rw p.0 refl in
    let rest = whole_prefix call mine p.1 in
    omega arith

first_whole : (call : ℕ) (mine : List Record) → AreOf call mine → first_call call mine ≡ mine
first_whole call mine own = ap (λ (n : ℕ). take n mine) (whole_prefix call mine own) ∙ take_all (length mine) mine (omega arith)

behind_whole : (call : ℕ) (mine : List Record) → AreOf call mine → records_behind call mine ≡ []
behind_whole call mine own = ap (λ (l : List Record). drop (length l) mine) (first_whole call mine own) ∙ drop_all (length mine) mine (omega arith)

-- records of another call after leave the first call
prefix_apart : (n call : ℕ) (xs mine : List Record) → n < call → AreOf call mine
    → prefix_len (λ (r : Record). r.by.call == n) (xs ++ mine) ≡ prefix_len (λ (r : Record). r.by.call == n) xs
unfolding AreOf
prefix_apart n call [] [] low own = refl
prefix_apart n call [] (r ∷ mine) low own =
    let e : r.by.call ≡ call = eqb-true r.by.call call (and_parts (r.by.call == call) (list_all (λ q. q.by.call == call) mine) own).0 in
    rw (ne_eqb r.by.call n (λ s. omega arith)) refl
prefix_apart n call (x ∷ xs) mine low own = ap (λ (k : ℕ). cond (x.by.call == n) (1 + k) 0) (prefix_apart n call xs mine low own)

first_apart : (n call : ℕ) (xs mine : List Record) → n < call → AreOf call mine → first_call n (xs ++ mine) ≡ first_call n xs
first_apart n call xs mine low own =
    ap (λ (k : ℕ). take k (xs ++ mine)) (prefix_apart n call xs mine low own)
    ∙ take-append-le (prefix_len (λ (r : Record). r.by.call == n) xs) xs mine (prefix_len-le-length (λ (r : Record). r.by.call == n) xs)

first_short : (n : ℕ) (xs : List Record) → length (first_call n xs) ≤ length xs
first_short n xs = omega (arith, length-take (prefix_len (λ (r : Record). r.by.call == n) xs) xs)

behind_apart : (n call : ℕ) (xs mine : List Record) → n < call → AreOf call mine → records_behind n (xs ++ mine) ≡ records_behind n xs ++ mine
behind_apart n call xs mine low own =
    ap (λ (l : List Record). drop (length l) (xs ++ mine)) (first_apart n call xs mine low own)
    ∙ drop-append-le (length (first_call n xs)) xs mine (first_short n xs)

-- the records of the next call come after those of the calls before
calls_more : (turns n call : ℕ) (calls : List Act) (a : Act) (done mine : List Record) → n ≤ call → slice_get calls (call - n) ≡ Some a
    → are_calls turns n calls done ≡ true
    → All (λ r. r.by.call < call) done → AreOf call mine → is_one_call turns a mine ≡ true → at_one_place mine ≡ true
    → are_calls turns n calls (done ++ mine) ≡ true
unfolding are_calls
calls_more turns n call [] a done mine le there is low own one at = absurd (none-some a there)
calls_more turns n call (b ∷ calls) a done mine le there is low own one at =
    by_order (call - n) refl there (λ next at_ rest.
    calls_more turns (n + 1) call calls a (records_behind n done) mine next at_ rest
    (All-drop (λ (r : Record). r.by.call < call) (length (first_call n done)) done low) own one at)
  where
    here : n ≡ call → a ≡ b → (rs : List Record) → are_calls turns n (b ∷ calls) rs ≡ true → All (λ r. r.by.call < call) rs
        → are_calls turns n (b ∷ calls) (rs ++ mine) ≡ true
    here e same [] so below =
        let own_ : AreOf n mine = subst (λ (k : ℕ). AreOf k mine) (sym e) own in
        rw (behind_whole n mine own_, first_whole n mine own_, ← same, one, at) (no_calls_leave_no_records turns (n + 1) calls)
    here e same (r ∷ rs) so below = absurd (stuck turns n (b ∷ calls) r rs (let l : r.by.call < call = below 0 r (omega arith) in omega arith) so)

    by_order : (k : ℕ) → call - n ≡ k → slice_get (b ∷ calls) k ≡ Some a
        → (n + 1 ≤ call → slice_get calls (call - (n + 1)) ≡ Some a → are_calls turns (n + 1) calls (records_behind n done) ≡ true
        → are_calls turns (n + 1) calls (records_behind n done ++ mine) ≡ true)
        → are_calls turns n (b ∷ calls) (done ++ mine) ≡ true
    by_order zero e at_ deeper = here (omega arith) (cc) done is low
    by_order (suc k) e at_ deeper =
        let p = and_parts (is_one_call turns b (first_call n done)) (at_one_place (first_call n done) && are_calls turns (n + 1) calls (records_behind n done)) is in
        let q = and_parts (at_one_place (first_call n done)) (are_calls turns (n + 1) calls (records_behind n done)) p.1 in
        let further : n < call = omega arith in
        let next : call - (n + 1) ≡ k = omega arith in
        rw (behind_apart n call done mine further own, first_apart n call done mine further own, p.0, q.0)
        (deeper (omega arith) (ap (slice_get calls) next ∙ at_) q.1)

-- ---- the caller after a call

one_place : (place : ℕ) (mine : List Record) → list_all (λ r. place_of_name r.event.node == place) mine ≡ true → at_one_place mine ≡ true
one_place place [] all = refl
one_place place (r ∷ rs) all =
    let p = and_parts (place_of_name r.event.node == place) (list_all (λ q. place_of_name q.event.node == place) rs) all in
    rw (eqb-true (place_of_name r.event.node) place p.0) p.1

all_low : (call : ℕ) (mine : List Record) → AreOf call mine → (k : ℕ) (d : Record) → k < length mine → (get_or mine k d).by.call < call + 1
unfolding AreOf
all_low call [] own k d h = absurd (omega arith)
all_low call (r ∷ rs) own zero d h =
    let e : r.by.call ≡ call = eqb-true r.by.call call (and_parts (r.by.call == call) (list_all (λ q. q.by.call == call) rs) own).0 in omega arith
all_low call (r ∷ rs) own (suc k) d h = all_low call rs (and_parts (r.by.call == call) (list_all (λ q. q.by.call == call) rs) own).1 k d (omega arith)

-- further calls may be made after these records
pub records_fit_longer_calls : (turns n : ℕ) (calls more : List Act) (records : List Record) → are_calls turns n calls records ≡ true
    → are_calls turns n (calls ++ more) records ≡ true
unfolding are_calls
records_fit_longer_calls turns n [] more [] is = no_calls_leave_no_records turns n more
records_fit_longer_calls turns n [] more (r ∷ rs) is = absurd (true≢false (sym is))
records_fit_longer_calls turns n (a ∷ calls) more records is =
    let first : Bool = is_one_call turns a (first_call n records) in
    let at : Bool = at_one_place (first_call n records) in
    let p = and_parts first (at && are_calls turns (n + 1) calls (records_behind n records)) is in
    let q = and_parts at (are_calls turns (n + 1) calls (records_behind n records)) p.1 in
    rw (p.0, q.0) (records_fit_longer_calls turns (n + 1) calls more (records_behind n records) q.1)

-- one call more was made
has_made_more : (plan : RacePlan) (node number : ℕ) (calls : List Act) (a : Act) (old new : List Record) (its : CallAnswer) → HasMade plan number calls old
    → Made plan node (record { caller = number; call = length calls }) a [] old new its → HasMade plan number (calls ++ a ∷ []) new
unfolding AreOf
has_made_more plan node number calls a old new its has made = record {
  made = ap (is_callers plan.turns (calls ++ a ∷ [])) made.grows.all
      ∙ calls_more plan.turns 0 (length calls) (calls ++ a ∷ []) a (of_caller number old) made.mine (omega arith)
      (let from_none : length calls - 0 ≡ length calls = omega arith in ap (slice_get (calls ++ a ∷ [])) from_none ∙ slice_get_of_pushed calls a)
      (records_fit_longer_calls plan.turns 0 calls (a ∷ []) (of_caller number old) has.made) has.earlier made.grows.call made.planned
      (one_place (place_of_name node) made.mine made.grows.place_);
  earlier = subst (λ (n : ℕ). All (λ r. r.by.call < n) (of_caller number new)) (sym (length-append calls (a ∷ [])))
      (subst (All (λ r. r.by.call < length calls + 1)) (sym made.grows.all)
      (All-append (λ (r : Record). r.by.call < length calls + 1) (of_caller number old) made.mine (λ k d h. let l = has.earlier k d h in
      omega arith) (all_low (length calls) made.mine made.grows.call)));
}

-- after records of others
pub made_calls_stay_through_others : (plan : RacePlan) (number : ℕ) (calls : List Act) (old new : List Record) → HasMade plan number calls old → GoesOn (Caller number ∷ []) old new
    → HasMade plan number calls new
made_calls_stay_through_others plan number calls old new has goes =
    let same : of_caller number new ≡ of_caller number old = goes.own (Caller number) (own_key_times_positive (Caller number)) in record {
      made = ap (is_callers plan.turns calls) same ∙ has.made;
      earlier = subst (All (λ r. r.by.call < length calls)) (sym same) has.earlier;
    }

fresh_call : (plan : RacePlan) (number : ℕ) (calls : List Act) (seen : List Record) → HasMade plan number calls seen
    → of_call number (length calls) seen ≡ []
fresh_call plan number calls seen has = no_records_of_new_call number (length calls) seen has.earlier

was_called : (plan : RacePlan) (node number : ℕ) (calls : List Act) (a : Act) (old new : List Record) (its : CallAnswer) → HasMade plan number calls old
    → Made plan node (record { caller = number; call = length calls }) a [] old new its
    → Called plan node a (record { number = number; calls = calls; seen = old }) (record { number = number; calls = calls ++ a ∷ []; seen = new }) its
was_called plan node number calls a old new its has made =
    let mine : of_call number (length calls) new ≡ made.mine =
    records_of_call_grow (place_of_name node) (record { caller = number; call = length calls }) old new made.mine made.grows
    ∙ ap (λ (l : List Record). l ++ made.mine) (fresh_call plan number calls old has)
    in record {
      number = refl;
      calls = refl;
      begins = made.grows.begins;
      others = made.grows.all ∙ ap (λ (l : List Record). of_caller number old ++ l) (sym mine);
      its_records = ap (is_one_call plan.turns a) mine ∙ made.planned;
      place = ap (list_all (λ r. place_of_name r.event.node == place_of_name node)) mine ∙ made.grows.place_;
      most = subst (λ (l : List Record). length l ≤ plan.turns + 2) (sym mine) made.most;
      spent = λ e. subst (λ (l : List Record). length l ≤ plan.turns + 1) (sym mine) (made.spent e);
      answer_ = subst (λ (l : List Record). IsAnswerOfCall plan.turns l new node its) (sym mine) made.answer_;
    }

-- ---- a call of a caller

module _ (plan : RacePlan) (number : ℕ) (calls : List Act) (old : List Record) (c : Calling) (tag : Tag)
    (view : record { number = number; calls = calls; seen = old } ≡ c) (is : tag ≡ record { caller = c.number; call = length c.calls })
    (has : HasMade plan number calls old) where
  its_tag : tag ≡ record { caller = number; call = length calls }
  its_tag = let t : Calling → Tag = λ x. record { caller = x.number; call = length x.calls } in is ∙ ap t (sym view)

  pub new_call_has_no_records : of_call tag.caller tag.call old ≡ []
  new_call_has_no_records = subst (λ (t : Tag). of_call t.caller t.call old ≡ []) (sym its_tag) (fresh_call plan number calls old has)

  pub caller_of_new_call : tag.caller ≡ number
  caller_of_new_call = ap (λ (t : Tag). t.caller) its_tag

  pub caller_has_made_new_call : (node : ℕ) (a : Act) (new : List Record) (its : CallAnswer) → Made plan node tag a [] old new its → HasMade plan number (calls ++ a ∷ []) new
  caller_has_made_new_call node a new its made =
      has_made_more plan node number calls a old new its has (subst (λ (t : Tag). Made plan node t a [] old new its) its_tag made)

  pub new_call_was_called : (node : ℕ) (a : Act) (new : List Record) (its : CallAnswer) → Made plan node tag a [] old new its
      → Called plan node a c (record { number = number; calls = calls ++ a ∷ []; seen = new }) its
  new_call_was_called node a new its made =
      subst (λ (x : Calling). Called plan node a x (record { number = number; calls = calls ++ a ∷ []; seen = new }) its) view
      (was_called plan node number calls a old new its has (subst (λ (t : Tag). Made plan node t a [] old new its) its_tag made))
