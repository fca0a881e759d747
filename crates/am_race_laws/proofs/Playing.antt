-- A thread's calls, one after the other, are finished as far as they go on.
use Rattle.am_race_laws.proofs.Words.{◌≡◌, ℕ, suc, ◌+◌, ◌*◌, ◌<◌, ◌≤◌, List, [], ◌∷◌, ◌++◌, length, take, drop, get_or, Bool, true, false, true≢false}
use Rattle.am_race_laws.proofs.Words.{Option, Some, None, sym, refl, ap, ◌∙◌, subst, arith, append_assoc, append-nil, length-append, ne_eqb, slice_get}
use Rattle.am_race_laws.proofs.Words.{All, ◌&&◌, ◌==◌, list_all, list_any, prefix_len, take-append_seam, drop-append_seam, and_parts}
use Rattle.am_race_laws.proofs.Words.{eqb-true, add-mul, mul-le, drop_all, list_all-append, All-append, most_events_of_run, place_of_name, Act, Record, RacePlan, ThreadPlan}
use Rattle.am_race_laws.proofs.Words.{WireRefusal, has_stopped, CallAnswer, of_caller, of_call, answer_of, is_end, is_last, first_call, records_behind, caller_goes_on}
use Rattle.am_race_laws.proofs.Words.{are_finished, Calling, Called, IsUnanswered, IsAnswerOfCall, of_next, calls_in, HasPlayed, HasRun, most_records_of, refusal_in}
use Rattle.am_race_laws.proofs.Words.{ends_thread, fresh_caller}
use Rattle.am_race_laws.proofs.Running.{drop_at_next_call, take_with_next_call}
use Rattle.am_shared_journal_defs.specs.declared.terms.WireRefusal.TheVariants as refusals
use Rattle.am_race_laws.specs.declared.answer.CallAnswer.TheVariants as answer
use Rattle.std.proofs.lemmas.Bool.{and_from}
use Rattle.std.proofs.lemmas.List.Elements.{All-cons}
use Rattle.am_race_laws.proofs.Words.{split_on_bool}

-- ---- the records of one call

IsOf : ℕ → List Record → Type 0
IsOf call records = All (λ r. (r.by.call == call) ≡ true) records

its_call : (caller call : ℕ) (seen : List Record) → IsOf call (of_call caller call seen)
unfolding IsOf
its_call caller call [] = λ k d h. absurd (omega arith)
its_call caller call (r ∷ rest) = split_on_bool ((r.by.caller == caller) && (r.by.call == call))
    (λ e. rw e (All-cons (λ (q : Record). (q.by.call == call) ≡ true) r (of_call caller call rest)
    (and_parts (r.by.caller == caller) (r.by.call == call) e).1 (its_call caller call rest)))
    (λ f. rw f (its_call caller call rest))

prefix_is : (call : ℕ) (mine more : List Record) → IsOf call mine → All (λ r. call + 1 ≤ r.by.call) more
    → prefix_len (λ (r : Record). r.by.call == call) (mine ++ more) ≡ length mine
unfolding IsOf
prefix_is call [] [] own later = refl
prefix_is call [] (r ∷ rest) own later =
    let high : call + 1 ≤ r.by.call = later 0 r (omega arith) in
    rw (ne_eqb r.by.call call (λ e. omega arith)) refl
prefix_is call (r ∷ mine) more own later =
    let here : (r.by.call == call) ≡ true = own 0 r (omega arith) in
    let more_is = prefix_is call mine more (λ k d h. own (suc k) d (omega arith)) later in
    rw here (omega arith)

first_is : (call : ℕ) (mine more : List Record) → IsOf call mine → All (λ r. call + 1 ≤ r.by.call) more → first_call call (mine ++ more) ≡ mine
first_is call mine more own later = ap (λ (n : ℕ). take n (mine ++ more)) (prefix_is call mine more own later) ∙ take-append_seam mine more

behind_is : (call : ℕ) (mine more : List Record) → IsOf call mine → All (λ r. call + 1 ≤ r.by.call) more → records_behind call (mine ++ more) ≡ more
behind_is call mine more own later = ap (λ (l : List Record). drop (length l) (mine ++ more)) (first_is call mine more own later) ∙ drop-append_seam mine more

-- whether its records and those after are of finished calls
one_more : (turns call : ℕ) (stopped : Bool) (a : Act) (calls : List Act) (mine more : List Record) → IsOf call mine → All (λ r. call + 1 ≤ r.by.call) more
    → are_finished turns stopped call (a ∷ calls) (mine ++ more)
    ≡ caller_goes_on stopped (list_any is_end mine) (answer_of turns mine) (are_finished turns stopped (call + 1) calls more) more
unfolding are_finished
one_more turns call stopped a calls mine more own later = rw (behind_is call mine more own later, first_is call mine more own later) refl

-- ---- answers

IsGoingOn : ℕ → List Record → CallAnswer → Type 0
IsGoingOn turns mine its = (answer_of turns mine ≡ Some its) × (is_last its ≡ false)

going_on : (turns : ℕ) (mine seen : List Record) (node : ℕ) (its : CallAnswer) → IsAnswerOfCall turns mine seen node its → ends_thread its ≡ false
    → IsGoingOn turns mine its
unfolding IsGoingOn
going_on turns mine seen node answer.Stopped is goes = absurd (true≢false goes)
going_on turns mine seen node (answer.PutOff req base top) is goes = absurd (true≢false goes)
going_on turns mine seen node (answer.Late count) is goes = absurd (true≢false goes)
going_on turns mine seen node answer.Spent is goes = absurd (true≢false goes)
going_on turns mine seen node answer.NoMemory is goes = absurd (true≢false goes)
going_on turns mine seen node _ is goes = (is, refl)

-- ---- calls one after the other

-- so many calls of a thread were made at its node, and each goes on
pub record ThreadPlaysItsCalls (plan : RacePlan) (thread : ThreadPlan) (number i : ℕ) (c : Calling) : Type 0 where
  pub number_ : c.number ≡ number
  pub count : length c.calls ≡ i
  pub planned : c.calls ≡ take i thread.calls
  pub most : length (of_caller number c.seen) ≤ i * (plan.turns + 2)
  pub place : list_all (λ r. place_of_name r.event.node == place_of_name thread.node) (of_caller number c.seen) ≡ true
  pub goes : (stopped : Bool) (more : List Record) → All (λ r. i ≤ r.by.call) more → are_finished plan.turns stopped i (drop i thread.calls) more ≡ true
      → are_finished plan.turns stopped 0 thread.calls (of_caller number c.seen ++ more) ≡ true

pub thread_has_played_no_calls : (plan : RacePlan) (thread : ThreadPlan) (c : Calling) → c ≡ fresh_caller c.number → ThreadPlaysItsCalls plan thread c.number 0 c
thread_has_played_no_calls plan thread c fresh =
    subst (λ (k : Calling). ThreadPlaysItsCalls plan thread c.number 0 k) (sym fresh)
    (record { number_ = refl; count = refl; planned = refl; most = omega arith; place = refl; goes = λ stopped more all h. h })

room_for : (i each old mine whole : ℕ) → old ≤ i * each → mine ≤ each → whole ≡ old + mine → whole ≤ (i + 1) * each
room_for i each old mine whole before this is = omega (arith, add-mul i 1 each)

-- what the records are after one call more
record Grows (plan : RacePlan) (thread : ThreadPlan) (number i : ℕ) (old new : Calling) (mine : List Record) : Type 0 where
  own : IsOf i mine
  number_ : new.number ≡ number
  count : length new.calls ≡ i + 1
  planned : new.calls ≡ take (i + 1) thread.calls
  all : of_caller number new.seen ≡ of_caller number old.seen ++ mine
  few : length mine ≤ plan.turns + 2
  place : list_all (λ r. place_of_name r.event.node == place_of_name thread.node) (of_caller number new.seen) ≡ true
  goes : (stopped : Bool) (more : List Record) → All (λ r. i + 1 ≤ r.by.call) more
      → are_finished plan.turns stopped i (drop i thread.calls) (mine ++ more) ≡ true
      → are_finished plan.turns stopped 0 thread.calls (of_caller number new.seen ++ more) ≡ true

low_call : (i : ℕ) (mine : List Record) → IsOf i mine → All (λ r. i ≤ r.by.call) mine
unfolding IsOf
low_call i mine own = λ k d h. (let s = eqb-true (get_or mine k d).by.call i (own k d h) in omega arith)

grows : (plan : RacePlan) (thread : ThreadPlan) (number i : ℕ) (a : Act) (old new : Calling) (its : CallAnswer) → ThreadPlaysItsCalls plan thread number i old
    → Called plan thread.node a old new its → i < length thread.calls → a ≡ get_or thread.calls i a
    → Grows plan thread number i old new (of_next old new.seen)
grows plan thread number i a old new its plays called below there =
    let mine : List Record = of_next old new.seen in
    let own : IsOf i mine = subst (λ (n : ℕ). IsOf n mine) plays.count (its_call old.number (length old.calls) new.seen) in
    let all : of_caller number new.seen ≡ of_caller number old.seen ++ mine =
    subst (λ (n : ℕ). of_caller n new.seen ≡ of_caller n old.seen ++ mine) plays.number_ called.others in record {
      own = own;
      number_ = called.number ∙ plays.number_;
      count = ap length called.calls ∙ length-append old.calls (a ∷ []) ∙ ap (λ (n : ℕ). n + 1) plays.count;
      planned = called.calls ∙ ap (λ (l : List Act). l ++ a ∷ []) plays.planned ∙ take_with_next_call thread.calls i a below there;
      all = all;
      few = called.most;
      place = ap (list_all (λ (r : Record). place_of_name r.event.node == place_of_name thread.node)) all
          ∙ list_all-append (λ (r : Record). place_of_name r.event.node == place_of_name thread.node) (of_caller number old.seen) mine
          ∙ and_from (list_all (λ (r : Record). place_of_name r.event.node == place_of_name thread.node) (of_caller number old.seen))
          (list_all (λ (r : Record). place_of_name r.event.node == place_of_name thread.node) mine) plays.place called.place;
      goes = λ stopped more later h.
          ap (are_finished plan.turns stopped 0 thread.calls) (ap (λ (l : List Record). l ++ more) all ∙ append_assoc (of_caller number old.seen) mine more)
          ∙ plays.goes stopped (mine ++ more)
          (All-append (λ (r : Record). i ≤ r.by.call) mine more (low_call i mine own) (λ k d h. let l : i + 1 ≤ (get_or more k d).by.call = later k d h in
          omega arith)) h;
    }

-- a call more that goes on
pub thread_plays_one_more_call : (plan : RacePlan) (thread : ThreadPlan) (number i : ℕ) (a : Act) (old new : Calling) (its : CallAnswer) → ThreadPlaysItsCalls plan thread number i old
    → Called plan thread.node a old new its → ends_thread its ≡ false → i < length thread.calls → a ≡ get_or thread.calls i a
    → ThreadPlaysItsCalls plan thread number (i + 1) new
unfolding IsGoingOn
thread_plays_one_more_call plan thread number i a old new its plays called goes below there =
    let g = grows plan thread number i a old new its plays called below there in
    let mine : List Record = of_next old new.seen in
    let on = going_on plan.turns (of_next old new.seen) new.seen thread.node its called.answer_ goes in record {
      number_ = g.number_;
      count = g.count;
      planned = g.planned;
      most = room_for i (plan.turns + 2) (length (of_caller number old.seen)) (length mine) (length (of_caller number new.seen)) plays.most g.few
          (ap length g.all ∙ length-append (of_caller number old.seen) mine);
      place = g.place;
      goes = λ stopped more later h. g.goes stopped more later
          (rw (drop_at_next_call thread.calls i a below there, one_more plan.turns i stopped a (drop (i + 1) thread.calls) mine more g.own later, on.0, on.1) h);
    }

-- ---- a thread's end

is_some : Option WireRefusal → Bool
is_some None = false
is_some (Some r) = true

refused_no : (r : WireRefusal) → Some r ≡ None → ⊥
unfolding is_some
refused_no r e = true≢false (ap is_some e)

-- where the node stopped, a call without an answer and without an end may be the last
may_end : (turns : ℕ) (mine : List Record) (stopped others : Bool) → IsUnanswered turns mine → stopped ≡ true
    → caller_goes_on stopped (list_any is_end mine) (answer_of turns mine) others [] ≡ true
may_end turns mine stopped others none by = rw (none.none, by, none.unended) refl

last_one : (turns : ℕ) (mine seen : List Record) (node : ℕ) (its : CallAnswer) → IsAnswerOfCall turns mine seen node its → ends_thread its ≡ true → refusal_in its ≡ None
    → (stopped others : Bool) → (has_stopped seen (place_of_name node) ≡ true → stopped ≡ true)
    → caller_goes_on stopped (list_any is_end mine) (answer_of turns mine) others [] ≡ true
last_one turns mine seen node (answer.Late count) is ends none stopped others by = rw is refl
last_one turns mine seen node (answer.PutOff req base top) is ends none stopped others by = rw is refl
last_one turns mine seen node answer.Stopped is ends none stopped others by = may_end turns mine stopped others is.1 (by is.0)
last_one turns mine seen node answer.Spent is ends none stopped others by = absurd (refused_no refusals.Spent none)
last_one turns mine seen node answer.NoMemory is ends none stopped others by = absurd (refused_no refusals.NoMemory none)
last_one turns mine seen node _ is ends none stopped others by = absurd (true≢false (sym ends))

-- where a call found the journal full
spent_only : (turns : ℕ) (mine seen : List Record) (node : ℕ) (its : CallAnswer) → IsAnswerOfCall turns mine seen node its → refusal_in its ≡ Some refusals.Spent
    → (its ≡ answer.Spent) × (length seen ≡ most_events_of_run)
spent_only turns mine seen node answer.Spent is e = (refl, is.0)
spent_only turns mine seen node answer.NoMemory is e = absurd (cc)
spent_only turns mine seen node _ is e = absurd (refused_no refusals.Spent (sym e))

-- what has run, by the number of its caller
record HasRunBy (plan : RacePlan) (thread : ThreadPlan) (number : ℕ) (c : Calling) (refusal : Option WireRefusal) : Type 0 where
  planned : take (length c.calls) thread.calls ≡ c.calls
  most : length (of_caller number c.seen) ≤ length thread.calls * (plan.turns + 2)
  spent : refusal ≡ Some refusals.Spent → (length c.seen ≡ most_events_of_run) × (length (of_caller number c.seen) < length thread.calls * (plan.turns + 2))
  place : list_all (λ r. place_of_name r.event.node == place_of_name thread.node) (of_caller number c.seen) ≡ true
  finished : refusal ≡ None → (stopped : Bool) → (has_stopped c.seen (place_of_name thread.node) ≡ true → stopped ≡ true)
      → are_finished plan.turns stopped 0 thread.calls (of_caller number c.seen) ≡ true

its_thread : Option ThreadPlan → ThreadPlan → ThreadPlan
its_thread None d = d
its_thread (Some t) d = t

has_run : (plan : RacePlan) (thread : ThreadPlan) (c : Calling) (refusal : Option WireRefusal) → slice_get plan.threads c.number ≡ Some thread
    → HasRunBy plan thread c.number c refusal → HasRun plan c refusal
unfolding its_thread
has_run plan thread c refusal there by =
    let all : most_records_of plan c.number ≡ length thread.calls * (plan.turns + 2) = ap (λ (o : Option ThreadPlan). length (calls_in o) * (plan.turns + 2)) there in
    record {
      planned = ap (λ (o : Option ThreadPlan). take (length c.calls) (calls_in o)) there ∙ by.planned;
      most = subst (λ (n : ℕ). length (of_caller c.number c.seen) ≤ n) (sym all) by.most;
      spent = λ e. ((by.spent e).0, subst (λ (n : ℕ). length (of_caller c.number c.seen) < n) (sym all) (by.spent e).1);
      played = λ e other is. subst (λ (t : ThreadPlan). HasPlayed plan.turns t c) (ap (λ (o : Option ThreadPlan). its_thread o thread) (sym there ∙ is))
          (record { place = by.place; finished = by.finished e });
    }

so_far : (calls : List Act) (i : ℕ) (made : List Act) → length made ≡ i → made ≡ take i calls → take (length made) calls ≡ made
so_far calls i made count is = ap (λ (n : ℕ). take n calls) count ∙ sym is

-- all calls of a thread went on
pub thread_has_played_all_calls : (plan : RacePlan) (thread : ThreadPlan) (number i : ℕ) (c : Calling) → slice_get plan.threads number ≡ Some thread → i ≡ length thread.calls
    → ThreadPlaysItsCalls plan thread number i c → HasRun plan c None
unfolding are_finished
thread_has_played_all_calls plan thread number i c there whole plays =
    has_run plan thread c None (ap (slice_get plan.threads) plays.number_ ∙ there)
    (subst (λ (n : ℕ). HasRunBy plan thread n c None) (sym plays.number_) (record {
      planned = so_far thread.calls i c.calls plays.count plays.planned;
      most = subst (λ (n : ℕ). length (of_caller number c.seen) ≤ n * (plan.turns + 2)) whole plays.most;
      spent = λ e. absurd (refused_no refusals.Spent (sym e));
      place = plays.place;
      finished = λ e stopped by.
          ap (are_finished plan.turns stopped 0 thread.calls) (sym (append-nil (of_caller number c.seen)))
          ∙ plays.goes stopped [] (λ k d h. absurd (omega arith))
          (ap (λ (l : List Act). are_finished plan.turns stopped i l []) (drop_all i thread.calls (omega arith)));
    }))

-- a thread ended with an answer
pub thread_ends_with_answer : (plan : RacePlan) (thread : ThreadPlan) (number i : ℕ) (a : Act) (old new : Calling) (its : CallAnswer)
    → slice_get plan.threads number ≡ Some thread
    → ThreadPlaysItsCalls plan thread number i old → Called plan thread.node a old new its → ends_thread its ≡ true → i < length thread.calls
    → a ≡ get_or thread.calls i a → HasRun plan new (refusal_in its)
thread_ends_with_answer plan thread number i a old new its there plays called ends below here =
    let mine : List Record = of_next old new.seen in
    let g = grows plan thread number i a old new its plays called below here in
    let whole : length (of_caller number new.seen) ≡ length (of_caller number old.seen) + length mine = ap length g.all
    ∙ length-append (of_caller number old.seen) mine in
    let room : (i + 1) * (plan.turns + 2) ≤ length thread.calls * (plan.turns + 2) =
    mul-le (i + 1) (plan.turns + 2) (length thread.calls) (plan.turns + 2) (omega arith) (omega arith) in
    let one : (i + 1) * (plan.turns + 2) ≡ i * (plan.turns + 2) + 1 * (plan.turns + 2) = add-mul i 1 (plan.turns + 2) in
    has_run plan thread new (refusal_in its) (ap (slice_get plan.threads) g.number_ ∙ there)
    (subst (λ (n : ℕ). HasRunBy plan thread n new (refusal_in its)) (sym g.number_) (record {
      planned = so_far thread.calls (i + 1) new.calls g.count g.planned;
      most = let before = plays.most in let few = g.few in omega arith;
      spent = λ e.
          let s = spent_only plan.turns (of_next old new.seen) new.seen thread.node its called.answer_ e in
          let few : length mine ≤ plan.turns + 1 = called.spent s.0 in
          let before = plays.most in
          (s.1, omega arith);
      place = g.place;
      finished = λ none stopped by.
          ap (are_finished plan.turns stopped 0 thread.calls) (sym (append-nil (of_caller number new.seen)))
          ∙ g.goes stopped [] (λ k d h. absurd (omega arith))
          (ap (λ (l : List Act). are_finished plan.turns stopped i l (mine ++ [])) (drop_at_next_call thread.calls i a below here)
          ∙ one_more plan.turns i stopped a (drop (i + 1) thread.calls) mine [] g.own (λ k d h. absurd (omega arith))
          ∙ last_one plan.turns mine new.seen thread.node its called.answer_ ends none stopped
          (are_finished plan.turns stopped (i + 1) (drop (i + 1) thread.calls) []) by);
    }))
