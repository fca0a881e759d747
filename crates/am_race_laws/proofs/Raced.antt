-- What the callers of a race leave in its journal.
use Rattle.am_race_laws.proofs.Words.{◌≡◌, ℕ, suc, ◌+◌, ◌*◌, ◌<◌, ◌≤◌, List, [], ◌∷◌, ◌++◌, length, take, drop, map, get_or, Bool, true, false, true≢false}
use Rattle.am_race_laws.proofs.Words.{Option, Some, None, sym, refl, ap, ◌∙◌, subst, arith, length-append, slice_get, ⊎_elim, All, ◌==◌, list_all}
use Rattle.am_race_laws.proofs.Words.{range_with_len, get_or-map, length-map, take-append-drop, All-map, All-weaker, get_or-range_with_len}
use Rattle.am_race_laws.proofs.Words.{length-range_with_len, none-some, slice_get_cases, place_of_name, Act, Record, RacePlan, ThreadPlan, WireRefusal, StartsWith}
use Rattle.am_race_laws.proofs.Words.{has_stopped, log_is_start_and_rest, of_caller, are_finished, is_callers, Calling, IsLegalWithTags, is_played, MayRace, ArePlayed}
use Rattle.am_race_laws.proofs.Words.{calls_in, calls_of, HasPlayed, HasRun, IsPlanned, EndsFor, first_refusal, fresh_callers, caller_numbers, calls_made, calls_by}
use Rattle.am_race_laws.proofs.{Nexts.has_stopped_in_longer_records, Counting.journal_has_room_while_lacking, Joined.caller_of_each_number, Making.records_fit_longer_calls}
use Rattle.am_race_laws.proofs.{Fresh.numbers_of_fresh_callers, Running.numbers_of_mapped_callers}
use Rattle.am_shared_journal_defs.specs.declared.terms.WireRefusal.TheVariants as refusals
use Rattle.std.proofs.lemmas.Bool.{and_from, or_left}

-- ---- one caller

stopped_still : (journal seen : List Record) (name : ℕ) → StartsWith journal seen → has_stopped seen name ≡ true → has_stopped journal name ≡ true
stopped_still journal seen name begins is =
    ap (λ (l : List Record). has_stopped l name) (log_is_start_and_rest journal seen begins) ∙ has_stopped_in_longer_records seen (drop (length seen) journal) name
    ∙ or_left (has_stopped seen name) (has_stopped (drop (length seen) journal) name) is

played_in : (turns : ℕ) (thread : ThreadPlan) (journal : List Record) (c : Calling) → EndsFor journal c → HasPlayed turns thread c
    → is_played turns thread c.number journal ≡ true
played_in turns thread journal c ends played =
    and_from (list_all (λ (r : Record). place_of_name r.event.node == place_of_name thread.node) (of_caller c.number journal))
    (are_finished turns (has_stopped journal (place_of_name thread.node)) 0 thread.calls (of_caller c.number journal))
    (ap (list_all (λ (r : Record). place_of_name r.event.node == place_of_name thread.node)) ends.own ∙ played.place)
    (ap (are_finished turns (has_stopped journal (place_of_name thread.node)) 0 thread.calls) ends.own
    ∙ played.finished (has_stopped journal (place_of_name thread.node)) (stopped_still journal c.seen (place_of_name thread.node) ends.begins))

as_long : (journal : List Record) (c : Calling) → EndsFor journal c → length c.seen ≤ length journal
as_long journal c ends =
    let e : length journal ≡ length (c.seen ++ drop (length c.seen) journal) = ap length (log_is_start_and_rest journal c.seen ends.begins) in
    let a = length-append c.seen (drop (length c.seen) journal) in
    omega arith

-- ---- all callers

-- a caller of a number has run, and the journal has its records
record Did (plan : RacePlan) (journal : List Record) (number : ℕ) (refusal : Option WireRefusal) : Type 0 where
  pub c : Calling
  pub number_ : c.number ≡ number
  pub ends : EndsFor journal c
  pub ran : HasRun plan c refusal

-- each caller did, with these refusals
pub CallersDidTheirCalls : RacePlan → List Record → List (Option WireRefusal) → Type 0
CallersDidTheirCalls plan journal each = (length each ≡ length plan.threads) × ((i : ℕ) → i < length plan.threads → Did plan journal i (get_or each i None))

none_more : (i : ℕ) → 0 + i ≡ i
none_more i = omega arith

all_did_from : {X : Type 0} (call : X → Calling) (refused : X → Option WireRefusal) (plan : RacePlan) (journal : List Record) (d : X) (xs : List X)
    → caller_numbers (map call xs) ≡ range_with_len 0 (length plan.threads) → All (λ x. HasRun plan (call x) (refused x)) xs → All (EndsFor journal) (map call xs)
    → CallersDidTheirCalls plan journal (map refused xs)
unfolding CallersDidTheirCalls
all_did_from call refused plan journal d xs numbers ran ends =
    let a = length-map xs call in
    let b = length-map (map call xs) (λ (c : Calling). c.number) in
    let e : length (caller_numbers (map call xs)) ≡ length (range_with_len 0 (length plan.threads)) = ap length numbers in
    let r = length-range_with_len 0 (length plan.threads) in
    let many : length xs ≡ length plan.threads = omega arith in
    (length-map xs refused ∙ many, did many)
  where
    did : length xs ≡ length plan.threads → (i : ℕ) → i < length plan.threads → Did plan journal i (get_or (map refused xs) i None)
    did many i below =
        let here : i < length xs = omega arith in
        let there : i < length (map call xs) = let a = length-map xs call in omega arith in
        let is : get_or (map call xs) i (call d) ≡ call (get_or xs i d) = get_or-map call xs i d (call d) here in record {
          c = call (get_or xs i d);
          number_ = ap (λ (c : Calling). c.number) (sym is) ∙ sym (get_or-map (λ (c : Calling). c.number) (map call xs) i (call d) 0 there)
              ∙ ap (λ (l : List ℕ). get_or l i 0) numbers ∙ get_or-range_with_len 0 (length plan.threads) i 0 below ∙ none_more i;
          ends = subst (EndsFor journal) is (ends i (call d) there);
          ran = subst (HasRun plan (call (get_or xs i d))) (sym (get_or-map refused xs i d None here)) (ran i d here);
        }

all_did : {X : Type 0} (call : X → Calling) (refused : X → Option WireRefusal) (plan : RacePlan) (journal : List Record) (xs : List X)
    → caller_numbers (map call xs) ≡ range_with_len 0 (length plan.threads) → All (λ x. HasRun plan (call x) (refused x)) xs → All (EndsFor journal) (map call xs)
    → CallersDidTheirCalls plan journal (map refused xs)
unfolding CallersDidTheirCalls
all_did call refused plan journal [] numbers ran ends =
    let e : length {A = ℕ} [] ≡ length (range_with_len 0 (length plan.threads)) = ap length numbers in
    let r = length-range_with_len 0 (length plan.threads) in
    let z : length {A = ℕ} [] ≡ 0 = refl in
    let none : 0 ≡ length plan.threads = omega arith in
    (none, λ i below. absurd (omega arith))
all_did call refused plan journal (x ∷ xs) numbers ran ends = all_did_from call refused plan journal x (x ∷ xs) numbers ran ends

none_at : (each : List (Option WireRefusal)) (i : ℕ) → first_refusal each ≡ None → get_or each i None ≡ None
none_at (None ∷ each) (suc i) e = none_at each i e
none_at (Some r ∷ each) i e = absurd (none-some r (sym e))
none_at _ _ e = refl

pub unrefused_race_is_played : (plan : RacePlan) (journal : List Record) (each : List (Option WireRefusal)) → CallersDidTheirCalls plan journal each → first_refusal each ≡ None
    → ArePlayed plan journal
unfolding CallersDidTheirCalls
unrefused_race_is_played plan journal each all none caller thread is =
    ⊎_elim
    (λ (t : (x : ThreadPlan) × (caller < length plan.threads) × (slice_get plan.threads caller ≡ Some x) × (get_or plan.threads caller x ≡ x)).
    let did = all.1 caller t.1 in
    subst (λ (n : ℕ). is_played plan.turns thread n journal ≡ true) did.number_
    (played_in plan.turns thread journal did.c did.ends (did.ran.played (none_at each caller none) thread (ap (slice_get plan.threads) did.number_ ∙ is))))
    (λ (past : (length plan.threads ≤ caller) × (slice_get plan.threads caller ≡ None)). absurd (none-some thread (sym past.1 ∙ is)))
    (slice_get_cases plan.threads caller).1

-- a refusal is that of one of them
refused_at : (each : List (Option WireRefusal)) (r : WireRefusal) → first_refusal each ≡ Some r → (i : ℕ) × (i < length each) × (get_or each i None ≡ Some r)
refused_at [] r e = absurd (none-some r e)
refused_at (None ∷ each) r e = let found = refused_at each r e in (suc found.0, omega (arith, found.1), found.2)
refused_at (Some x ∷ each) r e = (0, omega arith, e)

few_of : (plan : RacePlan) (journal : List Record) (i : ℕ) (refusal : Option WireRefusal) (t : ThreadPlan) → Did plan journal i refusal
    → slice_get plan.threads i ≡ Some t
    → length (of_caller i journal) ≤ length t.calls * (plan.turns + 2)
few_of plan journal i refusal t did is =
    let same : of_caller i journal ≡ of_caller i did.c.seen = subst (λ (n : ℕ). of_caller n journal ≡ of_caller n did.c.seen) did.number_ did.ends.own in
    let most = subst (λ (n : ℕ). length (of_caller n did.c.seen) ≤ length (calls_in (slice_get plan.threads n)) * (plan.turns + 2)) did.number_ did.ran.most in
    let most' = subst (λ (o : Option ThreadPlan). length (of_caller i did.c.seen) ≤ length (calls_in o) * (plan.turns + 2)) is most in
    subst (λ (l : List Record). length l ≤ length t.calls * (plan.turns + 2)) (sym same) most'

-- one that found the journal full lacks records, so that it wasn't full
spent_never : (plan : RacePlan) (journal : List Record) (each : List (Option WireRefusal)) (i : ℕ) (t : ThreadPlan) → MayRace plan
    → All (λ r. r.by.caller < length plan.threads) journal
    → CallersDidTheirCalls plan journal each → slice_get plan.threads i ≡ Some t → i < length plan.threads → get_or each i None ≡ Some refusals.Spent → ⊥
unfolding CallersDidTheirCalls
spent_never plan journal each i t may all did is below spent =
    let mine = did.1 i below in
    let s = mine.ran.spent spent in
    let same : of_caller i journal ≡ of_caller i mine.c.seen = subst (λ (n : ℕ). of_caller n journal ≡ of_caller n mine.c.seen) mine.number_ mine.ends.own in
    let less = subst (λ (n : ℕ). length (of_caller n mine.c.seen) < length (calls_in (slice_get plan.threads n)) * (plan.turns + 2)) mine.number_ s.1 in
    let less' = subst (λ (o : Option ThreadPlan). length (of_caller i mine.c.seen) < length (calls_in o) * (plan.turns + 2)) is less in
    let few = subst (λ (l : List Record). length l < length t.calls * (plan.turns + 2)) (sym same) less' in
    let lacks = journal_has_room_while_lacking (plan.turns + 2) plan.threads journal i t all
    (λ j u at. few_of plan journal j (get_or each j None) u (did.1 j (there j u at)) at) is few in
    let long = as_long journal mine.c mine.ends in
    let full = s.0 in
    let most = may.most in
    absurd (omega arith)
  where
    there : (j : ℕ) (u : ThreadPlan) → slice_get plan.threads j ≡ Some u → j < length plan.threads
    there j u at =
        ⊎_elim (λ (k : (x : ThreadPlan) × (j < length plan.threads) × (slice_get plan.threads j ≡ Some x) × (get_or plan.threads j x ≡ x)). k.1)
        (λ (past : (length plan.threads ≤ j) × (slice_get plan.threads j ≡ None)). absurd (let none = past.1 in cc))
        (slice_get_cases plan.threads j).1

only_memory : (plan : RacePlan) (journal : List Record) (each : List (Option WireRefusal)) (r : WireRefusal) → MayRace plan
    → All (λ q. q.by.caller < length plan.threads) journal
    → CallersDidTheirCalls plan journal each → first_refusal each ≡ Some r → r ≡ refusals.NoMemory
unfolding CallersDidTheirCalls
only_memory plan journal each refusals.NoMemory may all did is = refl
only_memory plan journal each refusals.Spent may all did is =
    let found = refused_at each refusals.Spent is in
    let low : found.0 < length plan.threads = let a = found.1 in let b = did.0 in omega arith in
    ⊎_elim (λ (k : (x : ThreadPlan) × (found.0 < length plan.threads) × (slice_get plan.threads found.0 ≡ Some x) × (get_or plan.threads found.0 x ≡ x)).
    absurd (spent_never plan journal each found.0 k.0 may all did k.2 low found.2))
    (λ (past : (length plan.threads ≤ found.0) × (slice_get plan.threads found.0 ≡ None)). absurd (let a = past.0 in omega arith))
    (slice_get_cases plan.threads found.0).1

is_spent : WireRefusal → Bool
is_spent refusals.NoMemory = false
is_spent refusals.Spent = true

pub planned_race_is_not_spent : (plan : RacePlan) (journal : List Record) (each : List (Option WireRefusal)) → MayRace plan
    → All (λ q. q.by.caller < length plan.threads) journal → CallersDidTheirCalls plan journal each
    → first_refusal each ≡ Some refusals.Spent → ⊥
unfolding is_spent
planned_race_is_not_spent plan journal each may all did is = true≢false (ap is_spent (only_memory plan journal each refusals.Spent may all did is))

-- ---- the calls that callers made are the first of those that were planned

legal_more : (plan : RacePlan) (few all : ℕ → List Act) (journal : List Record) → ((n : ℕ) → (k : ℕ) × (take k (all n) ≡ few n)) → IsLegalWithTags plan few journal
    → IsLegalWithTags plan all journal
legal_more plan few all journal begins legal = record {
  legal = legal.legal;
  callers = λ n.
      let b = begins n in
      let whole : few n ++ drop b.0 (all n) ≡ all n = ap (λ (l : List Act). l ++ drop b.0 (all n)) (sym b.1) ∙ take-append-drop b.0 (all n) in
      subst (λ (l : List Act). is_callers plan.turns l (of_caller n journal) ≡ true) whole
      (records_fit_longer_calls plan.turns 0 (few n) (drop b.0 (all n)) (of_caller n journal) (legal.callers n));
  turns = legal.turns;
  ends = legal.ends;
  stops = legal.stops;
  each = legal.each;
}

pub journal_is_legal_as_planned : (plan : RacePlan) (callers : List Calling) (journal : List Record) → caller_numbers callers ≡ range_with_len 0 (length plan.threads)
    → All (IsPlanned plan) callers → IsLegalWithTags plan (calls_by callers) journal → IsLegalWithTags plan (calls_of plan) journal
journal_is_legal_as_planned plan callers journal numbers all legal = legal_more plan (calls_by callers) (calls_of plan) journal begins legal
  where
    below : (n : ℕ) → n < length callers → n < length plan.threads
    below n low =
        let a = length-map callers (λ (c : Calling). c.number) in
        let e : length (caller_numbers callers) ≡ length (range_with_len 0 (length plan.threads)) = ap length numbers in
        let r = length-range_with_len 0 (length plan.threads) in
        omega arith

    begins : (n : ℕ) → (k : ℕ) × (take k (calls_of plan n) ≡ calls_by callers n)
    begins n = ⊎_elim
        (λ (k : (x : Calling) × (n < length callers) × (slice_get callers n ≡ Some x) × (get_or callers n x ≡ x)).
        let its : k.0.number ≡ n = ap (λ (c : Calling). c.number) (sym k.3) ∙ (caller_of_each_number (length plan.threads) n callers k.0 numbers (below n k.1)).1 in
        let planned : IsPlanned plan k.0 = subst (IsPlanned plan) k.3 (all n k.0 k.1) in
        (length k.0.calls, ap (λ (m : ℕ). take (length k.0.calls) (calls_of plan m)) (sym its) ∙ planned ∙ ap calls_made (sym k.2)))
        (λ (past : (length callers ≤ n) × (slice_get callers n ≡ None)). (0, ap calls_made (sym past.1)))
        (slice_get_cases callers n).1

pub run_callers_are_as_planned : {X : Type 0} (call : X → Calling) (refused : X → Option WireRefusal) (plan : RacePlan) (xs : List X) (callers : List Calling)
    → callers ≡ map call xs → All (λ x. HasRun plan (call x) (refused x)) xs → All (IsPlanned plan) callers
run_callers_are_as_planned {X} call refused plan xs callers are ran =
    subst (All (IsPlanned plan)) (sym are)
    (All-map (IsPlanned plan) call xs
    (All-weaker (λ (x : X). HasRun plan (call x) (refused x)) (λ (x : X). IsPlanned plan (call x)) (λ x h. h.planned) xs ran))

-- ---- threads that ran, and their callers

pub numbers_of_run_callers : {X : Type 0} (call : X → Calling) (xs : List X) (callers first : List Calling) (count : ℕ) → callers ≡ map call xs
    → map (λ x. (call x).number) xs ≡ caller_numbers first
    → first ≡ fresh_callers count → caller_numbers callers ≡ range_with_len 0 count
numbers_of_run_callers call xs callers first count are same fresh = ap caller_numbers are ∙ numbers_of_mapped_callers call xs ∙ same ∙ numbers_of_fresh_callers count first fresh

pub run_callers_did_their_calls : {X : Type 0} (call : X → Calling) (refused : X
    → Option WireRefusal) (plan : RacePlan) (journal : List Record) (xs : List X) (callers : List Calling) → callers ≡ map call xs
    → caller_numbers callers ≡ range_with_len 0 (length plan.threads) → All (λ x. HasRun plan (call x) (refused x)) xs → All (EndsFor journal) callers
    → CallersDidTheirCalls plan journal (map refused xs)
run_callers_did_their_calls call refused plan journal xs callers are numbers ran ends =
    all_did call refused plan journal xs (ap caller_numbers (sym are) ∙ numbers) ran (subst (All (EndsFor journal)) are ends)
