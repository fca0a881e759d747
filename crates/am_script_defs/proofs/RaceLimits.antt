-- Every race keeps to the limits.
use Rattle.std.proofs.Common.{◌≡◌, ℕ, suc, ◌+◌, ◌<◌, ◌≤◌, List, [], length, Ok, true, is_some, Result, IfOk, ◌&&◌, nat_le, refl, ap, subst, arith, All}
use Rattle.std.specs.Option.{ok_or}
use Rattle.std.proofs.lemmas.Bool.{leb-true}
use Rattle.std.proofs.lemmas.List.Elements.{All-cons}
use Rattle.am_base.specs.Most.{most_events_of_run}
use Rattle.am_group.specs.declared.event.Act.{Act}
use Rattle.am_group.specs.declared.event.Act.TheVariants as act
use Rattle.am_group.specs.declared.plan.ThreadPlan.{ThreadPlan}
use Rattle.am_group.specs.declared.plan.RacePlan.{RacePlan}
use Rattle.serde_json.specs.Data.{Data, Items, no_items, item}
use Rattle.serde_json.specs.Events.{items_len}
use Rattle.serde_json.specs.Find.{as_array, as_object}
use Rattle.am_script_defs.specs.declared.key.ScriptKey.TheVariants as key
use Rattle.am_script_defs.specs.declared.kind.EventKind.{EventKind}
use Rattle.am_script_defs.specs.declared.kind.EventKind.TheVariants.{Send, Done, Take, Join, State, Leave, Reset, Ask, GiveUp, Stop, Tick, Hear, Cut, Return}
use Rattle.am_script_defs.specs.declared.refusal.ScriptRefusal.{ScriptRefusal}
use Rattle.am_script_defs.specs.declared.refusal.ScriptRefusal.TheVariants.{BadValue}
use Rattle.am_script_defs.specs.Keys.{has_only}
use Rattle.am_script_defs.specs.Refusals.{ReadOrRefused, Answers}
use Rattle.am_script_defs.specs.Values.{value_in, text_in, number_at_key, number_or, body_from}
use Rattle.am_script_defs.specs.Events.{event_kind_in, send_in, reset_in, act_in}
use Rattle.am_script_defs.specs.Founders.{founding_in}
use Rattle.am_script_defs.specs.Races.{is_call_kind, call_keys_of, call_kind_in, call_as, call_from, calls_from, thread_keys, parts_of_thread, thread_from}
use Rattle.am_script_defs.specs.Races.{most_lost, most_repeated, most_turns, most_calls}
use Rattle.am_script_defs.specs.Races.{each_thread, threads_from, calls_in_all, records_of, of_right_size, race_keys, parts_of_race, race_from, race_document_from}
use Rattle.am_script_defs.specs.RaceLimits.{CallWithin, ThreadWithin, RaceWithin}
use Rattle.am_script_defs.proofs.Steps.{answer_behind_key_is_ok, ok_of_read_is_injective, ok_of_bound_read, ok_of_read_if_true, ok_of_object_with_keys, both_of_tests, each_read_is_within, number_in_range_is_within, number_or_other_is_within}
use Rattle.am_script_defs.proofs.Limits.{body_read_is_within, founding_read_may_found}

-- ---- calls

call_is : (a b : Act) → (let r : ReadOrRefused Act = Ok a in r) ≡ Ok b → CallWithin a → CallWithin b
call_is a b h within = subst (λ (x : Act). CallWithin x) (ok_of_read_is_injective a b h) within

call_act_within : (kind : EventKind) (founding place : ℕ) (d : Data) (a : Act) → founding ≤ 15 → is_call_kind kind ≡ true → act_in kind founding place d ≡ Ok a
    → CallWithin a
unfolding act_in send_in reset_in
call_act_within Send founding place d a low may h = ok_of_bound_read (text_in key.Body place d) _ a h
    (λ text there rest. ok_of_bound_read (body_from place text) _ a rest (λ body told is.
    call_is (act.Send body) a is (body_read_is_within place text body told)))
call_act_within Take founding place d a low may h = call_is act.Take a h tt
call_act_within Join founding place d a low may h = call_is act.Join a h tt
call_act_within Leave founding place d a low may h = call_is act.Leave a h tt
call_act_within Reset founding place d a low may h = ok_of_bound_read (number_at_key key.Least place 1 16 d) _ a h
    (λ least there rest. ok_of_bound_read (number_or founding key.Resilience place 0 15 d) _ a rest (λ resilience told is.
    let size_of = number_in_range_is_within key.Least place 1 16 d least there in
    let kept = number_or_other_is_within founding key.Resilience place 0 15 d resilience (omega arith) low told in
    call_is (act.Reset least resilience) a is (omega (arith, size_of.0), size_of.1, kept.1)))
call_act_within Stop founding place d a low may h = call_is act.Stop a h tt
call_act_within Done founding place d a low may h = cc
call_act_within State founding place d a low may h = cc
call_act_within Ask founding place d a low may h = cc
call_act_within GiveUp founding place d a low may h = cc
call_act_within Tick founding place d a low may h = cc
call_act_within Hear founding place d a low may h = cc
call_act_within Cut founding place d a low may h = cc
call_act_within Return founding place d a low may h = cc

call_within : (founding place : ℕ) (d : Data) (a : Act) → founding ≤ 15 → call_from founding place d ≡ Ok a → CallWithin a
unfolding call_from call_kind_in call_as
call_within founding place d a low h = ok_of_read_if_true (is_some (as_object d)) _ _ a h (λ there inner. ok_of_bound_read (call_kind_in place d) _ a inner (λ kind known told.
    ok_of_read_if_true (has_only (call_keys_of kind) d) _ _ a told (λ only is. ok_of_bound_read (event_kind_in place d) _ kind known (λ found named right.
    ok_of_read_if_true (is_call_kind found) _ _ kind right (λ may same. call_act_within kind founding place d a low
    (subst (λ (k : EventKind). is_call_kind k ≡ true) (ok_of_read_is_injective found kind same) may) is)))))

calls_within : (founding place : ℕ) (d : Data) (calls : List Act) → founding ≤ 15 → calls_from founding place d ≡ Ok calls → All CallWithin calls
unfolding calls_from
calls_within founding place d calls low h = ok_of_bound_read (ok_or (as_array d) (BadValue key.Calls 0)) _ calls h
    (λ ds there told. each_read_is_within CallWithin (call_from founding) (λ number one a is. call_within founding number one a low is) place ds calls told)

-- ---- threads

parts_within : (founding place : ℕ) (d : Data) (thread : ThreadPlan) → founding ≤ 15 → parts_of_thread founding place d ≡ Ok thread → ThreadWithin thread
unfolding parts_of_thread
parts_within founding place d thread low h = ok_of_bound_read (number_at_key key.Node 0 0 15 d) _ thread h
    (λ node there rest. ok_of_bound_read (value_in key.Calls 0 d) _ thread rest (λ v found more. ok_of_bound_read (calls_from founding place v) _ thread more (λ calls told is.
    let fits = number_in_range_is_within key.Node 0 0 15 d node there in
    subst (λ (x : ThreadPlan). ThreadWithin x) (ok_of_read_is_injective _ thread is)
    (record { node = omega (arith, fits.1); calls = calls_within founding place v calls low told }))))

thread_within : (founding place : ℕ) (d : Data) (thread : ThreadPlan) → founding ≤ 15 → thread_from founding place d ≡ Ok thread → ThreadWithin thread
unfolding thread_from
thread_within founding place d thread low h = ok_of_object_with_keys thread_keys key.Threads d _ thread h (λ told. parts_within founding place d thread low told)

-- so many threads as there are values, each within the limits
record GoodThreads (ds : Items) (threads : List ThreadPlan) : Type 0 where
  each : All ThreadWithin threads
  count : length threads ≡ items_len ds

each_thread_within : (founding place : ℕ) (ds : Items) (threads : List ThreadPlan) → founding ≤ 15 → each_thread founding place ds ≡ Ok threads
    → GoodThreads ds threads
each_thread_within founding place no_items threads low h = subst (λ (xs : List ThreadPlan). GoodThreads no_items xs) (ok_of_read_is_injective [] threads h)
    (record { each = λ k d lt. absurd (omega arith); count = refl })
each_thread_within founding place (item d ds) threads low h =
    ok_of_bound_read (thread_from founding place d) _ threads h (λ thread told rest. ok_of_bound_read (each_thread founding (place + length thread.calls) ds) _ threads rest
    (λ more others is.
    let later = each_thread_within founding (place + length thread.calls) ds more low others in
    subst (λ (xs : List ThreadPlan). GoodThreads (item d ds) xs) (ok_of_read_is_injective _ threads is) (record {
      each = All-cons ThreadWithin thread more (thread_within founding place d thread low told) later.each;
      count = ap suc later.count;
    })))

record RightThreads (threads : List ThreadPlan) : Type 0 where
  each : All ThreadWithin threads
  some : 0 < length threads
  few : length threads ≤ 16

threads_within : (founding : ℕ) (d : Data) (threads : List ThreadPlan) → founding ≤ 15 → threads_from founding d ≡ Ok threads → RightThreads threads
unfolding threads_from
threads_within founding d threads low h = ok_of_bound_read (ok_or (as_array d) (BadValue key.Threads 0)) _ threads h
    (λ ds there told. ok_of_read_if_true (nat_le 1 (items_len ds) && nat_le (items_len ds) 16) _ _ threads told (λ count inner.
    let good = each_thread_within founding 1 ds threads low inner in
    let tests = both_of_tests _ _ count in
    let least = leb-true 1 (items_len ds) tests.0 in
    let most = leb-true (items_len ds) 16 tests.1 in
    record { each = good.each; some = omega (arith, least, good.count); few = omega (arith, most, good.count) }))

pub threads_read_le_sixteen : (founding : ℕ) (d : Data) (threads : List ThreadPlan) → founding ≤ 15 → threads_from founding d ≡ Ok threads → length threads ≤ 16
threads_read_le_sixteen founding d threads low h = (threads_within founding d threads low h).few

-- ---- races

record RightSize (plan found : RacePlan) : Type 0 where
  same : plan ≡ found
  calls : calls_in_all plan.threads ≤ most_calls
  records : records_of plan ≤ most_events_of_run

right_size : (plan found : RacePlan) → of_right_size plan ≡ Ok found → RightSize plan found
unfolding of_right_size
right_size plan found h = ok_of_read_if_true (nat_le (calls_in_all plan.threads) most_calls) _ _ found h
    (λ few inner. ok_of_read_if_true (nat_le (records_of plan) most_events_of_run) _ _ found inner (λ short is.
    record { same = ok_of_read_is_injective plan found is; calls = leb-true (calls_in_all plan.threads) most_calls few; records = leb-true (records_of plan) most_events_of_run short }))

race_parts_within : (d : Data) (plan : RacePlan) → parts_of_race d ≡ Ok plan → RaceWithin plan
unfolding parts_of_race
race_parts_within d plan h = ok_of_bound_read (founding_in d) _ plan h
    (λ founding founded r1. ok_of_bound_read (number_at_key key.Seed 0 0 18446744073709551615 d) _ plan r1 (λ seed seeded r2.
    ok_of_bound_read (number_or 0 key.Loss 0 0 most_lost d) _ plan r2 (λ loss lost r3. ok_of_bound_read (number_or 0 key.Repeat 0 0 most_repeated d) _ plan r3
    (λ repeat again r4. ok_of_bound_read (number_or 200 key.Turns 0 1 most_turns d) _ plan r4 (λ turns turned r5.
    ok_of_bound_read (value_in key.Threads 0 d) _ plan r5 (λ v there r6. ok_of_bound_read (threads_from founding.resilience v) _ plan r6 (λ threads listed last.
    let may = founding_read_may_found d founding founded in
    let low = number_or_other_is_within 0 key.Loss 0 0 most_lost d loss (omega arith) (omega arith) lost in
    let back = number_or_other_is_within 0 key.Repeat 0 0 most_repeated d repeat (omega arith) (omega arith) again in
    let many = number_or_other_is_within 200 key.Turns 0 1 most_turns d turns (omega arith) (omega arith) turned in
    let right = threads_within founding.resilience v threads may.resilience_within listed in
    let size_is = right_size _ plan last in
    subst (λ (x : RacePlan). RaceWithin x) size_is.same (record {
      may_found = may;
      loss = low.1;
      repeat = back.1;
      some_turns = omega (arith, many.0);
      few_turns = many.1;
      some_threads = right.some;
      few_threads = right.few;
      each = right.each;
      few_calls = size_is.calls;
      few_records = size_is.records;
    }))))))))

race_within : (d : Data) (plan : RacePlan) → race_from d ≡ Ok plan → RaceWithin plan
unfolding race_from
race_within d plan h = ok_of_object_with_keys race_keys key.Race d _ plan h (λ told. race_parts_within d plan told)

-- ---- what is read

pub answered_race_is_within : (d : Data) (r : Result RacePlan ScriptRefusal) → Answers (race_document_from d) r → IfOk r RaceWithin
unfolding race_document_from
answered_race_is_within d r is = answer_behind_key_is_ok RaceWithin key.Race race_from race_within d r is
