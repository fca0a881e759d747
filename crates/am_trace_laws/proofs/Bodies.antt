-- The bodies of scripts are of bytes.
use Rattle.am_trace_laws.proofs.ScriptWords.{◌≡◌, ℕ, ◌+◌, ◌/◌, List, [], length, Result, Ok, Err, false, is_some, ◌&&◌, nat_le, subst, All, Option}
use Rattle.am_trace_laws.proofs.ScriptWords.{Some, None, ok_or, option_map_or, All-nil, All-cons, greatest_number, most_events_of_run, most_bytes_of_body, most_bytes_of_packet, IsBytes}
use Rattle.am_trace_laws.proofs.ScriptWords.{decode_of, decode_of-ok, items_len, as_array, as_object, Act, Event, RacePlan, ThreadPlan, EventKind, Script, BadValue}
use Rattle.am_trace_laws.proofs.ScriptWords.{has_only, ReadOrRefused, founding_in, name_of_place_and_life, IsOfBytes, AreOfBytes, PlaysAreOfBytes, ThreadOfBytes, RacesAreOfBytes}
use Rattle.serde_json.specs.Data.{Data, Items, no_items, item}
use Rattle.am_script_defs.specs.declared.kind.EventKind.TheVariants.{Send, Done, Take, Join, State, Leave, Reset, Ask, GiveUp, Stop, Tick, Hear, Cut, Return}
use Rattle.am_script_defs.specs.Values.{value_in, text_in, number_at_key, number_or, flag_or, are_hex_pairs, bytes_of_hex, body_from}
use Rattle.am_script_defs.specs.Events.{keys_of, event_kind_in, send_in, reset_in, give_up_in, cut_in, act_in, event_as, event_from, events_from}
use Rattle.am_script_defs.specs.Scripts.{script_of, play_keys, parts_of_play, play_from, behind, document_from, document_in, script_reading}
use Rattle.am_script_defs.specs.Races.{call_keys_of, call_kind_in, call_as, call_from, calls_from, thread_keys, parts_of_thread, thread_from}
use Rattle.am_script_defs.specs.Races.{each_thread, threads_from, of_right_size, most_lost, most_repeated, most_turns, most_calls, calls_in_all, records_of}
use Rattle.am_script_defs.specs.Races.{race_keys, parts_of_race, race_from, race_document_from, race_reading}
use Rattle.am_script_defs.proofs.Steps.{ok_of_read_is_injective, ok_of_bound_read, ok_of_read_if_true, ok_of_object_with_keys, each_read_is_within}
use Rattle.am_group.specs.declared.event.Act.TheVariants as act
use Rattle.am_script_defs.specs.declared.key.ScriptKey.TheVariants as key

-- ---- acts

decoded : {E : Type 0} (place : ℕ) (found : Result (List ℕ) E) (bytes : List ℕ) → bytes_of_hex place found ≡ Ok bytes → found ≡ Ok bytes
decoded place (Ok found) bytes h = cc
decoded place (Err e) bytes h = cc

body_of_bytes : (place : ℕ) (text bytes : List ℕ) → body_from place text ≡ Ok bytes → IsBytes bytes
unfolding body_from
body_of_bytes place text bytes h = ok_of_read_if_true (are_hex_pairs text) _ _ bytes h (λ pairs told. ok_of_read_if_true (nat_le (length text / 2) most_bytes_of_body) _ _ bytes told (λ short is.
    (decode_of-ok text bytes (decoded place (decode_of text) bytes is)).3))

act_as : (a b : Act) → (let r : ReadOrRefused Act = Ok a in r) ≡ Ok b → IsOfBytes a → IsOfBytes b
act_as a b h bytes = subst (λ (x : Act). IsOfBytes x) (ok_of_read_is_injective a b h) bytes

send_of_bytes : (place : ℕ) (d : Data) (a : Act) → send_in place d ≡ Ok a → IsOfBytes a
unfolding send_in
send_of_bytes place d a h = ok_of_bound_read (text_in key.Body place d) _ a h (λ text there rest. ok_of_bound_read (body_from place text) _ a rest (λ body told is.
    act_as (act.Send body) a is (body_of_bytes place text body told)))

reset_of_bytes : (founding place : ℕ) (d : Data) (a : Act) → reset_in founding place d ≡ Ok a → IsOfBytes a
unfolding reset_in
reset_of_bytes founding place d a h = ok_of_bound_read (number_at_key key.Least place 1 16 d) _ a h
    (λ least there rest. ok_of_bound_read (number_or founding key.Resilience place 0 15 d) _ a rest (λ resilience told is. act_as (act.Reset least resilience) a is tt))

give_up_of_bytes : (place : ℕ) (d : Data) (a : Act) → give_up_in place d ≡ Ok a → IsOfBytes a
unfolding give_up_in
give_up_of_bytes place d a h = ok_of_bound_read (number_at_key key.Name place 0 15 d) _ a h
    (λ seat there rest. ok_of_bound_read (number_or 1 key.Life place 1 16 d) _ a rest (λ life told is. act_as (act.GiveUp (name_of_place_and_life seat life)) a is tt))

cut_of_bytes : (place : ℕ) (d : Data) (a : Act) → cut_in place d ≡ Ok a → IsOfBytes a
unfolding cut_in
cut_of_bytes place d a h = ok_of_bound_read (number_at_key key.Packet place 1 greatest_number d) _ a h
    (λ packet there rest. ok_of_bound_read (number_at_key key.Keep place 0 most_bytes_of_packet d) _ a rest (λ keep told is. act_as (act.Cut packet keep) a is tt))

act_of_bytes : (kind : EventKind) (founding place : ℕ) (d : Data) (a : Act) → act_in kind founding place d ≡ Ok a → IsOfBytes a
unfolding act_in
act_of_bytes Send founding place d a h = send_of_bytes place d a h
act_of_bytes Done founding place d a h = ok_of_bound_read (number_at_key key.Req place 1 greatest_number d) _ a h (λ n told is. act_as (act.Done n) a is tt)
act_of_bytes Take founding place d a h = act_as act.Take a h tt
act_of_bytes Join founding place d a h = act_as act.Join a h tt
act_of_bytes State founding place d a h = act_as act.State a h tt
act_of_bytes Leave founding place d a h = act_as act.Leave a h tt
act_of_bytes Reset founding place d a h = reset_of_bytes founding place d a h
act_of_bytes Ask founding place d a h = ok_of_bound_read (number_at_key key.Round place 1 greatest_number d) _ a h (λ n told is. act_as (act.Ask n) a is tt)
act_of_bytes GiveUp founding place d a h = give_up_of_bytes place d a h
act_of_bytes Stop founding place d a h = act_as act.Stop a h tt
act_of_bytes Tick founding place d a h = act_as act.Tick a h tt
act_of_bytes Hear founding place d a h = ok_of_bound_read (number_at_key key.Packet place 1 greatest_number d) _ a h (λ n told is. act_as (act.Hear n) a is tt)
act_of_bytes Cut founding place d a h = cut_of_bytes place d a h
act_of_bytes Return founding place d a h = act_as act.Return a h tt

-- ---- plays

abbrev EventOfBytes : Event → Type 0
EventOfBytes event = IsOfBytes event.act

as_of_bytes : (kind : EventKind) (founding place : ℕ) (d : Data) (e : Event) → event_as kind founding place d ≡ Ok e → EventOfBytes e
unfolding event_as
as_of_bytes kind founding place d e h = ok_of_read_if_true (has_only (keys_of kind) d) _ _ e h
    (λ only inner. ok_of_bound_read (number_at_key key.Node place 0 15 d) _ e inner (λ node there rest. ok_of_bound_read (act_in kind founding place d) _ e rest (λ done told is.
    subst (λ (x : Event). EventOfBytes x) (ok_of_read_is_injective _ e is) (act_of_bytes kind founding place d done told))))

event_of_bytes : (founding place : ℕ) (d : Data) (e : Event) → event_from founding place d ≡ Ok e → EventOfBytes e
unfolding event_from
event_of_bytes founding place d e h = ok_of_read_if_true (is_some (as_object d)) _ _ e h
    (λ there inner. ok_of_bound_read (event_kind_in place d) _ e inner (λ kind known told. as_of_bytes kind founding place d e told))

events_of_bytes : (founding : ℕ) (d : Data) (es : List Event) → events_from founding d ≡ Ok es → AreOfBytes es
unfolding events_from
events_of_bytes founding d es h = ok_of_bound_read (ok_or (as_array d) (BadValue key.Events 0)) _ es h (λ ds there told.
    each_read_is_within EventOfBytes (event_from founding) (λ place one e is. event_of_bytes founding place one e is) 1 ds es told)

-- ---- races

call_of_bytes : (founding place : ℕ) (d : Data) (a : Act) → call_from founding place d ≡ Ok a → IsOfBytes a
unfolding call_from call_kind_in call_as
call_of_bytes founding place d a h = ok_of_read_if_true (is_some (as_object d)) _ _ a h (λ there inner. ok_of_bound_read (call_kind_in place d) _ a inner (λ kind known told.
    ok_of_read_if_true (has_only (call_keys_of kind) d) _ _ a told (λ only is. act_of_bytes kind founding place d a is)))

calls_of_bytes : (founding place : ℕ) (d : Data) (calls : List Act) → calls_from founding place d ≡ Ok calls → All IsOfBytes calls
unfolding calls_from
calls_of_bytes founding place d calls h = ok_of_bound_read (ok_or (as_array d) (BadValue key.Calls 0)) _ calls h
    (λ ds there told. each_read_is_within IsOfBytes (call_from founding) (λ number one a is. call_of_bytes founding number one a is) place ds calls told)

thread_of_bytes : (founding place : ℕ) (d : Data) (thread : ThreadPlan) → thread_from founding place d ≡ Ok thread → ThreadOfBytes thread
unfolding thread_from parts_of_thread
thread_of_bytes founding place d thread h = ok_of_object_with_keys thread_keys key.Threads d _ thread h (λ told.
    ok_of_bound_read (number_at_key key.Node 0 0 15 d) _ thread told (λ node there rest. ok_of_bound_read (value_in key.Calls 0 d) _ thread rest (λ v found more.
    ok_of_bound_read (calls_from founding place v) _ thread more (λ calls read is.
    subst (λ (x : ThreadPlan). ThreadOfBytes x) (ok_of_read_is_injective _ thread is) (calls_of_bytes founding place v calls read)))))

each_of_bytes : (founding place : ℕ) (ds : Items) (threads : List ThreadPlan) → each_thread founding place ds ≡ Ok threads → All ThreadOfBytes threads
each_of_bytes founding place no_items threads h = subst (λ (xs : List ThreadPlan). All ThreadOfBytes xs) (ok_of_read_is_injective [] threads h) (All-nil ThreadOfBytes)
each_of_bytes founding place (item d ds) threads h =
    ok_of_bound_read (thread_from founding place d) _ threads h (λ thread told rest. ok_of_bound_read (each_thread founding (place + length thread.calls) ds) _ threads rest
    (λ more others is. subst (λ (xs : List ThreadPlan). All ThreadOfBytes xs) (ok_of_read_is_injective _ threads is)
    (All-cons ThreadOfBytes thread more (thread_of_bytes founding place d thread told) (each_of_bytes founding (place + length thread.calls) ds more others))))

threads_of_bytes : (founding : ℕ) (d : Data) (threads : List ThreadPlan) → threads_from founding d ≡ Ok threads → All ThreadOfBytes threads
unfolding threads_from
threads_of_bytes founding d threads h = ok_of_bound_read (ok_or (as_array d) (BadValue key.Threads 0)) _ threads h
    (λ ds there told. ok_of_read_if_true (nat_le 1 (items_len ds) && nat_le (items_len ds) 16) _ _ threads told (λ count inner. each_of_bytes founding 1 ds threads inner))

sized : (plan found : RacePlan) → of_right_size plan ≡ Ok found → plan ≡ found
unfolding of_right_size
sized plan found h = ok_of_read_if_true (nat_le (calls_in_all plan.threads) most_calls) _ _ found h
    (λ few inner. ok_of_read_if_true (nat_le (records_of plan) most_events_of_run) _ _ found inner (λ short is. ok_of_read_is_injective plan found is))

race_of_bytes : (d : Data) (plan : RacePlan) → race_from d ≡ Ok plan → All ThreadOfBytes plan.threads
unfolding race_from parts_of_race
race_of_bytes d plan h = ok_of_object_with_keys race_keys key.Race d _ plan h (λ told.
    ok_of_bound_read (founding_in d) _ plan told
    (λ founding founded r1. ok_of_bound_read (number_at_key key.Seed 0 0 18446744073709551615 d) _ plan r1 (λ seed seeded r2.
    ok_of_bound_read (number_or 0 key.Loss 0 0 most_lost d) _ plan r2 (λ loss lost r3. ok_of_bound_read (number_or 0 key.Repeat 0 0 most_repeated d) _ plan r3
    (λ repeat again r4. ok_of_bound_read (number_or 200 key.Turns 0 1 most_turns d) _ plan r4 (λ turns turned r5.
    ok_of_bound_read (value_in key.Threads 0 d) _ plan r5 (λ v there r6. ok_of_bound_read (threads_from founding.resilience v) _ plan r6 (λ threads listed last.
    subst (λ (x : RacePlan). All ThreadOfBytes x.threads) (sized _ plan last) (threads_of_bytes founding.resilience v threads listed)))))))))

-- ---- documents

by_document : {A : Type 0} (from : Data → ReadOrRefused A) (Has : A → Type 0) → ((d : Data) (x : A) → from d ≡ Ok x → Has x)
    → (o : Option Data) (x : A) (otherwise : ReadOrRefused A) → (otherwise ≡ Ok x → ⊥) → option_map_or from o otherwise ≡ Ok x → Has x
by_document from Has told None x otherwise never h = absurd (never h)
by_document from Has told (Some d) x otherwise never h = told d x h

play_of_bytes : (d : Data) (s : Script) → play_from d ≡ Ok s → AreOfBytes s.events
unfolding play_from parts_of_play
play_of_bytes d s h = ok_of_object_with_keys play_keys key.Play d _ s h (λ whole.
    ok_of_bound_read (founding_in d) _ s whole (λ founding founded rest. ok_of_bound_read (flag_or false key.Settle 0 d) _ s rest (λ settle told more.
    ok_of_bound_read (value_in key.Events 0 d) _ s more (λ v there later. ok_of_bound_read (events_from founding.resilience v) _ s later (λ events listed is.
    subst (λ (x : Script). AreOfBytes x.events) (ok_of_read_is_injective _ s is) (events_of_bytes founding.resilience v events listed))))))

script_of_bytes : (d : Data) (s : Script) → document_from d ≡ Ok s → AreOfBytes s.events
unfolding document_from
script_of_bytes d s h = ok_of_bound_read (behind key.Play d) play_from s h (λ v there told. play_of_bytes v s told)

pub script_plays_are_of_bytes : PlaysAreOfBytes
unfolding script_reading
script_plays_are_of_bytes bytes founding events settles is =
    by_document document_from (λ (s : Script). AreOfBytes s.events) script_of_bytes (document_in bytes) (script_of founding events settles) _ (λ never. cc) is

plan_of_bytes : (d : Data) (plan : RacePlan) → race_document_from d ≡ Ok plan → All ThreadOfBytes plan.threads
unfolding race_document_from
plan_of_bytes d plan h = ok_of_bound_read (behind key.Race d) race_from plan h (λ v there told. race_of_bytes v plan told)

pub race_plays_are_of_bytes : RacesAreOfBytes
unfolding race_reading
race_plays_are_of_bytes bytes plan is =
    by_document race_document_from (λ (p : RacePlan). All ThreadOfBytes p.threads) plan_of_bytes (document_in bytes) plan _ (λ never. cc) is
