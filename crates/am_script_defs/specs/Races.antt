-- Races of scripts: threads, each with the calls that it makes at its node.
use Rattle.std.specs.Prelude.{ℕ, ◌+◌, ◌*◌, ◌&&◌, nat_le, List, [], ◌∷◌, length, sum_by, Bool, true, false, if◌then◌else◌, Ok, Err}
use Rattle.std.specs.Option.{ok_or, option_map_or}
use Rattle.am_base.specs.Most.{most_events_of_run}
use Rattle.serde_json.specs.Data.{Data, Items, no_items, item}
use Rattle.serde_json.specs.Events.{items_len}
use Rattle.serde_json.specs.Find.{as_array}
use Rattle.am_group.specs.declared.event.Act.{Act}
use Rattle.am_group.specs.declared.plan.ThreadPlan.{ThreadPlan}
use Rattle.am_group.specs.declared.plan.RacePlan.{RacePlan}
use Rattle.am_script_defs.specs.declared.key.ScriptKey.{ScriptKey}
use Rattle.am_script_defs.specs.declared.key.ScriptKey.TheVariants as key
use Rattle.am_script_defs.specs.declared.kind.EventKind.{EventKind}
use Rattle.am_script_defs.specs.declared.kind.EventKind.TheVariants.{Send, Take, Join, Leave, Reset, Stop}
use Rattle.am_script_defs.specs.declared.refusal.ScriptRefusal.TheVariants.{NotJson, Unknown, BadValue, OutOfRange}
use Rattle.am_script_defs.specs.Keys.{has_only}
use Rattle.am_script_defs.specs.Refusals.{ReadOrRefused, ◌>>=◌}
use Rattle.am_script_defs.specs.Values.{of_object, object_with, items_read_from, value_in, number_at_key, number_or}
use Rattle.am_script_defs.specs.Events.{event_kind_in, act_in}
use Rattle.am_script_defs.specs.Founders.{founding_in}
use Rattle.am_script_defs.specs.Scripts.{behind, document_in}

-- ---- limits

-- of the letters of a hundred that are lost
abbrev pub most_lost : ℕ
most_lost = 50

-- of the letters of a hundred that are repeated
abbrev pub most_repeated : ℕ
most_repeated = 40

-- of a call's turns
abbrev pub most_turns : ℕ
most_turns = 10000

-- of the calls of a race
abbrev pub most_calls : ℕ
most_calls = 1000

-- ---- calls

-- the kinds of events that a thread can call for
abbrev pub is_call_kind : EventKind → Bool
is_call_kind Send = true
is_call_kind Take = true
is_call_kind Join = true
is_call_kind Leave = true
is_call_kind Reset = true
is_call_kind Stop = true
is_call_kind _ = false

-- the keys of a call of a kind: the node is its thread's
abbrev pub call_keys_of : EventKind → List ScriptKey
call_keys_of Send = key.Do ∷ key.Body ∷ []
call_keys_of Reset = key.Do ∷ key.Least ∷ key.Resilience ∷ []
call_keys_of _ = key.Do ∷ []

-- the kind of a call, which is read before all else
unfoldable pub call_kind_in : ℕ → Data → ReadOrRefused EventKind
call_kind_in place d = event_kind_in place d >>= λ kind. if is_call_kind kind then Ok kind else Err (BadValue key.Do place)

-- a call of a kind: first another key, then the act
unfoldable pub call_as : EventKind → ℕ → ℕ → Data → ReadOrRefused Act
call_as kind founding place d = if has_only (call_keys_of kind) d then act_in kind founding place d else Err (Unknown place)

-- a call
unfoldable pub call_from : ℕ → ℕ → Data → ReadOrRefused Act
call_from founding place d = of_object key.Calls place d (call_kind_in place d >>= λ kind. call_as kind founding place d)

-- an array of any number of calls
unfoldable pub calls_from : ℕ → ℕ → Data → ReadOrRefused (List Act)
calls_from founding place d = ok_or (as_array d) (BadValue key.Calls 0) >>= items_read_from (call_from founding) place

-- ---- threads

abbrev pub thread_keys : List ScriptKey
thread_keys = key.Node ∷ key.Calls ∷ []

-- a thread's parts, in the order of its keys
unfoldable pub parts_of_thread : ℕ → ℕ → Data → ReadOrRefused ThreadPlan
parts_of_thread founding place d = do
  node ← number_at_key key.Node 0 0 15 d
  v ← value_in key.Calls 0 d
  calls ← calls_from founding place v
  Ok (record { node = node; calls = calls })

-- a thread, the first of whose calls has this number: an object, with no other key
unfoldable pub thread_from : ℕ → ℕ → Data → ReadOrRefused ThreadPlan
thread_from founding place d = object_with thread_keys key.Threads d (parts_of_thread founding place d)

-- threads in order: calls are counted over all of them
abbrev pub each_thread : ℕ → ℕ → Items → ReadOrRefused (List ThreadPlan)
each_thread founding place no_items = Ok []
each_thread founding place (item d ds) =
    thread_from founding place d >>= λ thread.
    each_thread founding (place + length thread.calls) ds >>= λ threads. Ok (thread ∷ threads)

-- 1 to 16 threads: first their number, then each in order
unfoldable pub threads_from : ℕ → Data → ReadOrRefused (List ThreadPlan)
threads_from founding d =
    ok_or (as_array d) (BadValue key.Threads 0) >>= λ ds.
    if nat_le 1 (items_len ds) && nat_le (items_len ds) 16 then each_thread founding 1 ds
    else Err (OutOfRange key.Threads 0 (items_len ds) 1 16)

-- ---- races

-- how many calls threads have in all
abbrev pub calls_in_all : List ThreadPlan → ℕ
calls_in_all threads = sum_by (λ thread. length thread.calls) threads

-- how many records a race can have: each call makes its turns, its act and its check
abbrev pub records_of : RacePlan → ℕ
records_of plan = calls_in_all plan.threads * (plan.turns + 2)

-- a race with no more calls than there may be, and no more records
unfoldable pub of_right_size : RacePlan → ReadOrRefused RacePlan
of_right_size plan =
    if nat_le (calls_in_all plan.threads) most_calls
    then (if nat_le (records_of plan) most_events_of_run then Ok plan else Err (OutOfRange key.Threads 0 (records_of plan) 0 most_events_of_run))
    else Err (OutOfRange key.Threads 0 (calls_in_all plan.threads) 0 most_calls)

abbrev pub race_keys : List ScriptKey
race_keys = key.Founders ∷ key.Resilience ∷ key.Window ∷ key.PbUpTo ∷ key.Seed ∷ key.Loss ∷ key.Repeat ∷ key.Turns ∷ key.Threads ∷ []

-- a race's parts, in the order of its keys
unfoldable pub parts_of_race : Data → ReadOrRefused RacePlan
parts_of_race d = do
  founding ← founding_in d
  seed ← number_at_key key.Seed 0 0 18446744073709551615 d
  loss ← number_or 0 key.Loss 0 0 most_lost d
  repeat ← number_or 0 key.Repeat 0 0 most_repeated d
  turns ← number_or 200 key.Turns 0 1 most_turns d
  v ← value_in key.Threads 0 d
  threads ← threads_from founding.resilience v
  of_right_size (record { founding = founding; seed_number = seed; loss = loss; repeat = repeat; turns = turns; threads = threads })

-- a race: an object, with no other key
unfoldable pub race_from : Data → ReadOrRefused RacePlan
race_from d = object_with race_keys key.Race d (parts_of_race d)

-- the race of a document
unfoldable pub race_document_from : Data → ReadOrRefused RacePlan
race_document_from d = behind key.Race d >>= race_from

-- the race that bytes are, or the first cause that they are none
unfoldable pub race_reading : List ℕ → ReadOrRefused RacePlan
race_reading bytes = option_map_or race_document_from (document_in bytes) (Err NotJson)
