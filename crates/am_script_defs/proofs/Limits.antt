-- Every play keeps to the limits.
use Rattle.std.proofs.Common.{◌≡◌, ℕ, ◌+◌, ◌/◌, ◌%◌, ◌<◌, ◌≤◌, List, length, get_or, set, Result, Ok, Err, true, false, is_some, ◌&&◌}
use Rattle.std.proofs.Common.{nat_le, nat_lt, refl, subst, arith, cond, All}
use Rattle.std.specs.Option.{ok_or}
use Rattle.std.proofs.lemmas.Bool.{leb-true}
use Rattle.std.proofs.lemmas.Grind.{common_steps}
use Rattle.std.proofs.lemmas.List.Sums.{get_or-le-sum_by}
use Rattle.am_base.specs.Most.{greatest_number, greatest_window, most_bytes_of_body, most_bytes_of_packet}
use Rattle.hex.specs.Hex.{decode_of}
use Rattle.hex.proofs.HexLemmas.{decode_of-ok}
use Rattle.am_base.specs.Names.{empty_set_of_names, has, with_name, size, name_of_place_and_life}
use Rattle.am_base.specs.Founding.{Rules, MayFound}
use Rattle.am_group.specs.declared.event.Act.{Act}
use Rattle.am_group.specs.declared.event.Act.TheVariants as act
use Rattle.am_group.specs.declared.event.Event.{Event}
use Rattle.serde_json.specs.Data.{Data, Items, no_items, item}
use Rattle.serde_json.specs.Events.{items_len}
use Rattle.serde_json.specs.Find.{as_array, as_object}
use Rattle.am_script_defs.specs.declared.key.ScriptKey.{ScriptKey}
use Rattle.am_script_defs.specs.declared.key.ScriptKey.TheVariants as key
use Rattle.am_script_defs.specs.declared.kind.EventKind.{EventKind}
use Rattle.am_script_defs.specs.declared.kind.EventKind.TheVariants.{Send, Done, Take, Join, State, Leave, Reset, Ask, GiveUp, Stop, Tick, Hear, Cut, Return}
use Rattle.am_script_defs.specs.declared.script.Script.{Script}
use Rattle.am_script_defs.specs.declared.refusal.ScriptRefusal.TheVariants.{BadValue}
use Rattle.am_script_defs.specs.Keys.{has_only}
use Rattle.am_script_defs.specs.Refusals.{ReadOrRefused}
use Rattle.am_script_defs.specs.Values.{value_in, text_in, number_within, number_at_key, number_or, flag_or, are_hex_pairs, bytes_of_hex, body_from}
use Rattle.am_script_defs.specs.Events.{keys_of, event_kind_in, send_in, reset_in, give_up_in, cut_in, act_in, event_as, event_from, events_from}
use Rattle.am_script_defs.specs.Founders.{AreFounders, each_founder, founders_from, founding_in}
use Rattle.am_script_defs.specs.Limits.{IsCount, ActWithin, EventWithin, ScriptWithin}
use Rattle.am_script_defs.specs.Scripts.{play_keys, parts_of_play, play_from}
use Rattle.am_script_defs.proofs.Steps.{ok_of_read_is_injective, ok_of_bound_read, ok_of_read_if_true, ok_of_object_with_keys, ok_of_read_if_false, both_of_tests, each_read_is_within, number_from_is_within, number_in_range_is_within, number_or_other_is_within}

-- ---- bodies

decoded_within : {E : Type 0} (place : ℕ) (decoded : Result (List ℕ) E) (bytes : List ℕ) → bytes_of_hex place decoded ≡ Ok bytes → decoded ≡ Ok bytes
decoded_within place (Ok found) bytes h = cc
decoded_within place (Err e) bytes h = cc

pub body_read_is_within : (place : ℕ) (text bytes : List ℕ) → body_from place text ≡ Ok bytes → length bytes ≤ most_bytes_of_body
unfolding body_from
body_read_is_within place text bytes h = ok_of_read_if_true (are_hex_pairs text) _ _ bytes h (λ pairs told. ok_of_read_if_true (nat_le (length text / 2) most_bytes_of_body) _ _ bytes told (λ short is.
    let decoded = decode_of-ok text bytes (decoded_within place (decode_of text) bytes is) in
    let few = leb-true (length text / 2) most_bytes_of_body short in
    omega (arith, few, decoded.2)))

-- ---- events

act_as : (a b : Act) → (let r : ReadOrRefused Act = Ok a in r) ≡ Ok b → ActWithin a → ActWithin b
act_as a b h within = subst (λ (x : Act). ActWithin x) (ok_of_read_is_injective a b h) within

send_within : (place : ℕ) (d : Data) (a : Act) → send_in place d ≡ Ok a → ActWithin a
unfolding send_in
send_within place d a h = ok_of_bound_read (text_in key.Body place d) _ a h (λ text there rest. ok_of_bound_read (body_from place text) _ a rest (λ body told is.
    act_as (act.Send body) a is (body_read_is_within place text body told)))

reset_within : (founding place : ℕ) (d : Data) (a : Act) → founding ≤ 15 → reset_in founding place d ≡ Ok a → ActWithin a
unfolding reset_in
reset_within founding place d a low h = ok_of_bound_read (number_at_key key.Least place 1 16 d) _ a h
    (λ least there rest. ok_of_bound_read (number_or founding key.Resilience place 0 15 d) _ a rest (λ resilience told is.
    let size_of = number_in_range_is_within key.Least place 1 16 d least there in
    let kept = number_or_other_is_within founding key.Resilience place 0 15 d resilience (omega arith) low told in
    act_as (act.Reset least resilience) a is (omega (arith, size_of.0), size_of.1, kept.1)))

give_up_within : (place : ℕ) (d : Data) (a : Act) → give_up_in place d ≡ Ok a → ActWithin a
unfolding give_up_in
give_up_within place d a h = ok_of_bound_read (number_at_key key.Name place 0 15 d) _ a h
    (λ seat there rest. ok_of_bound_read (number_or 1 key.Life place 1 16 d) _ a rest (λ life told is.
    let low = number_in_range_is_within key.Name place 0 15 d seat there in
    let lives = number_or_other_is_within 1 key.Life place 1 16 d life (omega arith) (omega arith) told in
    act_as (act.GiveUp (name_of_place_and_life seat life)) a is (omega (arith, low, lives))))

count_within : (k : ScriptKey) (place : ℕ) (d : Data) (n : ℕ) → number_at_key k place 1 greatest_number d ≡ Ok n → IsCount n
count_within k place d n h = let fits = number_in_range_is_within k place 1 greatest_number d n h in (omega (arith, fits.0), fits.1)

cut_within : (place : ℕ) (d : Data) (a : Act) → cut_in place d ≡ Ok a → ActWithin a
unfolding cut_in
cut_within place d a h = ok_of_bound_read (number_at_key key.Packet place 1 greatest_number d) _ a h
    (λ packet there rest. ok_of_bound_read (number_at_key key.Keep place 0 most_bytes_of_packet d) _ a rest (λ keep told is.
    act_as (act.Cut packet keep) a is (count_within key.Packet place d packet there, (number_in_range_is_within key.Keep place 0 most_bytes_of_packet d keep told).1)))

act_within : (kind : EventKind) (founding place : ℕ) (d : Data) (a : Act) → founding ≤ 15 → act_in kind founding place d ≡ Ok a → ActWithin a
unfolding act_in
act_within Send founding place d a low h = send_within place d a h
act_within Done founding place d a low h = ok_of_bound_read (number_at_key key.Req place 1 greatest_number d) _ a h
    (λ n told is. act_as (act.Done n) a is (count_within key.Req place d n told))
act_within Take founding place d a low h = act_as act.Take a h tt
act_within Join founding place d a low h = act_as act.Join a h tt
act_within State founding place d a low h = act_as act.State a h tt
act_within Leave founding place d a low h = act_as act.Leave a h tt
act_within Reset founding place d a low h = reset_within founding place d a low h
act_within Ask founding place d a low h = ok_of_bound_read (number_at_key key.Round place 1 greatest_number d) _ a h
    (λ n told is. act_as (act.Ask n) a is (count_within key.Round place d n told))
act_within GiveUp founding place d a low h = give_up_within place d a h
act_within Stop founding place d a low h = act_as act.Stop a h tt
act_within Tick founding place d a low h = act_as act.Tick a h tt
act_within Hear founding place d a low h = ok_of_bound_read (number_at_key key.Packet place 1 greatest_number d) _ a h
    (λ n told is. act_as (act.Hear n) a is (count_within key.Packet place d n told))
act_within Cut founding place d a low h = cut_within place d a h
act_within Return founding place d a low h = act_as act.Return a h tt

event_as_within : (kind : EventKind) (founding place : ℕ) (d : Data) (e : Event) → founding ≤ 15 → event_as kind founding place d ≡ Ok e → EventWithin e
unfolding event_as
event_as_within kind founding place d e low h = ok_of_read_if_true (has_only (keys_of kind) d) _ _ e h
    (λ only inner. ok_of_bound_read (number_at_key key.Node place 0 15 d) _ e inner (λ node there rest. ok_of_bound_read (act_in kind founding place d) _ e rest (λ done told is.
    let fits = number_in_range_is_within key.Node place 0 15 d node there in
    let seat : node < 16 = omega (arith, fits.1) in
    subst (λ (x : Event). EventWithin x) (ok_of_read_is_injective _ e is) (seat, act_within kind founding place d done low told))))

event_within : (founding place : ℕ) (d : Data) (e : Event) → founding ≤ 15 → event_from founding place d ≡ Ok e → EventWithin e
unfolding event_from
event_within founding place d e low h = ok_of_read_if_true (is_some (as_object d)) _ _ e h
    (λ there inner. ok_of_bound_read (event_kind_in place d) _ e inner (λ kind known told. event_as_within kind founding place d e low told))

events_within : (founding : ℕ) (d : Data) (es : List Event) → founding ≤ 15 → events_from founding d ≡ Ok es → All EventWithin es
unfolding events_from
events_within founding d es low h = ok_of_bound_read (ok_or (as_array d) (BadValue key.Events 0)) _ es h (λ ds there told.
    each_read_is_within EventWithin (event_from founding) (λ place one e is. event_within founding place one e low is) 1 ds es told)

-- ---- founders

record Good (names : List ℕ) : Type 0 where
  places : length names ≡ 16
  first_lives : (k : ℕ) → k < 16 → get_or names k 0 ≤ 1

somebody : (lives : List ℕ) (place life : ℕ) → place < length lives → 0 < life → 0 < size (set lives place life)
somebody lives place life within above =
    let there : place < length (set lives place life) = grind (arith, common_steps) in
    let is : get_or (set lives place life) place 0 ≡ life = grind (arith, common_steps) in
    let one : ◌≡◌ {A = ℕ} (cond (nat_lt 0 (get_or (set lives place life) place 0)) 1 0) 1 = grind (arith, common_steps) in
    let counts = get_or-le-sum_by (λ x. cond (nat_lt 0 x) 1 0) (set lives place life) place 0 there in
    omega (arith, counts, one)

good_with : (names : List ℕ) (place : ℕ) → place ≤ 15 → Good names → Good (with_name names place) × (0 < size (with_name names place))
good_with names place le good = (
  record {
    places = grind (arith, common_steps);
    first_lives = λ k lt. grind (arith, common_steps);
  },
  somebody names (place % 16) (place / 16 + 1) (omega arith) (omega arith),
)

founders_good : (names : List ℕ) (ds : Items) (out : List ℕ) → each_founder names ds ≡ Ok out → Good names → Good out × (0 < size names → 0 < size out)
founders_good names no_items out h good = subst (λ (xs : List ℕ). Good xs × (0 < size names → 0 < size xs)) (ok_of_read_is_injective names out h) (good, λ some. some)
founders_good names (item d ds) out h good = ok_of_bound_read (number_within key.Founders 0 0 15 d) _ out h
    (λ place told rest. ok_of_read_if_false (has names place) _ _ out rest (λ later.
    let fits = number_from_is_within key.Founders 0 0 15 d place told in
    let next = good_with names place fits.1 good in
    let done = founders_good (with_name names place) ds out later next.0 in
    (done.0, λ _. done.1 next.1)))

nobody_good : Good empty_set_of_names
nobody_good = record { places = refl; first_lives = λ k lt. grind (arith, common_steps) }

some_founder : (ds : Items) (names : List ℕ) → nat_le 1 (items_len ds) ≡ true → each_founder empty_set_of_names ds ≡ Ok names → 0 < size names
some_founder no_items names some h = cc
some_founder (item d ds) names some h = ok_of_bound_read (number_within key.Founders 0 0 15 d) _ names h
    (λ place told rest. ok_of_read_if_false (has empty_set_of_names place) _ _ names rest (λ later.
    let fits = number_from_is_within key.Founders 0 0 15 d place told in
    let next = good_with empty_set_of_names place fits.1 nobody_good in
    (founders_good (with_name empty_set_of_names place) ds names later next.0).1 next.1))

pub founders_read_are_founders : (d : Data) (names : List ℕ) → founders_from d ≡ Ok names → AreFounders names
unfolding founders_from
founders_read_are_founders d names h = ok_of_bound_read (ok_or (as_array d) (BadValue key.Founders 0)) _ names h
    (λ ds there told. ok_of_read_if_true (nat_le 1 (items_len ds) && nat_le (items_len ds) 16) _ _ names told (λ count inner.
    let good = (founders_good empty_set_of_names ds names inner nobody_good).0 in
    record {
      set = record { places = good.places; lives = λ k lt. grind (arith, good.first_lives k) };
      somebody = some_founder ds names (both_of_tests _ _ count).0 inner;
      first_lives = λ k lt. grind (arith, good.first_lives k);
    }))

-- ---- plays

pub founding_read_may_found : (d : Data) (rules : Rules) → founding_in d ≡ Ok rules → MayFound rules
unfolding founding_in
founding_read_may_found d rules h = ok_of_bound_read (value_in key.Founders 0 d) _ rules h (λ v there rest. ok_of_bound_read (founders_from v) _ rules rest (λ names named more.
    ok_of_bound_read (number_or 0 key.Resilience 0 0 15 d) _ rules more
    (λ resilience kept later. ok_of_bound_read (number_or 64 key.Window 0 1 greatest_window d) _ rules later
    (λ window wide last. ok_of_bound_read (number_or 256 key.PbUpTo 0 0 most_bytes_of_body d) _ rules last (λ pb_up_to short is.
    let are = founders_read_are_founders v names named in
    let low = number_or_other_is_within 0 key.Resilience 0 0 15 d resilience (omega arith) (omega arith) kept in
    let room = number_or_other_is_within 64 key.Window 0 1 greatest_window d window (omega arith) (omega arith) wide in
    let bytes = number_or_other_is_within 256 key.PbUpTo 0 0 most_bytes_of_body d pb_up_to (omega arith) (omega arith) short in
    subst (λ (x : Rules). MayFound x) (ok_of_read_is_injective _ rules is) (record {
      names = are.set;
      somebody = are.somebody;
      first_lives = are.first_lives;
      resilience_within = low.1;
      window_least = omega (arith, room.0);
      window_most = room.1;
      pb_up_to_within = bytes.1;
    }))))))

play_within : (d : Data) (s : Script) → parts_of_play d ≡ Ok s → ScriptWithin s
unfolding parts_of_play
play_within d s h = ok_of_bound_read (founding_in d) _ s h (λ founding founded rest. ok_of_bound_read (flag_or false key.Settle 0 d) _ s rest (λ settle told more.
    ok_of_bound_read (value_in key.Events 0 d) _ s more (λ v there later. ok_of_bound_read (events_from founding.resilience v) _ s later (λ events listed is.
    let may = founding_read_may_found d founding founded in
    subst (λ (x : Script). ScriptWithin x) (ok_of_read_is_injective _ s is) (record {
      may_found = may;
      each = events_within founding.resilience v events may.resilience_within listed;
    })))))

pub play_read_is_within : (d : Data) (s : Script) → play_from d ≡ Ok s → ScriptWithin s
unfolding play_from
play_read_is_within d s h = ok_of_object_with_keys play_keys key.Play d _ s h (λ whole. play_within d s whole)
