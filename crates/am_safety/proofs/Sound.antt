-- What each record of a run tells is within its limits, and each name's requests are 1, 2, 3 and so on.
use Rattle.am_lawful_runs.proofs.Words.{slice_get_within, append-nil, append_assoc, place_of_name, Record, acting_name_of_record, record_of, IsIdle, OutcomeTells, AnswersAsk, HasTakenEntry}
use Rattle.am_lawful_runs.proofs.Words.{WasSettled, runs_keep_what_events_keep, IsOfBallot, LastBallotIsSound, ballots_are_of_own_names}
use Rattle.am_step_laws.proofs.Words.{◌≡◌, ℕ, zero, suc, ◌+◌, ◌-◌, ◌<◌, ◌≤◌, ◌==◌, nat_le, Bool, true, false, if◌then◌else◌, List, [], ◌∷◌, ◌++◌, length, ◌⊎◌, inl}
use Rattle.am_step_laws.proofs.Words.{inr, Option, Some, None, slice_get, refl, sym, ap, ◌∙◌, subst, arith, nat_tests, All, All-nil, All-cons, All-head, All-tail}
use Rattle.am_step_laws.proofs.Words.{All-append, range_with_len, greatest_number, split_on_bool, Entry, Data, Leave, View, Outcome, Log, log_entry_at, top_of_log, Rules}
use Rattle.am_step_laws.proofs.Words.{MayFound, Act, Event, Node, Ballot, push_entry, BallotVerdict, StepResult, World, start, run, world_after_events, happens, world_with_record, world_with_step}
use Rattle.am_step_laws.proofs.Words.{Cause, calls, LooksAtBallot, finds_itself_out, Change, Changes, no_change, changed, refreshes, settles, looks, queues, collects}
use Rattle.am_step_laws.proofs.Words.{closes, Effect, acting_name, IsCall, IsCause, EventHappens, idles, stops, returns, steps, item_of_index_has_property, first_node_has_property, current}
use Rattle.am_step_laws.proofs.Words.{events_have_effects, number_equals_itself, refresh_rests_with_list, settle_changes_only_sends, end_refresh_rests_with_list, BodyIsWithinLimit, Bounds}
use Rattle.am_refinement.proofs.Words.{either}
use Rattle.std.proofs.lemmas.List.FromFn.{length-range_with_len}
use Rattle.std.proofs.lemmas.Grind.{flat_map-append}
use Rattle.am_base.specs.declared.outcome.Outcome.TheVariants as said
use Rattle.am_base.specs.declared.event.NodeEvent.TheVariants as does
use Rattle.am_node_defs.specs.Sends as own
use Rattle.am_step_laws.specs.Events as event
use Rattle.am_step_laws.specs.Effects.{WasQueued}
use Rattle.am_step_laws.proofs.Bounds.Limits.{EntryIsWithinLimits, BoundsAreNumbers}
use Rattle.am_step_laws.proofs.Bounds.NodeLimits.{SendIsWithinLimits}
use Rattle.am_step_laws.proofs.Named.{run_has_names}
use Rattle.am_run_laws.proofs.SentKept.{EntryWasSent}
use Rattle.am_run_laws.proofs.SentRuns.{WorldBodiesWereSent, events_keep_world_bodies_sent, start_has_all_bodies_sent}
use Rattle.am_run_laws.specs.Ballots.{BallotsAreSound}
use Rattle.am_safety.specs.Records.{AsksBytes, IsSayable, IsAnswerOfAct, IsSound, RecordsAreSound, queued_in, queued_by, requests_given, RecordedRequestsInTurn, ReturnAnswerHasLife}
use Rattle.am_safety.proofs.Names.{EntryHasSmallNames, run_names_are_small}
use Rattle.am_safety.specs.Parts.{HasNumbersAt, HaveNumbers, StaysInRange}
use Rattle.am_safety.proofs.Ranges.{bounds_of_all_numbers, all_bounds_are_numbers, event_stays_within_numbers}
use Rattle.am_safety.proofs.Limits.{EntriesHeldWithinLimits, entries_of_run_within_limits}
use Rattle.am_safety.proofs.RecordsSettled.{SendIsSettledUpTo, SendsAreSettledUpTo, sends_of_runs_are_settled}
use Rattle.am_safety.proofs.Lives.{event_tells_its_life}
use Rattle.am_lawful_runs.proofs.OneStep.{run_of_pushed_event}

-- ---- entries

sayable : (records : List Record) (b : Bounds) (e : Entry) → BoundsAreNumbers b → All IsSound records → EntryIsWithinLimits b e → EntryHasSmallNames e → EntryWasSent records e
    → IsSayable e
sayable records b (Data from req body) small sound within named sent =
    let asked = subst AsksBytes sent.is.asked (item_of_index_has_property IsSound records sent.index sent.send sound sent.there).asks in
    (named, omega arith, asked.0, asked.1)
sayable records b (View v) small sound within named sent =
    (named, omega arith, within.1, within.2)
sayable records b _ small sound within named sent = named

all_sayable : (records : List Record) (b : Bounds) (es : List Entry) → BoundsAreNumbers b → All IsSound records → All (EntryIsWithinLimits b) es → All EntryHasSmallNames es
    → All (EntryWasSent records) es → All IsSayable es
all_sayable records b [] small sound within named sent = All-nil IsSayable
all_sayable records b (e ∷ es) small sound within named sent = All-cons IsSayable e es
    (sayable records b e small sound (All-head (EntryIsWithinLimits b) e es within) (All-head EntryHasSmallNames e es named) (All-head (EntryWasSent records) e es sent))
    (all_sayable records b es small sound (All-tail (EntryIsWithinLimits b) e es within) (All-tail EntryHasSmallNames e es named) (All-tail (EntryWasSent records) e es sent))

-- an entry of a list is there
there_by : (b : Bool) (at : Option Entry) (e : Entry) → (if b then at else None) ≡ Some e → at ≡ Some e
there_by true at e is = is
there_by false at e is = absurd (cc)

pub entry_at_has_property : (P : Entry → Type 0) (log : Log) (number : ℕ) (e : Entry) → All P log.entries → log_entry_at log number ≡ Some e → P e × (number ≤ top_of_log log)
entry_at_has_property P log zero e h is = absurd (cc)
entry_at_has_property P log (suc before) e h is =
    let at = there_by (nat_le log.start before) (slice_get log.entries (before - log.start)) e is in
    let within = slice_get_within log.entries (before - log.start) e at in
    (item_of_index_has_property P log.entries (before - log.start) e h at, omega arith)

-- ---- acts

send_act : (w : World) (a : Act) (body : List ℕ) → IsCall w a (does.Send body) → a ≡ Act.Send body
send_act w a body (event.send x) = refl

done_act : (w : World) (a : Act) (req : ℕ) → IsCall w a (does.Done req) → a ≡ Act.Done req
done_act w a req (event.done x) = refl

take_act : (w : World) (a : Act) → IsCall w a does.Take → a ≡ Act.Take
take_act w a event.take = refl

-- ---- how many sends a node has queued

-- a step by a Send, which is answered as queued
abbrev SendsBy : Cause → Outcome → Type 0
SendsBy c o = (body : List ℕ) × (req : ℕ) × (c ≡ calls (does.Send body)) × (o ≡ said.Queued req)

change_last : {c : Cause} {o : Outcome} (m n : Node) → Change c o m n → (n.sends.last ≡ m.sends.last) ⊎ SendsBy c o
change_last m n refreshes = inl (refresh_rests_with_list m).rests.asked
change_last m n settles = inl (ap (λ (x : Node). x.sends.last) (settle_changes_only_sends m))
change_last m n (looks b verdict over why look is) = inl (looked m b verdict look)
  where
    looked : (m : Node) (b : Ballot) (v : BallotVerdict) → LooksAtBallot m b v → v.node.sends.last ≡ m.sends.last
    looked m b v (finds_itself_out x) = refl
    looked m b v _ = refl
change_last m n (queues body is o member stays few) = inr (body, m.sends.last + 1, is, o)
change_last m n (collects req is) = inl (split_on_bool (own.has_settled_send req m.sends) (λ t. rw t refl) (λ f. rw f refl))
change_last m n (closes leads leaves alone room) = inl ((end_refresh_rests_with_list (push_entry m (Leave m.core.who))).rests.asked)
change_last m n _ = inl refl

last_by : {c : Cause} {o : Outcome} (m n : Node) → Changes c o m n → (n.sends.last ≡ m.sends.last) ⊎ SendsBy c o
last_by m n no_change = inl refl
last_by m n (changed {n = x} z zs) = either (change_last m x z)
    (λ same. either (last_by x n zs) (λ later. inl (later ∙ same)) (λ sends. inr sends))
    (λ sends. inr sends)

-- ---- what is known of a run up to an event

record Facts (rules : Rules) (w : World) : Type 0 where
  held : EntriesHeldWithinLimits rules bounds_of_all_numbers w
  named : (name : ℕ) → name < 256 → All EntryHasSmallNames (w.nodes name).core.log.entries
  sent : WorldBodiesWereSent w
  ballots : BallotsAreSound w
  sends : (name : ℕ) → SendsAreSettledUpTo (w.nodes name)
  sound : All IsSound w.records
  low : (e : Event) → acting_name w e < 256

-- what is asked of a ballot is answered as a ballot is
pub answered_ask_is_of_ballot : (w : World) (name : ℕ) (c : Cause) (o : Outcome) → BallotsAreSound w → AnswersAsk (w.nodes name) c o → IsOfBallot o
answered_ask_is_of_ballot w name c o ballots a =
    subst IsOfBallot (sym a.same) (subst (LastBallotIsSound w name (w.nodes name).core.promise) a.last (ballots.each name)).answer

queued_so : (w : World) (name : ℕ) (a : Act) (c : Cause) (n : Node) (req : ℕ) → n.sends.last ≤ greatest_number → IsCause w name a c
    → Changes c (said.Queued req) (w.nodes name) n → WasQueued (w.nodes name) n req → IsAnswerOfAct a (said.Queued req)
queued_so w name a c n req low cause changes q =
    let more = q.more in
    let next = q.next in
    let sends : SendsBy c (said.Queued req) = either (last_by (w.nodes name) n changes) (λ same. absurd (omega (arith, same, more))) (λ s. s) in
    ((sends.0, send_act w a sends.0 (subst (IsCause w name a) sends.2 cause)), omega arith)

sent_so : (rules : Rules) (w : World) (name : ℕ) (a : Act) (c : Cause) (req number : ℕ) → Facts rules w
    → IsCause w name a c → WasSettled (w.nodes name) c req number → IsAnswerOfAct a (said.Sent req number)
sent_so rules w name a c req number f cause s =
    let m = w.nodes name in
    let within = (item_of_index_has_property (SendIsWithinLimits bounds_of_all_numbers) m.sends.queue s.index s.send (f.held.limited.within.each name).sends s.there).req in
    let up = item_of_index_has_property (SendIsSettledUpTo m.core.acc) m.sends.queue s.index s.send (f.sends name).settled s.there number s.settled in
    let acc = (f.held.limited.low.each name).accepted in
    let high = (f.held.limited.low.each name).entries in
    let lists = all_bounds_are_numbers.lists in
    let requests = all_bounds_are_numbers.requests in
    let same = s.request in
    (done_act w a req (subst (IsCause w name a) s.asked cause), omega (arith, within, requests, same), omega arith)

took_so : (rules : Rules) (w : World) (name : ℕ) (a : Act) (c : Cause) (n : Node) (number : ℕ) (e : Entry) → Facts rules w
    → name < 256 → IsCause w name a c → HasTakenEntry (w.nodes name) c n number e → IsAnswerOfAct a (said.Took number e)
took_so rules w name a c n number e f low cause t =
    let m = w.nodes name in
    let within = entry_at_has_property (EntryIsWithinLimits bounds_of_all_numbers) m.core.log number e (f.held.limited.within.each name).entries t.there in
    let named = entry_at_has_property EntryHasSmallNames m.core.log number e (f.named name low) t.there in
    let sent = entry_at_has_property (EntryWasSent w.records) m.core.log number e (f.sent.all.each name).entries t.there in
    let high = (f.held.limited.low.each name).entries in
    let lists = all_bounds_are_numbers.lists in
    (take_act w a (subst (IsCause w name a) t.asked cause), omega arith, sayable w.records bounds_of_all_numbers e all_bounds_are_numbers f.sound within.0 named.0 sent.0)

answered : (rules : Rules) (w : World) (name : ℕ) (a : Act) (c : Cause) (n : Node) (o : Outcome) → Facts rules w
    → name < 256 → n.sends.last ≤ greatest_number → IsCause w name a c → Changes c o (w.nodes name) n → OutcomeTells (w.nodes name) c n o → IsAnswerOfAct a o
answered rules w name a c n (said.Queued req) f low last cause changes answer = either answer
    (λ q. queued_so w name a c n req last cause changes q)
    (λ ask. absurd (answered_ask_is_of_ballot w name c (said.Queued req) f.ballots ask))
answered rules w name a c n (said.Sent req number) f low last cause changes answer = either answer
    (λ s. sent_so rules w name a c req number f cause s)
    (λ ask. absurd (answered_ask_is_of_ballot w name c (said.Sent req number) f.ballots ask))
answered rules w name a c n (said.Took number e) f low last cause changes answer = either answer
    (λ t. took_so rules w name a c n number e f low cause t)
    (λ ask. absurd (answered_ask_is_of_ballot w name c (said.Took number e) f.ballots ask))
answered rules w name a c n _ f low last cause changes answer = tt

idle_answer : (a : Act) (o : Outcome) → IsIdle o → IsAnswerOfAct a o
idle_answer a (said.Queued req) idle = absurd idle
idle_answer a (said.Sent req number) idle = absurd idle
idle_answer a (said.Took number e) idle = absurd idle
idle_answer a _ idle = tt

-- a record more, of an act and an outcome
record Adds (w : World) (a : Act) (v : World) : Type 0 where
  new : Record
  records : v.records ≡ w.records ++ new ∷ []
  asked : new.event.act ≡ a
  answer : IsAnswerOfAct a new.outcome

adds_by : (rules : Rules) (w : World) (e : Event) (v : World) → EventHappens w e v → Facts rules w → (v.nodes (acting_name w e)).sends.last ≤ greatest_number
    → Adds w e.act v
unfolding world_with_record world_with_step
adds_by rules w e v (idles o idle) f last = record { new = record_of w e o []; records = refl; asked = refl; answer = idle_answer e.act o idle }
adds_by rules w e v (stops runs) f last = record { new = record_of w e said.Stopped []; records = refl; asked = refl; answer = tt }
adds_by rules w e v (returns place is gone more) f last = record { new = record_of w e _ []; records = refl; asked = refl; answer = tt }
adds_by rules w e v (steps c s runs cause effect) f last = record {
  new = record_of w e s.outcome s.letters;
  records = refl;
  asked = refl;
  answer = answered rules w (acting_name w e) e.act c s.node s.outcome f (f.low e) (rw (number_equals_itself (acting_name w e)) at last) cause effect.changes effect.answer;
}

-- ---- runs

-- what is so of no events, and of one more, is so of all
pub property_of_prefix_goes_on : (P : List Event → Type 0) → ((es : List Event) (e : Event) → P es → P (es ++ e ∷ [])) → (front es : List Event) → P front → P (front ++ es)
property_of_prefix_goes_on P more front [] h = subst P (sym (append-nil front)) h
property_of_prefix_goes_on P more front (e ∷ es) h = subst P (append_assoc front (e ∷ []) es) (property_of_prefix_goes_on P more (front ++ e ∷ []) es (more front e h))

all_front : (P : Event → Type 0) (xs ys : List Event) → All P (xs ++ ys) → All P xs
all_front P [] ys h = All-nil P
all_front P (x ∷ xs) ys h = All-cons P x xs (All-head P x (xs ++ ys) h) (all_front P xs ys (All-tail P x (xs ++ ys) h))

all_last : (P : Event → Type 0) (xs : List Event) (y : Event) → All P (xs ++ y ∷ []) → P y
all_last P [] y h = All-head P y [] h
all_last P (x ∷ xs) y h = all_last P xs y (All-tail P x (xs ++ y ∷ []) h)

numbers_front : (w : World) (es : List Event) (e : Event) → HaveNumbers w (es ++ e ∷ []) → HaveNumbers w es × HasNumbersAt (world_after_events w es) e
unfolding world_after_events HaveNumbers
numbers_front w [] e h = (tt, h.0)
numbers_front w (x ∷ es) e h = let k = numbers_front (happens w x) es e h.1 in ((h.0, k.0), k.1)

range_front : (rules : Rules) (es : List Event) (e : Event) → StaysInRange rules (es ++ e ∷ []) → StaysInRange rules es
range_front rules es e range = record {
  founds = range.founds;
  bodies = all_front (λ (x : Event). BodyIsWithinLimit x.act) es (e ∷ []) range.bodies;
  numbers = (numbers_front (start rules) es e range.numbers).0;
}

facts : (rules : Rules) (es : List Event) → StaysInRange rules es → All IsSound (run rules es).records → Facts rules (run rules es)
facts rules es range sound =
    let said = run_names_are_small rules es range.founds in
    record {
      held = entries_of_run_within_limits rules es range;
      named = λ name low. (said.each name low).entries;
      sent = runs_keep_what_events_keep WorldBodiesWereSent events_keep_world_bodies_sent (start rules) es (start_has_all_bodies_sent rules);
      ballots = ballots_are_of_own_names rules es range.founds;
      sends = sends_of_runs_are_settled rules es;
      sound = sound;
      low = λ e. (let least = said.base.least (place_of_name e.node) in let most = said.base.most (place_of_name e.node) in omega arith);
    }

-- the record of an event more is sound
record_sound : (rules : Rules) (es : List Event) (e : Event) → StaysInRange rules es → BodyIsWithinLimit e.act → HasNumbersAt (run rules es) e → AsksBytes e.act
    → All IsSound (run rules es).records → All IsSound (happens (run rules es) e).records
record_sound rules es e range body numbers asks sound =
    let w = run rules es in
    let v = happens w e in
    let f = facts rules es range sound in
    let sends = ((event_stays_within_numbers rules w e body numbers f.held.limited).low.each (acting_name w e)).sends in
    let requests = all_bounds_are_numbers.requests in
    let adds = adds_by rules w e v (events_have_effects w e) f (omega arith) in
    let told = event_tells_its_life w e in
    let named = run_has_names rules es range.founds in
    let same : w.records ++ adds.new ∷ [] ≡ w.records ++ told.new ∷ [] = sym adds.records ∙ told.records in
    let one : adds.new ≡ told.new = last_same w.records adds.new told.new same in
    let act : adds.new.event.act ≡ e.act = adds.asked in
    let back = told.back named.most in
    subst (All IsSound) (sym adds.records) (All-append IsSound w.records (adds.new ∷ []) sound (All-cons IsSound adds.new [] (record {
      asks = subst AsksBytes (sym act) asks;
      answer = subst (λ a. IsAnswerOfAct a adds.new.outcome) (sym act) adds.answer;
      back = subst (λ (r : Record). ReturnAnswerHasLife r.event.act r.outcome) (sym one)
          (subst (λ (x : Event). ReturnAnswerHasLife x.act told.new.outcome) (sym told.event) back);
    }) (All-nil IsSound)))
  where
    last_same : (xs : List Record) (x y : Record) → xs ++ x ∷ [] ≡ xs ++ y ∷ [] → x ≡ y
    last_same [] x y is = cc
    last_same (z ∷ zs) x y is = last_same zs x y (let rest : zs ++ x ∷ [] ≡ zs ++ y ∷ [] = cc in rest)

abbrev SoundIf : Rules → List Event → Type 0
SoundIf rules es = StaysInRange rules es → All (λ (e : Event). AsksBytes e.act) es → All IsSound (run rules es).records

sound_more : (rules : Rules) (es : List Event) (e : Event) → SoundIf rules es → SoundIf rules (es ++ e ∷ [])
sound_more rules es e h range asks =
    let before = range_front rules es e range in
    let sound = h before (all_front (λ (x : Event). AsksBytes x.act) es (e ∷ []) asks) in
    subst (λ (w : World). All IsSound w.records) (sym (run_of_pushed_event rules es e))
    (record_sound rules es e before (all_last (λ (x : Event). BodyIsWithinLimit x.act) es e range.bodies) (numbers_front (start rules) es e range.numbers).1
    (all_last (λ (x : Event). AsksBytes x.act) es e asks) sound)

all_sound : (rules : Rules) (events : List Event) → SoundIf rules events
unfolding world_after_events
all_sound rules events = property_of_prefix_goes_on (SoundIf rules) (sound_more rules) [] events (λ range asks. All-nil IsSound)

pub records_are_sound : RecordsAreSound
records_are_sound rules events range asks =
    let sound = all_sound rules events range asks in
    let w = run rules events in
    let f = facts rules events range sound in
    record {
      records = sound;
      group = all_sayable w.records bounds_of_all_numbers w.group all_bounds_are_numbers sound f.held.group (run_names_are_small rules events range.founds).group f.sent.all.list;
    }

-- ---- requests in turn

-- a name was given so many requests
record Turns (w : World) : Type 0 where
  each : (name : ℕ) → requests_given name w.records ≡ range_with_len 1 (w.nodes name).sends.last

given_more : (w : World) (name : ℕ) (r : Record) → requests_given name (w.records ++ r ∷ []) ≡ requests_given name w.records ++ queued_by name r
given_more w name r =
    flat_map-append (queued_by name) w.records (r ∷ []) ∙ ap (λ l. requests_given name w.records ++ l) (append-nil (queued_by name r))

-- a record without a request
none_given : (w v : World) (r : Record) → v.records ≡ w.records ++ r ∷ [] → queued_in r.outcome ≡ [] → v.nodes ≡ w.nodes → Turns w → Turns v
none_given w v r records none nodes h = record {
  each = λ name.
      let nothing : queued_by name r ≡ [] = split_on_bool (acting_name_of_record r == name) (λ t. rw t none) (λ f. rw f refl) in
      ap (requests_given name) records ∙ given_more w name r ∙ ap (λ l. requests_given name w.records ++ l) nothing
      ∙ append-nil (requests_given name w.records) ∙ h.each name ∙ ap (λ (ns : ℕ → Node). range_with_len 1 (ns name).sends.last) (sym nodes);
}

idle_none : (o : Outcome) → IsIdle o → queued_in o ≡ []
idle_none (said.Queued req) idle = absurd idle
idle_none _ idle = refl

-- what a step queues
record Queues (m n : Node) (o : Outcome) : Type 0 where
  last : range_with_len 1 n.sends.last ≡ range_with_len 1 m.sends.last ++ queued_in o

range_more : (a n : ℕ) → range_with_len a (n + 1) ≡ range_with_len a n ++ (a + n) ∷ []
range_more a zero = ap (λ k. k ∷ []) (omega arith)
range_more a (suc n) =
    let long : suc n + 1 ≡ suc (n + 1) = omega arith in
    let same : a + 1 + n ≡ a + suc n = omega arith in
    ap (range_with_len a) long ∙ ap (λ l. a ∷ l) (range_more (a + 1) n) ∙ ap (λ k. (a ∷ range_with_len (a + 1) n) ++ k ∷ []) same

queues_by : (w : World) (name : ℕ) (c : Cause) (n : Node) (o : Outcome) → BallotsAreSound w → Changes c o (w.nodes name) n → OutcomeTells (w.nodes name) c n o
    → Queues (w.nodes name) n o
queues_by w name c n (said.Queued req) ballots changes answer = either answer
    (λ q. record {
      last = ap (range_with_len 1) q.more ∙ range_more 1 (w.nodes name).sends.last
          ∙ ap (λ k. range_with_len 1 (w.nodes name).sends.last ++ k ∷ []) (let next = q.next in omega arith);
    })
    (λ ask. absurd (answered_ask_is_of_ballot w name c (said.Queued req) ballots ask))
queues_by w name c n o ballots changes answer = either (last_by (w.nodes name) n changes)
    (λ same. record { last = ap (range_with_len 1) same ∙ sym (append-nil (range_with_len 1 (w.nodes name).sends.last)) })
    (λ sends. absurd (let is = sends.3 in cc))

turned_step : (w : World) (e : Event) (c : Cause) (s : StepResult) → BallotsAreSound w → Effect (w.nodes (acting_name w e)) c s → current w (place_of_name e.node) ≡ acting_name w e
    → Turns w → Turns (world_with_step w e (acting_name w e) s)
unfolding world_with_step
turned_step w e c s ballots effect who h =
    let r = record_of w e s.outcome s.letters in
    let queue = queues_by w (acting_name w e) c s.node s.outcome ballots effect.changes effect.answer in
    record {
      each = λ name. split_on_bool (name == acting_name w e)
          (λ t.
          let is : acting_name w e ≡ name = grind (arith, nat_tests) in
          let its : (acting_name_of_record r == name) ≡ true = grind (arith, nat_tests) in
          let given : queued_by name r ≡ queued_in s.outcome = rw its refl in
          rw t (given_more w name r ∙ ap (λ l. requests_given name w.records ++ l) given ∙ ap (λ l. l ++ queued_in s.outcome) (h.each name)
          ∙ ap (λ (k : ℕ). range_with_len 1 (w.nodes k).sends.last ++ queued_in s.outcome) (sym is) ∙ sym queue.last))
          (λ f.
          let its : (acting_name_of_record r == name) ≡ false = grind (arith, nat_tests) in
          let given : queued_by name r ≡ [] = rw its refl in
          rw f (given_more w name r ∙ ap (λ l. requests_given name w.records ++ l) given ∙ append-nil (requests_given name w.records) ∙ h.each name));
    }

turned : (w : World) (e : Event) (v : World) → BallotsAreSound w → EventHappens w e v → Turns w → Turns v
unfolding world_with_record
turned w e v ballots (idles o idle) h = none_given w v (record_of w e o []) refl (idle_none o idle) refl h
turned w e v ballots (stops runs) h = none_given w v (record_of w e said.Stopped []) refl refl refl h
turned w e v ballots (returns place is gone more) h = none_given w v (record_of w e _ []) refl refl refl h
turned w e v ballots (steps c s runs cause effect) h = turned_step w e c s ballots effect refl h

abbrev TurnsIf : Rules → List Event → Type 0
TurnsIf rules es = Turns (run rules es)

turn_more : (rules : Rules) → MayFound rules → (es : List Event) (e : Event) → TurnsIf rules es → TurnsIf rules (es ++ e ∷ [])
turn_more rules may es e h =
    subst Turns (sym (run_of_pushed_event rules es e))
    (turned (run rules es) e (happens (run rules es) e) (ballots_are_of_own_names rules es may) (events_have_effects (run rules es) e) h)

start_last : (rules : Rules) (name : ℕ) → ((start rules).nodes name).sends.last ≡ 0
start_last rules name = first_node_has_property rules (λ (m : Node). m.sends.last ≡ 0) name refl refl

start_turns : (rules : Rules) → Turns (start rules)
start_turns rules = record { each = λ name. ap (range_with_len 1) (sym (start_last rules name)) }

pub requests_in_turn : RecordedRequestsInTurn
unfolding world_after_events
requests_in_turn rules events may name =
    let h = (property_of_prefix_goes_on (TurnsIf rules) (turn_more rules may) [] events (start_turns rules)).each name in
    let last = ((run rules events).nodes name).sends.last in
    let many : length (requests_given name (run rules events).records) ≡ last = ap length h ∙ length-range_with_len 1 last in
    h ∙ ap (range_with_len 1) (sym many)
