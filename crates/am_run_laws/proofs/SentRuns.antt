-- What every run keeps.
use Rattle.am_run_laws.proofs.PromisedWords.{◌≡◌, ℕ, ◌-◌, ◌<◌, ◌==◌, List, [], ◌∷◌, ◌++◌, length, take, slice_get, Some, refl, subst, arith, All, slice_get_within}
use Rattle.am_run_laws.proofs.PromisedWords.{length-take, nat_tests, All-nil, All-cons, All-append, All-take, All-drop, All-weaker, Entry, Data, NodeEvent, Rules}
use Rattle.am_run_laws.proofs.PromisedWords.{has, Letter, Act, Event, Record, Node, view, map_with_value, founder, stranger_node, founders_entry, StepResult, World, start, record_of}
use Rattle.am_run_laws.proofs.PromisedWords.{list_after_step, world_with_record, world_with_step, run, packet_heard_by_act, split_on_bool, Cause, calls, hears, refuses, acting_name, IsCall, IsCause, steps}
use Rattle.am_run_laws.proofs.PromisedWords.{slice_get_of_front, slice_get_of_pushed, all_gives_item_at, EventsKeep, runs_keep_what_events_keep, EachDataWasSent, one_record_each, run_begins_longer_run}
use Rattle.am_step_laws.specs.Events as event
use Rattle.am_run_laws.proofs.SentKept.{WasSentByRecord, EntryWasSent, PacketBodiesWereSent, LetterBodiesWereSent, NodeBodiesWereSent, entry_sent_in_more_records, letter_sent_in_more_records, bodies_sent_in_more_records}
use Rattle.am_run_laws.proofs.SentChanges.{CauseCarriesSentBodies, StepCarriesSentBodies, step_carries_sent_bodies}

-- ---- a world

-- of these records each name's node keeps this, and so do the letters and the group list
pub record AllPartsWereSent (all : List Record) (nodes : ℕ → Node) (letters : List Letter) (group : List Entry) : Type 0 where
  pub each : (name : ℕ) → NodeBodiesWereSent all name (nodes name)
  pub sent : All (LetterBodiesWereSent all) letters
  pub list : All (EntryWasSent all) group

pub record WorldBodiesWereSent (w : World) : Type 0 where
  pub all : AllPartsWereSent w.records w.nodes w.letters w.group

-- more records say no less
pub all_sent_in_longer_records : (all more : List Record) (nodes : ℕ → Node) (letters : List Letter) (group : List Entry) → AllPartsWereSent all nodes letters group
    → AllPartsWereSent (all ++ more) nodes letters group
all_sent_in_longer_records all more nodes letters group h = record {
  each = λ name. bodies_sent_in_more_records all more name (nodes name) (h.each name);
  sent = All-weaker (LetterBodiesWereSent all) (LetterBodiesWereSent (all ++ more)) (letter_sent_in_more_records all more) letters h.sent;
  list = All-weaker (EntryWasSent all) (EntryWasSent (all ++ more)) (entry_sent_in_more_records all more) group h.list;
}

-- ---- a step

set_kept : (all : List Record) (nodes : ℕ → Node) (name : ℕ) (n : Node) → ((other : ℕ) → NodeBodiesWereSent all other (nodes other)) → NodeBodiesWereSent all name n → (other : ℕ)
    → NodeBodiesWereSent all other (map_with_value nodes name n other)
set_kept all nodes name n h k other = split_on_bool (other == name)
    (λ t. let is : name ≡ other = grind (arith, nat_tests) in rw t (subst (λ i. NodeBodiesWereSent all i n) is k))
    (λ f. rw f (h other))

-- what each entry of a group list and of a node is, each of the list is after the node's step
pub group_entries_keep_after_step : (P : Entry → Type 0) (group : List Entry) (m : Node) → All P group → All P m.core.log.entries → All P (list_after_step group m)
group_entries_keep_after_step P group m h k = split_on_bool ((view m).by == m.core.who)
    (λ t. rw t (All-append P group _ h (All-take P (m.core.acc - length group) _ (All-drop P (length group - m.core.log.start) m.core.log.entries k))))
    (λ f. rw f h)

-- the records with that of a step
abbrev pub records_after_step : World → Event → StepResult → List Record
records_after_step w e s = w.records ++ record_of w e s.outcome s.letters ∷ []

-- a step of a name
sent_stepped : (w : World) (e : Event) (name : ℕ) (s : StepResult) → WorldBodiesWereSent w → StepCarriesSentBodies (records_after_step w e s) name s → WorldBodiesWereSent (world_with_step w e name s)
unfolding world_with_step
sent_stepped w e name s h k =
    let all = records_after_step w e s in
    let old = all_sent_in_longer_records w.records (record_of w e s.outcome s.letters ∷ []) w.nodes w.letters w.group h.all in
    assumption (
      set_kept all w.nodes name s.node old.each k.node,
      All-append (LetterBodiesWereSent all) w.letters s.letters old.sent k.letters,
      group_entries_keep_after_step (EntryWasSent all) w.group s.node old.list k.node.entries,
    )

-- ---- events

-- a Send that is answered as queued stands among the records
called_sent : (w : World) (e : Event) (s : StepResult) (ev : NodeEvent) (a : Act) → e.act ≡ a → IsCall w a ev
    → CauseCarriesSentBodies (records_after_step w e s) (acting_name w e) s.outcome (calls ev)
called_sent w e s ev a is (event.send body) = λ req answered. record {
  index = length w.records;
  send = record_of w e s.outcome s.letters;
  there = slice_get_of_pushed w.records (record_of w e s.outcome s.letters);
  is = record { by = refl; asked = is; answered = answered };
}
called_sent w e s ev a is _ = tt

pub cause_of_step_was_sent : (w : World) (e : Event) (s : StepResult) (c : Cause) → WorldBodiesWereSent w → IsCause w (acting_name w e) e.act c
    → CauseCarriesSentBodies (records_after_step w e s) (acting_name w e) s.outcome c
cause_of_step_was_sent w e s (calls ev) h is = called_sent w e s ev e.act refl is
cause_of_step_was_sent w e s (hears p) h is =
    let sent = all_gives_item_at (LetterBodiesWereSent w.records) w.letters (packet_heard_by_act e.act) is.letter h.all.sent is.there in
    subst (PacketBodiesWereSent (records_after_step w e s)) is.is (letter_sent_in_more_records w.records (record_of w e s.outcome s.letters ∷ []) is.letter sent)
cause_of_step_was_sent w e s refuses h is = tt

pub events_keep_world_bodies_sent : EventsKeep WorldBodiesWereSent
unfolding world_with_record
events_keep_world_bodies_sent w e v (steps c s runs cause effect) h =
    let old = all_sent_in_longer_records w.records (record_of w e s.outcome s.letters ∷ []) w.nodes w.letters w.group h.all in
    sent_stepped w e (acting_name w e) s h (step_carries_sent_bodies (records_after_step w e s) (acting_name w e) c (w.nodes (acting_name w e)) s effect (cause_of_step_was_sent w e s c h cause)
    (old.each (acting_name w e)))
events_keep_world_bodies_sent w e v _ h = record { all = all_sent_in_longer_records w.records _ w.nodes w.letters w.group h.all }

-- ---- the start

-- the founders' View alone
view_sent : (rules : Rules) → All (EntryWasSent []) (founders_entry rules ∷ [])
view_sent rules = All-cons (EntryWasSent []) (founders_entry rules) [] tt (All-nil (EntryWasSent []))

kept_founder : (rules : Rules) (name : ℕ) → NodeBodiesWereSent [] name (founder rules name)
kept_founder rules name = record { name = refl; entries = view_sent rules; sends = All-nil _; bodies = All-nil _ }

kept_stranger : (rules : Rules) (name : ℕ) → NodeBodiesWereSent [] name (stranger_node rules name)
kept_stranger rules name = record { name = refl; entries = All-nil _; sends = All-nil _; bodies = All-nil _ }

pub start_has_all_bodies_sent : (rules : Rules) → WorldBodiesWereSent (start rules)
start_has_all_bodies_sent rules = record {
  all = record {
    each = λ name. split_on_bool (has rules.founders name) (λ t. rw t (kept_founder rules name)) (λ f. rw f (kept_stranger rules name));
    sent = All-nil _;
    list = view_sent rules;
  };
}

-- a record of a run's first events is one of them
before : (rules : Rules) (events : List Event) (moment k : ℕ) (r : Record) → slice_get (run rules (take moment events)).records k ≡ Some r → k < moment
before rules events moment k r at =
    let within = slice_get_within (run rules (take moment events)).records k r at in
    let many = one_record_each rules (take moment events) in
    let few = length-take moment events in
    omega arith

pub bodies_were_sent_in_runs : EachDataWasSent
bodies_were_sent_in_runs rules events founds = record {
  each = λ moment number name req body there.
      let w = run rules (take moment events) in
      let h = runs_keep_what_events_keep WorldBodiesWereSent events_keep_world_bodies_sent (start rules) (take moment events) (start_has_all_bodies_sent rules) in
      let was : WasSentByRecord w.records name req body = all_gives_item_at (EntryWasSent w.records) w.group number (Data name req body) h.all.list there in
      let begins = run_begins_longer_run rules events moment in
      let now : slice_get (run rules events).records was.index ≡ Some was.send =
      rw begins.records.1 (slice_get_of_front w.records begins.records.0 was.index was.send was.there) in
      (was.index, was.send, before rules events moment was.index was.send was.there, now, was.is);
}
