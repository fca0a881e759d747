-- What is known where a step begins: what the run keeps, with the step's record.
use Rattle.am_refinement.proofs.WholeSteps.StepWords.{◌≡◌, either, ℕ, zero, suc, ◌<◌, ◌≤◌, ◌==◌, true, false, List, Some, slice_get, refl, sym, ap, ◌∙◌, subst, arith, All}
use Rattle.am_refinement.proofs.WholeSteps.StepWords.{nat_tests, Stamp, NodeEvent, GiveUp, Rules, MayFound, empty_set_of_names, with_name, has, no_stamp, Packet, Letter, goes_to_any, Act}
use Rattle.am_refinement.proofs.WholeSteps.StepWords.{Event, Record, item_at, key_of_stamp, list_begins_itself, Group, Node, map_with_value, has_departed, StepResult, World, start, is_stopped, run}
use Rattle.am_refinement.proofs.WholeSteps.StepWords.{packet_heard_by_act, split_on_bool, Cause, calls, hears, Effect, acting_name, WasSentTo, IsCall, IsCause, item_of_index_has_property, all_gives_item_at, runs_keep_what_events_keep, stamp_of}
use Rattle.am_refinement.proofs.WholeSteps.StepWords.{actor_is_below_256, number_bounds_hold_in_runs, NotedViewStandsInLog, heard_stamps_have_names, WorldTrimsOnlyTaken, run_trims_only_taken, each_node_trims_only_taken, heard_welcome_image_is_used, bodies_sent_in_more_records, WorldBodiesWereSent}
use Rattle.am_refinement.proofs.WholeSteps.StepWords.{records_after_step, start_has_all_bodies_sent, StampIsBegun, LetterStampIsSound, NameStands, StandsBut, Stands, within, PacketSays, LetterStampIsBegun, WasBegun}
use Rattle.am_refinement.proofs.WholeSteps.StepWords.{HeardSo, Stepping, Following, letters_stay_as_group_grows, name_stands_with_same_group, views_stand_if_lines_stay, group_grows_to_itself, other_nodes_keep_through_change, key_le_of_stamp_at_most, All-nil}
use Rattle.am_refinement.proofs.WholeSteps.StepWords.{All-append, All-weaker, world_with_record, world_with_step, steps, EventsKeep, ◌||◌, [], ◌∷◌, ◌++◌, list_any, list_any-append}
use Rattle.am_refinement.proofs.WholeSteps.StepWords.{current, idles, stops, returns, NodesHaveTheirNames, events_keep_names, start_has_names, idle_outcome_queues_nothing, ◌+◌, Outcome, Ballot, BallotVerdict, record_of}
use Rattle.am_refinement.proofs.WholeSteps.StepWords.{LooksAtBallot, finds_itself_out, Change, refreshes, settles, looks, queues, collects, closes, OutcomeTells, refresh_rests_with_list}
use Rattle.am_refinement.proofs.WholeSteps.StepWords.{own_leave_rests, settle_changes_only_sends, changes_keep_property, RequestsAreAskedOnce, send_record_keeps_requests_once, other_record_keeps_requests_once, asked_once_means_one_body, SendsOnce}
use Rattle.am_run_laws.proofs.SentRuns.{events_keep_world_bodies_sent}
use Rattle.am_abstract_group.specs.Group as groups
use Rattle.am_step_laws.specs.Events as event
use Rattle.am_step_laws.specs.Letters as letters
use Rattle.am_refinement.proofs.WholeSteps.Owns.{NodesOwnTheirDecisions, run_keeps_own_decisions}
use Rattle.am_base.specs.declared.outcome.Outcome.TheVariants as said
use Rattle.am_base.specs.declared.event.NodeEvent.TheVariants as does
use Rattle.am_node_defs.specs.Sends as own

-- ---- a request of a name stands for one body, in every run

-- ---- a node's last request number only rises

looked_last : (m : Node) (b : Ballot) (v : BallotVerdict) → LooksAtBallot m b v → v.node.sends ≡ m.sends
looked_last m b v (finds_itself_out x) = refl
looked_last m b v _ = refl

last_kept : {c : Cause} {o : Outcome} (low : ℕ) (m n : Node) → Change c o m n → low ≤ m.sends.last → low ≤ n.sends.last
last_kept low m n refreshes h = subst (λ k. low ≤ k) (sym (refresh_rests_with_list m).rests.asked) h
last_kept low m n settles h = subst (λ (x : Node). low ≤ x.sends.last) (sym (settle_changes_only_sends m)) h
last_kept low m n (looks b verdict over why look is) h = (let same = ap (λ (q : own.Sends). q.last) (looked_last m b verdict look) in omega arith)
last_kept low m n (queues body is says member stays few) h = omega arith
last_kept low m n (collects req is) h = split_on_bool (own.has_settled_send req m.sends) (λ t. rw t h) (λ f. rw f h)
last_kept low m n (closes leads leaves alone room) h = subst (λ k. low ≤ k) (sym (own_leave_rests m).asked) h
last_kept low m n _ h = h

-- ---- a step

-- an Ask is no Send
pub ask_is_no_send : (w : World) (name : ℕ) (a : Act) (c : Cause) (body : List ℕ) (round : ℕ) → a ≡ Act.Send body → c ≡ calls (does.Ask round) → IsCause w name a c → ⊥
ask_is_no_send w name a c body round is asked cause =
    let call : IsCall w (Act.Send body) (does.Ask round) = subst (λ x. IsCall w x (does.Ask round)) is (subst (IsCause w name a) asked cause) in
    elim call [ ]

asked_step : (w : World) (e : Event) (c : Cause) (s : StepResult) → RequestsAreAskedOnce w.records w.nodes → IsCause w (acting_name w e) e.act c → Effect (w.nodes (acting_name w e)) c s
    → RequestsAreAskedOnce (records_after_step w e s) (map_with_value w.nodes (acting_name w e) s.node)
asked_step w e c s h cause effect =
    let i = acting_name w e in
    let m = w.nodes i in
    send_record_keeps_requests_once w.records w.nodes i s.node (record_of w e s.outcome s.letters) refl
    (changes_keep_property (λ x. m.sends.last ≤ x.sends.last) (λ x y. last_kept m.sends.last x y) effect.changes (omega arith))
    (λ req body is. either (subst (OutcomeTells m c s.node) is.answered effect.answer)
    (λ x. (let next = x.next in let more = x.more in (next, omega arith)))
    (λ x. absurd (ask_is_no_send w i e.act c body x.round is.asked x.asked cause))) h

-- ---- runs

record AllAsked (w : World) : Type 0 where
  pub asked : RequestsAreAskedOnce w.records w.nodes

asked_next : EventsKeep AllAsked
unfolding world_with_record world_with_step
asked_next w e v (idles o idle) h = record {
  asked = other_record_keeps_requests_once w.records w.nodes (record_of w e o [])
      (λ name req body is. idle_outcome_queues_nothing o req idle is.answered) h.asked;
}
asked_next w e v (stops runs) h = record {
  asked = other_record_keeps_requests_once w.records w.nodes (record_of w e said.Stopped [])
      (λ name req body is. (let z = is.answered in absurd (cc))) h.asked;
}
asked_next w e v (returns place at gone more) h = record {
  asked = other_record_keeps_requests_once w.records w.nodes (record_of w e (said.Returned (w.lives place + 1)) [])
      (λ name req body is. (let z = is.answered in absurd (cc))) h.asked;
}
asked_next w e v (steps c s runs cause effect) h = record { asked = asked_step w e c s h.asked cause effect }

none_asked : (rules : Rules) → AllAsked (start rules)
none_asked rules = record {
  asked = record { low = λ k r name req body there is. absurd (cc); once = λ k l r s name req body other a b is also. absurd (cc) };
}

pub step_sends_each_request_once : (rules : Rules) (events : List Event) (e : Event) (c : Cause) (s : StepResult) → IsCause (run rules events) (acting_name (run rules events) e) e.act c
    → Effect ((run rules events).nodes (acting_name (run rules events) e)) c s → SendsOnce (record (run rules events) { records = records_after_step (run rules events) e s })
step_sends_each_request_once rules events e c s cause effect =
    let w = run rules events in
    let z = asked_step w e c s (runs_keep_what_events_keep AllAsked asked_next (start rules) events (none_asked rules)).asked cause effect in
    λ name req a b p q. (asked_once_means_one_body (records_after_step w e s) (map_with_value w.nodes (acting_name w e) s.node) z).one name req a b
    (record { index = p.index; send = p.done; there = p.there; is = p.is }) (record { index = q.index; send = q.done; there = q.there; is = q.is })

-- ---- who has stopped is one of the 256 names

abbrev AllFew : List ℕ → Type 0
AllFew names = (j : ℕ) → list_any (λ x. x == j) names ≡ true → j < 256

few_more : (names : List ℕ) (name : ℕ) → name < 256 → AllFew names → AllFew (names ++ name ∷ [])
few_more names name few h j t = split_on_bool (list_any (λ x. x == j) names) (h j)
    (λ f. let z : (list_any (λ x. x == j) names || ((name == j) || false)) ≡ true = sym (list_any-append (λ x. x == j) names (name ∷ [])) ∙ t in
    last (rw f at z))
  where
    last : ((name == j) || false) ≡ true → j < 256
    last u = split_on_bool (name == j) (λ same. let is : name ≡ j = grind (arith, nat_tests) in omega arith) (λ f. absurd (let z = rw f at u in cc))

record Few (rules : Rules) (w : World) : Type 0 where
  pub named : NodesHaveTheirNames rules w
  pub few : AllFew w.stopped

few_next : (rules : Rules) → EventsKeep (Few rules)
unfolding world_with_record world_with_step
few_next rules w e v (idles o idle) h = record { named = events_keep_names rules w e v (idles o idle) h.named; few = h.few }
few_next rules w e v (stops runs) h = record {
  named = events_keep_names rules w e v (stops runs) h.named;
  few = few_more w.stopped (acting_name w e)
      (actor_is_below_256 rules w e h.named) h.few;
}
few_next rules w e v (steps c s runs cause effect) h = record { named = events_keep_names rules w e v (steps c s runs cause effect) h.named; few = h.few }
few_next rules w e v (returns place is gone more) h = record {
  named = events_keep_names rules w e v (returns place is gone more) h.named;
  few = split_on_bool (is_stopped w (current w place)) (λ t. rw t h.few) (λ f. rw f (few_more w.stopped (current w place) low h.few));
}
  where
    low : current w place < 256
    low = let a = h.named.least place in let b = h.named.most place in let c = is in omega arith

few_stopped : (rules : Rules) (events : List Event) → MayFound rules → (j : ℕ) → is_stopped (run rules events) j ≡ true → j < 256
few_stopped rules events may =
    (runs_keep_what_events_keep (Few rules) (few_next rules) (start rules) events (record { named = start_has_names rules may; few = λ j t. absurd (cc) })).few

-- ---- which letters go to every life of their places: that of a joiner that asks, in every run

abbrev pub LetterGoesToItsKind : Letter → Type 0
LetterGoesToItsKind letter = letter.any ≡ goes_to_any letter.packet

record AllGo (w : World) : Type 0 where
  letters : All LetterGoesToItsKind w.letters

go_next : EventsKeep AllGo
unfolding world_with_record world_with_step
go_next w e v (steps c s runs cause effect) h = record {
  letters = All-append LetterGoesToItsKind w.letters s.letters h.letters
      (All-weaker (letters.LetterSays (w.nodes (acting_name w e)) c effect.sender) LetterGoesToItsKind (λ l x. x.any) s.letters effect.letters);
}
go_next w e v _ h = record { letters = h.letters }

pub run_letters_go_by_kind : (rules : Rules) (events : List Event) → All LetterGoesToItsKind (run rules events).letters
run_letters_go_by_kind rules events = (runs_keep_what_events_keep AllGo go_next (start rules) events (record { letters = All-nil LetterGoesToItsKind })).letters

-- ---- a world with other records

abbrev pub with_records : World → List Record → World
with_records w records = record w { records = records }

name_recorded : (w : World) (records : List Record) (i : ℕ) (m : Node) (a : groups.ChainNode) → NameStands w i m a → NameStands (with_records w records) i m a
name_recorded w records i m a h = name_stands_with_same_group w (with_records w records) i m a refl refl h

set_is : (f : ℕ → Node) (i j : ℕ) → map_with_value f i (f i) j ≡ f j
set_is f i j = split_on_bool (j == i) (λ t. rw t (let same : i ≡ j = grind (arith, nat_tests) in ap f same)) (λ g. rw g refl)

set_same : (f : ℕ → Node) (i : ℕ) → map_with_value f i (f i) ≡ f
set_same f i = λ k j. set_is f i j k

-- as it is where a name's step begins
pub group_stands_where_step_begins : (w : World) (records : List Record) (name : ℕ) (s : Group) → Stands w s → StandsBut name (within (with_records w records) name (w.nodes name)) s
group_stands_where_step_begins w records name s h = subst (λ f. StandsBut name (record (with_records w records) { nodes = f }) s) (sym (set_same w.nodes name)) (record {
  each = λ i few. name_recorded w records i (w.nodes i) (s.node i) (h.each i few);
  fronts = λ i few other d. h.fronts i few d;
  views = views_stand_if_lines_stay w (with_records w records) s.views refl (λ v. refl) h.views;
  group = h.group;
})

-- ---- what is heard

pub item_at_gives_slice_get : {A : Type 0} (xs : List A) (number : ℕ) (x : A) → item_at xs number ≡ Some x → (k : ℕ) × (slice_get xs k ≡ Some x)
item_at_gives_slice_get xs zero x is = absurd (cc)
item_at_gives_slice_get xs (suc k) x is = (k, is)

none_key : (p : ℕ) → key_of_stamp no_stamp ≤ p
unfolding key_of_stamp
none_key p = omega arith

-- a stamp that was begun by a node was begun by what stands for it
pub begun_stamp_begun_in_group : (w : World) (s : Group) (v : Stamp) → Stands w s → ((i : ℕ) → i < 256 → (w.nodes i).core.promise.by < 256) → v.by < 256 → StampIsBegun w.nodes v
    → WasBegun s v
begun_stamp_begun_in_group w s v h named small is = record {
  small = small;
  begun = subst (λ (u : Stamp). key_of_stamp v ≤ key_of_stamp u) (sym (h.each v.by small).promise) (either is
      (λ z. subst (λ (u : Stamp). key_of_stamp u ≤ key_of_stamp (w.nodes v.by).core.promise) (sym z) (none_key _))
      (λ z. key_le_of_stamp_at_most v (w.nodes v.by).core.promise small (named v.by small) z));
}

-- only a joiner's asking goes to any life, and says nothing
any_says : (w : World) (s : Group) (to : List ℕ) (p : Packet) → goes_to_any p ≡ true → PacketSays w s to p
any_says w s to (Packet.JoinAsk i v) t = tt
any_says w s to _ t = absurd (cc)

only_has : (name : ℕ) → has (with_name empty_set_of_names name) name ≡ true
only_has name =
    grind (arith, nat_tests)

was_sent : (w : World) (name : ℕ) (a : Act) (c : Cause) (p : Packet) → IsCause w name a c → c ≡ hears p → WasSentTo w name a p
was_sent w name a c p cause is = subst (IsCause w name a) is cause

heard_so : (w : World) (s : Group) (name : ℕ) (a : Act) (p : Packet) → ((k : ℕ) (letter : Letter) → slice_get w.letters k ≡ Some letter → LetterStampIsBegun w s letter)
    → All LetterGoesToItsKind w.letters → WasSentTo w name a p → HeardSo w s name p
heard_so w s name a p says goes was =
    let at = item_at_gives_slice_get w.letters (packet_heard_by_act a) was.letter was.there in
    let so = item_of_index_has_property LetterGoesToItsKind w.letters at.0 was.letter goes at.1 in
    let told = subst (PacketSays w s was.letter.to) was.is (says at.0 was.letter at.1) in
    split_on_bool was.letter.any
    (λ t. record {
      to = with_name empty_set_of_names name;
      addressed = only_has name;
      says = any_says w s (with_name empty_set_of_names name) p (ap goes_to_any (sym was.is) ∙ sym so ∙ t);
    })
    (λ f. record { to = was.letter.to; addressed = rw f at was.addressed; says = told })

given_stopped : (w : World) (a : Act) (ev : NodeEvent) (other : ℕ) → ev ≡ GiveUp other → IsCall w a ev → is_stopped w other ≡ true
given_stopped w a ev other is (event.give_up name t) = (let same : name ≡ other = cc in subst (λ k. is_stopped w k ≡ true) same t)
given_stopped w a ev other is _ = absurd (cc)

-- ---- where a step begins

pub run_bodies_were_sent : (rules : Rules) (events : List Event) → WorldBodiesWereSent (run rules events)
run_bodies_were_sent rules events = runs_keep_what_events_keep WorldBodiesWereSent events_keep_world_bodies_sent (start rules) events (start_has_all_bodies_sent rules)

-- the world of a run, the name that an event is of, and its node
pub record ActingNode : Type 0 where
  pub w : World
  pub name : ℕ
  pub m : Node

abbrev pub acting_node_of_event : Rules → List Event → Event → ActingNode
acting_node_of_event rules events e = record {
  w = run rules events;
  name = acting_name (run rules events) e;
  m = (run rules events).nodes (acting_name (run rules events) e);
}

module _ (rules : Rules) (events : List Event) (e : Event) (c : Cause) (step : StepResult) (s : Group) (may : MayFound rules)
    (runs : is_stopped (run rules events) (acting_name (run rules events) e) ≡ false) (cause : IsCause (run rules events) (acting_name (run rules events) e) e.act c)
    (effect : Effect ((run rules events).nodes (acting_name (run rules events) e)) c step) (h : Following rules (run rules events) s)
    (here : has_departed ((run rules events).nodes (acting_name (run rules events) e)).status ≡ false) where
  open acting_node_of_event rules events e use {w, name, m}

  -- with the step's record
  abbrev pub world_with_step_record : World
  world_with_step_record = with_records (run rules events) (records_after_step (run rules events) e step)

  owned : WorldTrimsOnlyTaken rules w
  owned = run_trims_only_taken rules events may

  owns : NodesOwnTheirDecisions rules w
  owns = run_keeps_own_decisions rules events may

  few : name < 256
  few = actor_is_below_256 rules w e owned.blanks.base.named

  begun : (p : Packet) → c ≡ hears p → WasBegun s (stamp_of p)
  begun p is =
      let was = was_sent w name e.act c p cause is in
      let ok = all_gives_item_at (LetterStampIsSound w.nodes) w.letters (packet_heard_by_act e.act) was.letter owns.base.1.letters was.there in
      let names = heard_stamps_have_names rules w e c owned.blanks.base cause in
      begun_stamp_begun_in_group w s (stamp_of p) h.stands (λ i low. (owned.blanks.base.each i low).names.promise_) (names.stamps p is)
      (subst (λ (q : Packet). StampIsBegun w.nodes (stamp_of q)) was.is ok.begun)

  heard : (p : Packet) → c ≡ hears p → HeardSo world_with_step_record s name p
  heard p is =
      let k = heard_so w s name e.act p h.letters (run_letters_go_by_kind rules events) (was_sent w name e.act c p cause is) in
      record { to = k.to; addressed = k.addressed; says = letters_stay_as_group_grows w world_with_step_record s s k.to p (_, refl) (group_grows_to_itself s) k.says }

  pub step_begins_with_known_group : Stepping rules world_with_step_record name c m s
  step_begins_with_known_group = record {
    group = h.group;
    stands = group_stands_where_step_begins w (records_after_step w e step) name s h.stands;
    by = record { few = few; names = heard_stamps_have_names rules w e c owned.blanks.base cause; used = heard_welcome_image_is_used rules w e c owned cause };
    who = owned.blanks.base.named.who name;
    runs = runs;
    stopped = few_stopped rules events may;
    noted = λ k d at. (item_of_index_has_property (NotedViewStandsInLog w.nodes) w.views k d owned.blanks.base.noted at).by;
    along = each_node_trims_only_taken rules w name few owned;
    sent = bodies_sent_in_more_records w.records _ name m ((run_bodies_were_sent rules events).all.each name);
    once = step_sends_each_request_once rules events e c step cause effect;
    begun = begun;
    heard = heard;
    given = λ other is. (let call : IsCause w name e.act (calls (GiveUp other)) = subst (IsCause w name e.act) is cause in
        given_stopped w e.act (GiveUp other) other refl call);
    keeps = other_nodes_keep_through_change w world_with_step_record s s name m (λ j t. t) (group_grows_to_itself s) (h.stands.each name few)
        (name_recorded w (records_after_step w e step) name m (s.node name) (h.stands.each name few))
        (list_begins_itself w.group) (h.nodes name few here);
    accepted = ((number_bounds_hold_in_runs rules events).each name).acc;
  }
