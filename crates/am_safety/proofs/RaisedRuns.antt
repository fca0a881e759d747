-- In each run no View has less resilience than the founding, whoever stops.
use Rattle.am_lawful_runs.proofs.Words.{Record, OutcomeTells, IsIdle, actor_is_below_256, sequencer_is_member, ballots_are_of_own_names}
use Rattle.am_step_laws.proofs.Words.{◌≡◌, inl, ℕ, ◌<◌, ◌≤◌, ◌==◌, true, List, [], ◌∷◌, ◌++◌, Some, slice_get, refl, sym, ap, ◌∙◌, subst, arith, nat_tests, All}
use Rattle.am_step_laws.proofs.Words.{All-nil, All-cons, All-append, All-weaker, split_on_bool, Entry, Image, Outcome, Stamp, Rules, MayFound, Packet, Event, Node, Ballot}
use Rattle.am_step_laws.proofs.Words.{top, image_of_node, has_log_by_status, founder, stranger_node, founders_entry, is_view, BallotVerdict, StepResult, World, start, run, world_after_events, happens}
use Rattle.am_step_laws.proofs.Words.{world_with_record, world_with_step, packet_heard_by_act, Cause, hears, LooksAtBallot, finds_itself_out, Change, refreshes, settles, begins_list, looks}
use Rattle.am_step_laws.proofs.Words.{closes, push_entry, Leave, Says, welcome, piece, result, LetterSays, Effect, acting_name, IsCause, EventHappens, idles, steps, item_of_index_has_property}
use Rattle.am_step_laws.proofs.Words.{all_gives_item_at, number_equals_itself, changes_keep_property, EventsKeep, StepsKeepLaw, HasSameWorldParts, events_keep_by_steps, runs_keep_what_events_keep, first_node_has_property, refresh_rests_with_list, end_refresh_rests_with_list}
use Rattle.am_step_laws.proofs.Words.{settle_changes_only_sends, events_have_effects, member_status_has_log}
use Rattle.am_refinement.proofs.Words.{either}
use Rattle.am_base.specs.declared.outcome.Outcome.TheVariants as said
use Rattle.am_step_laws.proofs.Numbers.RunCounts.{heard_packet_was_sent, set_node_keeps_property}
use Rattle.am_step_laws.proofs.Trimming.Trims.{TrimsNoMoreThanTaken}
use Rattle.am_step_laws.proofs.Trimming.TakenRuns.{WorldTrimsOnlyTaken, events_trim_only_taken, start_trims_only_taken}
use Rattle.am_run_laws.proofs.SentRuns.{group_entries_keep_after_step}
use Rattle.am_run_laws.specs.Ballots.{BallotsAreSound}
use Rattle.am_safety.specs.Resiliences.{IsRaised, GivesRaised, GaveRaised, FirstIsView, ListRaised, NodeRaised, PacketRaised, LetterRaised, ResiliencesHold}
use Rattle.am_safety.proofs.Raised.{told_resilience_ge_founding, image_at_base_is_raised, empty_log_tells_blank, acting_node_has_nonempty_list, sequencer_node_acts, CauseRaisesResilience, node_is_raised_by_change}
use Rattle.am_safety.proofs.Sound.{entry_at_has_property, answered_ask_is_of_ballot, property_of_prefix_goes_on}
use Rattle.am_lawful_runs.proofs.OneStep.{run_of_pushed_event}

-- ---- letters

look_start : (m : Node) (b : Ballot) (v : BallotVerdict) → LooksAtBallot m b v → v.node.core.log.start ≡ m.core.log.start
look_start m b v (finds_itself_out x) = refl
look_start m b v _ = refl

-- who serves a Fetch begins no list
start_stays : {c : Cause} {o : Outcome} (s : ℕ) (v : Stamp) (stored : ℕ) → c ≡ hears (Packet.Fetch s v stored) → (m n : Node) → Change c o m n
    → n.core.log.start ≡ m.core.log.start
start_stays s v stored asked m n refreshes = ap (λ l. l.start) (refresh_rests_with_list m).log
start_stays s v stored asked m n settles = ap (λ (x : Node). x.core.log.start) (settle_changes_only_sends m)
start_stays s v stored asked m n (begins_list from u base join image is o may) =
    absurd (let z : hears (Packet.Welcome from u base join image) ≡ hears (Packet.Fetch s v stored) = sym is ∙ asked in cc)
start_stays s v stored asked m n (looks b verdict over why look is) = look_start m b verdict look
start_stays s v stored asked m n (closes leads leaves alone room) = ap (λ l. l.start) (end_refresh_rests_with_list (push_entry m (Leave m.core.who))).log
start_stays s v stored asked m n _ = refl

-- what is so of the sender of letters
record Tells (rules : Rules) (c : Cause) (m n : Node) : Type 0 where
  list : ListRaised rules n.core.log
  promised : has_log_by_status n.status ≡ true → 0 < n.core.promise.round
  kept : n.core.log.start ≤ n.core.base
  fetched : (s : ℕ) (v : Stamp) (stored : ℕ) → c ≡ hears (Packet.Fetch s v stored) → n.core.log.start ≤ m.core.base

first_is : (es : List Entry) (e : Entry) → FirstIsView es → slice_get es 0 ≡ Some e → is_view e ≡ true
first_is [] e h is = absurd (cc)
first_is (x ∷ xs) e h is = let same : x ≡ e = cc in ap is_view (sym same) ∙ h

says_raised : (rules : Rules) (m n : Node) (c : Cause) (to : List ℕ) (p : Packet) → Tells rules c m n → Says m c n to p → PacketRaised rules p
says_raised rules m n c to p h (welcome s leads may) = (
  h.promised (member_status_has_log n.status (sequencer_is_member n leads)),
  image_at_base_is_raised rules n.core.log n.core.base h.list (acting_node_has_nonempty_list rules n (sequencer_node_acts n leads) h.list h.promised) h.kept,
)
says_raised rules m n c to p h (piece s v stored number e is may at) = (
  item_of_index_has_property (IsRaised rules) n.core.log.entries at.index e h.list.entries at.there,
  λ one.
      let there = at.at (h.fetched s v stored is) in
      let none : n.core.log.start ≡ 0 = omega arith in
      let first : at.index ≡ 0 = omega arith in
      first_is n.core.log.entries e (h.list.first none) (subst (λ i. slice_get n.core.log.entries i ≡ Some e) first at.there),
)
says_raised rules m n c to p h (result _ number names is viewed tells) = λ some.
    told_resilience_ge_founding rules n.core.log h.list (split_on_bool (top n == 0)
    (λ t. let empty : top n ≡ 0 = grind (arith, nat_tests) in
    let none : (image_of_node n).view_number ≡ 0 = ap (λ (i : Image). i.view_number) (empty_log_tells_blank rules n.core.log h.list empty) in
    absurd (omega arith))
    (λ f. grind (arith, nat_tests)))
says_raised rules m n c to p h _ = tt

-- ---- worlds

record AllRaised (rules : Rules) (w : World) : Type 0 where
  base : WorldTrimsOnlyTaken rules w
  each : (name : ℕ) → NodeRaised rules (w.nodes name)
  letters : All (LetterRaised rules) w.letters
  group : All (IsRaised rules) w.group

heard_raised : (rules : Rules) (w : World) (e : Event) (c : Cause) → AllRaised rules w → IsCause w (acting_name w e) e.act c → CauseRaisesResilience rules c
heard_raised rules w e c h cause p is =
    let was = heard_packet_was_sent w e c p is cause in
    subst (PacketRaised rules) was.is (all_gives_item_at (LetterRaised rules) w.letters (packet_heard_by_act e.act) was.letter h.letters was.there)

-- the sender is the node after the step, but for its status
tells_by : (rules : Rules) (c : Cause) (m : Node) (s : StepResult) → NodeRaised rules s.node → TrimsNoMoreThanTaken m → TrimsNoMoreThanTaken s.node
    → (e : Effect m c s) → Tells rules c m e.sender
tells_by rules c m s node before after e = record {
  list = subst (λ (x : Node). ListRaised rules x.core.log) e.is node.list;
  promised = λ t. subst (λ (x : Node). 0 < x.core.promise.round) e.is (node.promised (either e.stays (λ same. ap has_log_by_status same ∙ t) (λ gone. ap has_log_by_status gone)));
  kept = subst (λ (x : Node). x.core.log.start ≤ x.core.base) e.is after.fronts.kept;
  fetched = λ from v stored asked.
      let stays : s.node.core.log.start ≡ m.core.log.start =
      changes_keep_property (λ (x : Node). x.core.log.start ≡ m.core.log.start) (λ x y z k. start_stays from v stored asked x y z ∙ k) e.changes refl in
      let same : s.node.core.log.start ≡ e.sender.core.log.start = ap (λ (x : Node). x.core.log.start) e.is in
      omega arith;
}

raised_step : (rules : Rules) → StepsKeepLaw (WorldTrimsOnlyTaken rules) (AllRaised rules)
unfolding world_with_step
raised_step rules w e c s cause effect base h =
    let name = acting_name w e in
    let m = w.nodes name in
    let few = actor_is_below_256 rules w e h.base.blanks.base.named in
    let node = changes_keep_property (NodeRaised rules) (node_is_raised_by_change rules (heard_raised rules w e c h cause)) effect.changes (h.each name) in
    let own : TrimsNoMoreThanTaken s.node = rw (number_equals_itself name) at (base.each name few) in
    let tells = tells_by rules c m s node (h.base.each name few) own effect in
    record {
      base = base;
      each = set_node_keeps_property (NodeRaised rules) w.nodes name s.node h.each node;
      letters = All-append (LetterRaised rules) w.letters s.letters h.letters
          (All-weaker (LetterSays m c effect.sender) (LetterRaised rules)
          (λ l x. says_raised rules m effect.sender c l.to l.packet tells x.says) s.letters effect.letters);
      group = group_entries_keep_after_step (IsRaised rules) w.group s.node h.group node.list.entries;
    }

raised_same : (rules : Rules) (w v : World) → HasSameWorldParts w v → WorldTrimsOnlyTaken rules v → AllRaised rules w → AllRaised rules v
raised_same rules w v same base h = record { base = base; each = rw same.nodes h.each; letters = rw same.letters h.letters; group = rw same.group h.group }

each_raised : (rules : Rules) → EventsKeep (AllRaised rules)
each_raised rules = events_keep_by_steps (WorldTrimsOnlyTaken rules) (AllRaised rules) (events_trim_only_taken rules) (λ w h. h.base) (raised_step rules) (raised_same rules)

-- ---- the start

view_raised : (rules : Rules) → All (IsRaised rules) (founders_entry rules ∷ [])
view_raised rules = All-cons (IsRaised rules) (founders_entry rules) [] (omega arith) (All-nil (IsRaised rules))

founder_raised : (rules : Rules) (name : ℕ) → NodeRaised rules (founder rules name)
founder_raised rules name = record {
  list = record { begins = inl (refl, refl); first = λ start. refl; entries = view_raised rules };
  promised = λ t. omega arith;
  balloted = λ b is. absurd (cc);
}

stranger_raised : (rules : Rules) (name : ℕ) → NodeRaised rules (stranger_node rules name)
stranger_raised rules name = record {
  list = record { begins = inl (refl, refl); first = λ start. tt; entries = All-nil (IsRaised rules) };
  promised = λ t. absurd (cc);
  balloted = λ b is. absurd (cc);
}

start_raised : (rules : Rules) → MayFound rules → AllRaised rules (start rules)
start_raised rules may = record {
  base = start_trims_only_taken rules may;
  each = λ name. first_node_has_property rules (NodeRaised rules) name (founder_raised rules name) (stranger_raised rules name);
  letters = All-nil (LetterRaised rules);
  group = view_raised rules;
}

run_raised : (rules : Rules) (events : List Event) → MayFound rules → AllRaised rules (run rules events)
run_raised rules events may = runs_keep_what_events_keep (AllRaised rules) (each_raised rules) (start rules) events (start_raised rules may)

-- ---- what is given out

answer_raised : (rules : Rules) (w : World) (name : ℕ) (c : Cause) (n : Node) (o : Outcome) → ListRaised rules (w.nodes name).core.log → BallotsAreSound w
    → OutcomeTells (w.nodes name) c n o → GivesRaised rules o
answer_raised rules w name c n (said.Took number e) list ballots answer = either answer
    (λ t. (entry_at_has_property (IsRaised rules) (w.nodes name).core.log number e list.entries t.there).0)
    (λ ask. absurd (answered_ask_is_of_ballot w name c (said.Took number e) ballots ask))
answer_raised rules w name c n _ list ballots answer = tt

idle_raised : (rules : Rules) (o : Outcome) → IsIdle o → GivesRaised rules o
idle_raised rules (said.Took number e) idle = absurd idle
idle_raised rules _ idle = tt

with_one : (rules : Rules) (records : List Record) (r : Record) → GaveRaised rules r → All (GaveRaised rules) records
    → All (GaveRaised rules) (records ++ r ∷ [])
with_one rules records r one all = All-append (GaveRaised rules) records (r ∷ []) all (All-cons (GaveRaised rules) r [] one (All-nil (GaveRaised rules)))

given_by : (rules : Rules) (w : World) (e : Event) (v : World) → EventHappens w e v → AllRaised rules w → BallotsAreSound w → All (GaveRaised rules) w.records
    → All (GaveRaised rules) v.records
unfolding world_with_record world_with_step
given_by rules w e v (idles o idle) h ballots all = with_one rules w.records _ (idle_raised rules o idle) all
given_by rules w e v (steps c s runs cause effect) h ballots all =
    with_one rules w.records _ (answer_raised rules w (acting_name w e) c s.node s.outcome (h.each (acting_name w e)).list ballots effect.answer) all
given_by rules w e v _ h ballots all = with_one rules w.records _ tt all

given_more : (rules : Rules) → MayFound rules → (es : List Event) (e : Event) → All (GaveRaised rules) (run rules es).records
    → All (GaveRaised rules) (run rules (es ++ e ∷ [])).records
given_more rules may es e h =
    let w = run rules es in
    subst (λ (v : World). All (GaveRaised rules) v.records) (sym (run_of_pushed_event rules es e))
    (given_by rules w e (happens w e) (events_have_effects w e) (run_raised rules es may) (ballots_are_of_own_names rules es may) h)

given_raised : (rules : Rules) (events : List Event) → MayFound rules → All (GaveRaised rules) (run rules events).records
unfolding world_after_events
given_raised rules events may =
    property_of_prefix_goes_on (λ es. All (GaveRaised rules) (run rules es).records) (given_more rules may) [] events (All-nil (GaveRaised rules))

pub resiliences_hold : ResiliencesHold
resiliences_hold rules events may =
    let h = run_raised rules events may in
    record { each = h.each; letters = h.letters; group = h.group; given = given_raised rules events may }
