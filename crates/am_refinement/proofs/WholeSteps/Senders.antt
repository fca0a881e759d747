-- What is known of a name that sends, as it is after its step.
use Rattle.am_refinement.proofs.WholeSteps.StepWords.{◌≡◌, ℕ, ◌<◌, ◌≤◌, ◌==◌, true, false, List, slice_get, sym, ap, ◌∙◌, subst, arith, All, list_any, All-nil, Stamp, Data}
use Rattle.am_refinement.proofs.WholeSteps.StepWords.{Rules, log_entry_at, key_of_stamp, Group, IsThere, IsUp, chain_of, GroupKeeps, Node, view, image_of_node, is_sequencer, has_log_by_status, has_departed}
use Rattle.am_refinement.proofs.WholeSteps.StepWords.{World, split_on_bool, Cause, item_of_index_has_property, member_status_has_log, OpenBallotIsPromised, sequencer_is_member, NotedViewStandsInLog, WorldNotesViewsOnce, StampIsBegun, PromisesAndStampsWereBegun, EntryWasSent, Packet}
use Rattle.am_refinement.proofs.WholeSteps.StepWords.{OwnSendWasSent, WasSentByRecord, NameStands, FrontsStand, Stands, WasAsked, AllShown, NamesNamed, OwnDecided, FetchesStand}
use Rattle.am_refinement.proofs.WholeSteps.StepWords.{NumbersStand, ListBegins, LeaderStands, BallotSendsStand, SendsStand, Sender, Stepping, named_list_has_named_front, rows_of_named_list_live}
use Rattle.am_refinement.proofs.WholeSteps.StepWords.{concerned_names_are_below_256, stamps_of_equal_keys, group_is_kept_at_step, group_is_whole_at_step, SpeaksForItsName, sequencer_leads_its_line, asking_node_has_no_log, stamp_eq_gives_equality, zero, suc, ◌+◌, ◌-◌}
use Rattle.am_refinement.proofs.WholeSteps.StepWords.{◌||◌, not, nat_le, [], ◌∷◌, Some, refl, nat_tests, Image, Entry, View, Outcome, stamps_are_equal, Log, top_of_log, image_of_log, after}
use Rattle.am_refinement.proofs.WholeSteps.StepWords.{image_after_entries, view_number_only_grows, Ballot, acts_in_its_view, is_member, is_asking_status, BallotVerdict, is_view, both_of_and, LooksAtBallot, finds_itself_out, Change}
use Rattle.am_refinement.proofs.WholeSteps.StepWords.{refreshes, settles, begins_list, promises, opens, looks, closes, Changes, unchanged, changed, refresh_rests_with_list}
use Rattle.am_refinement.proofs.WholeSteps.StepWords.{own_leave_rests, settle_changes_only_sends, changes_keep_property, HeardStampsHaveNames, HeardWelcomeImageIsUsed, TrimsOnlyTakenAlongStep, changes_trim_only_taken, view_number_after_view}
use Rattle.am_refinement.proofs.WholeSteps.Starting.{begun_stamp_begun_in_group}
use Rattle.am_base.specs.declared.entry.GroupView.{GroupView}
use Rattle.am_refinement.proofs.WholeSteps.Courses.{cause_is_welcome, bool_never_true_and_false, promise_brings_no_report, begun_ballot_brings_no_report}

-- ---- where a node's list begins after a step: where it did, unless it was welcomed, and then it doesn't lead

-- ---- along the changes

pub data StartIsOldOrWelcomed (c : Cause) (m x : Node) : Type 0 where
  as_it_was : x.core.log.start ≡ m.core.log.start → m.core.acc ≤ x.core.acc → StartIsOldOrWelcomed c m x
  was_bare : cause_is_welcome c ≡ true → (x.core.promise.by == x.core.who) ≡ false → m.core.acc ≤ x.core.acc → StartIsOldOrWelcomed c m x

based_same : {c : Cause} (m x y : Node) → y.core.log.start ≡ x.core.log.start → y.core.promise ≡ x.core.promise → y.core.who ≡ x.core.who
    → x.core.acc ≤ y.core.acc → StartIsOldOrWelcomed c m x → StartIsOldOrWelcomed c m y
based_same m x y start promise who up (as_it_was same low) = as_it_was (start ∙ same) (omega arith)
based_same m x y start promise who up (was_bare welcomed other low) = was_bare welcomed ((λ i. (promise i).by == who i) ∙ other) (omega arith)

-- a promise that rises is of another cause
based_other : {c : Cause} (m x y : Node) → y.core.log.start ≡ x.core.log.start → y.core.acc ≡ x.core.acc → cause_is_welcome c ≡ false → StartIsOldOrWelcomed c m x → StartIsOldOrWelcomed c m y
based_other m x y start acc f (as_it_was same low) = as_it_was (start ∙ same) (omega arith)
based_other m x y start acc f (was_bare welcomed other low) = absurd (bool_never_true_and_false _ welcomed f)

looked_based : {c : Cause} (m x : Node) {b : Ballot} {v : BallotVerdict} → LooksAtBallot x b v → StartIsOldOrWelcomed c m x → StartIsOldOrWelcomed c m v.node
looked_based m x (finds_itself_out a) h = based_same m x _ refl refl refl (omega arith) h
looked_based m x _ h = based_same m x _ refl refl refl (omega arith) h

bare_before : {c : Cause} (m x : Node) → x.core.acc ≡ 0 → StartIsOldOrWelcomed c m x → m.core.acc ≡ 0
bare_before m x none (as_it_was same low) = omega arith
bare_before m x none (was_bare welcomed other low) = omega arith

based_change : {c : Cause} {o : Outcome} (rules : Rules) (m x y : Node) → Change c o x y → TrimsOnlyTakenAlongStep rules x → StartIsOldOrWelcomed c m x → StartIsOldOrWelcomed c m y
based_change rules m x y refreshes a h = let r = (refresh_rests_with_list x).rests in based_same m x y r.start r.promise r.who r.acc h
based_change rules m x y settles a h = subst (StartIsOldOrWelcomed _ m) (sym (settle_changes_only_sends x)) (based_same m x _ refl refl refl (omega arith) h)
based_change rules m x y (begins_list s v base join image is says may) a h =
    let asks = both_of_and (not (s == x.core.who)) (is_member x.status || is_asking_status x.status) may.asks in
    let none = a.blanked (asking_node_has_no_log x.status may.no_member asks.1) in
    let empty = ap top_of_log none.blank_ in
    let before = bare_before m x (omega arith) h in
    was_bare (ap cause_is_welcome is) (grind (arith, nat_tests)) (omega arith)
based_change rules m x y (promises v low why) a h = based_other m x y refl refl (promise_brings_no_report v why).welcomes h
based_change rules m x y (opens least resilience by may) a h = based_other m x y refl refl (begun_ballot_brings_no_report by).welcomes h
based_change rules m x y (looks b verdict over why look is) a h = looked_based m x look h
based_change rules m x y (closes leads leaves alone room) a h = let r = own_leave_rests x in based_same m x y r.start r.promise r.who r.acc h
based_change rules m x y _ a h = based_same m x y refl refl refl (omega arith) h

record Basing (rules : Rules) (c : Cause) (m x : Node) : Type 0 where
  along_ : TrimsOnlyTakenAlongStep rules x
  based : StartIsOldOrWelcomed c m x

pub step_keeps_start_or_welcomes : {c : Cause} {o : Outcome} (rules : Rules) (m n : Node) → HeardStampsHaveNames c → HeardWelcomeImageIsUsed c → Changes c o m n → TrimsOnlyTakenAlongStep rules m → StartIsOldOrWelcomed c m n
step_keeps_start_or_welcomes {c = c} {o = o} rules m n names used zs a = (changes_keep_property (Basing rules c m) (λ x y z h. record {
  along_ = changes_trim_only_taken rules {c = c} {o = o} x y names used (changed z unchanged) h.along_;
  based = based_change rules m x y z h.along_ h.based;
}) zs (record { along_ = a; based = as_it_was refl (omega arith) })).based

-- who was welcomed doesn't lead
pub welcomed_node_does_not_lead : (n : Node) → (n.core.promise.by == n.core.who) ≡ false → is_sequencer n ≡ false
welcomed_node_does_not_lead n other = split_on_bool (is_sequencer n)
    (λ t. absurd (
    let a = both_of_and (acts_in_its_view n) ((view n).by == n.core.who) t in
    let b = both_of_and (is_member n.status) (stamps_are_equal n.core.promise (view n)) a.0 in
    let same = ap (λ (u : Stamp). u.by == n.core.who) (stamp_eq_gives_equality n.core.promise (view n) b.1) in
    cc))
    (λ f. f)

-- ---- where a View stands

view_number_up : (image : Image) (n k : ℕ) (es : List Entry) (v : GroupView)
    → slice_get es k ≡ Some (View v) → n + k ≤ (image_after_entries image n es).view_number
unfolding image_after_entries
view_number_up image n k [] v at = absurd (cc)
view_number_up image n zero (e ∷ es) v at =
    let is : e ≡ View v = cc in
    let its : (after image n e).view_number ≡ n = view_number_after_view image n e (ap is_view is) in
    let up = view_number_only_grows (after image n e) (n + 1) es (omega arith) in
    omega arith
view_number_up image n (suc k) (e ∷ es) v at =
    (let up = view_number_up (after image n e) (n + 1) k es v at in omega arith)

view_above : (log : Log) (number : ℕ) (v : GroupView) → log_entry_at log number ≡ Some (View v)
    → log.start < (image_of_log log).view_number
view_above log zero v at = absurd (cc)
view_above log (suc before) v at = split_on_bool (nat_le log.start before)
    (λ t. (let there = rw t at at in
    let up = view_number_up log.image (log.start + 1) (before - log.start) log.entries v there in
    omega arith))
    (λ f. absurd (let z = rw f at at in cc))

-- the world after the step, but for its letters, is that within the step
module _ (rules : Rules) (w v : World) (name : ℕ) (c : Cause) (m n : Node) (t : Group) (h : Stepping rules w name c n t)
    (stands : Stands v t) (is : v.nodes name ≡ n) (views : v.views ≡ w.views) (records : v.records ≡ w.records) (stopped : v.stopped ≡ w.stopped)
    (mine : NameStands v name n (t.node name)) (here : has_departed n.status ≡ false) (fronts : FrontsStand n (t.node name))
    (all_views : WorldNotesViewsOnce rules v) (begun : PromisesAndStampsWereBegun v) (owns : OwnDecided n) (accepted : m.core.acc ≤ n.core.acc) (start : ListBegins c m n) where
  k : GroupKeeps t
  k = group_is_kept_at_step rules w name c n t h

  there : IsThere (t.node name)
  there = record { goes = mine.stopped ∙ ap (λ (l : List ℕ). list_any (λ j. j == name) l) stopped ∙ h.runs; stays = mine.departed ∙ here }

  up : has_log_by_status n.status ≡ true → IsUp (t.node name)
  up log = record { log = mine.log_ ∙ log; there = there }

  -- the names on its list
  named : All NamesNamed (t.node name).list
  named = split_on_bool (has_log_by_status n.status)
      (λ u. named_list_has_named_front (t.node name).list (chain_of t.views) ((k.each name).list (up u)) h.group.named)
      (λ f. subst (All NamesNamed) (sym ((k.each name).blank (mine.log_ ∙ f))) (All-nil NamesNamed))

  numbers : NumbersStand m n
  numbers =
      let f = h.along.owned.fronts in
      record { kept = f.kept; base = f.base; taken = f.given; within = f.accepted; accepted = accepted }

  -- its last View was noted, so it stands in its own log
  viewed : is_sequencer n ≡ true → n.core.log.start < (image_of_node n).view_number
  viewed u =
      let speaks : SpeaksForItsName v name n t = record { kept = k; stands = mine; up = up (member_status_has_log n.status (sequencer_is_member n u)); who = h.who } in
      let l = sequencer_leads_its_line v name n t speaks u in
      let was = stands.views.decided (key_of_stamp n.core.promise) l.decided in
      let noted : NotedViewStandsInLog v.nodes was.view = item_of_index_has_property (NotedViewStandsInLog v.nodes) v.views was.index was.view all_views.noted was.there in
      let same : was.view.stamp ≡ n.core.promise = stamps_of_equal_keys was.view.stamp n.core.promise noted.by h.along.names.promise_ was.is in
      let by : was.view.stamp.by ≡ name = ap (λ (s : Stamp). s.by) (same ∙ sym l.viewed) ∙ l.leads.by in
      let node : v.nodes was.view.stamp.by ≡ n = ap v.nodes by ∙ is in
      view_above n.core.log was.view.number (record was.view.view { members = noted.names })
      (ap (λ (x : Node). log_entry_at x.core.log was.view.number) (sym node) ∙ noted.there)

  leader : is_sequencer n ≡ true → LeaderStands t name n
  leader u =
      record { names = concerned_names_are_below_256 v name n (t.node name) mine named (omega arith); reports = h.keeps.reports; viewed = viewed u }

  ballots : BallotSendsStand t name n
  ballots = record {
    blank = λ b at. split_on_bool (has_log_by_status n.status) (λ u. u) (λ f. absurd (let none = h.along.balloted.none f in let z = sym none ∙ at in cc));
    own = owns;
    fetches = λ b from want open_ answer. (
        let o = (subst (OpenBallotIsPromised n.core.who n.core.promise (view n)) open_.last h.along.balloted.opened) open_.open_ in
        let shown : AllShown t b.stamp from = (subst (FetchesStand t) open_.last h.keeps.fetches) open_.open_ from want answer in
        (ap (λ (s : Stamp). s.by) o.promised ∙ o.own ∙ h.who, subst (λ (s : Stamp). AllShown t s from) (sym o.promised) shown));
  }

  was_asked : (who req : ℕ) (body : List ℕ) → WasSentByRecord w.records who req body → WasAsked v who req body
  was_asked who req body s = record { index = s.index; done = s.send; there = ap (λ l. slice_get l s.index) records ∙ s.there; is = s.is }

  sends : SendsStand v name n
  sends = record {
    own = λ req body s. (
        let sent : OwnSendWasSent w.records name s.send = item_of_index_has_property (OwnSendWasSent w.records name) n.sends.queue s.index s.send h.sent.sends s.there in
        was_asked name req body (subst (WasSentByRecord w.records name req) s.body_ (subst (λ r. WasSentByRecord w.records name r s.send.body) s.request sent)));
    numbered = λ index from req body at. was_asked from req body
        (item_of_index_has_property (EntryWasSent w.records) n.core.log.entries index (Data from req body) h.sent.entries at);
  }

  pub stepping_name_is_sender : Sender v name c m n t
  stepping_name_is_sender = record {
    group = group_is_whole_at_step rules w name c n t h;
    stands = mine;
    there = there;
    fronts = fronts;
    views = stands.views;
    noted = λ i d at. h.noted i d (ap (λ l. slice_get l i) (sym views) ∙ at);
    who = h.who;
    small = h.along.names.promise_;
    begun = (begun_stamp_begun_in_group v t n.core.promise stands (λ i low. (all_views.each i low).names.promise_) h.along.names.promise_
        (subst (λ (x : Node). StampIsBegun v.nodes x.core.promise) is (begun.each name))).begun;
    lives = rows_of_named_list_live v name n (t.node name) mine named;
    trimmed = h.keeps.trimmed;
    numbers = numbers;
    start = start;
    leader = leader;
    ballots = ballots;
    sends = sends;
    asked = λ from stored u at. (let p = h.heard (Packet.Fetch from u stored) at in (p.to, p.addressed, p.says));
  }
