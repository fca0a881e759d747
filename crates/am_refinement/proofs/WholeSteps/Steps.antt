-- Each step of a name of a run is moves of the group that stands for it.
use Rattle.am_refinement.proofs.WholeSteps.StepWords.{group_after_of_low_accepted, member_has_not_departed, stamp_eq_of_itself, stamp_eq_gives_equality, ◌≡◌, either, Option, None, ℕ, ◌<◌, ◌≤◌, ◌==◌, not, nat_lt, true}
use Rattle.am_refinement.proofs.WholeSteps.StepWords.{false, List, [], Some, slice_get, refl, sym, ap, ◌∙◌, subst, arith, All, nat_tests, Stamp, NodeEvent, Outcome, Entry}
use Rattle.am_refinement.proofs.WholeSteps.StepWords.{Leave, Rules, MayFound, Log, image_of_log, size, stamp_is_less, stamps_are_equal, Letter, Event, Group, Departed, Node, Ballot, view, acts_in_its_view}
use Rattle.am_refinement.proofs.WholeSteps.StepWords.{is_member, other_members, is_sequencer, push_entry, has_departed, is_unfinished_ballot, StepResult, member_hears_other, refresh, settle_waiting_send, Packet}
use Rattle.am_refinement.proofs.WholeSteps.StepWords.{refresh_at_end, Decided, World, is_stopped, list_after_step, views_after, run, world_with_step, happens, split_on_bool, both_of_and, Cause}
use Rattle.am_refinement.proofs.WholeSteps.StepWords.{calls, hears, departs, PlainChangesInTurn, nothing_yet, used_report, and_then, ChangesWithLook, plainly, looked, EndOfStep, ends_so, let_go}
use Rattle.am_refinement.proofs.WholeSteps.StepWords.{closing, Effect, acting_name, IsCause, steps, item_of_index_has_property, refresh_rests_with_list, end_refresh_rests_with_list, actor_is_below_256, number_bounds_hold_in_runs, stamp_not_below_itself}
use Rattle.am_refinement.proofs.WholeSteps.StepWords.{run_trims_only_taken, NodeBallotFits, OpenBallotIsPromised, sequencer_is_member, changes_keep_list_and_names, NotedViewStandsInLog, CauseCarriesSentBodies, records_after_step, cause_of_step_was_sent, NameStands}
use Rattle.am_refinement.proofs.WholeSteps.StepWords.{StandsBut, within, nothing, none, OwnDecided, Sender, ListBegins, began_before, just_begun, Stepping, Following, MovesLeadToFollowing}
use Rattle.am_refinement.proofs.WholeSteps.StepWords.{StepsMove, moves_are_transitive, departed_nodes_are_silent, All-push, Record, chain_of, node_with_entry, GroupKeeps, Stands, CountsNames, ComesToBeforeEnd}
use Rattle.am_refinement.proofs.WholeSteps.StepWords.{NeedsClose, after_closing, NamesNamed, MovesLeadTo, MayMove, running_member_is_up, named_list_has_named_front, counted_names_of_named_list, last_leave_stands_as_move, longer_list_keeps_name_standing, group_is_kept_at_step}
use Rattle.am_refinement.proofs.WholeSteps.StepWords.{acting_name_stands_before, acting_name_may_move, held_last_leave_is_accepted, name_stands_with_same_group, views_stand_if_lines_stay}
use Rattle.am_step_laws.specs.Letters as letters
use Rattle.am_refinement.proofs.WholeSteps.Starting.{acting_node_of_event, with_records, group_stands_where_step_begins, run_bodies_were_sent, step_begins_with_known_group}
use Rattle.am_refinement.proofs.WholeSteps.Courses.{departed_status_is_departed, cause_brings_report}
use Rattle.am_refinement.proofs.WholeSteps.Owns.{events_keep_own_decisions, run_keeps_own_decisions}
use Rattle.am_refinement.proofs.WholeSteps.Worlds.{with_group_list}
use Rattle.am_refinement.proofs.Changes.{same_node_keeps_group_standing}
use Rattle.am_refinement.proofs.WholeSteps.Refreshed.{FrontsMatchTheGroup}
use Rattle.am_refinement.proofs.WholeSteps.Courses.{cause_is_welcome, bool_never_true_and_false, plain_change_stays_in_group}
use Rattle.am_refinement.proofs.WholeSteps.StepGoing.{look_keeps_fronts_and_status, GroupListByNow, as_before}
use Rattle.am_refinement.proofs.WholeSteps.StepGoing.{by_reports, change_stands_as_moves, course_stands_as_moves}
use Rattle.am_refinement.proofs.WholeSteps.Deeds.{with_group_and_views, ViewsNotedInStep, none_new, one_new}
use Rattle.am_refinement.proofs.WholeSteps.Deeds.{StepUpToItsDeeds, deeds_stand_as_moves}
use Rattle.am_refinement.proofs.WholeSteps.StepEnds.{StepAtItsEnd, step_end_stands_as_moves, views_at_step_end}
use Rattle.am_refinement.proofs.WholeSteps.Senders.{StartIsOldOrWelcomed, as_it_was}
use Rattle.am_refinement.proofs.WholeSteps.Senders.{was_bare, step_keeps_start_or_welcomes, welcomed_node_does_not_lead}
use Rattle.am_refinement.proofs.WholeSteps.StepLetters.{LettersToldByMoves, no_letters_told_without_move, step_letters_told_by_moves}
use Rattle.am_refinement.proofs.WholeSteps.Landing.{world_at_step_end, step_lands_where_group_stands, group_stands_after_step, node_keeps_after_step, landed_group_with_told_letters}
use Rattle.am_refinement.proofs.WholeSteps.StepSilent.{departed_step_sends_no_letters}
use Rattle.am_refinement.proofs.WholeSteps.Senders.{stepping_name_is_sender}
use Rattle.am_refinement.proofs.WholeSteps.Departed.{course_keeps_departed_node, step_keeps_departed_node}
use Rattle.am_refinement.proofs.WholeSteps.Refreshed.{refreshed_group_comes_to_node}

-- ---- the last member's end, which is one move

-- a world with other records
module _ (rules : Rules) (w : World) (records : List Record) (name : ℕ) (c : Cause) (x : Node) (t : Group)
    (h : Stepping rules (with_records w records) name c x t) (f : FrontsMatchTheGroup (with_records w records) name x t) (leads : is_sequencer x ≡ true) where
  v : World
  v = with_records w records

  k : GroupKeeps t
  k = group_is_kept_at_step rules (with_records w records) name c x t h

  mine : NameStands (within (with_records w records) name x) name x (t.node name)
  mine = acting_name_stands_before rules (with_records w records) name c x t h

  here : NameStands (within w name x) name x (t.node name)
  here = name_stands_with_same_group (within (with_records w records) name x) (within w name x) name x (t.node name) refl refl mine

  member : is_member x.status ≡ true
  member = sequencer_is_member x leads

  comes_here : ComesToBeforeEnd w t name f.heard x
  comes_here =
      let a = refreshed_group_comes_to_node rules (with_records w records) name c x t h f member (member_has_not_departed x.status member) in
      record { so = a.so; stands = here; group = a.group; runs = a.runs; acc = a.acc }

  -- who counts, with its own Leave
  counts : CountsNames (push_entry x (Leave x.core.who))
  counts =
      let e = Leave x.core.who in
      let list = (t.node name).list in
      let named = named_list_has_named_front list (chain_of t.views) ((k.each name).list (running_member_is_up (with_records w records) name x (t.node name) h.runs member mine)) h.group.named in
      counted_names_of_named_list (within w name (push_entry x e)) name (push_entry x e) (node_with_entry (t.node name) e)
      (longer_list_keeps_name_standing w name x (push_entry x e) e (t.node name)
      (record { log = refl; stays = refl; leaving = refl; promise = refl; ballot = refl; start = refl }) here)
      (All-push NamesNamed list e named tt)

  moves_here : MayMove w name c x t
  moves_here =
      let a = acting_name_may_move rules (with_records w records) name c x t h in
      record { so = a.so; runs = a.runs; noted = a.noted }

  stands_here : StandsBut name (within w name x) t
  stands_here =
      let a = h.stands in
      let u = within (with_records w records) name x in
      record {
        each = λ i few. name_stands_with_same_group u (within w name x) i (u.nodes i) (t.node i) refl refl (a.each i few);
        fronts = a.fronts;
        views = views_stand_if_lines_stay u (within w name x) t.views refl (λ stamp. refl) a.views;
        group = a.group;
      }

  closes_on : (e : Event) (step : StepResult) → x.leaving ≡ true → nat_lt 0 (size (other_members x)) ≡ false → view (w.nodes name) ≡ view x → step.node ≡ after_closing x
      → MovesLeadTo (Stands (world_with_step w e name step)) t
  closes_on e step leaves alone viewed is =
      let needs = held_last_leave_is_accepted w t name f.heard x k comes_here h.few leads alone counts viewed in
      last_leave_stands_as_move w e name c x step t moves_here leads leaves is (subst (NeedsClose w t name) (sym is) needs) stands_here

-- ---- by how a step ends

by_ending : {c : Cause} {o : Outcome} {m : Node} (P : List Letter → Node → Type 0)
    → ((letters : List Letter) (x : Node) → ChangesWithLook c o m x → P letters (refresh_at_end x))
    → ((from : ℕ) (v : Stamp) (number : ℕ) → c ≡ hears (Packet.Gone from v number) → member_hears_other m from ≡ true → m.leaving ≡ true
    → P [] (refresh_at_end (record m { status = Departed })))
    → ((x : Node) (event : NodeEvent) → c ≡ calls event → PlainChangesInTurn c o m x → is_sequencer x ≡ true → x.leaving ≡ true → nat_lt 0 (size (other_members x)) ≡ false
    → view x ≡ view m → P [] (record (refresh_at_end (push_entry x (Leave x.core.who))) { status = Departed }))
    → (letters : List Letter) (n : Node) → EndOfStep c o m letters n → P letters n
by_ending P f g h letters n (ends_so {x = x} deeds) = f letters x deeds
by_ending P f g h letters n (let_go from v number is heard leaves) = g from v number is heard leaves
by_ending P f g h letters n (closing {x = x} event is course leads leaves alone room viewed) = h x event is course leads leaves alone viewed

-- ---- small facts

-- plain changes leave who is there
course_there : {c : Cause} {o : Outcome} (m x : Node) → PlainChangesInTurn c o m x → has_departed m.status ≡ false → has_departed x.status ≡ false
course_there m x nothing_yet f = f
course_there m x (used_report from v report by may) f = ap has_departed (refresh_rests_with_list _).rests.status ∙ f
course_there m x (and_then {n = n} before z plain) f = (plain_change_stays_in_group n x z plain).there (course_there m n before f)

pub deeds_keep_undeparted : {c : Cause} {o : Outcome} (m x : Node) → ChangesWithLook c o m x → has_departed m.status ≡ false → has_departed x.status ≡ false
deeds_keep_undeparted m x (plainly course) f = course_there m x course f
deeds_keep_undeparted m x (looked {n = n} b verdict course over why look is) f = ap has_departed (look_keeps_fronts_and_status look).2 ∙ course_there m n course f

-- who had departed doesn't lead
no_leader_gone : {c : Cause} {o : Outcome} {m : Node} (x : Node) → PlainChangesInTurn c o m x → has_departed m.status ≡ true → is_sequencer x ≡ true → ⊥
no_leader_gone {m = m} x course left leads =
    let r = course_keeps_departed_node m x (departed_status_is_departed m.status left) course in
    let member = sequencer_is_member x leads in
    let z = sym member ∙ ap is_member (r.status ∙ departed_status_is_departed m.status left) in
    cc

-- who acts has no open ballot
leader_closed : (x : Node) → NodeBallotFits x → is_sequencer x ≡ true → is_unfinished_ballot x.ballot ≡ false
leader_closed x h leads = by_ballot x.ballot h.opened
  where
    same : x.core.promise ≡ view x
    same =
        let a = both_of_and (acts_in_its_view x) ((view x).by == x.core.who) leads in
        let b = both_of_and (is_member x.status) (stamps_are_equal x.core.promise (view x)) a.0 in
        stamp_eq_gives_equality x.core.promise (view x) b.1

    by_ballot : (ballot : Option Ballot) → OpenBallotIsPromised x.core.who x.core.promise (view x) ballot → is_unfinished_ballot ballot ≡ false
    by_ballot None o = refl
    by_ballot (Some b) o = split_on_bool b.is_over
        (λ t. rw t refl)
        (λ f. absurd (
        let k = o f in
        let z : stamp_is_less (view x) (view x) ≡ true = ap (stamp_is_less (view x)) (sym same ∙ k.promised) ∙ k.above in
        let y = stamp_not_below_itself (view x) in cc))

-- a step that stays in its view notes none
quiet_views : (views : List Decided) (m n : Node) → view n ≡ view m → views_after views m n ≡ views
quiet_views views m n same =
    let t : stamps_are_equal (view m) (view n) ≡ true = ap (stamps_are_equal (view m)) same ∙ stamp_eq_of_itself (view m) in
    split_on_bool (is_member m.status) (λ a. split_on_bool ((view n).by == n.core.who) (λ b. rw (a, b, t) refl) (λ b. rw (a, b) refl)) (λ a. rw a refl)

seen_none : (w : World) (m n : Node) (views : List Decided) → view n ≡ view m → ViewsNotedInStep w m n views → views ≡ w.views
seen_none w m n views same (none_new is) = is
seen_none w m n views same (one_new d is) = absurd (let z : stamp_is_less (view m) (view m) ≡ true = ap (stamp_is_less (view m)) (sym same) ∙ d.above in
    let y = stamp_not_below_itself (view m) in cc)

-- where no report came, nothing more was accepted before the end
grown_none : {c : Cause} (old group : List Entry) (x : Node) (event : NodeEvent) → c ≡ calls event → GroupListByNow c old group x → group ≡ old
grown_none old group x event is (as_before same) = same
grown_none old group x event is (by_reports brings leads start same) = absurd (bool_never_true_and_false _ brings (ap cause_brings_report is))

-- the sender of its letters is the node
is_sender : (n sender : Node) → n ≡ record sender { status = n.status } → n.status ≡ sender.status → sender ≡ n
is_sender n sender is same = sym (is ∙ (λ i. record sender { status = same i }))

end_is : (x : Node) → refresh_at_end x ≡ settle_waiting_send (refresh x)
unfolding refresh_at_end
end_is x = refl

-- where its list begins: it leads only where it had one before
sends_so : {c : Cause} (m n : Node) (P : Type 0) → m.core.log.start ≤ m.core.base → StartIsOldOrWelcomed c m n → (m.core.acc ≤ n.core.acc → ListBegins c m n → P) → P
sends_so m n P low (as_it_was same up) f = f up (began_before (omega arith))
sends_so m n P low (was_bare welcomed other up) f = f up (just_begun (welcomed_node_does_not_lead n other) (λ from stored u is. bool_never_true_and_false _ welcomed (ap cause_is_welcome is)))

-- ---- a step of a run

module _ (rules : Rules) (events : List Event) (e : Event) (c : Cause) (s : Group) (may : MayFound rules)
    (runs : is_stopped (run rules events) (acting_name (run rules events) e) ≡ false) (cause : IsCause (run rules events) (acting_name (run rules events) e) e.act c)
    (h : Following rules (run rules events) s) where
  open acting_node_of_event rules events e use {w, name, m}

  few : name < 256
  few = actor_is_below_256 rules w e (run_trims_only_taken rules events may).blanks.base.named

  abbrev after_ : StepResult → World
  after_ step = world_with_step (run rules events) e (acting_name (run rules events) e) step

  is_node : (step : StepResult) → (world_with_step (run rules events) e (acting_name (run rules events) e) step).nodes (acting_name (run rules events) e) ≡ step.node
  unfolding world_with_step
  is_node step = (let t : (name == name) ≡ true = grind (arith, nat_tests) in rw t refl)

  same_seen : (step : StepResult)
      → (world_with_step (run rules events) e (acting_name (run rules events) e) step).views ≡ (world_at_step_end (run rules events) e (acting_name (run rules events) e) step).views
  unfolding world_with_step
  same_seen step = refl

  same_records : (step : StepResult)
      → (world_with_step (run rules events) e (acting_name (run rules events) e) step).records ≡ (world_at_step_end (run rules events) e (acting_name (run rules events) e) step).records
  unfolding world_with_step
  same_records step = refl

  same_stopped : (step : StepResult)
      → (world_with_step (run rules events) e (acting_name (run rules events) e) step).stopped ≡ (world_at_step_end (run rules events) e (acting_name (run rules events) e) step).stopped
  unfolding world_with_step
  same_stopped step = refl

  -- how far it was told, and gives out, where it begins
  fronts_begin : (step : StepResult) → FrontsMatchTheGroup (with_records (run rules events) (records_after_step (run rules events) e step)) (acting_name (run rules events) e) m s
  fronts_begin step =
      let k = (number_bounds_hold_in_runs rules events).each name in
      record {
        low = k.told;
        heard = 0;
        word = nothing refl;
        acc = λ d. (h.stands.fronts name few d).acc;
        told = λ d. (let low = (h.stands.fronts name few d).told in omega arith);
      }

  noted : (k : ℕ) (d : Decided) → slice_get w.views k ≡ Some d → NotedViewStandsInLog w.nodes d
  noted k d at = item_of_index_has_property (NotedViewStandsInLog w.nodes) w.views k d (run_trims_only_taken rules events may).blanks.base.noted at

  -- ---- of who had departed

  gone_follows : (o : Outcome) (sent : List Letter) (x : Node) → ChangesWithLook c o m x → has_departed m.status ≡ true
      → Effect m c (record { node = refresh_at_end x; outcome = o; letters = sent })
      → happens w e ≡ after_ (record { node = refresh_at_end x; outcome = o; letters = sent })
      → MovesLeadToFollowing rules (after_ (record { node = refresh_at_end x; outcome = o; letters = sent })) s
  gone_follows o sent x deeds left effect is =
      let step : StepResult = record { node = refresh_at_end x; outcome = o; letters = sent } in
      let n = refresh_at_end x in
      let gone = departed_status_is_departed m.status left in
      let closed = h.gone name few left in
      let r = step_keeps_departed_node m x gone closed deeds in
      let k = (number_bounds_hold_in_runs rules events).each name in
      let group_ : list_after_step w.group n ≡ w.group = group_after_of_low_accepted w.group n (omega arith) in
      let views_ : views_after w.views m n ≡ w.views = rw (ap is_member gone) refl in
      let begun = with_records w (records_after_step w e step) in
      let stands = same_node_keeps_group_standing begun name m n s r.same (group_stands_where_step_begins w (records_after_step w e step) name s h.stands) in
      let there : StandsBut name (within (world_at_step_end w e name step) name n) s =
      subst (λ vs. StandsBut name (within (with_group_and_views begun (list_after_step w.group n) vs) name n) s) (sym views_)
      (subst (λ g. StandsBut name (within (with_group_and_views begun g w.views) name n) s) (sym group_) stands) in
      let status : has_departed n.status ≡ true = ap has_departed r.status ∙ left in
      let all = group_stands_after_step w e name step s there (λ d. absurd (bool_never_true_and_false _ status d)) in
      let land = step_lands_where_group_stands rules w e name step s s h none all (λ d. absurd (bool_never_true_and_false _ status d)) (λ d. ap is_unfinished_ballot r.ballot ∙ closed) in
      let quiet : sent ≡ [] = departed_step_sends_no_letters w e step (departed_nodes_are_silent m gone closed) is in
      landed_group_with_told_letters rules w e name step s s h land (subst (λ l. LettersToldByMoves rules (after_ step) l s) (sym quiet) (no_letters_told_without_move rules (after_ step) s land.group))

  -- ---- of who is there

  module _ (here : has_departed m.status ≡ false) where
    begins_so : (step : StepResult) → Effect m c step
        → Stepping rules (with_records (run rules events) (records_after_step (run rules events) e step)) (acting_name (run rules events) e) c m s
    begins_so step effect = step_begins_with_known_group rules events e c step s may runs cause effect h here

    sent_so : (step : StepResult) → CauseCarriesSentBodies (records_after_step (run rules events) e step) (acting_name (run rules events) e) step.outcome c
    sent_so step = cause_of_step_was_sent w e step c (run_bodies_were_sent rules events) cause

    -- a step that goes on to its end
    plain_follows : (o : Outcome) (sent : List Letter) (x : Node) → ChangesWithLook c o m x → Effect m c (record { node = refresh_at_end x; outcome = o; letters = sent })
        → MovesLeadToFollowing rules (after_ (record { node = refresh_at_end x; outcome = o; letters = sent })) s
    plain_follows o sent x deeds effect =
        let step : StepResult = record { node = refresh_at_end x; outcome = o; letters = sent } in
        let n = refresh_at_end x in
        let v = after_ step in
        let begun = with_records w (records_after_step w e step) in
        let h0 = begins_so step effect in
        let done = deeds_stand_as_moves rules begun name c o m x s deeds h0 (fronts_begin step) (sent_so step) in
        let a : StepAtItsEnd rules begun name c m n s = subst (λ k. StepAtItsEnd rules begun name c m k s) (sym (end_is x))
        (step_end_stands_as_moves rules begun name c o m x s (sent_so step) done) in
        let does = (changes_keep_list_and_names m n h0.names effect.changes h0.along.names h0.along.balloted).does in
        let there : has_departed n.status ≡ false = ap has_departed (end_refresh_rests_with_list x).rests.status ∙ deeds_keep_undeparted m x deeds here in
        let same_views = views_at_step_end rules begun name c m n a.to (list_after_step w.group n) a.views a.goes does.goes does.log_ (λ d. there) noted refl a.seen in
        let goes : Stepping rules (world_at_step_end w e name step) name c n a.to = subst
        (λ vs. Stepping rules (with_group_and_views begun (list_after_step w.group n) vs) name c n a.to) same_views a.goes in
        let stands = group_stands_after_step w e name step a.to goes.stands a.fronts in
        let land = step_lands_where_group_stands rules w e name step s a.to h a.path stands (λ d. node_keeps_after_step rules w e name c step a.to goes) (λ d. absurd (bool_never_true_and_false _ d there)) in
        let sender_is : effect.sender ≡ n = is_sender n effect.sender effect.is (either effect.stays (λ z. z)
        (λ z. absurd (bool_never_true_and_false _ (ap has_departed z) there))) in
        let says = subst (λ k. All (letters.LetterSays m c k) sent) sender_is effect.letters in
        let after = events_keep_own_decisions rules w e v (steps c step runs cause effect) (run_keeps_own_decisions rules events may) in
        let mine : NameStands v name n (a.to.node name) = subst (λ k. NameStands v name k (a.to.node name)) (is_node step) (stands.each name few) in
        let owns = subst OwnDecided (is_node step) (after.each name few) in
        let based = step_keeps_start_or_welcomes rules m n h0.names h0.used effect.changes h0.along in
        let speaks = sends_so m n (Sender v name c m n a.to) h0.along.owned.fronts.kept based (λ acc start.
        stepping_name_is_sender rules (world_at_step_end w e name step) v name c m n a.to goes stands (is_node step) (same_seen step) (same_records step) (same_stopped step) mine there
        (a.fronts there) after.base.0 after.base.1 owns acc start) in
        landed_group_with_told_letters rules w e name step s a.to h land (step_letters_told_by_moves rules v name c m n sent a.to land.group speaks says)

    -- a leaver that is let go
    let_go_follows : (o : Outcome) (from : ℕ) (u : Stamp) (number : ℕ) → c ≡ hears (Packet.Gone from u number) → member_hears_other m from ≡ true → m.leaving ≡ true
        → Effect m c (record { node = refresh_at_end (record m { status = Departed }); outcome = o; letters = [] })
        → MovesLeadToFollowing rules (after_ (record { node = refresh_at_end (record m { status = Departed }); outcome = o; letters = [] })) s
    let_go_follows o from u number is heard leaves effect =
        let x = record m { status = Departed } in
        let step : StepResult = record { node = refresh_at_end x; outcome = o; letters = [] } in
        let n = refresh_at_end x in
        let begun = with_records w (records_after_step w e step) in
        let h0 = begins_so step effect in
        let one = change_stands_as_moves rules begun name c o m x s (departs {m = m} from u number is heard leaves) tt refl h0 (sent_so step) (fronts_begin step) in
        let done : StepUpToItsDeeds rules begun name c m x s = record {
          group = w.group;
          views = w.views;
          changed = one;
          grown = as_before refl;
          seen = none_new refl;
        } in
        let a : StepAtItsEnd rules begun name c m n s = subst (λ k. StepAtItsEnd rules begun name c m k s) (sym (end_is x))
        (step_end_stands_as_moves rules begun name c o m x s (sent_so step) done) in
        let viewed : view n ≡ view m = ap (λ (l : Log). (image_of_log l).view) (end_refresh_rests_with_list x).log in
        let same_views : a.views ≡ views_after w.views m n = seen_none begun m n a.views viewed a.seen ∙ sym (quiet_views w.views m n viewed) in
        let goes : Stepping rules (world_at_step_end w e name step) name c n a.to = subst
        (λ vs. Stepping rules (with_group_and_views begun (list_after_step w.group n) vs) name c n a.to) same_views a.goes in
        let left : has_departed n.status ≡ true = ap has_departed (end_refresh_rests_with_list x).rests.status in
        let all = group_stands_after_step w e name step a.to goes.stands (λ d. absurd (bool_never_true_and_false _ left d)) in
        let open_ : is_unfinished_ballot m.ballot ≡ false = split_on_bool (is_unfinished_ballot m.ballot) (λ t. absurd (bool_never_true_and_false _ leaves (h0.keeps.opens t).1)) (λ f. f) in
        let land = step_lands_where_group_stands rules w e name step s a.to h a.path all (λ d. absurd (bool_never_true_and_false _ left d)) (λ d. ap is_unfinished_ballot (end_refresh_rests_with_list x).rests.ballot
        ∙ open_) in
        landed_group_with_told_letters rules w e name step s a.to h land (no_letters_told_without_move rules (after_ step) a.to land.group)

    -- the last member, which numbers its own Leave
    closing_follows : (o : Outcome) (x : Node) (event : NodeEvent) → c ≡ calls event → PlainChangesInTurn c o m x → is_sequencer x ≡ true → x.leaving ≡ true
        → nat_lt 0 (size (other_members x)) ≡ false → view x ≡ view m
        → Effect m c (record { node = record (refresh_at_end (push_entry x (Leave x.core.who))) { status = Departed }; outcome = o; letters = [] })
        → MovesLeadToFollowing rules (after_ (record { node = record (refresh_at_end (push_entry x (Leave x.core.who))) { status = Departed }; outcome = o; letters = [] }))
        s
    closing_follows o x event called course leads leaves alone viewed effect =
        let n = record (refresh_at_end (push_entry x (Leave x.core.who))) { status = Departed } in
        let step : StepResult = record { node = n; outcome = o; letters = [] } in
        let begun = with_records w (records_after_step w e step) in
        let h0 = begins_so step effect in
        let g = course_stands_as_moves rules begun name c o m x s course h0 (fronts_begin step) (sent_so step) in
        let same = grown_none w.group g.group x event called g.grown in
        let goes : Stepping rules begun name c x g.to = subst (λ k. Stepping rules (with_group_list begun k) name c x g.to) same g.goes in
        let fronts : FrontsMatchTheGroup begun name x g.to = subst (λ k. FrontsMatchTheGroup (with_group_list begun k) name x g.to) same g.fronts in
        let one = closes_on rules w (records_after_step w e step) name c x g.to goes fronts leads e step leaves alone (sym viewed) refl in
        let closed = leader_closed x goes.along.balloted leads in
        let land = step_lands_where_group_stands rules w e name step s one.to h (moves_are_transitive g.path one.path) one.is (λ d. absurd (cc))
        (λ d. ap is_unfinished_ballot (end_refresh_rests_with_list (push_entry x (Leave x.core.who))).rests.ballot ∙ closed) in
        landed_group_with_told_letters rules w e name step s one.to h land (no_letters_told_without_move rules (after_ step) one.to land.group)

  -- ---- each step

  follows : (o : Outcome) (sent : List Letter) (n : Node) → EndOfStep c o m sent n → Effect m c (record { node = n; outcome = o; letters = sent })
      → happens w e ≡ after_ (record { node = n; outcome = o; letters = sent }) → MovesLeadToFollowing rules (after_ (record { node = n; outcome = o; letters = sent })) s
  follows o sent n ending = by_ending
      (λ l k. Effect m c (record { node = k; outcome = o; letters = l }) → happens w e ≡ after_ (record { node = k; outcome = o; letters = l })
      → MovesLeadToFollowing rules (after_ (record { node = k; outcome = o; letters = l })) s)
      (λ l x deeds effect is. split_on_bool (has_departed m.status) (λ left. gone_follows o l x deeds left effect is) (λ here. plain_follows here o l x deeds effect))
      (λ from u number is heard leaves effect same. let_go_follows (member_has_not_departed m.status (both_of_and (not (from == m.core.who)) (is_member m.status) heard).1)
      o from u number is heard leaves effect)
      (λ x event called course leads leaves alone viewed effect same. split_on_bool (has_departed m.status)
      (λ left. absurd (no_leader_gone x course left leads)) (λ here. closing_follows here o x event called course leads leaves alone viewed effect))
      sent n ending

pub steps_are_group_moves : StepsMove
steps_are_group_moves rules events e c step s may runs cause effect is h =
    follows rules events e c s may runs cause h step.outcome step.letters step.node effect.ending effect is
