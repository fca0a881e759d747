-- In each run each noted view has the members that its View names.
use Rattle.am_step_laws.proofs.Watching.WatchedWords.{view_never_falls_in_growth, number_equals_itself, member_status_has_log, stamp_eq_of_itself, ◌≡◌, ℕ, ◌==◌, not, Bool, true, false, if◌then◌else◌, List, [], ◌∷◌}
use Rattle.am_step_laws.proofs.Watching.WatchedWords.{Some, refl, sym, ap, ◌∙◌, subst, arith, All, nat_tests, All-nil, All-cons, All-append, All-weaker, View, Outcome, Rules}
use Rattle.am_step_laws.proofs.Watching.WatchedWords.{MayFound, has, stamp_is_less, stamps_are_equal, log_entry_at, after, image_after_entries, Event, Node, image_of_node, view, map_with_value, is_member, has_log_by_status, StepResult}
use Rattle.am_step_laws.proofs.Watching.WatchedWords.{Decided, World, start, first_node, founders_decided, last_view_of, views_after, world_with_record, world_with_step, run, split_on_bool}
use Rattle.am_step_laws.proofs.Watching.WatchedWords.{both_of_and, Cause, Changes, no_change, changed, Effect, acting_name, IsCause, steps, item_of_index_has_property, EventsKeep}
use Rattle.am_step_laws.proofs.Watching.WatchedWords.{runs_keep_what_events_keep, stamp_at_most_is_transitive, stamp_not_below_itself, actor_is_below_256, change_keeps_name, lowest_founder_founds, HeardStampsHaveNames, ChangeKeepsListAndBallot, change_keeps_list_and_ballot, changes_keep_list_and_names}
use Rattle.am_step_laws.proofs.Watching.WatchedWords.{heard_stamps_have_names, told_image_is_used, HeardWelcomeImageIsUsed, TrimsOnlyTakenAlongStep, changes_trim_only_taken, WorldTrimsOnlyTaken, each_node_trims_only_taken, heard_welcome_image_is_used, events_trim_only_taken, start_trims_only_taken}
use Rattle.am_step_laws.proofs.Watching.WatchedWords.{NotedViewsKeepMembers}
use Rattle.am_group_defs.specs.World as runs
use Rattle.am_step_laws.proofs.Watching.Members.{LastViewNamesTheMembers, ViewSinceThen, as_before, of_other, decided, BallotingNodeIsNotLeaving, change_keeps_balloting_node_staying, change_keeps_origin_of_view}
use Rattle.am_step_laws.proofs.Watching.Own.{HeardViewsAreKnown}
use Rattle.am_step_laws.proofs.Watching.New.{WorldKnowsOwnViews, heard_views_are_known, events_keep_own_views_known, start_knows_own_views}

-- ---- along a step

record Going (rules : Rules) (name : ℕ) (c : Cause) (m x : Node) : Type 0 where
  along : TrimsOnlyTakenAlongStep rules x
  log_ : has_log_by_status x.status ≡ true
  up : stamp_is_less (view x) (view m) ≡ false
  who : x.core.who ≡ name
  quiet : BallotingNodeIsNotLeaving x
  viewed : ViewSinceThen c (view m) x

going : (rules : Rules) (nodes : ℕ → Node) (name : ℕ) (c : Cause) (o : Outcome) (m x n : Node) → m ≡ nodes name → HeardViewsAreKnown nodes c → HeardStampsHaveNames c → HeardWelcomeImageIsUsed c
    → Changes c o x n → Going rules name c m x → Going rules name c m n
going rules nodes name c o m x n is heard names used no_change h = h
going rules nodes name c o m x n is heard names used (changed {n = y} one more) h =
    let a = h.along in
    let d = change_keeps_list_and_ballot names x y one a.names a.balloted in
    let up : stamp_is_less (view x) (view (nodes name)) ≡ false = subst (λ (z : Node). stamp_is_less (view x) (view z) ≡ false) is h.up in
    going rules nodes name c o m y n is heard names used more (record {
      along = changes_trim_only_taken rules x y names used (changed one no_change) a;
      log_ = d.log_ h.log_;
      up = stamp_at_most_is_transitive (view m) (view x) (view y) h.up (view_never_falls_in_growth x y (d.goes h.log_));
      who = change_keeps_name name x y one h.who;
      quiet = change_keeps_balloting_node_staying x y one h.quiet;
      viewed = change_keeps_origin_of_view nodes name c o (view m) x y heard one h.log_ h.who up (told_image_is_used x a.owned.fronts).places a.owned.vote a.balloted h.quiet h.viewed;
    })

-- and without a list a node is as quiet
quiet_along : {c : Cause} {o : Outcome} (m n : Node) → Changes c o m n → BallotingNodeIsNotLeaving m → BallotingNodeIsNotLeaving n
quiet_along m n no_change h = h
quiet_along m n (changed {n = x} one more) h = quiet_along x n more (change_keeps_balloting_node_staying m x one h)

-- ---- a noted view

record WholeView (nodes : ℕ → Node) (v : Decided) : Type 0 where
  pub log_ : has_log_by_status (nodes v.stamp.by).status ≡ true
  pub there : log_entry_at (nodes v.stamp.by).core.log v.number ≡ Some (View v.view)

still_whole : (nodes : ℕ → Node) (name : ℕ) (n : Node) (v : Decided) → ChangeKeepsListAndBallot (nodes name) n → WholeView nodes v → WholeView (map_with_value nodes name n) v
still_whole nodes name n v d h = split_on_bool (v.stamp.by == name)
    (λ t.
    let same : v.stamp.by ≡ name = grind (arith, nat_tests) in
    let log : has_log_by_status (nodes name).status ≡ true = subst (λ k. has_log_by_status (nodes k).status ≡ true) same h.log_ in
    let there : log_entry_at (nodes name).core.log v.number ≡ Some (View v.view) =
    subst (λ k. log_entry_at (nodes k).core.log v.number ≡ Some (View v.view)) same h.there in
    record { log_ = rw t (d.log_ log); there = rw t ((d.goes log).stays v.number _ there) })
    (λ f. record { log_ = rw f h.log_; there = rw f h.there })

views_whole : (nodes : ℕ → Node) (name : ℕ) (n : Node) (views : List Decided) → ChangeKeepsListAndBallot (nodes name) n → n.core.who ≡ name
    → (runs.step_decides_view (nodes name) n ≡ true → LastViewNamesTheMembers n.core.log) → All (WholeView nodes) views
    → All (WholeView (map_with_value nodes name n)) (views_after views (nodes name) n)
views_whole nodes name n views d who new h =
    let m = nodes name in
    let old = All-weaker (WholeView nodes) (WholeView (map_with_value nodes name n)) (λ v x. still_whole nodes name n v d x) views h in
    split_on_bool (runs.step_decides_view m n)
    (λ t.
    let a = both_of_and (is_member m.status) _ t in
    let b = both_of_and ((view n).by == n.core.who) (not (stamps_are_equal (view m) (view n))) a.1 in
    let by : (view n).by ≡ name = (let x : (view n).by ≡ n.core.who = (let y = b.0 in grind (arith, nat_tests)) in x ∙ who) in
    let at : map_with_value nodes name n (view n).by ≡ n = ap (map_with_value nodes name n) by ∙ ap (λ (q : Bool). if q then n else m) (number_equals_itself name) in
    let one : WholeView (map_with_value nodes name n) (last_view_of n) = record {
      log_ = ap (λ (x : Node). has_log_by_status x.status) at ∙ d.log_ (member_status_has_log m.status a.0);
      there = ap (λ (x : Node). log_entry_at x.core.log (image_of_node n).view_number) at ∙ new t;
    } in
    rw t (All-append (WholeView (map_with_value nodes name n)) views (last_view_of n ∷ []) old
    (All-cons (WholeView (map_with_value nodes name n)) (last_view_of n) [] one (All-nil (WholeView (map_with_value nodes name n))))))
    (λ f. rw f old)

-- ---- worlds

record AllMembers (rules : Rules) (w : World) : Type 0 where
  own : WorldKnowsOwnViews rules w
  owned : WorldTrimsOnlyTaken rules w
  quiet : (name : ℕ) → BallotingNodeIsNotLeaving (w.nodes name)
  whole : All (WholeView w.nodes) w.views

-- a decided view is a whole one
decided_whole : (c : Cause) (m n : Node) → runs.step_decides_view m n ≡ true → ViewSinceThen c (view m) n → LastViewNamesTheMembers n.core.log
decided_whole c m n t (as_before same) = absurd (
    let a = both_of_and (is_member m.status) _ t in
    let b = both_of_and ((view n).by == n.core.who) (not (stamps_are_equal (view m) (view n))) a.1 in
    let z : stamps_are_equal (view m) (view n) ≡ true = subst (λ v. stamps_are_equal (view m) v ≡ true) (sym same) (stamp_eq_of_itself (view m)) in
    let y = rw z at b.1 in
    cc)
decided_whole c m n t (of_other f) = absurd (
    let a = both_of_and (is_member m.status) _ t in
    let b = both_of_and ((view n).by == n.core.who) (not (stamps_are_equal (view m) (view n))) a.1 in
    cc)
decided_whole c m n t (decided fresh) = fresh.whole

members_step : (rules : Rules) (w : World) (e : Event) (c : Cause) (s : StepResult) → IsCause w (acting_name w e) e.act c → Effect (w.nodes (acting_name w e)) c s
    → WorldKnowsOwnViews rules (world_with_step w e (acting_name w e) s) → WorldTrimsOnlyTaken rules (world_with_step w e (acting_name w e) s) → AllMembers rules w
    → AllMembers rules (world_with_step w e (acting_name w e) s)
unfolding world_with_step
members_step rules w e c s cause effect own owned h =
    let name = acting_name w e in
    let m = w.nodes name in
    let n = s.node in
    let views = h.own.lists.base in
    let few = actor_is_below_256 rules w e views.named in
    let names = heard_stamps_have_names rules w e c views cause in
    let used = heard_welcome_image_is_used rules w e c h.owned cause in
    let start_ = each_node_trims_only_taken rules w name few h.owned in
    let kept = views.each name few in
    let d = (changes_keep_list_and_names m n names effect.changes kept.names kept.balloted).does in
    let who : n.core.who ≡ name = ap (λ (b : Bool). (if b then n else m).core.who) (sym (number_equals_itself name)) ∙ own.lists.base.named.who name in
    let new : runs.step_decides_view m n ≡ true → LastViewNamesTheMembers n.core.log = λ t.
    (let member = (both_of_and (is_member m.status) _ t).0 in
    let first : Going rules name c m m = record {
      along = start_;
      log_ = member_status_has_log m.status member;
      up = stamp_not_below_itself (view m);
      who = views.named.who name;
      quiet = h.quiet name;
      viewed = as_before refl;
    } in
    decided_whole c m n t (going rules w.nodes name c s.outcome m m n refl (heard_views_are_known rules w e c h.own cause) names used effect.changes first).viewed) in
    record {
      own = own;
      owned = owned;
      quiet = λ other. split_on_bool (other == name) (λ t. rw t (quiet_along m n effect.changes (h.quiet name))) (λ f. rw f (h.quiet other));
      whole = views_whole w.nodes name n w.views d who new h.whole;
    }

members_same : (rules : Rules) (w v : World) → v.nodes ≡ w.nodes → v.views ≡ w.views → WorldKnowsOwnViews rules v → WorldTrimsOnlyTaken rules v → AllMembers rules w
    → AllMembers rules v
members_same rules w v nodes views own owned h = record { own = own; owned = owned; quiet = rw nodes h.quiet; whole = rw (nodes, views) h.whole }

each_members : (rules : Rules) → EventsKeep (AllMembers rules)
unfolding world_with_record
each_members rules w e v (steps c s runs_ cause effect) h = members_step rules w e c s cause effect (events_keep_own_views_known rules w e v (steps c s runs_ cause effect) h.own)
    (events_trim_only_taken rules w e v (steps c s runs_ cause effect) h.owned) h
each_members rules w e v other h = members_same rules w v refl refl (events_keep_own_views_known rules w e v other h.own)
    (events_trim_only_taken rules w e v other h.owned) h

-- ---- the start

founding_whole : (rules : Rules) → MayFound rules → WholeView (first_node rules) (founders_decided rules)
unfolding image_after_entries after
founding_whole rules may = let first = lowest_founder_founds rules may in record { log_ = rw first.founds refl; there = rw first.founds refl }

quiet_first : (rules : Rules) (name : ℕ) → BallotingNodeIsNotLeaving (first_node rules name)
quiet_first rules name = split_on_bool (has rules.founders name) (λ t. rw t (λ z. refl)) (λ f. rw f (λ z. refl))

members_start : (rules : Rules) → MayFound rules → AllMembers rules (start rules)
members_start rules may = record {
  own = start_knows_own_views rules may;
  owned = start_trims_only_taken rules may;
  quiet = quiet_first rules;
  whole = All-cons (WholeView (first_node rules)) (founders_decided rules) [] (founding_whole rules may) (All-nil (WholeView (first_node rules)));
}

pub noted_views_have_their_members : NotedViewsKeepMembers
noted_views_have_their_members rules events i v may at =
    let w = run rules events in
    let h = runs_keep_what_events_keep (AllMembers rules) (each_members rules) (start rules) events (members_start rules may) in
    (item_of_index_has_property (WholeView w.nodes) w.views i v h.whole at).there
