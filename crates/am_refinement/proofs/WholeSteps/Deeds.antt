-- A look at a ballot, which comes last before the end of a step: a view that it decided was noted.
use Rattle.am_model.specs.Ballots.{decided_view}
use Rattle.am_refinement.proofs.WholeSteps.StepWords.{member_status_has_log, ◌≡◌, ◌⊎◌, inl, inr, either, ℕ, true, false, List, [], ◌∷◌, ◌++◌, refl, sym, ap, ◌∙◌, subst, Stamp, Entry}
use Rattle.am_refinement.proofs.WholeSteps.StepWords.{Outcome, Rules, stamp_is_less, Group, Node, Ballot, view, is_member, BallotVerdict, trim_to_least_taken_by, need_set_without_given_up, need_set_of, Decided, World}
use Rattle.am_refinement.proofs.WholeSteps.StepWords.{last_view_of, Cause, BallotIsLookedAt, LooksAtBallot, finds_itself_out, waits, fetches_from_best, finds_too_few, finds_no_room, decides}
use Rattle.am_refinement.proofs.WholeSteps.StepWords.{looks, PlainChangesInTurn, nothing_yet, used_report, and_then, ChangesWithLook, plainly, looked, course_gives_changes, refresh_rests_with_list, stamp_below_then_at_most}
use Rattle.am_refinement.proofs.WholeSteps.StepWords.{lower_stamp_is_not_above, view_of_pushed_view, changes_keep_list_and_names, balloting_looks_at_open_ballot, CauseCarriesSentBodies, after_look, Stepping, looked_at_ballot_is_unfinished, changes_keep_step_known}
use Rattle.am_refinement.proofs.WholeSteps.Worlds.{with_group_list}
use Rattle.am_refinement.proofs.WholeSteps.Refreshed.{FrontsMatchTheGroup, ChangedByMoves, moves_before_changed}
use Rattle.am_refinement.proofs.WholeSteps.Courses.{cause_is_welcome, ballot_look_brings_no_report}
use Rattle.am_refinement.proofs.WholeSteps.Courses.{bool_never_true_and_false, plain_change_stays_in_group}
use Rattle.am_refinement.proofs.WholeSteps.StepGoing.{change_keeps_fronts_of_group, GroupListByNow, as_before, by_reports}
use Rattle.am_refinement.proofs.WholeSteps.StepGoing.{course_stands_as_moves}

-- with these views
abbrev pub with_group_and_views : World → List Entry → List Decided → World
with_group_and_views w group views = record w { group = group; views = views }

-- the views by now: as before, or with one that the last look decided
pub record StepDecidedOwnView (m x : Node) : Type 0 where
  pub member : is_member m.status ≡ true
  pub own : (view x).by ≡ x.core.who
  pub above : stamp_is_less (view m) (view x) ≡ true

pub data ViewsNotedInStep (w : World) (m x : Node) (views : List Decided) : Type 0 where
  none_new : views ≡ w.views → ViewsNotedInStep w m x views
  one_new : StepDecidedOwnView m x → views ≡ w.views ++ last_view_of x ∷ [] → ViewsNotedInStep w m x views

-- the moves so far, and what is known of the group that they lead to
pub record StepUpToItsDeeds (rules : Rules) (w : World) (name : ℕ) (c : Cause) (m x : Node) (s : Group) : Type 0 where
  pub group : List Entry
  pub views : List Decided
  pub changed : ChangedByMoves rules (with_group_and_views w group views) name c x s
  pub open changed use *
  pub grown : GroupListByNow c w.group group x
  pub seen : ViewsNotedInStep w m x views

-- ---- who was a member

course_member : {c : Cause} {o : Outcome} (m x : Node) → PlainChangesInTurn c o m x → cause_is_welcome c ≡ false → is_member x.status ≡ true → is_member m.status ≡ true
course_member m x nothing_yet f t = t
course_member m x (used_report from v report by may) f t = ap is_member (sym (refresh_rests_with_list _).rests.status) ∙ t
course_member m x (and_then {n = n} before z plain) f t = course_member m n before f ((plain_change_stays_in_group n x z plain).member f t)

-- ---- a look

-- what is noted by it
seen_by : {x : Node} {b : Ballot} {v : BallotVerdict} (look : LooksAtBallot x b v) (w : World) (m : Node) → (is_member m.status ≡ true) → b.stamp.by ≡ x.core.who
    → stamp_is_less (view m) b.stamp ≡ true → ViewsNotedInStep w m v.node (after_look look w).views
seen_by (finds_itself_out a) w m member own above = none_new refl
seen_by (waits a d) w m member own above = none_new refl
seen_by (fetches_from_best a d e) w m member own above = none_new refl
seen_by (finds_too_few a d) w m member own above = none_new refl
seen_by (finds_no_room a) w m member own above = none_new refl
seen_by {x = x} {b = b} {v = v} (decides may) w m member own above = one_new (record {
  member = member;
  own = ap (λ (u : Stamp). u.by) is ∙ own;
  above = ap (stamp_is_less (view m)) is ∙ above;
}) refl
  where
    is : view v.node ≡ b.stamp
    is = view_of_pushed_view (trim_to_least_taken_by x b (need_set_without_given_up b (need_set_of x b))) (decided_view x b (need_set_without_given_up b (need_set_of x b)))

world_after : {x : Node} {b : Ballot} {v : BallotVerdict} (look : LooksAtBallot x b v) (w : World) (group : List Entry)
    → after_look look (with_group_list w group) ≡ with_group_and_views w group (after_look look w).views
world_after (finds_itself_out a) w group = refl
world_after _ w group = refl

view_up : (a b stamp : Stamp) → (b ≡ a) ⊎ (stamp_is_less a b ≡ true) → stamp_is_less b stamp ≡ true → stamp_is_less a stamp ≡ true
view_up a b stamp h above = either h
    (λ same. ap (λ u. stamp_is_less u stamp) (sym same) ∙ above)
    (λ up. stamp_below_then_at_most a b stamp up (lower_stamp_is_not_above b stamp above))

pub deeds_stand_as_moves : (rules : Rules) (w : World) (name : ℕ) (c : Cause) (o : Outcome) (m x : Node) (s : Group) → ChangesWithLook c o m x → Stepping rules w name c m s
    → FrontsMatchTheGroup w name m s → CauseCarriesSentBodies w.records name o c → StepUpToItsDeeds rules w name c m x s
deeds_stand_as_moves rules w name c o m x s (plainly course) h f sent =
    let g = course_stands_as_moves rules w name c o m x s course h f sent in
    record { group = g.group; views = w.views; changed = g.changed; grown = g.grown; seen = none_new refl }
deeds_stand_as_moves rules w name c o m x s (looked {n = n} b verdict course over why look is) h f sent =
    let g = course_stands_as_moves rules w name c o m n s course h f sent in
    let now = with_group_list w g.group in
    let z = looks {m = n} b verdict over why look is in
    let one = changes_keep_step_known rules now name c o n x g.to z tt g.goes sent in
    let goes = subst (λ v. Stepping rules v name c x one.to) (world_after look w g.group) one.goes in
    let fronts = change_keeps_fronts_of_group rules now name c o n x g.to one.to z tt g.goes goes.accepted one.fronts one.grows g.fronts in
    let open_ = (balloting_looks_at_open_ballot n b why g.goes.along.balloted).open_ in
    let member = course_member m n course (ballot_look_brings_no_report b why).welcomes (g.goes.keeps.opens (looked_at_ballot_is_unfinished c n b why)).0 in
    let gone = changes_keep_list_and_names m n h.names (course_gives_changes course) h.along.names h.along.balloted in
    let up : (view n ≡ view m) ⊎ (stamp_is_less (view m) (view n) ≡ true) = either (gone.does.goes (member_status_has_log m.status member)).view
    (λ same. inl same.view)
    (λ k. inr k.0) in
    record {
      group = g.group;
      views = (after_look look w).views;
      changed = moves_before_changed g.path g.grows (search (one.to, one, goes, fronts.heard, fronts));
      grown = elim g.grown [
        | as_before is ↦ as_before is
        | by_reports brings leads start is ↦ absurd (bool_never_true_and_false _ brings (ballot_look_brings_no_report b why).brings)
      ];
      seen = seen_by look w m member open_.own (view_up (view m) (view n) b.stamp up open_.above);
    }
