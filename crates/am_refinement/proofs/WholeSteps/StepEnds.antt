-- The end of a step: the refresh, what of it settles a send, and what the step noted.
use Rattle.am_refinement.proofs.WholeSteps.StepWords.{view_of_nil, member_has_not_departed, not-true, member_status_has_log, stamp_eq_of_itself, stamp_eq_gives_equality, ◌≡◌, ◌≢◌, either, ℕ, ◌<◌, ◌≤◌, ◌==◌, ◌&&◌, not}
use Rattle.am_refinement.proofs.WholeSteps.StepWords.{true, false, List, [], ◌∷◌, ◌++◌, slice_get, Some, refl, sym, ap, ◌∙◌, subst, arith, nat_tests, Stamp, Entry, Outcome}
use Rattle.am_refinement.proofs.WholeSteps.StepWords.{Rules, Log, image_of_log, members_of_image, stamp_is_less, stamps_are_equal, no_stamp, stamp_of_list, key_of_stamp, name_of_view_is_byte, Group, IsUp, Node, top, view}
use Rattle.am_refinement.proofs.WholeSteps.StepWords.{is_member, has_log_by_status, has_departed, refresh, settle_waiting_send, Decided, World, list_after_step, views_after, split_on_bool, both_of_and, Cause}
use Rattle.am_refinement.proofs.WholeSteps.StepWords.{settles, refresh_rests_with_list, is_sequencer_after_rest, settle_changes_only_sends, stamp_not_below_itself, NotedViewStandsInLog, EntriesStayAndViewRises, CauseCarriesSentBodies, FrontsStand, Grows, Moves}
use Rattle.am_refinement.proofs.WholeSteps.StepWords.{Stepping, moves_are_transitive, stamps_of_equal_keys, view_of_whole_list, acting_name_stands_before, group_is_whole_at_step, group_growth_is_transitive, up_name_list_opens_line, changes_keep_step_known}
use Rattle.am_group_defs.specs.World.{step_decides_view}
use Rattle.am_refinement.proofs.WholeSteps.Worlds.{with_group_list}
use Rattle.am_refinement.proofs.WholeSteps.Refreshed.{refresh_stands_as_moves}
use Rattle.am_refinement.proofs.WholeSteps.Courses.{group_after_lower_then_higher}
use Rattle.am_refinement.proofs.WholeSteps.StepGoing.{GroupListByNow, as_before, by_reports}
use Rattle.am_refinement.proofs.WholeSteps.Deeds.{with_group_and_views, ViewsNotedInStep, none_new, one_new, StepUpToItsDeeds}

-- ---- the group list at the end

settled_group : (group : List Entry) (y : Node) → list_after_step group (settle_waiting_send y) ≡ list_after_step group y
settled_group group y = subst (λ n. list_after_step group n ≡ list_after_step group y) (sym (settle_changes_only_sends y)) refl

end_group : {c : Cause} (old_ group : List Entry) (x : Node) → x.core.acc ≤ top x → GroupListByNow c old_ group x
    → list_after_step group (refresh x) ≡ list_after_step old_ (refresh x)
end_group old_ group x high (as_before is) = ap (λ g. list_after_step g (refresh x)) is
end_group old_ group x high (by_reports brings leads start is) =
    let r = refresh_rests_with_list x in
    ap (λ g. list_after_step g (refresh x)) is ∙ group_after_lower_then_higher old_ x (refresh x) leads (is_sequencer_after_rest r.rests ∙ leads) r.log start r.rests.acc high

-- ---- the end

-- what is known of the node as it is then
pub record StepAtItsEnd (rules : Rules) (w : World) (name : ℕ) (c : Cause) (m n : Node) (s : Group) : Type 0 where
  pub views : List Decided
  pub to : Group
  pub path : Moves s to
  pub grows : Grows s to
  pub goes : Stepping rules (with_group_and_views w (list_after_step w.group n) views) name c n to
  pub fronts : has_departed n.status ≡ false → FrontsStand n (to.node name)
  pub seen : ViewsNotedInStep w m n views

seen_end : (w : World) (m x n : Node) (views : List Decided) → n.core.log ≡ x.core.log → n.core.who ≡ x.core.who → ViewsNotedInStep w m x views → ViewsNotedInStep w m n views
seen_end w m x n views log who (none_new is) = none_new is
seen_end w m x n views log who (one_new d is) =
    let viewed : view n ≡ view x = ap (λ (l : Log). (image_of_log l).view) log in
    one_new (record {
      member = d.member;
      own = ap (λ (u : Stamp). u.by) viewed ∙ d.own ∙ sym who;
      above = ap (stamp_is_less (view m)) viewed ∙ d.above;
    }) (is ∙ ap (λ (l : Log). w.views ++ record {
      number = (image_of_log l).view_number;
      view = record { stamp = (image_of_log l).view; members = members_of_image (image_of_log l); resilience = (image_of_log l).resilience };
    } ∷ []) (sym log))

pub step_end_stands_as_moves : (rules : Rules) (w : World) (name : ℕ) (c : Cause) (o : Outcome) (m x : Node) (s : Group) → CauseCarriesSentBodies w.records name o c
    → StepUpToItsDeeds rules w name c m x s → StepAtItsEnd rules w name c m (settle_waiting_send (refresh x)) s
step_end_stands_as_moves rules w name c o m x s sent d =
    let now = with_group_and_views w d.group d.views in
    let y = refresh x in
    let n = settle_waiting_send y in
    let r = refresh_stands_as_moves rules now name c x d.to d.goes d.fronts in
    let later = with_group_list now (list_after_step d.group y) in
    let one = changes_keep_step_known rules later name c o y n r.to (settles {m = y}) tt r.goes sent in
    let is : list_after_step d.group y ≡ list_after_step w.group n = end_group w.group d.group x d.goes.along.owned.fronts.accepted d.grown
    ∙ sym (settled_group w.group y) in
    let same = settle_changes_only_sends y in
    let log : n.core.log ≡ x.core.log = ap (λ (z : Node). z.core.log) same ∙ (refresh_rests_with_list x).log in
    let who : n.core.who ≡ x.core.who = ap (λ (z : Node). z.core.who) same ∙ (refresh_rests_with_list x).rests.who in
    record {
      views = d.views;
      to = one.to;
      path = moves_are_transitive d.path (moves_are_transitive r.path one.path);
      grows = group_growth_is_transitive s d.to one.to d.grows (group_growth_is_transitive d.to r.to one.to r.grows one.grows);
      goes = subst (λ g. Stepping rules (with_group_and_views w g d.views) name c n one.to) is one.goes;
      fronts = λ u. (
          let here : has_departed y.status ≡ false = sym (ap (λ (z : Node). has_departed z.status) same) ∙ u in
          let acc = ap (λ (z : Node). z.core.acc) same in
          let told_ = ap (λ (z : Node). z.core.told) same in
          let most = r.fronts.told here in
          record { told = omega arith; acc = one.fronts.acc ∙ r.fronts.acc here ∙ sym acc });
      seen = seen_end w m x n d.views log who d.seen;
    }

-- ---- what was noted

-- a step that noted no view decided none
none_decided : (rules : Rules) (w : World) (name : ℕ) (c : Cause) (m n : Node) (t : Group) (group : List Entry)
    → Stepping rules (with_group_and_views w group w.views) name c n t → (has_log_by_status m.status ≡ true → EntriesStayAndViewRises m.core.log n.core.log)
    → (has_log_by_status m.status ≡ true → has_log_by_status n.status ≡ true) → (has_departed m.status ≡ false → has_departed n.status ≡ false)
    → ((k : ℕ) (d : Decided) → slice_get w.views k ≡ Some d → NotedViewStandsInLog w.nodes d) → w.nodes name ≡ m → (member : is_member m.status ≡ true)
    → (view n).by ≡ n.core.who → stamps_are_equal (view m) (view n) ≡ false → ⊥
none_decided rules w name c m n t group h goes log_ there noted is member own differs =
    let had = member_status_has_log m.status member in
    let mine = acting_name_stands_before rules (with_group_and_views w group w.views) name c n t h in
    let up : IsUp (t.node name) = record {
      log = mine.log_ ∙ log_ had;
      there = record { goes = mine.stopped ∙ h.runs; stays = mine.departed ∙ there (member_has_not_departed m.status member) };
    } in
    either (goes had).view
    (λ same. (let z : stamps_are_equal (view m) (view n) ≡ true = ap (stamps_are_equal (view m)) same.view
    ∙ stamp_eq_of_itself (view m) in cc)) (λ k. (
    let viewed : stamp_of_list (t.node name).list ≡ view n = view_of_whole_list (with_group_and_views w group w.views) name n (t.node name) mine in
    let g = group_is_whole_at_step rules (with_group_and_views w group w.views) name c n t h in
    let some : (t.node name).list ≢ [] = λ none. (let z : view n ≡ no_stamp = sym viewed ∙ ap stamp_of_list none ∙ view_of_nil in
    let low : stamp_is_less (view m) (view n) ≡ false = ap (stamp_is_less (view m)) z ∙ (grind (arith, nat_tests)) in let up_ = k.0 in cc) in
    let opens = up_name_list_opens_line t name g.kept g.opens up some in
    let was = h.stands.views.decided (key_of_stamp (view n)) (ap (λ (u : Stamp). t.views.decided (key_of_stamp u)) (sym viewed) ∙ opens.decided) in
    let small : (view n).by < 256 = subst (λ (u : Stamp). u.by < 256) viewed (name_of_view_is_byte (t.node name).list h.keeps.good) in
    let d = noted was.index was.view was.there in
    let same : was.view.stamp ≡ view n = stamps_of_equal_keys was.view.stamp (view n) d.by small was.is in
    let by : was.view.stamp.by ≡ name = ap (λ (u : Stamp). u.by) same ∙ own ∙ h.who in
    let low : stamp_is_less (view m) (view n) ≡ false = ap (stamp_is_less (view m)) (sym same) ∙ subst (λ (i : Node). stamp_is_less (view i) was.view.stamp ≡ false)
    (ap w.nodes by ∙ is) d.low in
    cc))

pub views_at_step_end : (rules : Rules) (w : World) (name : ℕ) (c : Cause) (m n : Node) (t : Group) (group : List Entry) (views : List Decided)
    → Stepping rules (with_group_and_views w group views) name c n t → (has_log_by_status m.status ≡ true → EntriesStayAndViewRises m.core.log n.core.log)
    → (has_log_by_status m.status ≡ true → has_log_by_status n.status ≡ true) → (has_departed m.status ≡ false → has_departed n.status ≡ false)
    → ((k : ℕ) (d : Decided) → slice_get w.views k ≡ Some d → NotedViewStandsInLog w.nodes d) → w.nodes name ≡ m → ViewsNotedInStep w m n views
    → views ≡ views_after w.views m n
views_at_step_end rules w name c m n t group views h goes log_ there noted is (none_new same) = split_on_bool (step_decides_view m n)
    (λ u. absurd (
    let a = both_of_and (is_member m.status) (((view n).by == n.core.who) && not (stamps_are_equal (view m) (view n))) u in
    let b = both_of_and ((view n).by == n.core.who) (not (stamps_are_equal (view m) (view n))) a.1 in
    let own : (view n).by ≡ n.core.who = (let z = b.0 in grind (arith, nat_tests)) in
    none_decided rules w name c m n t group (subst (λ vs. Stepping rules (with_group_and_views w group vs) name c n t) same h) goes log_ there noted is a.0 own
    (not-true (stamps_are_equal (view m) (view n)) b.1)))
    (λ f. rw f same)
views_at_step_end rules w name c m n t group views h goes log_ there noted is (one_new d same) =
    let own : ((view n).by == n.core.who) ≡ true = (let z = d.own in grind (arith, nat_tests)) in
    let differs : stamps_are_equal (view m) (view n) ≡ false = split_on_bool (stamps_are_equal (view m) (view n))
    (λ u. absurd (let same_ = stamp_eq_gives_equality (view m) (view n) u in
    let z : stamp_is_less (view m) (view n) ≡ false = ap (stamp_is_less (view m)) (sym same_) ∙ stamp_not_below_itself (view m) in
    cc)) (λ f. f) in
    let member = d.member in
    rw (member, own, differs) same
