-- The last member numbers its own Leave, accepts what it may, and goes: one move, which ends its step.
use Rattle.am_refinement.proofs.Words.{number_equals_itself, ◌≡◌, ◌≢◌, ℕ, ◌<◌, ◌≤◌, ◌==◌, true, false, [], ◌∷◌, ◌++◌, length, take, Some, slice_get, refl, sym, ap, ◌∙◌}
use Rattle.am_refinement.proofs.Words.{subst, arith, nat_tests, Stamp, Leave, Log, Event, image_of_list, Group, function_with_value, Move, group_with_line, node_with_entry, Node, push_entry, map_with_value}
use Rattle.am_refinement.proofs.Words.{has_departed, StepResult, is_unfinished_ballot, Decided, World, list_after_step, world_with_step, up_to_next, line_of, split_on_bool, end_refresh_rests_with_list}
use Rattle.am_refinement.proofs.Words.{NameStands, FrontsStand, StandsBut, Stands, within, NeedsClose, after_closing, CloseStands, MoveIsSound}
use Rattle.am_abstract_group.specs.Group as groups
use Rattle.am_abstract_group.specs.Moves as group
use Rattle.am_refinement.proofs.{Names.move_leads_to_property, Names.views_stand_if_noted_lines_stay, Changes.acting_name_stands, Changes.running_member_is_up, Entries.sequencer_node_stands_for_sequencer, Entries.numbered_entry_keeps_group_standing, Names.take_of_longer_list}
use Rattle.am_refinement.proofs.{Names.name_stands_in_grown_world}

-- what stands for who has gone so
gone_name : (w : World) (name : ℕ) (x : Node) (b : groups.ChainNode) → b.has_log ≡ true
    → NameStands (within w name (push_entry x (Leave x.core.who))) name (push_entry x (Leave x.core.who)) b
    → NameStands (within w name (after_closing x)) name (after_closing x) (record b { departed = true })
gone_name w name x b log h =
    let r = end_refresh_rests_with_list (push_entry x (Leave x.core.who)) in
    assumption (
      subst (λ (g : Log). g.start ≤ length w.group) (sym r.log) h.begins.within,
      subst (λ (g : Log). g.image ≡ image_of_list (take g.start w.group)) (sym r.log) h.begins.image,
      h.list ∙ ap (λ (g : Log). take g.start w.group ++ g.entries) (sym r.log),
      h.leaving ∙ sym r.rests.leaving,
      h.promise ∙ sym r.rests.promise,
      h.ballot ∙ ap is_unfinished_ballot (sym r.rests.ballot),
      h.start (sym h.log_ ∙ log) ∙ sym r.begins,
    )

module _ (w : World) (e : Event) (name : ℕ) (x : Node) (step : StepResult) (s : Group) (is : step.node ≡ after_closing x) (who : x.core.who ≡ name) (few : name < 256)
    (small : (k : ℕ) (v : Decided) → slice_get w.views k ≡ Some v → v.stamp.by < 256) (log : (s.node name).has_log ≡ true)
    (needs : NeedsClose w s name step.node) (h : StandsBut name (within w name (push_entry x (Leave x.core.who)))
    (group_with_line s name (node_with_entry (s.node name) (Leave x.core.who)))) where
  t : Group
  t = record (group_with_line s name (record (node_with_entry (s.node name) (Leave x.core.who)) { departed = true })) {
    group = take needs.upto
        ((s.node name).list ++ Leave x.core.who ∷ []);
  }

  -- the node is this one's
  same_log : step.node.core.log ≡ (push_entry x (Leave x.core.who)).core.log
  same_log = ap (λ (n : Node). n.core.log) is ∙ (end_refresh_rests_with_list (push_entry x (Leave x.core.who))).log

  grown : list_after_step w.group step.node ≡ take needs.upto ((s.node name).list ++ Leave x.core.who ∷ [])
  grown = needs.accepted ∙ ap (λ k. take needs.upto ((s.node name).list ++ Leave k ∷ [])) (sym who)

  each : (i : ℕ) → i < 256 → NameStands (world_with_step w e name step) i (map_with_value w.nodes name step.node i)
      (function_with_value s.node name (record (node_with_entry (s.node name) (Leave x.core.who)) { departed = true }) i)
  unfolding function_with_value world_with_step
  each i small_ = split_on_bool (i == name)
      (λ u.
      let same : i ≡ name = grind (arith, nat_tests) in
      let mine : NameStands (within w name (push_entry x (Leave x.core.who))) name (push_entry x (Leave x.core.who))
      (node_with_entry (s.node name) (Leave x.core.who)) = rw (number_equals_itself name) at (h.each name few) in
      let gone = gone_name w name x (node_with_entry (s.node name) (Leave x.core.who)) log mine in
      let here : NameStands (within w name (after_closing x)) name step.node
      (record (node_with_entry (s.node name) (Leave x.core.who)) { departed = true }) = subst (λ (n : Node). NameStands (within w name (after_closing x)) name n
      (record (node_with_entry (s.node name) (Leave x.core.who)) { departed = true })) (sym is) gone in
      let k = name_stands_in_grown_world (within w name (after_closing x)) (world_with_step w e name step) name step.node
      (record (node_with_entry (s.node name) (Leave x.core.who)) { departed = true }) needs.grows refl here in
      let at : NameStands (world_with_step w e name step) i step.node
      (record (node_with_entry (s.node name) (Leave x.core.who)) { departed = true }) = subst (λ j. NameStands (world_with_step w e name step) j step.node
      (record (node_with_entry (s.node name) (Leave x.core.who)) { departed = true })) (sym same) k in
      rw u at)
      (λ f.
      let old : NameStands (within w name (push_entry x (Leave x.core.who))) i (w.nodes i) (s.node i) = rw f at (h.each i small_) in
      rw f (name_stands_in_grown_world (within w name (push_entry x (Leave x.core.who))) (world_with_step w e name step) i (w.nodes i) (s.node i) needs.grows refl old))

  lines : (v : Stamp) → v.by < 256 → line_of (world_with_step w e name step) v ≡ line_of (within w name (push_entry x (Leave x.core.who))) v
  unfolding world_with_step function_with_value
  lines v low = split_on_bool (v.by == name)
      (λ u.
      let p = push_entry x (Leave x.core.who) in
      let mine : NameStands (within w name p) name p (node_with_entry (s.node name) (Leave x.core.who)) = rw (number_equals_itself name) at (h.each name few) in
      let front = take_of_longer_list p.core.log.start w.group (list_after_step w.group step.node) needs.grows mine.begins.within in
      rw u (ap (λ (g : Log). up_to_next v (take g.start (list_after_step w.group step.node) ++ g.entries)) same_log
      ∙ ap (λ l. up_to_next v (l ++ p.core.log.entries)) front))
      (λ f.
      let old : NameStands (within w name (push_entry x (Leave x.core.who))) v.by (w.nodes v.by) (s.node v.by) = rw f at (h.each v.by low) in
      let m = w.nodes v.by in
      rw f (ap (λ l. up_to_next v (l ++ m.core.log.entries))
      (take_of_longer_list m.core.log.start w.group (list_after_step w.group step.node) needs.grows old.begins.within)))

  stands : Stands (world_with_step w e name step) t
  unfolding function_with_value world_with_step t
  stands = record {
    each = each;
    fronts = λ i small_ d. split_on_bool (i == name)
        (λ u. absurd (let z : has_departed step.node.status ≡ false = rw u at d in let y = ap (λ (n : Node). has_departed n.status) is in cc))
        (λ f. (let other : i ≢ name = λ same. (let u : (i == name) ≡ true = grind (arith, nat_tests) in cc) in
        let old : has_departed (w.nodes i).status ≡ false → FrontsStand (w.nodes i) (s.node i) = rw f at (h.fronts i small_ other) in
        let z : has_departed (w.nodes i).status ≡ false = rw f at d in
        rw f (old z)));
    views = views_stand_if_noted_lines_stay (within w name (push_entry x (Leave x.core.who))) (world_with_step w e name step)
        (group_with_line s name (node_with_entry (s.node name) (Leave x.core.who))).views needs.no_view (λ k d at. lines d.stamp (small k d at)) h.views;
    group = sym grown;
  }

pub last_leave_stands_as_move : CloseStands
unfolding t
last_leave_stands_as_move w e name c x step s may leads leaves is needs h =
    let a = s.node name in
    let old = acting_name_stands w name x s may.few h in
    let leading = sequencer_node_stands_for_sequencer w name x a may.who leads old in
    let up = running_member_is_up w name x a may.runs leading.member old in
    let plain = numbered_entry_keeps_group_standing w name x (Leave x.core.who) s may.few leading may.noted refl needs.chain h in
    let who = may.who in
    let move : (m : Move s (record (group_with_line s name (record (node_with_entry (s.node name) (Leave x.core.who)) { departed = true })) {
      group = take needs.upto
          ((s.node name).list ++ Leave x.core.who ∷ []);
    })) × MoveIsSound m =
    subst (λ k. (m : Move s (record (group_with_line s name (record (node_with_entry (s.node name) (Leave k)) { departed = true })) {
      group = take needs.upto
          ((s.node name).list ++ Leave k ∷ []);
    })) × MoveIsSound m) (sym who)
    (group.closes name needs.upto (record { up = up; acts = leading.acts_; by = leading.by }) (old.leaving ∙ leaves) needs.alone needs.accepts, tt) in
    move_leads_to_property (Stands (world_with_step w e name step)) s (t w e name x step s is may.who may.few may.noted up.log needs plain) move.0 move.1
    (stands w e name x step s is may.who may.few may.noted up.log needs plain)
