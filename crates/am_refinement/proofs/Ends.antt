-- At the end of a step the group accepts what its sequencer does, and the name learns how far that is.
use Rattle.am_refinement.proofs.Words.{number_equals_itself, ◌≡◌, ◌≢◌, ℕ, ◌<◌, ◌≤◌, ◌==◌, max, true, false, if◌then◌else◌, List, ◌++◌, length, Some, slice_get, refl, sym}
use Rattle.am_refinement.proofs.Words.{ap, ◌∙◌, subst, arith, nat_tests, Entry, Stamp, Event, IsBeginningOf, Group, function_with_value, group_with_node, Node, map_with_value, has_departed, StepResult}
use Rattle.am_refinement.proofs.Words.{Decided, World, list_after_step, views_after, world_with_step, up_to_next, line_of, split_on_bool, NameStands, FrontsStand, ViewsStand, Stands}
use Rattle.am_refinement.proofs.Words.{Moves, none, moves, MovesLeadTo, GroupAccepts, no_more, rises, Learns, departed, bare, before_end, EndsStand}
use Rattle.am_refinement.specs.Ends.{learns}
use Rattle.am_abstract_group.specs.Group as groups
use Rattle.am_abstract_group.specs.Moves as group
use Rattle.am_refinement.proofs.Names.{no_move_leads_to_property, move_leads_to_property, views_stand_if_noted_lines_stay, take_of_longer_list, name_stands_in_grown_world}

-- ---- the world at the end

module _ (w : World) (e : Event) (name : ℕ) (step : StepResult) where
  before : World
  before = before_end w name step.node

  after_ : World
  after_ = world_with_step w e name step

  each_grows : (s : Group) → IsBeginningOf w.group (list_after_step w.group step.node)
      → ((i : ℕ) → i < 256 → NameStands (before_end w name step.node) i ((before_end w name step.node).nodes i) (s.node i))
      → (i : ℕ) → i < 256 → NameStands (world_with_step w e name step) i ((world_with_step w e name step).nodes i) (s.node i)
  unfolding world_with_step
  each_grows s grows h i few = name_stands_in_grown_world (before_end w name step.node) (world_with_step w e name step) i (map_with_value w.nodes name step.node i) (s.node i) grows refl
      (h i few)

  lines_grow : (s : Group) → IsBeginningOf w.group (list_after_step w.group step.node)
      → ((i : ℕ) → i < 256 → NameStands (before_end w name step.node) i ((before_end w name step.node).nodes i) (s.node i))
      → (v : Stamp) → v.by < 256 → line_of (world_with_step w e name step) v ≡ line_of (before_end w name step.node) v
  unfolding world_with_step
  lines_grow s grows h v few =
      let m = map_with_value w.nodes name step.node v.by in
      ap (λ l. up_to_next v (l ++ m.core.log.entries)) (take_of_longer_list m.core.log.start w.group (list_after_step w.group step.node) grows (h v.by few).begins.within)

  views_grow : (s : Group) → IsBeginningOf w.group (list_after_step w.group step.node)
      → ((k : ℕ) (v : Decided) → slice_get (views_after w.views (w.nodes name) step.node) k ≡ Some v → v.stamp.by < 256)
      → ((i : ℕ) → i < 256 → NameStands (before_end w name step.node) i ((before_end w name step.node).nodes i) (s.node i))
      → ViewsStand (before_end w name step.node) s.views → ViewsStand (world_with_step w e name step) s.views
  unfolding world_with_step
  views_grow s grows small each h = views_stand_if_noted_lines_stay (before_end w name step.node) (world_with_step w e name step) s.views refl
      (λ k d at. lines_grow s grows each d.stamp (small k d at)) h

-- ---- what is accepted

pub accepting_is_moves : (w : World) (s : Group) (name : ℕ) (n : Node) → s.group ≡ w.group → GroupAccepts w s name n → Moves s (record s { group = list_after_step w.group n })
accepting_is_moves w s name n same (no_more is) = subst (λ (g : List Entry). Moves s (record s { group = g })) (same ∙ sym is) none
accepting_is_moves w s name n same (rises lead may is) = subst (λ (g : List Entry). Moves s (record s { group = g })) (sym is)
    (moves (group.accepts name n.core.acc lead may) tt none)

pub moves_are_transitive : {s t u : Group} → Moves s t → Moves t u → Moves s u
moves_are_transitive none m = m
moves_are_transitive (moves x ok xs) m = moves x ok (moves_are_transitive xs m)

-- ---- what is learned

-- all stands, but for the name's own fronts
record Ended (w : World) (e : Event) (name : ℕ) (step : StepResult) (s : Group) : Type 0 where
  each : (i : ℕ) → i < 256 → NameStands (world_with_step w e name step) i (map_with_value w.nodes name step.node i) (s.node i)
  fronts : (i : ℕ) → i < 256 → i ≢ name → has_departed (map_with_value w.nodes name step.node i).status ≡ false
      → FrontsStand (map_with_value w.nodes name step.node i) (s.node i)
  views : ViewsStand (world_with_step w e name step) s.views
  group_ : s.group ≡ list_after_step w.group step.node

-- and with them
all_stands : (w : World) (e : Event) (name : ℕ) (step : StepResult) (s : Group) → Ended w e name step s
    → (has_departed step.node.status ≡ false → FrontsStand step.node (s.node name)) → Stands (world_with_step w e name step) s
unfolding world_with_step
all_stands w e name step s h own = record {
  each = h.each;
  fronts = λ i few. split_on_bool (i == name)
      (λ t. (let same : i ≡ name = grind (arith, nat_tests) in
      let mine : has_departed step.node.status ≡ false
      → FrontsStand step.node (s.node i) = subst (λ k. has_departed step.node.status ≡ false → FrontsStand step.node (s.node k)) (sym same) own in
      rw t mine))
      (λ f. h.fronts i few (λ same. (let t : (i == name) ≡ true = grind (arith, nat_tests) in cc)));
  views = h.views;
  group = h.group_;
}

learned : (w : World) (e : Event) (name : ℕ) (step : StepResult) (s : Group) (told_ acc_ : ℕ) → Ended w e name step s
    → Ended w e name step (group_with_node s name (record (s.node name) { told = told_; acc = acc_ }))
unfolding function_with_value
learned w e name step s told_ acc_ h = record {
  each = λ i few. split_on_bool (i == name)
      (λ t. (let same : i ≡ name = grind (arith, nat_tests) in
      let old : NameStands (world_with_step w e name step) i (map_with_value w.nodes name step.node i)
      (s.node name) = subst (λ k. NameStands (world_with_step w e name step) i (map_with_value w.nodes name step.node i) (s.node k)) same (h.each i few) in
      let new : NameStands (world_with_step w e name step) i (map_with_value w.nodes name step.node i)
      (record (s.node name) { told = told_; acc = acc_ }) = assumption in
      subst (λ (a : groups.ChainNode). NameStands (world_with_step w e name step) i (map_with_value w.nodes name step.node i) a)
      (λ j. if sym t j then record (s.node name) { told = told_; acc = acc_ } else s.node i) new))
      (λ f. subst (λ (a : groups.ChainNode). NameStands (world_with_step w e name step) i (map_with_value w.nodes name step.node i) a)
      (λ j. if sym f j then record (s.node name) { told = told_; acc = acc_ } else s.node i) (h.each i few));
  fronts = λ i few other. split_on_bool (i == name)
      (λ t. absurd (let same : i ≡ name = grind (arith, nat_tests) in other same))
      (λ f. λ d. subst (λ (a : groups.ChainNode). FrontsStand (map_with_value w.nodes name step.node i) a)
      (λ j. if sym f j then record (s.node name) { told = told_; acc = acc_ } else s.node i) (h.fronts i few other d));
  views = h.views;
  group_ = h.group_;
}

own_fronts : (n : Node) (name : ℕ) (s : Group) (told_ : ℕ) → n.core.told ≤ told_
    → FrontsStand n ((group_with_node s name (record (s.node name) { told = told_; acc = n.core.acc })).node name)
unfolding function_with_value
own_fronts n name s told_ low = rw (number_equals_itself name) (record { told = low; acc = refl })

learn_stands : (w : World) (e : Event) (name : ℕ) (step : StepResult) (s : Group) → s.group ≡ list_after_step w.group step.node → Ended w e name step s
    → (name < 256) → Learns w s name step.node → MovesLeadTo (Stands (world_with_step w e name step)) s
learn_stands w e name step s same h few (departed d) = no_move_leads_to_property (Stands (world_with_step w e name step)) s (all_stands w e name step s h (λ f. absurd (cc)))
learn_stands w e name step s same h few (bare f) = no_move_leads_to_property (Stands (world_with_step w e name step)) s (all_stands w e name step s h (λ d. f))
learn_stands w e name step s same h few (learns m) =
    let n = step.node in
    let told_ = max (s.node name).told n.core.told in
    let long : told_ ≤ length s.group = subst (λ (g : List Entry). told_ ≤ length g) (sym same) m.told in
    let t = group_with_node s name (record (s.node name) { told = told_; acc = n.core.acc }) in
    move_leads_to_property (Stands (world_with_step w e name step)) s t (group.learns name told_ n.core.acc m.up (omega arith) long m.before m.up_to m.given m.within) tt
    (all_stands w e name step t (learned w e name step s told_ n.core.acc h) (λ d. own_fronts n name s told_ (omega arith)))

-- ---- the end

pub step_ends_stand_as_moves : EndsStand
unfolding world_with_step
step_ends_stand_as_moves w e name step s needs h =
    let n = step.node in
    let g = list_after_step w.group n in
    let t = record s { group = g } in
    let path = accepting_is_moves w s name n h.group needs.accepts in
    let ended : Ended w e name step t = assumption (
      each_grows w e name step s needs.grows h.each,
      views_grow w e name step s needs.grows needs.noted h.each h.views,
    ) in
    let last = learn_stands w e name step t refl ended needs.few (elim needs.learns [
      | departed d ↦ departed d
      | bare f ↦ bare f
      | learns m ↦ learns (record { up = m.up; told = m.told; before = m.before; up_to = m.up_to; given = m.given; within = m.within })
    ]) in
    record { to = last.to; path = moves_are_transitive path last.path; is = last.is }
