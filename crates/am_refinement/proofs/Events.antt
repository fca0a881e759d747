-- What stands for a world goes on standing through an event that no node does.
use Rattle.am_refinement.proofs.Words.{◌≡◌, ℕ, ◌+◌, ◌==◌, ◌||◌, Bool, true, false, if◌then◌else◌, List, [], ◌∷◌, ◌++◌, refl, sym, ap, ◌∙◌, subst, arith}
use Rattle.am_refinement.proofs.Words.{take, list_any, nat_tests, list_any-append, Outcome, Event, Group, function_with_value, group_with_node, Node, map_with_value}
use Rattle.am_refinement.proofs.Words.{has_departed, up_to_next, World, current, is_stopped, world_with_record, world_with_next_life, split_on_bool, acting_name, idles, returns, steps}
use Rattle.am_refinement.proofs.Words.{NameStands, FrontsStand, Stands, EventsStand, EventStands, no_move, stop, list_begins_itself, IsBeginningOf}
use Rattle.am_step_laws.specs.Events.{stops}
use Rattle.am_base.specs.declared.outcome.Outcome.TheVariants as said
use Rattle.am_abstract_group.specs.Group as groups
use Rattle.am_refinement.proofs.Names.{name_stands_with_same_group, views_stand_if_lines_stay, name_stands_in_later_world}

-- ---- a record more

-- an event that changes no node adds just this
pub record_keeps_group_standing : (w : World) (e : Event) (o : Outcome) (s : Group) → Stands w s → Stands (world_with_record w e o) s
unfolding world_with_record
record_keeps_group_standing w e o s h = record {
  each = λ i few. name_stands_with_same_group w (world_with_record w e o) i (w.nodes i) (s.node i) refl refl (h.each i few);
  fronts = h.fronts;
  views = views_stand_if_lines_stay w (world_with_record w e o) s.views refl (λ stamp. refl) h.views;
  group = h.group;
}

-- ---- a stop

one_more : (stopped : List ℕ) (name i : ℕ) → list_any (λ x. x == i) (stopped ++ name ∷ []) ≡ (list_any (λ x. x == i) stopped || ((name == i) || false))
one_more stopped name i = list_any-append (λ x. x == i) stopped (name ∷ [])

or_none : (a : Bool) → (a || (false || false)) ≡ a
or_none true = refl
or_none false = refl

or_some : (a : Bool) → (a || (true || false)) ≡ true
or_some true = refl
or_some false = refl

with_stop : (w v : World) (i : ℕ) (m : Node) (a : groups.ChainNode) → v.group ≡ w.group → is_stopped v i ≡ true → NameStands w i m a
    → NameStands v i m (record a { stopped = true })
with_stop w v i m a group_ now h = name_stands_in_later_world w v i m a true (subst (IsBeginningOf w.group) (sym group_) (list_begins_itself w.group)) (sym now) h

-- with a name that has stopped
stopped_more : (w v : World) (name : ℕ) (s : Group) → v.nodes ≡ w.nodes → v.group ≡ w.group → v.views ≡ w.views → v.stopped ≡ w.stopped ++ name ∷ []
    → Stands w s → Stands v (group_with_node s name (record (s.node name) { stopped = true }))
unfolding function_with_value
stopped_more w v name s nodes group_ views stopped h =
    let at : (i : ℕ) → is_stopped v i ≡ (is_stopped w i || ((name == i) || false)) = λ i. ap (λ (l : List ℕ). list_any (λ x. x == i) l) stopped
    ∙ one_more w.stopped name i in
    record {
      each = λ i few. subst (λ (m : Node). NameStands v i m (if i == name then record (s.node name) { stopped = true } else s.node i))
          (ap (λ f. f i) (sym nodes)) (split_on_bool (i == name)
          (λ t.
          let same : i ≡ name = grind (arith, nat_tests) in
          let flipped : (name == i) ≡ true = grind (arith, nat_tests) in
          let now : is_stopped v i ≡ true = at i ∙ ap (λ b. is_stopped w i || (b || false)) flipped ∙ or_some (is_stopped w i) in
          let old : NameStands w i (w.nodes i) (s.node name) = subst (λ k. NameStands w i (w.nodes i) (s.node k)) same (h.each i few) in
          let k = with_stop w v i (w.nodes i) (s.node name) group_ now old in
          rw t k)
          (λ f.
          let flipped : (name == i) ≡ false = grind (arith, nat_tests) in
          let now : is_stopped v i ≡ is_stopped w i = at i ∙ ap (λ b. is_stopped w i || (b || false)) flipped ∙ or_none (is_stopped w i) in
          rw f (name_stands_with_same_group w v i (w.nodes i) (s.node i) group_ now (h.each i few))));
      fronts = λ i few d. subst (λ (m : Node). FrontsStand m (if i == name then record (s.node name) { stopped = true } else s.node i))
          (ap (λ f. f i) (sym nodes))
          (let old : FrontsStand (w.nodes i) (s.node i) = h.fronts i few (ap (λ f. has_departed (f i).status) (sym nodes) ∙ d) in split_on_bool (i == name)
          (λ t. let same : i ≡ name = grind (arith, nat_tests) in
          let mine : FrontsStand (w.nodes i) (s.node name) = subst (λ k. FrontsStand (w.nodes i) (s.node k)) same old in
          rw t (record { told = mine.told; acc = mine.acc }))
          (λ f. rw f old));
      views = views_stand_if_lines_stay w v s.views views (λ stamp. (λ i. up_to_next stamp
          (take (nodes i stamp.by).core.log.start (group_ i) ++ (nodes i stamp.by).core.log.entries))) h.views;
      group = h.group ∙ sym group_;
    }

-- ---- each event that no node does

pub stop_keeps_group_standing : (w : World) (e : Event) (o : Outcome) (name : ℕ) (s : Group) → Stands w s
    → EventStands (world_with_record (record w { stopped = w.stopped ++ name ∷ [] }) e o) s
stop_keeps_group_standing w e o name s h =
    let v = record w { stopped = w.stopped ++ name ∷ [] } in
    let next = group_with_node s name (record (s.node name) { stopped = true }) in
    stop name (record_keeps_group_standing v e o next (stopped_more w v name s refl refl refl refl h))

-- the name of a place that returns stops, if it hadn't
same_lives : (w v : World) (s : Group) → v.nodes ≡ w.nodes → v.group ≡ w.group → v.views ≡ w.views → v.stopped ≡ w.stopped → Stands w s → Stands v s
same_lives w v s nodes group_ views stopped h = record {
  each = λ i few. subst (λ (m : Node). NameStands v i m (s.node i)) (ap (λ f. f i) (sym nodes))
      (name_stands_with_same_group w v i (w.nodes i) (s.node i) group_ (ap (λ (l : List ℕ). list_any (λ x. x == i) l) stopped) (h.each i few));
  fronts = λ i few d. subst (λ (m : Node). FrontsStand m (s.node i)) (ap (λ f. f i) (sym nodes))
      (h.fronts i few (ap (λ f. has_departed (f i).status) (sym nodes) ∙ d));
  views = views_stand_if_lines_stay w v s.views views (λ stamp. (λ i. up_to_next stamp
      (take (nodes i stamp.by).core.log.start (group_ i) ++ (nodes i stamp.by).core.log.entries))) h.views;
  group = h.group ∙ sym group_;
}

pub return_keeps_group_standing : (w : World) (e : Event) (o : Outcome) (place : ℕ) (s : Group) → Stands w s → EventStands (world_with_next_life (world_with_record w e o) place) s
unfolding world_with_record
return_keeps_group_standing w e o place s h =
    by_stop (is_stopped w (current w place))
  where
    after_ : List ℕ → World
    after_ names = record (world_with_record w e o) { lives = map_with_value w.lives place (w.lives place + 1); stopped = names }

    by_stop : (b : Bool) → EventStands (after_ (if b then w.stopped else w.stopped ++ current w place ∷ [])) s
    by_stop true = no_move (same_lives w (after_ w.stopped) s refl refl refl refl h)
    by_stop false = stop (current w place)
        (stopped_more w (after_ (w.stopped ++ current w place ∷ [])) (current w place) s refl refl refl refl h)

pub idle_events_keep_group_standing : EventsStand
idle_events_keep_group_standing w e v s (idles o idle) is h = no_move (record_keeps_group_standing w e o s h)
idle_events_keep_group_standing w e v s (stops runs) is h = stop_keeps_group_standing w e said.Stopped (acting_name w e) s h
idle_events_keep_group_standing w e v s (returns place at gone more) is h = return_keeps_group_standing w e (said.Returned (w.lives place + 1)) place s h
idle_events_keep_group_standing w e v s (steps c step runs cause effect) is h = absurd is
