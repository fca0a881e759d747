-- What is so of a name's step in every run, as the world tells its watcher of it.
use Rattle.am_step_laws.proofs.Words.{number_equals_itself, stamp_eq_of_itself, ◌≡◌, ℕ, ◌≤◌, ◌&&◌, ◌||◌, not, Bool, true, if◌then◌else◌, List, length, refl, sym, ap}
use Rattle.am_step_laws.proofs.Words.{subst, arith, list_any, Stamp, NodeEvent, Rules, MayFound, Event, view, step, World, run, happens, world_with_step, world_with_record}
use Rattle.am_step_laws.proofs.Words.{acting_name, EventHappens, idles, steps, events_have_effects}
use Rattle.am_step_laws.proofs.Watching.StoredWords.{is_view_of, actor_is_below_256, names_hold_in_runs, number_bounds_hold_in_runs, StampIsNew, standing_of, last_view_of_node, run_has_bare_listless_nodes, lists_only_grow_in_runs, decided_views_of_runs_are_new}
use Rattle.am_step_laws.proofs.Watching.StoredWords.{list_begins_in_step, views_stored_in_step}
use Rattle.am_model.specs.Node.{Node}
use Rattle.am_group_defs.specs.World.{step_decides_view}
use Rattle.am_step_laws.specs.Events.{stops, returns}
use Rattle.am_step_laws.proofs.Watching.Start.{list_start_after_step}
use Rattle.am_step_laws.proofs.Watching.StoredSteps.{each_step_adds_views, stored_views_are_added_views}

-- where the list of a name's node begins after a step
pub log_start_after_step : (rules : Rules) (events : List Event) (e : Event) (what : NodeEvent) → MayFound rules
    → let w = run rules events in let m = w.nodes (acting_name w e) in let n = (step m what).node in
    happens w e ≡ world_with_step w e (acting_name w e) (step m what) → n.core.log.start ≡ (if list_begins_in_step (standing_of m) n.status then n.core.base else m.core.log.start)
log_start_after_step rules events e what may is =
    let w = run rules events in
    list_start_after_step rules events e (step (w.nodes (acting_name w e)) what) may is

-- which Views stand in it
pub stored_views_after_step : (rules : Rules) (events : List Event) (e : Event) (what : NodeEvent) → MayFound rules
    → let w = run rules events in let name = acting_name w e in let m = w.nodes name in let n = (step m what).node in
    happens w e ≡ world_with_step w e name (step m what)
    → (v : Stamp) → list_any (is_view_of v) n.core.log.entries
    ≡ (list_any (is_view_of v) m.core.log.entries || list_any (is_view_of v) (views_stored_in_step name (standing_of m) (standing_of n) (last_view_of_node n) what))
stored_views_after_step rules events e what may is v =
    let w = run rules events in
    let name = acting_name w e in
    let h = run_has_bare_listless_nodes rules events may in
    let few = actor_is_below_256 rules w e h.base.named in
    stored_views_are_added_views name (w.nodes name) (step (w.nodes name) what).node what v
    (each_step_adds_views name (w.nodes name) what ((names_hold_in_runs rules events may).who name) (h.base.each name few).balloted (h.each name few))

-- ---- its name, where its list begins, and a view that it decided

pub record StepKeepsOwnFacts (w v : World) (name : ℕ) : Type 0 where
  pub own : (v.nodes name).core.who ≡ name
  pub begins_ : (v.nodes name).core.log.start ≤ length w.group
  pub new : step_decides_view (w.nodes name) (v.nodes name) ≡ true → StampIsNew w (view (v.nodes name))

never : (b c : Bool) → (b && (c && not true)) ≡ true → ⊥
never b c h = grind arith

-- where the name's node is as it was
facts_same : (rules : Rules) (events : List Event) (e : Event) (v : World) → MayFound rules → v.nodes ≡ (run rules events).nodes
    → StepKeepsOwnFacts (run rules events) v (acting_name (run rules events) e)
facts_same rules events e v may same =
    let w = run rules events in
    let name = acting_name w e in
    let low = (number_bounds_hold_in_runs rules events).each name in
    let first : (w.nodes name).core.log.start ≤ length w.group = let a = low.kept in let b = low.base in omega arith in
    let P : Node → Type 0 = λ m. (m.core.who ≡ name) × (m.core.log.start ≤ length w.group) × (step_decides_view (w.nodes name) m ≡ true → StampIsNew w (view m)) in
    let old : P (w.nodes name) = ((names_hold_in_runs rules events may).who name, first, λ t. absurd (never _ _ (rw (stamp_eq_of_itself (view (w.nodes name))) at t))) in
    let now : P (v.nodes name) = subst P (sym (ap (λ ns. ns name) same)) old in
    record { own = now.0; begins_ = now.1; new = now.2 }

facts : (rules : Rules) (events : List Event) (e : Event) (v : World) → MayFound rules → happens (run rules events) e ≡ v → EventHappens (run rules events) e v
    → StepKeepsOwnFacts (run rules events) v (acting_name (run rules events) e)
unfolding world_with_step world_with_record
facts rules events e _ may is (idles o idle) = facts_same rules events e (world_with_record (run rules events) e o) may refl
facts rules events e _ may is (stops running) = facts_same rules events e _ may refl
facts rules events e _ may is (returns place at gone few) = facts_same rules events e _ may refl
facts rules events e _ may is (steps c s running cause effect) =
    let w = run rules events in
    let name = acting_name w e in
    let adds = lists_only_grow_in_runs rules events e c s may running cause effect in
    let new = decided_views_of_runs_are_new rules events e c s may running cause effect in
    record { own = rw (number_equals_itself name) adds.own; begins_ = rw (number_equals_itself name) adds.begins; new = rw (number_equals_itself name) new }

pub each_step_keeps_own_facts : (rules : Rules) (events : List Event) (e : Event) (v : World) → MayFound rules → happens (run rules events) e ≡ v
    → StepKeepsOwnFacts (run rules events) v (acting_name (run rules events) e)
each_step_keeps_own_facts rules events e v may is = facts rules events e v may is (subst (EventHappens (run rules events) e) is (events_have_effects (run rules events) e))
