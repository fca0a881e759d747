-- One step of a run, with the group that follows it: what each law that goes with the steps takes, and what is plain of it.
use Rattle.am_lawful_runs.proofs.Words.{number_equals_itself, ◌≡◌, ℕ, ◌<◌, ◌==◌, true, false, List, [], ◌∷◌, ◌++◌, refl, sym, ap, ◌∙◌, subst, Rules, MayFound, Event}
use Rattle.am_lawful_runs.proofs.Words.{IsBeginningOf, Group, GroupKeeps, Node, lowest_name_or_zero, StepResult, World, list_after_step, start, is_stopped, world_with_step, happens, world_after_events, run}
use Rattle.am_lawful_runs.proofs.Words.{runs_go_on, Cause, Effect, acting_name, IsCause, actor_is_below_256, run_trims_only_taken, NameStands, LinesOpen, Moves, Grows, Following}
use Rattle.am_lawful_runs.proofs.Words.{group_run_is_kept, group_runs_keep_lines_open}
use Rattle.am_lawful_runs.proofs.Shapes.{ListsAreShaped}

-- the world before the step, who steps, its node before and after, and the world after
pub record PartsOfOneStep : Type 0 where
  pub w : World
  pub i : ℕ
  pub m : Node
  pub n : Node
  pub v : World

abbrev pub parts_of_one_step : Rules → List Event → Event → StepResult → PartsOfOneStep
parts_of_one_step rules events e step = record {
  w = run rules events;
  i = acting_name (run rules events) e;
  m = (run rules events).nodes (acting_name (run rules events) e);
  n = step.node;
  v = world_with_step (run rules events) e (acting_name (run rules events) e) step;
}

-- that the event of this run is this step
pub record IsStepOfRun (rules : Rules) (events : List Event) (e : Event) (c : Cause) (step : StepResult) : Type 0 where
  pub may : MayFound rules
  pub runs : is_stopped (run rules events) (acting_name (run rules events) e) ≡ false
  pub cause : IsCause (run rules events) (acting_name (run rules events) e) e.act c
  pub effect : Effect ((run rules events).nodes (acting_name (run rules events) e)) c step
  pub is : world_with_step (run rules events) e (acting_name (run rules events) e) step ≡ happens (run rules events) e

-- and what the group that follows the run comes to by it
pub record OneStepWithGroup (rules : Rules) (events : List Event) (e : Event) (c : Cause) (step : StepResult) (s t : Group) : Type 0 where
  pub step_ : IsStepOfRun rules events e c step
  pub open step_ use *
  pub old : Following rules (run rules events) s
  pub path : Moves s t
  pub grows : Grows s t
  pub shaped : ListsAreShaped t
  pub new : Following rules (world_with_step (run rules events) e (acting_name (run rules events) e) step) t

-- a run of one event more
pub run_of_pushed_event : (rules : Rules) (events : List Event) (e : Event) → run rules (events ++ e ∷ []) ≡ happens (run rules events) e
unfolding world_after_events
run_of_pushed_event rules events e = runs_go_on (start rules) events (e ∷ [])

-- what is plain of it
pub record OneStepGrowsGroup (rules : Rules) (events : List Event) (e : Event) (step : StepResult) (s t : Group) (p : PartsOfOneStep) : Type 0 where
  pub few : p.i < 256
  pub kept_s : GroupKeeps s
  pub kept_t : GroupKeeps t
  pub opens_t : LinesOpen t
  pub node_v : p.v.nodes p.i ≡ p.n
  pub others_v : (j : ℕ) → (j == p.i) ≡ false → p.v.nodes j ≡ p.w.nodes j
  pub group_v : p.v.group ≡ list_after_step p.w.group p.n
  pub runs_v : is_stopped p.v p.i ≡ false
  -- the run of one event more
  pub run_v : run rules (events ++ e ∷ []) ≡ p.v
  pub node_run : (run rules (events ++ e ∷ [])).nodes p.i ≡ p.n
  pub stands_m : NameStands p.w p.i p.m (s.node p.i)
  pub stands_n : NameStands p.v p.i p.n (t.node p.i)
  pub group_grows : IsBeginningOf p.w.group p.v.group

pub one_step_grows_group : {rules : Rules} {events : List Event} {e : Event} {c : Cause} {step : StepResult} {s t : Group} → OneStepWithGroup rules events e c step s t
    → OneStepGrowsGroup rules events e step s t (parts_of_one_step rules events e step)
unfolding world_with_step
one_step_grows_group {rules = rules} {events = events} {e = e} {step = step} {s = s} {t = t} x = record {
  few = few;
  kept_s = group_run_is_kept rules.founders (lowest_name_or_zero rules.founders) rules.resilience s x.old.group;
  kept_t = group_run_is_kept rules.founders (lowest_name_or_zero rules.founders) rules.resilience t x.new.group;
  opens_t = group_runs_keep_lines_open rules.founders (lowest_name_or_zero rules.founders) rules.resilience t x.new.group.run;
  node_v = node_v;
  others_v = λ j f. rw f refl;
  group_v = refl;
  runs_v = x.runs;
  run_v = run_v;
  node_run = ap (λ (y : World). y.nodes i) run_v ∙ node_v;
  stands_m = x.old.stands.each i few;
  stands_n = subst (λ y. NameStands v i y (t.node i)) node_v (x.new.stands.each i few);
  group_grows = subst (λ g. IsBeginningOf g v.group) x.old.stands.group (subst (IsBeginningOf s.group) x.new.stands.group x.grows.group);
}
  where
    open parts_of_one_step rules events e step use {w, i, n, v}

    few : i < 256
    few = actor_is_below_256 rules w e (run_trims_only_taken rules events x.may).blanks.base.named

    node_v : v.nodes i ≡ n
    node_v = let u : (i == i) ≡ true = number_equals_itself i in rw u refl

    run_v : run rules (events ++ e ∷ []) ≡ v
    run_v = run_of_pushed_event rules events e ∙ sym x.is
