-- What comes of what an event asks of its name's node, or of its answer without one.
use Rattle.std.specs.Prelude.{◌≡◌, ℕ, ◌+◌, ◌<◌, ◌≤◌, [], ◌∷◌, ◌++◌, length}
use Rattle.am_base.specs.Most.{most_events_of_run}
use Rattle.am_base.specs.declared.outcome.Outcome.{Outcome}
use Rattle.am_base.specs.declared.outcome.Outcome.TheVariants as said
use Rattle.am_base.specs.declared.event.NodeEvent.{NodeEvent}
use Rattle.am_base.specs.Names.{place_of_name, life_of_name}
use Rattle.am_group.specs.declared.event.Event.{Event}
use Rattle.am_model.specs.Step.{step}
use Rattle.am_group_defs.specs.World.{World, current, world_with_record, world_with_step, world_with_next_life, happens}
use Rattle.am_journal.specs.declared.asked.Asked.{Asked}
use Rattle.am_journal.specs.declared.asked.Asked.TheVariants as asked
use Rattle.am_world.specs.Runs.{Play, replay}

-- what comes of it
abbrev pub after_answer : World → Event → Outcome → World
after_answer w e said.Stopped = world_with_record (record w { stopped = w.stopped ++ current w (place_of_name e.node) ∷ [] }) e said.Stopped
after_answer w e (said.Returned life) = world_with_next_life (world_with_record w e (said.Returned life)) (place_of_name e.node)
after_answer w e outcome = world_with_record w e outcome

abbrev pub comes : World → Event → Asked → World
comes w e (asked.Step what) = world_with_step w e (current w (place_of_name e.node)) (step (w.nodes (current w (place_of_name e.node))) what)
comes w e (asked.Answer outcome) = after_answer w e outcome

-- a place that returns has the next of its sixteen lives
abbrev pub IsNextLife : ℕ → Outcome → Type 0
IsNextLife name (said.Returned life) = (life ≡ life_of_name name + 1) × (life ≤ 16)
IsNextLife name _ = Unit {0}

-- a run has room for an event of this name, which is answered so without a step of its node
pub record MayAnswer (done : Play) (e : Event) (name : ℕ) (outcome : Outcome) : Type 0 where
  pub few : length done.events < most_events_of_run
  pub named : name ≡ current (replay done) (place_of_name e.node)
  pub next : IsNextLife name outcome
  pub comes_ : happens (replay done) e ≡ after_answer (replay done) e outcome
