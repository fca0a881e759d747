-- What a run of the definitions keeps with the group that stands for it, and that each step of a name keeps it.
use Rattle.std.specs.Prelude.{◌≡◌, ℕ, ◌<◌, List, Some, true, false, slice_get}
use Rattle.am_base.specs.Founding.{Rules, MayFound}
use Rattle.am_packet.specs.Boxes.{Letter}
use Rattle.am_group.specs.declared.event.Event.{Event}
use Rattle.am_abstract_group.specs.Group.{Group}
use Rattle.am_model.specs.Emit.{StepResult}
use Rattle.am_model.specs.Calls.{is_unfinished_ballot}
use Rattle.am_group_defs.specs.World.{World, run, is_stopped, world_with_step, happens}
use Rattle.am_model.specs.Node.{has_departed}
use Rattle.am_step_laws.specs.Causes.{Cause}
use Rattle.am_step_laws.specs.Effects.{Effect}
use Rattle.am_step_laws.specs.Events.{acting_name, IsCause}
use Rattle.am_refinement.specs.Standing.{Stands}
use Rattle.am_refinement.specs.Letters.{LetterStampIsBegun}
use Rattle.am_refinement.specs.Growing.{Grows}
use Rattle.am_refinement.specs.Moving.{Moves}
use Rattle.am_refinement.specs.Keeping.{GroupFor, NodeStandsKept}

-- between events: a group stands for the world, each node keeps what it keeps, and each letter that was sent is so
pub record Following (rules : Rules) (w : World) (s : Group) : Type 0 where
  pub group : GroupFor rules s
  pub stands : Stands w s
  -- who has departed keeps but that it has no unfinished ballot
  pub nodes : (i : ℕ) → i < 256 → has_departed (w.nodes i).status ≡ false → NodeStandsKept w s i (w.nodes i)
  pub gone : (i : ℕ) → i < 256 → has_departed (w.nodes i).status ≡ true → is_unfinished_ballot (w.nodes i).ballot ≡ false
  pub letters : (k : ℕ) (letter : Letter) → slice_get w.letters k ≡ Some letter → LetterStampIsBegun w s letter

-- some moves, none of which is a stop, lead to a group that follows
pub record MovesLeadToFollowing (rules : Rules) (v : World) (s : Group) : Type 0 where
  pub to : Group
  pub path : Moves s to
  pub grows : Grows s to
  pub is : Following rules v to

-- each step of a name of a run
abbrev pub StepsMove : Type 0
StepsMove = (rules : Rules) (events : List Event) (e : Event) (c : Cause) (step : StepResult) (s : Group) → MayFound rules
    → is_stopped (run rules events) (acting_name (run rules events) e) ≡ false
    → IsCause (run rules events) (acting_name (run rules events) e) e.act c
    → Effect ((run rules events).nodes (acting_name (run rules events) e)) c step
    → happens (run rules events) e ≡ world_with_step (run rules events) e (acting_name (run rules events) e) step
    → Following rules (run rules events) s
    → MovesLeadToFollowing rules (world_with_step (run rules events) e (acting_name (run rules events) e) step) s
