-- What holds of each world in which an event may end, holds of what the event makes of a world.
use Rattle.std.proofs.Common.{ℕ, List, Bool, true, false, if◌then◌else◌, Option, Some, None}
use Rattle.am_base.specs.declared.outcome.Outcome.{Outcome}
use Rattle.am_base.specs.Names.{place_of_name}
use Rattle.am_packet.specs.declared.packet.Packet.{Packet}
use Rattle.am_packet.specs.Boxes.{Letter}
use Rattle.am_group.specs.declared.event.Act.{Act}
use Rattle.am_group.specs.declared.event.Act.TheVariants as act
use Rattle.am_group.specs.declared.event.Event.{Event}
use Rattle.am_group.specs.Journals.{letter_at}
use Rattle.am_model.specs.Emit.{StepResult}
use Rattle.am_group_defs.specs.World.{World, current, world_with_record, world_with_step, world_after_hearing, hear_cut, world_with_next_life, world_after_act, happens}

-- a relation of a world to each in which an event may end: where no node changes, after a step, after a stop, and where a life begins
pub record HoldsAtEndsOfEvent (R : World → World → Type 0) (w : World) : Type 0 where
  pub as_it_was : (e : Event) (o : Outcome) → R w (world_with_record w e o)
  pub a_step : (e : Event) (name : ℕ) (s : StepResult) → R w (world_with_step w e name s)
  pub a_stop : (e : Event) (o : Outcome) (stopped : List ℕ) → R w (world_with_record (record w { stopped = stopped }) e o)
  pub a_life : (e : Event) (o : Outcome) (place : ℕ) → R w (world_with_next_life (world_with_record w e o) place)

record Holds (R : World → World → Type 0) (w v : World) : Type 0 where
  holds : R w v

holds_if : (R : World → World → Type 0) (w : World) (b : Bool) (x y : World) → Holds R w x → Holds R w y → Holds R w (if b then x else y)
holds_if R w true x y f g = f
holds_if R w false x y f g = g

holds_unchanged : (R : World → World → Type 0) (w : World) (e : Event) (o : Outcome) → HoldsAtEndsOfEvent R w → Holds R w (world_with_record w e o)
holds_unchanged R w e o h = record { holds = h.as_it_was e o }

holds_stepped : (R : World → World → Type 0) (w : World) (e : Event) (name : ℕ) (s : StepResult) → HoldsAtEndsOfEvent R w → Holds R w (world_with_step w e name s)
holds_stepped R w e name s h = record { holds = h.a_step e name s }

holds_stops : (R : World → World → Type 0) (w : World) (e : Event) (o : Outcome) (stopped : List ℕ) → HoldsAtEndsOfEvent R w
    → Holds R w (world_with_record (record w { stopped = stopped }) e o)
holds_stops R w e o stopped h = record { holds = h.a_stop e o stopped }

holds_lives : (R : World → World → Type 0) (w : World) (e : Event) (o : Outcome) (place : ℕ) → HoldsAtEndsOfEvent R w
    → Holds R w (world_with_next_life (world_with_record w e o) place)
holds_lives R w e o place h = record { holds = h.a_life e o place }

ruleset holding = (holds_if, holds_unchanged, holds_stepped, holds_stops, holds_lives)

holds_heard : (R : World → World → Type 0) (w : World) (e : Event) (name : ℕ) (hearing : Packet → StepResult) (l : Option Letter) → HoldsAtEndsOfEvent R w
    → Holds R w (world_after_hearing w e name hearing l)
holds_heard R w e name hearing None h = search holding
holds_heard R w e name hearing (Some l) h = search holding

holds_act : (R : World → World → Type 0) (w : World) (e : Event) (name : ℕ) (a : Act) → HoldsAtEndsOfEvent R w → Holds R w (world_after_act w e name a)
holds_act R w e name (act.Hear number) h = holds_heard R w e name _ (letter_at w.letters number) h
holds_act R w e name (act.Cut number keep) h = holds_heard R w e name (hear_cut (w.nodes name) keep) (letter_at w.letters number) h
holds_act R w e name _ h = search holding

pub holds_after_event : (R : World → World → Type 0) (w : World) (e : Event) → HoldsAtEndsOfEvent R w → R w (happens w e)
unfolding happens
holds_after_event R w e h = (holds_act R w e (current w (place_of_name e.node)) e.act h).holds
