-- What an event makes of a world: nothing, a stop, a return, or a step of the name that acts, with its effect.
use Rattle.std.specs.Prelude.{◌≡◌, ℕ, ◌+◌, List, [], ◌∷◌, ◌++◌, Some, ◌||◌, ◌==◌, true, false}
use Rattle.am_base.specs.declared.outcome.Outcome.{Outcome}
use Rattle.am_base.specs.declared.outcome.Outcome.TheVariants as said
use Rattle.am_base.specs.declared.event.NodeEvent.{NodeEvent}
use Rattle.am_base.specs.declared.event.NodeEvent.TheVariants as does
use Rattle.am_base.specs.Names.{place_of_name}
use Rattle.am_packet.specs.declared.packet.Packet.{Packet}
use Rattle.am_packet.specs.Boxes.{Letter}
use Rattle.am_group.specs.declared.event.Act.{Act}
use Rattle.am_group.specs.declared.event.Act.TheVariants as act
use Rattle.am_group.specs.declared.event.Event.{Event}
use Rattle.am_group.specs.Addressed.{is_for}
use Rattle.am_group.specs.Journals.{letter_at}
use Rattle.am_model.specs.Emit.{StepResult}
use Rattle.am_group_defs.specs.World.{World, current, is_stopped, world_with_record, world_with_step, world_with_next_life, happens}
use Rattle.am_model.specs.Node.{has_departed}
use Rattle.am_group_defs.specs.Claims.{packet_heard_by_act}
use Rattle.am_step_laws.specs.Causes.{Cause, calls, hears, refuses}
use Rattle.am_step_laws.specs.Effects.{Effect}

-- ---- why the acting name does a step

-- the name that acts at an event
abbrev pub acting_name : World → Event → ℕ
acting_name w e = current w (place_of_name e.node)

-- a letter for it, by the number that the act names, with this packet
pub record WasSentTo (w : World) (name : ℕ) (a : Act) (p : Packet) : Type 0 where
  pub letter : Letter
  pub there : letter_at w.letters (packet_heard_by_act a) ≡ Some letter
  pub addressed : is_for letter name ≡ true
  pub is : letter.packet ≡ p

-- the call or tick of an act
pub data IsCall (w : World) : Act → NodeEvent → Type 0 where
  send : (body : List ℕ) → IsCall w (act.Send body) (does.Send body)
  done : (req : ℕ) → IsCall w (act.Done req) (does.Done req)
  take : IsCall w act.Take does.Take
  join : IsCall w act.Join does.Join
  state : IsCall w act.State does.State
  leave : IsCall w act.Leave does.Leave
  reset : (least resilience : ℕ) → IsCall w (act.Reset least resilience) (does.Reset least resilience)
  ask : (round : ℕ) → IsCall w (act.Ask round) (does.Ask round)
  -- only a stopped name is given up
  give_up : (other : ℕ) → is_stopped w other ≡ true → IsCall w (act.GiveUp other) (does.GiveUp other)
  tick : IsCall w act.Tick does.Tick

-- the cause of the acting name's step
abbrev pub IsCause : World → ℕ → Act → Cause → Type 0
IsCause w name a (calls event) = IsCall w a event
IsCause w name a (hears p) = WasSentTo w name a p
IsCause w name a refuses = Unit {0}

-- ---- events

-- an answer that gives nothing, of an event that no node does
abbrev pub IsIdle : Outcome → Type 0
IsIdle (said.Queued req) = ⊥
IsIdle (said.Took number e) = ⊥
IsIdle (said.Sent req number) = ⊥
IsIdle (said.Welcomed number) = ⊥
IsIdle _ = Unit {0}

pub data EventHappens (w : World) (e : Event) : World → Type 0 where
  idles : (o : Outcome) → IsIdle o → EventHappens w e (world_with_record w e o)
  stops : is_stopped w (acting_name w e) ≡ false → EventHappens w e (world_with_record (record w { stopped = w.stopped ++ acting_name w e ∷ [] }) e said.Stopped)
  returns : (place : ℕ) → place ≡ place_of_name (acting_name w e) → (is_stopped w (current w place) || has_departed (w.nodes (current w place)).status) ≡ true
      → (w.lives place == 16) ≡ false → EventHappens w e (world_with_next_life (world_with_record w e (said.Returned (w.lives place + 1))) place)
  steps : (c : Cause) (s : StepResult) → is_stopped w (acting_name w e) ≡ false → IsCause w (acting_name w e) e.act c → Effect (w.nodes (acting_name w e)) c s
      → EventHappens w e (world_with_step w e (acting_name w e) s)

-- each event of each world
abbrev pub EventsHaveEffects : Type 0
EventsHaveEffects = (w : World) (e : Event) → EventHappens w e (happens w e)
