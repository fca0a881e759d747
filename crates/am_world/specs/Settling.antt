-- How far a world has come with the events of a schedule.
use Rattle.std.specs.Prelude.{◌≡◌, ◌↔◌, ℕ, ◌<◌, List, [], ◌∷◌, ◌++◌, length, take, Bool, not, if◌then◌else◌}
use Rattle.am_base.specs.Most.{most_events_of_run}
use Rattle.am_packet.specs.Boxes.{Letter}
use Rattle.am_group.specs.declared.event.Act.{Act}
use Rattle.am_group.specs.declared.event.Event.{Event}
use Rattle.am_group.specs.Addressed.{is_for}
use Rattle.am_group_defs.specs.World.{World, current, is_stopped}
use Rattle.am_group_defs.specs.Settle.{Settling, event_at, round, settle_events}
use Rattle.am_world.specs.Runs.{Play, replay}
use Rattle.am_world.specs.declared.world.WorldRefusal.{WorldRefusal}
use Rattle.am_world.specs.declared.world.WorldRefusal.TheVariants.{Spent}

-- a place whose current name hasn't stopped
abbrev pub is_running : World → ℕ → Bool
is_running w place = not (is_stopped w (current w place))

-- for whose current name a letter is
abbrev pub is_meant : World → Letter → ℕ → Bool
is_meant w letter place = is_for letter (current w place)

-- an act of one place, where it passes
abbrev pub passing_act_at : Bool → Act → ℕ → List Event
passing_act_at passes act place = if passes then event_at place act ∷ [] else []

-- a world, with nothing done yet
abbrev pub settling_of : World → Settling
settling_of w = record { world = w; events = [] }

-- the events of one round
unfoldable pub round_events : World → List Event
round_events w = (round (settling_of w)).events

-- the lossless schedule of a world
abbrev pub schedule_of : Play → List Event
schedule_of w = settle_events w.rules (replay w)

-- the world did these events more
abbrev pub Did : List Event → Play → Play → Type 0
Did events old new = new ≡ record old { events = old.events ++ events }

-- it did so many of them, and not the further one that there is: Spent exactly where it then had done as many events as a run may have
pub record Stuck (events : List Event) (old new : Play) (refusal : WorldRefusal) : Type 0 where
  pub count : ℕ
  pub further : count < length events
  pub did : Did (take count events) old new
  pub spent : (refusal ≡ Spent) ↔ (length new.events ≡ most_events_of_run)
