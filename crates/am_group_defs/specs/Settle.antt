-- The lossless schedule: rounds in which everybody ticks, and hears what comes of it in five waves.
use Rattle.std.specs.Prelude.{ℕ, zero, suc, ◌+◌, ◌/◌, List, [], ◌∷◌, ◌++◌, length, drop, map, filter, not}
use Rattle.std.specs.List.{range_with_len}
use Rattle.am_base.specs.Founding.{Rules}
use Rattle.am_packet.specs.Boxes.{Letter}
use Rattle.am_group.specs.declared.event.Act.{Act}
use Rattle.am_group.specs.declared.event.Act.TheVariants as act
use Rattle.am_group.specs.declared.event.Event.{Event}
use Rattle.am_group.specs.Addressed.{is_for}
use Rattle.am_group_defs.specs.World.{World, current, is_stopped, world_after_events}

-- the events so far, and the world after them
pub record Settling : Type 0 where
  pub world : World
  pub events : List Event

abbrev pub settle_then : Settling → List Event → Settling
settle_then s events = record { world = world_after_events s.world events; events = s.events ++ events }

abbrev pub event_at : ℕ → Act → Event
event_at place act = record { node = place; act = act }

-- the places whose current name hasn't stopped
unfoldable pub running_places : World → List ℕ
running_places w = filter (λ place. not (is_stopped w (current w place))) (range_with_len 0 16)

abbrev pub ticks_of_places : World → List Event
ticks_of_places w = map (λ place. event_at place act.Tick) (running_places w)

-- a letter is heard at the places that it is for
abbrev pub hearings_of : World → ℕ → Letter → List Event
hearings_of w number letter = map (λ place. event_at place (act.Hear number)) (filter (λ place. is_for letter (current w place)) (running_places w))

unfoldable pub hearings_from : World → ℕ → List Letter → List Event
hearings_from w number [] = []
hearings_from w number (l ∷ ls) = hearings_of w number l ++ hearings_from w (number + 1) ls

-- each letter above a number
abbrev pub hearings : World → ℕ → List Event
hearings w after = hearings_from w (after + 1) (drop after w.letters)

-- so many waves, each of the letters that the wave before it sent
unfoldable pub settle_waves : ℕ → ℕ → Settling → Settling
settle_waves zero after s = s
settle_waves (suc left) after s = settle_waves left (length s.world.letters) (settle_then s (hearings s.world after))

abbrev pub round : Settling → Settling
round s = settle_waves 5 (length s.world.letters) (settle_then s (ticks_of_places s.world))

unfoldable pub settle_rounds : ℕ → Settling → Settling
settle_rounds zero s = s
settle_rounds (suc left) s = settle_rounds left (round s)

-- enough to send a whole history again, eight entries at a time
abbrev pub round_count : Rules → ℕ
round_count rules = (rules.window + 22) / 8 + 2

-- the events that settle a world
unfoldable pub settle_events : Rules → World → List Event
settle_events rules w = (settle_rounds (round_count rules) (record { world = w; events = [] })).events
