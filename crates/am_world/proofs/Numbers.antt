-- What the laws of runs say, as a world asks for it.
use Rattle.am_world.proofs.Words.{◌≤◌, ℕ, List, length, Rules, Letter, Event, run, happens, acting_name, NodeNumbers, PacketIsWithinBounds, event_keeps_actor_numbers_low, bounds_after_events, run_has_low_numbers}
use Rattle.am_world.proofs.Words.{number_bounds_hold_in_runs, all_gives_item_at}

-- how high a node's numbers are after so many events
pub node_numbers_le_run_length : (rules : Rules) (events : List Event) (name : ℕ) → NodeNumbers (length events) (length (run rules events).group) ((run rules events).nodes name)
node_numbers_le_run_length rules events name = (number_bounds_hold_in_runs rules events).each name

-- after an event the acting name's node has trimmed nothing that the group list lacked before it
pub base_le_group_length : (rules : Rules) (events : List Event) (e : Event)
    → ((happens (run rules events) e).nodes (acting_name (run rules events) e)).core.base ≤ length (run rules events).group
base_le_group_length rules events e =
    let w = run rules events in
    let b = bounds_after_events (length events) (record { lists = 1; rounds = 1; requests = 0 }) in
    let all = run_has_low_numbers rules events in
    (event_keeps_actor_numbers_low b (length w.group) w e (λ letter at. all_gives_item_at (λ (l : Letter). PacketIsWithinBounds b (length w.group) l.packet) w.letters _ letter all.letters at)
    (all.behind (acting_name w e)) (all.each (acting_name w e))).trims
