-- Each entry that a node has or a group lists is within its limits.
use Rattle.am_step_laws.proofs.Words.{[], ◌∷◌, List, All, All-head, All-tail, Rules, Event, World, start, happens, world_after_events, run, world_with_record, world_with_step, acting_name}
use Rattle.am_step_laws.proofs.Words.{EventHappens, steps, events_have_effects, number_equals_itself, Bounds, BodyIsWithinLimit}
use Rattle.am_step_laws.proofs.Bounds.NodeLimits.{NodeIsWithinLimits}
use Rattle.am_step_laws.proofs.Bounds.Limits.{EntryIsWithinLimits}
use Rattle.am_step_laws.proofs.Bounds.RunLimits.{WorldIsWithinLimits, WorldIsLimited}
use Rattle.am_run_laws.proofs.SentRuns.{group_entries_keep_after_step}
use Rattle.am_safety.specs.Parts.{HasNumbersAt, HaveNumbers, StaysInRange}
use Rattle.am_safety.proofs.Ranges.{bounds_of_all_numbers, founder_is_within_numbers, start_is_within_numbers, event_stays_within_numbers}

-- what nodes and letters have, and the group lists
pub record EntriesHeldWithinLimits (rules : Rules) (b : Bounds) (w : World) : Type 0 where
  pub limited : WorldIsLimited rules b w
  pub group : All (EntryIsWithinLimits b) w.group

-- ---- each event

group_within : (b : Bounds) (w : World) (e : Event) (v : World) → EventHappens w e v → WorldIsWithinLimits b v → All (EntryIsWithinLimits b) w.group → All (EntryIsWithinLimits b) v.group
unfolding world_with_record world_with_step
group_within b w e v (steps c s runs cause effect) within h =
    let node : NodeIsWithinLimits b s.node = rw (number_equals_itself (acting_name w e)) at (within.each (acting_name w e)) in
    group_entries_keep_after_step (EntryIsWithinLimits b) w.group s.node h node.entries
group_within b w e v _ within h = h

held_happens : (rules : Rules) (w : World) (e : Event) → BodyIsWithinLimit e.act → HasNumbersAt w e → EntriesHeldWithinLimits rules bounds_of_all_numbers w → EntriesHeldWithinLimits rules bounds_of_all_numbers (happens w e)
held_happens rules w e body numbers h =
    let limited = event_stays_within_numbers rules w e body numbers h.limited in
    record { limited = limited; group = group_within bounds_of_all_numbers w e (happens w e) (events_have_effects w e) limited.within h.group }

-- ---- runs

held_happen : (rules : Rules) (w : World) (events : List Event) → All (λ (e : Event). BodyIsWithinLimit e.act) events → HaveNumbers w events
    → EntriesHeldWithinLimits rules bounds_of_all_numbers w → EntriesHeldWithinLimits rules bounds_of_all_numbers (world_after_events w events)
unfolding world_after_events HaveNumbers
held_happen rules w [] bodies numbers h = h
held_happen rules w (e ∷ es) bodies numbers h =
    held_happen rules (happens w e) es (All-tail (λ (x : Event). BodyIsWithinLimit x.act) e es bodies) numbers.1
    (held_happens rules w e (All-head (λ (x : Event). BodyIsWithinLimit x.act) e es bodies) numbers.0 h)

pub entries_of_run_within_limits : (rules : Rules) (events : List Event) → StaysInRange rules events → EntriesHeldWithinLimits rules bounds_of_all_numbers (run rules events)
entries_of_run_within_limits rules events range = held_happen rules (start rules) events range.bodies range.numbers
    (record { limited = start_is_within_numbers rules range.founds; group = (founder_is_within_numbers rules 0 range.founds).entries })
