-- A step's letters tell of the node after it: who departs in it, or had departed, sends nothing.
use Rattle.am_repair.proofs.Repairable.RepairedWords.{◌≡◌, ◌⊎◌, inl, inr, either, ◌<◌, List, [], sym, Rules, Event, Group, StepResult, has_departed, world_with_step, happens, run}
use Rattle.am_repair.proofs.Repairable.RepairedWords.{split_on_bool, Cause, Effect, acting_name, Following, departed_nodes_are_silent, departed_step_sends_no_letters, departed_status_is_departed}
use Rattle.am_repair.proofs.Silent.{step_sends_nothing_or_stays, sender_of_effect_is_node}

pub letters_come_from_stepped_node : (rules : Rules) (events : List Event) (e : Event) (c : Cause) (step : StepResult) (s : Group)
    → (effect : Effect ((run rules events).nodes (acting_name (run rules events) e)) c step)
    → world_with_step (run rules events) e (acting_name (run rules events) e) step ≡ happens (run rules events) e → acting_name (run rules events) e < 256
    → Following rules (run rules events) s → (step.letters ≡ []) ⊎ (effect.sender ≡ step.node)
letters_come_from_stepped_node rules events e c step s effect is few old =
    let w = run rules events in
    let m = w.nodes (acting_name w e) in
    split_on_bool (has_departed m.status)
    (λ t. inl (departed_step_sends_no_letters w e step (departed_nodes_are_silent m (departed_status_is_departed m.status t) (old.gone (acting_name w e) few t)) (sym is)))
    (λ f. either (step_sends_nothing_or_stays m step.letters step.node effect.ending f)
    (λ none. inl none)
    (λ here. inr (sender_of_effect_is_node m c step effect here)))
