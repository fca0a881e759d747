-- While one place resets and gives up names, and all places tick and hear, nobody comes to ask, to leave, or to stop.
use Rattle.am_reset_runs.proofs.Words.{◌≡◌, ℕ, false, refl, List, ap, sym, ◌∙◌, All, Event, World, is_stopped, world_after_events, IsOfReset, resets, gives_up, spreads}
use Rattle.std.proofs.lemmas.List.Elements.{All-weaker}
use Rattle.am_fetch_runs.specs.Gathering.{IsTickOrHearing}
use Rattle.am_fetch_runs.specs.Gathering as gathering
use Rattle.am_lawful_runs.proofs.Spared.{StopsNobody, StopsAndLivesStay, stops_and_lives_stay}
use Rattle.am_repair_takes.specs.Resting.{NobodyAsks}
use Rattle.am_repair_fetches.proofs.Unasked.{HasMildAct, tick_or_hearing_is_mild, quieter_by_mild_events}
use Rattle.am_repair_fetches.proofs.Leaving.{HasNoLeaveAct, nobody_leaves_by_other_events}

-- ---- what such events don't do

mild : (place : ℕ) (e : Event) → IsOfReset place e → HasMildAct e
mild place e (resets resilience) = tt
mild place e (gives_up name) = tt
mild place e (spreads x such) = tick_or_hearing_is_mild x such

stops_nobody : (place : ℕ) (e : Event) → IsOfReset place e → StopsNobody e
stops_nobody place e (resets resilience) = refl
stops_nobody place e (gives_up name) = refl
stops_nobody place e (spreads x (gathering.ticks at)) = refl
stops_nobody place e (spreads x (gathering.hears at number)) = refl

no_leave : (place : ℕ) (e : Event) → IsOfReset place e → HasNoLeaveAct e
no_leave place e (resets resilience) = tt
no_leave place e (gives_up name) = tt
no_leave place e (spreads x (gathering.ticks at)) = tt
no_leave place e (spreads x (gathering.hears at number)) = tt

pub reset_stops_nobody : (place : ℕ) (more : List Event) → All (IsOfReset place) more → All StopsNobody more
reset_stops_nobody place more such = All-weaker (IsOfReset place) StopsNobody (stops_nobody place) more such

-- ---- so after them

-- who has stopped, and how many lives places have, is as before
pub stopped_stays_in_reset : (place : ℕ) (more : List Event) (w : World) → All (IsOfReset place) more → StopsAndLivesStay w (world_after_events w more)
stopped_stays_in_reset place more w such = stops_and_lives_stay more w (reset_stops_nobody place more such)

pub nobody_asks_after_reset : (place : ℕ) (more : List Event) (w : World) → All (IsOfReset place) more → NobodyAsks w → NobodyAsks (world_after_events w more)
nobody_asks_after_reset place more w such none = λ name runs.
    (let stops = (stopped_stays_in_reset place more w such).stopped in
    let ran : is_stopped w name ≡ false = ap (λ (xs : List ℕ). is_stopped (record w { stopped = xs }) name) (sym stops) ∙ runs in
    (quieter_by_mild_events more w name (All-weaker (IsOfReset place) HasMildAct (mild place) more such)).same.asks (none name ran))

pub nobody_leaves_after_reset : (place : ℕ) (more : List Event) (w : World) (name : ℕ) → All (IsOfReset place) more → (w.nodes name).leaving ≡ false
    → ((world_after_events w more).nodes name).leaving ≡ false
nobody_leaves_after_reset place more w name such stays =
    nobody_leaves_by_other_events more w name (All-weaker (IsOfReset place) HasNoLeaveAct (no_leave place) more such) stays
