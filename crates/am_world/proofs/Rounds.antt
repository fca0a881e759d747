-- Rounds and their waves, one after the other.
use Rattle.std.proofs.Common.{◌≡◌, ℕ, zero, suc, ◌+◌, ◌-◌, ◌<◌, ◌≤◌, List, ◌++◌, length, refl, sym, ◌∙◌, ap, append_assoc, append-nil, arith}
use Rattle.am_group.specs.declared.event.Event.{Event}
use Rattle.am_group_defs.specs.World.{World, world_after_events}
use Rattle.am_group_defs.specs.Settle.{Settling, settle_then, ticks_of_places, hearings, settle_waves, round, settle_rounds, round_count, settle_events}
use Rattle.am_group_defs.proofs.Runs.{runs_go_on}
use Rattle.am_world.specs.Runs.{Play, replay}
use Rattle.am_world.specs.declared.world.WorldRefusal.{WorldRefusal}
use Rattle.am_world.specs.Settling.{settling_of, round_events, Did, Stuck}
use Rattle.am_world.proofs.Going.{DidSomeOfEvents, replay_of_done_events, no_event_is_done_yet, all_events_are_done, done_events_with_equal_rest, stuck_within_all_events, done_events_with_next_part}

-- the events of so many waves, the first of the letters above a number
unfoldable pub events_of_waves : ℕ → ℕ → World → List Event
events_of_waves left after w = (settle_waves left after (settling_of w)).events

-- the events of so many rounds
unfoldable pub events_of_rounds : ℕ → World → List Event
events_of_rounds left w = (settle_rounds left (settling_of w)).events

-- ---- events before

-- the same, with events before it
abbrev before : List Event → Settling → Settling
before es s = record { world = s.world; events = es ++ s.events }

then_before : (es : List Event) (s : Settling) (more : List Event) → settle_then (before es s) more ≡ before es (settle_then s more)
then_before es s more = ap (λ (all : List Event). record { world = world_after_events s.world more; events = all }) (append_assoc es s.events more)

waves_before : (left after : ℕ) (es : List Event) (s : Settling) → settle_waves left after (before es s) ≡ before es (settle_waves left after s)
unfolding settle_waves
waves_before zero after es s = refl
waves_before (suc left) after es s =
    ap (settle_waves left (length s.world.letters)) (then_before es s (hearings s.world after))
    ∙ waves_before left (length s.world.letters) es (settle_then s (hearings s.world after))

round_before : (es : List Event) (s : Settling) → round (before es s) ≡ before es (round s)
round_before es s =
    ap (settle_waves 5 (length s.world.letters)) (then_before es s (ticks_of_places s.world))
    ∙ waves_before 5 (length s.world.letters) es (settle_then s (ticks_of_places s.world))

rounds_before : (left : ℕ) (es : List Event) (s : Settling) → settle_rounds left (before es s) ≡ before es (settle_rounds left s)
unfolding settle_rounds
rounds_before zero es s = refl
rounds_before (suc left) es s = ap (settle_rounds left) (round_before es s) ∙ rounds_before left es (round s)

-- what was done is before the rest
done_first : (es : List Event) (w : World) → record { world = w; events = es } ≡ before es (settling_of w)
done_first es w = ap (λ (all : List Event). record { world = w; events = all }) (sym (append-nil es))

waves_from : (left after : ℕ) (es : List Event) (w : World) → (settle_waves left after (record { world = w; events = es })).events ≡ es ++ events_of_waves left after w
unfolding events_of_waves
waves_from left after es w =
    ap (λ (s : Settling). (settle_waves left after s).events) (done_first es w) ∙ ap (λ (s : Settling). s.events) (waves_before left after es (settling_of w))

rounds_from : (left : ℕ) (es : List Event) (w : World) → (settle_rounds left (record { world = w; events = es })).events ≡ es ++ events_of_rounds left w
unfolding events_of_rounds
rounds_from left es w =
    ap (λ (s : Settling). (settle_rounds left s).events) (done_first es w) ∙ ap (λ (s : Settling). s.events) (rounds_before left es (settling_of w))

-- ---- a step more

wave_more : (left after : ℕ) (w : World) → events_of_waves (suc left) after w
    ≡ hearings w after ++ events_of_waves left (length w.letters) (world_after_events w (hearings w after))
unfolding events_of_waves settle_waves
wave_more left after w = waves_from left (length w.letters) (hearings w after) (world_after_events w (hearings w after))

round_more : (w : World) → round_events w ≡ ticks_of_places w ++ events_of_waves 5 (length w.letters) (world_after_events w (ticks_of_places w))
unfolding round_events
round_more w = waves_from 5 (length w.letters) (ticks_of_places w) (world_after_events w (ticks_of_places w))

-- the world after the events
waves_world : (w : World) (left after : ℕ) (s : Settling) → s.world ≡ world_after_events w s.events → (settle_waves left after s).world ≡ world_after_events w (settle_waves left after s).events
unfolding settle_waves
waves_world w zero after s is = is
waves_world w (suc left) after s is =
    waves_world w left (length s.world.letters) (settle_then s (hearings s.world after))
    (ap (λ (v : World). world_after_events v (hearings s.world after)) is ∙ sym (runs_go_on w s.events (hearings s.world after)))

round_world : (w : World) → (round (settling_of w)).world ≡ world_after_events w (round_events w)
unfolding round_events
round_world w = waves_world w 5 (length w.letters) (record { world = world_after_events w (ticks_of_places w); events = ticks_of_places w }) refl

rounds_more : (left : ℕ) (w : World) → events_of_rounds (suc left) w ≡ round_events w ++ events_of_rounds left (world_after_events w (round_events w))
unfolding events_of_rounds round_events settle_rounds
rounds_more left w =
    rounds_from left (round (settling_of w)).events (round (settling_of w)).world
    ∙ ap (λ (v : World). round_events w ++ events_of_rounds left v) (round_world w)

-- ---- the way through a round

abbrev pub DidWavesOfRound : ℕ → ℕ → Play → Play → Type 0
DidWavesOfRound wave after old now = DidSomeOfEvents (round_events (replay old)) (events_of_waves (5 - wave) after (replay now)) old now

pub waves_begin_after_ticks : (old new : Play) → Did (ticks_of_places (replay old)) old new → DidWavesOfRound 0 (length (replay old).letters) old new
waves_begin_after_ticks old new did =
    let w = replay old in
    done_events_with_equal_rest (round_events w) (events_of_waves 5 (length w.letters) (world_after_events w (ticks_of_places w))) (events_of_waves 5 (length w.letters) (replay new)) old new
    (ap (events_of_waves 5 (length w.letters)) (sym (replay_of_done_events (ticks_of_places w) old new did)))
    (done_events_with_next_part (round_events w) (ticks_of_places w) _ old old new (no_event_is_done_yet (round_events w) (ticks_of_places w ++ events_of_waves 5 (length w.letters) (world_after_events w (ticks_of_places w))) old
    (sym (round_more w))) did)

pub stuck_in_ticks_of_round : (old new : Play) (refusal : WorldRefusal) → Stuck (ticks_of_places (replay old)) old new refusal → Stuck (round_events (replay old)) old new refusal
stuck_in_ticks_of_round old new refusal stuck =
    let w = replay old in
    stuck_within_all_events (round_events w) (ticks_of_places w) (events_of_waves 5 (length w.letters) (world_after_events w (ticks_of_places w))) old old new refusal
    (no_event_is_done_yet (round_events w) _ old (sym (round_more w))) stuck

at_wave : (wave after : ℕ) (old now : Play) → wave < 5 → DidWavesOfRound wave after old now
    → DidSomeOfEvents (round_events (replay old)) (hearings (replay now) after
    ++ events_of_waves (5 - (wave + 1)) (length (replay now).letters) (world_after_events (replay now) (hearings (replay now) after))) old now
at_wave wave after old now low way =
    let left : 5 - wave ≡ suc (5 - (wave + 1)) = omega arith in
    done_events_with_equal_rest (round_events (replay old)) (events_of_waves (5 - wave) after (replay now)) _ old now
    (ap (λ k. events_of_waves k after (replay now)) left ∙ wave_more (5 - (wave + 1)) after (replay now)) way

pub did_one_wave_more : (wave after : ℕ) (old now new : Play) → wave < 5 → DidWavesOfRound wave after old now → Did (hearings (replay now) after) now new
    → DidWavesOfRound (wave + 1) (length (replay now).letters) old new
did_one_wave_more wave after old now new low way did =
    let v = replay now in
    done_events_with_equal_rest (round_events (replay old)) (events_of_waves (5 - (wave + 1)) (length v.letters) (world_after_events v (hearings v after)))
    (events_of_waves (5 - (wave + 1)) (length v.letters) (replay new)) old new
    (ap (events_of_waves (5 - (wave + 1)) (length v.letters)) (sym (replay_of_done_events (hearings v after) now new did)))
    (done_events_with_next_part (round_events (replay old)) (hearings v after) _ old now new (at_wave wave after old now low way) did)

pub stuck_in_wave_of_round : (wave after : ℕ) (old now new : Play) (refusal : WorldRefusal) → wave < 5 → DidWavesOfRound wave after old now
    → Stuck (hearings (replay now) after) now new refusal → Stuck (round_events (replay old)) old new refusal
stuck_in_wave_of_round wave after old now new refusal low way stuck =
    stuck_within_all_events (round_events (replay old)) (hearings (replay now) after) _ old now new refusal (at_wave wave after old now low way) stuck

pub round_ends_with_fifth_wave : (wave after : ℕ) (old now : Play) → 5 ≤ wave → DidWavesOfRound wave after old now → Did (round_events (replay old)) old now
unfolding events_of_waves settle_waves
round_ends_with_fifth_wave wave after old now high way =
    let left : 5 - wave ≡ 0 = omega arith in
    all_events_are_done (round_events (replay old)) _ old now (ap (λ k. events_of_waves k after (replay now)) left) way

-- ---- the way through some rounds

abbrev pub DidRoundsOfSettle : ℕ → ℕ → Play → Play → Type 0
DidRoundsOfSettle count round old now = DidSomeOfEvents (events_of_rounds count (replay old)) (events_of_rounds (count - round) (replay now)) old now

pub no_round_is_done_yet : (count : ℕ) (old : Play) → DidRoundsOfSettle count 0 old old
no_round_is_done_yet count old = no_event_is_done_yet (events_of_rounds count (replay old)) (events_of_rounds (count - 0) (replay old)) old (let all : count - 0 ≡ count = omega arith in
    ap (λ k. events_of_rounds k (replay old)) all)

at_round : (count round : ℕ) (old now : Play) → round < count → DidRoundsOfSettle count round old now
    → DidSomeOfEvents (events_of_rounds count (replay old)) (round_events (replay now)
    ++ events_of_rounds (count - (round + 1)) (world_after_events (replay now) (round_events (replay now)))) old now
at_round count round old now low way =
    let left : count - round ≡ suc (count - (round + 1)) = omega arith in
    done_events_with_equal_rest (events_of_rounds count (replay old)) (events_of_rounds (count - round) (replay now)) _ old now
    (ap (λ k. events_of_rounds k (replay now)) left ∙ rounds_more (count - (round + 1)) (replay now)) way

pub did_one_round_more : (count round : ℕ) (old now new : Play) → round < count → DidRoundsOfSettle count round old now → Did (round_events (replay now)) now new
    → DidRoundsOfSettle count (round + 1) old new
did_one_round_more count round old now new low way did =
    let v = replay now in
    done_events_with_equal_rest (events_of_rounds count (replay old)) (events_of_rounds (count - (round + 1)) (world_after_events v (round_events v)))
    (events_of_rounds (count - (round + 1)) (replay new)) old new
    (ap (events_of_rounds (count - (round + 1))) (sym (replay_of_done_events (round_events v) now new did)))
    (done_events_with_next_part (events_of_rounds count (replay old)) (round_events v) _ old now new (at_round count round old now low way) did)

pub stuck_in_round_of_settle : (count round : ℕ) (old now new : Play) (refusal : WorldRefusal) → round < count → DidRoundsOfSettle count round old now
    → Stuck (round_events (replay now)) now new refusal → Stuck (events_of_rounds count (replay old)) old new refusal
stuck_in_round_of_settle count round old now new refusal low way stuck =
    stuck_within_all_events (events_of_rounds count (replay old)) (round_events (replay now)) _ old now new refusal (at_round count round old now low way) stuck

pub rounds_of_count_are_done : (count round : ℕ) (old now : Play) → count ≤ round → DidRoundsOfSettle count round old now → Did (events_of_rounds count (replay old)) old now
unfolding events_of_rounds settle_rounds
rounds_of_count_are_done count round old now high way =
    let left : count - round ≡ 0 = omega arith in
    all_events_are_done (events_of_rounds count (replay old)) _ old now (ap (λ k. events_of_rounds k (replay now)) left) way

-- all rounds are the whole schedule
pub rounds_of_count_settle : (old : Play) (count : ℕ) → count ≡ round_count old.rules → events_of_rounds count (replay old) ≡ settle_events old.rules (replay old)
unfolding events_of_rounds settle_events
rounds_of_count_settle old count is = ap (λ k. (settle_rounds k (settling_of (replay old))).events) is
