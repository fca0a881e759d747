-- What an audit tells of what is written.
use Rattle.std.proofs.Common.{◌≡◌, ℕ, zero, suc, ◌+◌, ◌≤◌, List, [], ◌∷◌, length, map, Bool, true, false, arith, Ok}
use Rattle.std.specs.Prelude.{All}
use Rattle.std.proofs.lemmas.List.{length-map}
use Rattle.std.proofs.lemmas.List.Elements.{All-nil, All-cons, All-append, All-head, All-tail, All-weaker, All-map}
use Rattle.am_base.specs.Most.{most_events_of_run}
use Rattle.am_base.specs.Founding.{Rules, MayFound}
use Rattle.am_packet.specs.Boxes.{Letter}
use Rattle.am_group.specs.declared.event.Act.{Act}
use Rattle.am_group.specs.declared.event.Act.TheVariants as act
use Rattle.am_group.specs.declared.event.Event.{Event}
use Rattle.am_group.specs.declared.event.Record.{Record}
use Rattle.am_group.specs.declared.plan.RacePlan.{RacePlan}
use Rattle.am_group.specs.declared.plan.ThreadPlan.{ThreadPlan}
use Rattle.am_group_defs.specs.World.{World, run}
use Rattle.am_group_defs.specs.Settle.{Settling, settle_then, event_at, ticks_of_places, hearings_of, hearings_from, hearings, settle_waves, round, settle_rounds, round_count, settle_events}
use Rattle.am_group_defs.specs.Play.{play_text_of}
use Rattle.am_step_laws.specs.Bytes.{BodyIsWithinLimit, IsRunWithinScriptLimits}
use Rattle.am_script_defs.specs.Schedules.{script_text, IsOfBytes, AreOfBytes}
use Rattle.am_script_defs.specs.Scripts.{script_of, script_reading}
use Rattle.am_script_defs.specs.Races.{race_reading}
use Rattle.am_script_defs.specs.Limits.{ActWithin, EventWithin, ScriptIsWithin}
use Rattle.am_script_defs.specs.RaceLimits.{CallWithin, ThreadWithin, RaceWithin}
use Rattle.am_trace_laws.specs.Bodies.{ThreadOfBytes}
use Rattle.am_trace_laws.proofs.Bodies.{script_plays_are_of_bytes, race_plays_are_of_bytes}
use Rattle.am_trace_laws.specs.RacedBodies.{HasBody, ThreadHasBodies}
use Rattle.am_trace_laws.proofs.RacedBodies.{race_sends_have_planned_bodies}
use Rattle.am_trace_laws.proofs.RacedScripts.{races_have_scripts}
use Rattle.am_trace_laws.specs.Claims.{ReadsAs, AgreesAs, IsOfOneList}
use Rattle.am_trace_laws.proofs.Agree.{runs_have_their_texts, lawful_texts_agree}
use Rattle.am_trace_laws.proofs.Scripts.{scripts_are_passed_over}
use Rattle.am_player.specs.Runs.{done_of}
use Rattle.am_sim.specs.Racing.{events_of, race_text, IsRaced, IsReadAgain}

-- ---- bodies

abbrev Has : Event → Type 0
Has e = HasBody e.act

act_has : (a : Act) → ActWithin a → IsOfBytes a → HasBody a
act_has (act.Send body) within bytes = record { within = within; bytes = bytes }
act_has _ within bytes = record { within = tt; bytes = tt }

events_have : (events : List Event) → All EventWithin events → AreOfBytes events → All Has events
events_have [] within bytes = All-nil Has
events_have (e ∷ es) within bytes = All-cons Has e es
    (act_has e.act (All-head EventWithin e es within).1 (All-head (λ (x : Event). IsOfBytes x.act) e es bytes))
    (events_have es (All-tail EventWithin e es within) (All-tail (λ (x : Event). IsOfBytes x.act) e es bytes))

-- ---- the events that settle a run have none

at_places : (a : Act) (places : List ℕ) → HasBody a → All Has (map (λ place. event_at place a) places)
at_places a [] has = All-nil Has
at_places a (place ∷ places) has = All-cons Has (event_at place a) (map (λ p. event_at p a) places) has (at_places a places has)

bare : (a : Act) → BodyIsWithinLimit a → IsOfBytes a → HasBody a
bare a within bytes = record { within = within; bytes = bytes }

heard_have : (w : World) (number : ℕ) (letters : List Letter) → All Has (hearings_from w number letters)
unfolding hearings_from
heard_have w number [] = All-nil Has
heard_have w number (l ∷ ls) = All-append Has (hearings_of w number l) (hearings_from w (number + 1) ls)
    (at_places (act.Hear number) _ (bare (act.Hear number) tt tt)) (heard_have w (number + 1) ls)

waves_have : (left after : ℕ) (s : Settling) → All Has s.events → All Has (settle_waves left after s).events
unfolding settle_waves
waves_have zero after s has = has
waves_have (suc left) after s has =
    waves_have left (length s.world.letters) (settle_then s (hearings s.world after))
    (All-append Has s.events (hearings s.world after) has (heard_have s.world (after + 1) _))

round_has : (s : Settling) → All Has s.events → All Has (round s).events
round_has s has = waves_have 5 (length s.world.letters) (settle_then s (ticks_of_places s.world))
    (All-append Has s.events (ticks_of_places s.world) has (at_places act.Tick _ (bare act.Tick tt tt)))

rounds_have : (left : ℕ) (s : Settling) → All Has s.events → All Has (settle_rounds left s).events
unfolding settle_rounds
rounds_have zero s has = has
rounds_have (suc left) s has = rounds_have left (round s) (round_has s has)

settling_has : (rules : Rules) (w : World) → All Has (settle_events rules w)
unfolding settle_events
settling_has rules w = rounds_have (round_count rules) (record { world = w; events = [] }) (All-nil Has)

done_have : (rules : Rules) (events : List Event) (settles : Bool) → All Has events → All Has (done_of rules events settles)
done_have rules events true has = All-append Has events (settle_events rules (run rules events)) has (settling_has rules (run rules events))
done_have rules events false has = has

-- ---- plays

short : (rules : Rules) (events : List Event) → MayFound rules → All Has events → length events ≤ most_events_of_run → IsRunWithinScriptLimits rules events
short rules events founds has few = record {
  founds = founds;
  bodies = All-weaker Has (λ (e : Event). BodyIsWithinLimit e.act) (λ e h. h.within) events has;
  few = few;
}

of_bytes : (events : List Event) → All Has events → AreOfBytes events
of_bytes events has = All-weaker Has (λ (e : Event). IsOfBytes e.act) (λ e h. h.bytes) events has

play_has : (bytes : List ℕ) (founding : Rules) (events : List Event) (settles : Bool) → script_reading bytes ≡ Ok (script_of founding events settles)
    → ScriptIsWithin founding events → All Has (done_of founding events settles)
play_has bytes founding events settles is within =
    done_have founding events settles (events_have events within.each (script_plays_are_of_bytes bytes founding events settles is))

pub text_of_play_is_read : (bytes : List ℕ) (founding : Rules) (events : List Event) (settles : Bool) → script_reading bytes ≡ Ok (script_of founding events settles)
    → ScriptIsWithin founding events → length (done_of founding events settles) ≤ most_events_of_run
    → ReadsAs founding (done_of founding events settles) (play_text_of founding (done_of founding events settles))
text_of_play_is_read bytes founding events settles is within few =
    let done = done_of founding events settles in
    let has = play_has bytes founding events settles is within in
    runs_have_their_texts founding done (short founding done within.may_found has few) (of_bytes done has)

pub text_of_play_agrees : (bytes : List ℕ) (founding : Rules) (events : List Event) (settles : Bool) → script_reading bytes ≡ Ok (script_of founding events settles)
    → ScriptIsWithin founding events → length (done_of founding events settles) ≤ most_events_of_run → IsOfOneList founding (done_of founding events settles)
    → AgreesAs founding (done_of founding events settles) (play_text_of founding (done_of founding events settles))
text_of_play_agrees bytes founding events settles is within few one =
    let done = done_of founding events settles in
    let has = play_has bytes founding events settles is within in
    lawful_texts_agree founding done (short founding done within.may_found has few) (of_bytes done has) one

-- ---- races

call_has : (a : Act) → CallWithin a → IsOfBytes a → HasBody a
call_has (act.Send body) within bytes = record { within = within; bytes = bytes }
call_has _ within bytes = record { within = tt; bytes = tt }

calls_have : (calls : List Act) → All CallWithin calls → All IsOfBytes calls → All HasBody calls
calls_have [] within bytes = All-nil HasBody
calls_have (a ∷ calls) within bytes = All-cons HasBody a calls (call_has a (All-head CallWithin a calls within) (All-head IsOfBytes a calls bytes))
    (calls_have calls (All-tail CallWithin a calls within) (All-tail IsOfBytes a calls bytes))

threads_have : (threads : List ThreadPlan) → All ThreadWithin threads → All ThreadOfBytes threads → All ThreadHasBodies threads
threads_have [] within bytes = All-nil ThreadHasBodies
threads_have (t ∷ threads) within bytes = All-cons ThreadHasBodies t threads
    (calls_have t.calls (All-head ThreadWithin t threads within).calls (All-head ThreadOfBytes t threads bytes))
    (threads_have threads (All-tail ThreadWithin t threads within) (All-tail ThreadOfBytes t threads bytes))

race_threads : (bytes : List ℕ) (plan : RacePlan) → race_reading bytes ≡ Ok plan → RaceWithin plan → All ThreadHasBodies plan.threads
race_threads bytes plan is within = threads_have plan.threads within.each (race_plays_are_of_bytes bytes plan is)

race_has : (bytes : List ℕ) (plan : RacePlan) (journal : List Record) → race_reading bytes ≡ Ok plan → RaceWithin plan → IsRaced plan journal
    → All Has (events_of journal)
race_has bytes plan journal is within raced =
    All-map Has (λ (r : Record). r.event) journal (race_sends_have_planned_bodies plan journal (race_threads bytes plan is within) raced.legal)

-- what was done is read as a script
pub race_script_is_read_again : (bytes : List ℕ) (plan : RacePlan) (journal : List Record) → race_reading bytes ≡ Ok plan → RaceWithin plan → IsRaced plan journal
    → IsReadAgain plan.founding (events_of journal)
    → script_reading (script_text plan.founding (events_of journal)) ≡ Ok (script_of plan.founding (events_of journal) false)
race_script_is_read_again bytes plan journal is within raced again =
    again (races_have_scripts plan journal within (race_threads bytes plan is within) raced.few raced.legal)
    (of_bytes (events_of journal) (race_has bytes plan journal is within raced))

race_few : (plan : RacePlan) (journal : List Record) → IsRaced plan journal → length (events_of journal) ≤ most_events_of_run
race_few plan journal raced = let few = raced.few in omega (arith, length-map journal (λ (r : Record). r.event), few)

pub text_of_race_is_read : (bytes : List ℕ) (plan : RacePlan) (journal : List Record) → race_reading bytes ≡ Ok plan → RaceWithin plan → IsRaced plan journal
    → ReadsAs plan.founding (events_of journal) (race_text plan.founding (events_of journal))
text_of_race_is_read bytes plan journal is within raced =
    let done = events_of journal in
    let has = race_has bytes plan journal is within raced in
    scripts_are_passed_over plan.founding done (of_bytes done has)
    (runs_have_their_texts plan.founding done (short plan.founding done within.may_found has (race_few plan journal raced)) (of_bytes done has))

pub text_of_race_agrees : (bytes : List ℕ) (plan : RacePlan) (journal : List Record) → race_reading bytes ≡ Ok plan → RaceWithin plan → IsRaced plan journal
    → IsOfOneList plan.founding (events_of journal) → AgreesAs plan.founding (events_of journal) (race_text plan.founding (events_of journal))
text_of_race_agrees bytes plan journal is within raced one =
    let done = events_of journal in
    let has = race_has bytes plan journal is within raced in
    let h = lawful_texts_agree plan.founding done (short plan.founding done within.may_found has (race_few plan journal raced)) (of_bytes done has) one in
    record { reads = scripts_are_passed_over plan.founding done (of_bytes done has) h.reads; verdict = h.verdict }
