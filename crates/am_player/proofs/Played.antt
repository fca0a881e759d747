-- What a script's text is, and what its run keeps.
use Rattle.std.proofs.Common.{◌≡◌, ℕ, List, [], ◌∷◌, ◌++◌, take, Bool, true, false, subst, Ok, ◌∙◌, sym, ap, refl}
use Rattle.am_base.specs.Founding.{Rules, MayFound}
use Rattle.am_group.specs.declared.event.Event.{Event}
use Rattle.am_group_defs.specs.World.{run}
use Rattle.am_group_defs.specs.Claims.{FitsView}
use Rattle.am_group_defs.specs.Lawful.{Watch, watch_start, watch_event, watch_events, watch_run, events_before_break, lawful_front}
use Rattle.am_group_defs.specs.Settle.{settle_events}
use Rattle.am_group_defs.proofs.Runs.{watched_is_run, front_is_lawful}
use Rattle.am_safety.proofs.Fitted.{views_fit}
use Rattle.am_safety.proofs.Holds.{headline_holds, prefix_of_unbroken_is_unbroken}
use Rattle.am_repair.proofs.Repairable.RepairedSettled.{settled_run_is_repaired}
use Rattle.am_repair.proofs.Answered.AnsweredRuns.{settled_send_is_answered}
use Rattle.am_run_laws.proofs.SentRuns.{bodies_were_sent_in_runs}
use Rattle.am_run_laws.proofs.Holds.{unballoted_runs_hold}
use Rattle.am_script_defs.specs.declared.script.Script.{Script}
use Rattle.am_script_defs.specs.Scripts.{script_reading}
use Rattle.am_script_defs.specs.Limits.{ScriptWithin}
use Rattle.am_player.specs.Runs.{done_of, run_watch, IsRunText}
use Rattle.am_player.specs.Plays.{KeepsRun, Repaired, SendsAreAnswered, PlayedBy, IsText}

-- ---- a run that is settled after its own events

watched_then : (s : Watch) (xs ys : List Event) → watch_events s (xs ++ ys) ≡ watch_events (watch_events s xs) ys
unfolding watch_events
watched_then s [] ys = refl
watched_then s (x ∷ xs) ys = watched_then (watch_event s x) xs ys

-- it is watched as all that was done is
pub watch_run_of_done_script : (rules : Rules) (events : List Event) (settles : Bool) → watch_run rules (done_of rules events settles) ≡ run_watch rules events settles
watch_run_of_done_script rules events false = refl
watch_run_of_done_script rules events true =
    let s = watch_run rules events in
    let world = watched_is_run rules events in
    watched_then (watch_start rules) events (settle_events rules (run rules events))
    ∙ ap (λ w. watch_events s (settle_events rules w)) (sym world)

-- at each moment up to its lawful front a View fits
fits_then : (rules : Rules) (events : List Event) → MayFound rules → (moment name : ℕ)
    → FitsView rules ((run rules (take moment (lawful_front rules events))).nodes name)
fits_then rules events may moment name =
    let es : List Event = take moment (lawful_front rules events) in
    let whole : lawful_front rules es ≡ es =
    ap (events_before_break es) (prefix_of_unbroken_is_unbroken rules (lawful_front rules events) moment (front_is_lawful rules events)) in
    subst (λ (l : List Event). FitsView rules ((run rules l).nodes name)) whole (views_fit rules es name may)

-- each run keeps what is claimed
pub run_of_script_is_kept : (rules : Rules) (events : List Event) → MayFound rules → KeepsRun rules events
run_of_script_is_kept rules events may = record {
  headline = headline_holds rules events may;
  fits = fits_then rules events may;
  sent = bodies_were_sent_in_runs rules events may;
  unballoted = λ none. unballoted_runs_hold rules events may none;
}

-- a run that is settled is repaired
repaired : (rules : Rules) (events : List Event) → MayFound rules → Repaired rules events
repaired rules events may place low lawful repair name member = settled_run_is_repaired rules events place may low lawful repair name member

-- and what stands in it is answered
answered : (rules : Rules) (events : List Event) → MayFound rules → SendsAreAnswered rules events
answered rules events may place low lawful repair name member = settled_send_is_answered rules events place may low lawful repair name member

pub text_of_script_is_played : (what : Rules → Watch → List ℕ) (bytes text : List ℕ) (script : Script) → script_reading bytes ≡ Ok script → ScriptWithin script
    → IsText what script text → PlayedBy what bytes text
unfolding IsRunText
text_of_script_is_played what bytes text script is within same =
    let founding = script.founding in
    let events = script.events in
    let settles = script.settle in
    record {
      founding = founding;
      events = events;
      settles = settles;
      script = is;
      within = within;
      written = same.0 ∙ ap (what founding) (watch_run_of_done_script founding events settles);
      few = same.1;
      keeps = run_of_script_is_kept founding (done_of founding events settles) within.may_found;
      repaired = λ _settled. repaired founding events within.may_found;
      answered = λ _settled. answered founding events within.may_found;
    }
