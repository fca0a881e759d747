-- What is answered in every run, and after a lossless schedule.
use Rattle.am_lawful_runs.proofs.Words.{◌≡◌, ℕ, ◌<◌, List, ◌++◌, true, subst, arith, Rules, MayFound, has, Event, top, World, start, current, run}
use Rattle.am_lawful_runs.proofs.Words.{lawful_front, runs_go_on}
use Rattle.am_model.specs.Node.{members}
use Rattle.am_group_defs.specs.Settle.{settle_events}
use Rattle.am_repair.specs.Claim.{MayRepair}
use Rattle.am_repair.specs.Answers.{AnswersUpTo, AcceptedAreAnswered, RepairedAreAnswered, GivesUpTo, RepairedAreGiven}
use Rattle.am_repair.proofs.Repairable.RepairedSettled.{settled_run_is_repaired}
use Rattle.am_repair.proofs.Answered.SettledRuns.{accepted_send_is_not_pending}
use Rattle.am_repair.proofs.Answered.Given.{accepted_are_given}

pub accepted_are_answered : AcceptedAreAnswered
accepted_are_answered rules events name may number req body from low at = accepted_send_is_not_pending rules events name number req body may from low at

-- the run of all that was done, the events that settle it among them
pub settled_send_is_answered : (rules : Rules) (events : List Event) (place : ℕ) → MayFound rules → place < 16 → lawful_front rules events ≡ events
    → MayRepair (run rules events) place → (name : ℕ) → has (members ((run rules events).nodes (current (run rules events) place))) name ≡ true
    → AnswersUpTo ((run rules (events ++ settle_events rules (run rules events))).nodes name)
    (top ((run rules events).nodes (current (run rules events) place)))
settled_send_is_answered rules events place may few lawful repair name member number req body from low at =
    let accepted = (settled_run_is_repaired rules events place may few lawful repair name member).accepted in
    accepted_send_is_not_pending rules (events ++ settle_events rules (run rules events)) name number req body may from (omega arith) at

pub repaired_are_answered : RepairedAreAnswered
repaired_are_answered rules events place may few lawful repair name member =
    let last = top ((run rules events).nodes (current (run rules events) place)) in
    subst (λ (w : World). AnswersUpTo (w.nodes name) last) (runs_go_on (start rules) events (settle_events rules (run rules events)))
    (settled_send_is_answered rules events place may few lawful repair name member)

pub repaired_are_given : RepairedAreGiven
repaired_are_given rules events place may low lawful repair name few there =
    let last = top ((run rules events).nodes (current (run rules events) place)) in
    let accepted = (settled_run_is_repaired rules events place may low lawful repair name there).accepted in
    subst (λ (w : World). GivesUpTo (w.nodes name) last) (runs_go_on (start rules) events (settle_events rules (run rules events)))
    (λ many member enough. accepted_are_given rules (events ++ settle_events rules (run rules events)) name may few many member (omega arith))
