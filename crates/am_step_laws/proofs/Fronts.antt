-- A run's lawful front begins it.
use Rattle.am_step_laws.proofs.Words.{ℕ, ◌-◌, List, length, Option, Some, None, subst, take-length, Rules, Event, run, WorldBegins, broken_at, events_before_break, run_begins_longer_run}
use Rattle.am_step_laws.proofs.Words.{LawfulFrontBeginsRun}

before_begins : (rules : Rules) (events : List Event) (o : Option ℕ) → WorldBegins (run rules (events_before_break events o)) (run rules events)
before_begins rules events None = subst (λ es. WorldBegins (run rules es) (run rules events)) (take-length events) (run_begins_longer_run rules events (length events))
before_begins rules events (Some k) = run_begins_longer_run rules events (k - 1)

pub lawful_front_begins_run : LawfulFrontBeginsRun
lawful_front_begins_run rules events = before_begins rules events (broken_at rules events)
