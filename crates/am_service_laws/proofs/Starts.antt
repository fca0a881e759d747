-- Where the list of each name of a run begins.
use Rattle.am_lawful_runs.proofs.Words.{◌≡◌, ℕ, true, List, Rules, MayFound, Event, has_log_by_status, run, lawful_front, BeginsAt, front_is_lawful}
use Rattle.am_safety.proofs.Holds.{kept_in_unbroken_run, list_begins_at_start}

pub name_list_begins_at_start : (rules : Rules) (events : List Event) (name : ℕ) → MayFound rules → has_log_by_status ((run rules (lawful_front rules events)).nodes name).status ≡ true
    → BeginsAt rules (run rules (lawful_front rules events)) name ((run rules (lawful_front rules events)).nodes name).core.start
name_list_begins_at_start rules events name may log =
    let front = lawful_front rules events in
    list_begins_at_start rules may (run rules front) name (kept_in_unbroken_run rules may front (front_is_lawful rules events)).is log
