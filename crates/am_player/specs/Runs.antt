-- What a play does.
use Rattle.std.specs.Prelude.{◌≡◌, ℕ, ◌<◌, ◌≤◌, List, ◌++◌, length, filter, Bool, if◌then◌else◌}
use Rattle.am_base.specs.Most.{most_events_of_run}
use Rattle.am_base.specs.Founding.{Rules}
use Rattle.am_base.specs.Votes.{all_names}
use Rattle.am_group.specs.declared.event.Event.{Event}
use Rattle.am_model.specs.Node.{has_log_by_status}
use Rattle.am_group_defs.specs.World.{World, run}
use Rattle.am_group_defs.specs.Settle.{settle_events}
use Rattle.am_group_defs.specs.Lawful.{Watch, watch_run}
use Rattle.am_group_defs.specs.Play.{settle_run}

-- a script's events, and those that settle their run where that is asked for
abbrev pub done_of : Rules → List Event → Bool → List Event
done_of rules events settles = if settles then events ++ settle_events rules (run rules events) else events

-- a script's run as it is watched, and settled after its own events where that is asked for
abbrev pub run_watch : Rules → List Event → Bool → Watch
run_watch rules events settles = if settles then settle_run rules (watch_run rules events) else watch_run rules events

-- the names that have or had a list, in their places' order
abbrev pub logged_in : World → List ℕ
logged_in w = filter (λ name. has_log_by_status (w.nodes name).status) all_names

-- what is shown of a run of this founding, of at most 100,000 events
unfoldable pub IsRunText : (Rules → Watch → List ℕ) → Rules → List Event → Bool → List ℕ → Type 0
IsRunText what rules events settles text =
    (text ≡ what rules (watch_run rules (done_of rules events settles))) × (length (done_of rules events settles) ≤ most_events_of_run)

-- its run would have more
unfoldable pub IsLong : Rules → List Event → Bool → Type 0
IsLong rules events settles = most_events_of_run < length (done_of rules events settles)
