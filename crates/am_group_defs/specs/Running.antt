-- What is so of all runs.
use Rattle.std.specs.Prelude.{◌≡◌, List, ◌++◌, length, None}
use Rattle.am_base.specs.Founding.{Rules}
use Rattle.am_group.specs.declared.event.Event.{Event}
use Rattle.am_group_defs.specs.World.{World, world_after_events, run}
use Rattle.am_group_defs.specs.Lawful.{watch_run, broken_at, lawful_front}

-- events in turn, and then more of them
abbrev pub RunsGoOn : Type 0
RunsGoOn = (w : World) (xs ys : List Event) → world_after_events w (xs ++ ys) ≡ world_after_events (world_after_events w xs) ys

-- watching a run changes nothing of it
abbrev pub WatchedIsRun : Type 0
WatchedIsRun = (rules : Rules) (events : List Event) → (watch_run rules events).world ≡ run rules events

-- each event leaves one record
abbrev pub OneRecordEach : Type 0
OneRecordEach = (rules : Rules) (events : List Event) → length (run rules events).records ≡ length events

-- before a run breaks it is lawful
abbrev pub FrontIsLawful : Type 0
FrontIsLawful = (rules : Rules) (events : List Event) → broken_at rules (lawful_front rules events) ≡ None
