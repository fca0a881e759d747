-- What a world keeps of its run to say whether it is lawful.
use Rattle.am_group_defs.specs.Lawful.{watch_run}
use Rattle.am_lawful_defs.specs.Watching.{Watching}
use Rattle.am_lawful_defs.specs.Watches.{Watches}
use Rattle.am_world.specs.Runs.{Play}

-- what is kept is that of the watched run
abbrev pub IsWatched : Play → Watching → Type 0
IsWatched p k = Watches k (watch_run p.rules p.events)
