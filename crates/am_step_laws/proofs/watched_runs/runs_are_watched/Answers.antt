use Rattle.am_step_laws.proofs.Watching.Watched.{first_watching_is_kept, watching_tells_the_break, step_is_watched, stop_is_watched, return_is_watched, idle_event_is_watched}
use Rattle.am_step_laws.proofs.watched_runs.runs_are_watched.Goals as goal

pub returns : goal.returns
returns c = record {
  beginning = first_watching_is_kept;
  broken = watching_tells_the_break;
  step = step_is_watched;
  stop = stop_is_watched;
  return_ = return_is_watched;
  pass = idle_event_is_watched;
}
