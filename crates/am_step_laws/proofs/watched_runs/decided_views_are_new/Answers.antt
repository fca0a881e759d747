use Rattle.am_step_laws.proofs.Watching.New.{decided_views_of_runs_are_new}
use Rattle.am_step_laws.proofs.watched_runs.decided_views_are_new.Goals as goal

pub returns : goal.returns
returns c = decided_views_of_runs_are_new
