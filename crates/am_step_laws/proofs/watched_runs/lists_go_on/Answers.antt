use Rattle.am_step_laws.proofs.Watching.Lists.{lists_only_grow_in_runs}
use Rattle.am_step_laws.proofs.watched_runs.lists_go_on.Goals as goal

pub returns : goal.returns
returns c = lists_only_grow_in_runs
