use Rattle.am_fetch_runs.proofs.Events.{laggers_reach_view_in_runs}
use Rattle.am_fetch_runs.proofs.Lagging.{laggers_may_catch_up, laggers_reach_view}
use Rattle.am_fetch_runs.proofs.laggers_catch_up.Goals as goal

pub returns-clause-may : goal.returns-clause-may
returns-clause-may c = laggers_may_catch_up

pub returns-clause-reach : goal.returns-clause-reach
returns-clause-reach c = laggers_reach_view

pub returns-clause-runs : goal.returns-clause-runs
returns-clause-runs c = laggers_reach_view_in_runs
