use Rattle.am_fetch_runs.proofs.Ballots.{ballots_end_in_runs}
use Rattle.am_fetch_runs.proofs.Coordinating.{coordinators_may_follow, fetching_ballots_end}
use Rattle.am_fetch_runs.proofs.ballots_end.Goals as goal

pub returns-clause-runs : goal.returns-clause-runs
returns-clause-runs c = ballots_end_in_runs

pub returns-clause-may : goal.returns-clause-may
returns-clause-may c = coordinators_may_follow

pub returns-clause-lawful : goal.returns-clause-lawful
returns-clause-lawful c = fetching_ballots_end
