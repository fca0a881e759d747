use Rattle.am_step_laws.proofs.Words.{run_begins_longer_run}
use Rattle.am_step_laws.proofs.Fronts.{lawful_front_begins_run}
use Rattle.am_step_laws.proofs.runs_begin.Goals as goal

pub returns-clause-runs : goal.returns-clause-runs
returns-clause-runs c = run_begins_longer_run

pub returns-clause-front : goal.returns-clause-front
returns-clause-front c = lawful_front_begins_run
