use Rattle.am_step_laws.proofs.Views.{views_of_runs_noted_once}
use Rattle.am_step_laws.proofs.views_are_noted_once.Goals as goal

pub returns : goal.returns
returns c = views_of_runs_noted_once
