use Rattle.am_refinement.proofs.Lawful.{moves_keep_run_lawful}
use Rattle.am_refinement.proofs.runs_go_on.Goals as goal

pub returns : goal.returns
returns c = moves_keep_run_lawful
