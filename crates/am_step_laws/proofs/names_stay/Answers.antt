use Rattle.am_step_laws.proofs.Named.{names_hold_in_runs}
use Rattle.am_step_laws.proofs.names_stay.Goals as goal

pub returns : goal.returns
returns c = names_hold_in_runs
