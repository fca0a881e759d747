use Rattle.am_safety.proofs.Holds.{lists_of_runs_fit}
use Rattle.am_safety.proofs.lawful_lists_fit.Goals as goal

pub returns : goal.returns
returns c = lists_of_runs_fit
