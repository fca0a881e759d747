use Rattle.am_run_laws.proofs.Ballots.{ballots_are_of_own_names}
use Rattle.am_run_laws.proofs.promises.ballots_are_own.Goals as goal

pub returns : goal.returns
returns c = ballots_are_of_own_names
