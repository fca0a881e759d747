use Rattle.am_step_laws.proofs.GivenUp.{only_stopped_names_given_up}
use Rattle.am_step_laws.proofs.only_stopped_names_are_given_up.Goals as goal

pub returns : goal.returns
returns c = only_stopped_names_given_up
