use Rattle.am_run_laws.proofs.Holds.{unballoted_group_lists_fit}
use Rattle.am_run_laws.proofs.unballoted.lists_without_a_ballot_fit.Goals as goal

pub returns : goal.returns
returns c = unballoted_group_lists_fit
