use Rattle.am_run_laws.proofs.Holds.{unballoted_runs_hold}
use Rattle.am_run_laws.proofs.unballoted.runs_without_a_ballot_hold.Goals as goal

pub returns : goal.returns
returns c = unballoted_runs_hold
