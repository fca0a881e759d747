use Rattle.am_abstract_group.proofs.Steps.{quiet_group_runs_keep}
use Rattle.am_abstract_group.proofs.chain_moves.quiet_runs_keep.Goals as goal

pub returns : goal.returns
returns c = quiet_group_runs_keep
