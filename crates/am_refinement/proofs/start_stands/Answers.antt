use Rattle.am_refinement.proofs.Start.{group_stands_at_start}
use Rattle.am_refinement.proofs.start_stands.Goals as goal

pub returns : goal.returns
returns c = group_stands_at_start
