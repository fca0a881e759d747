use Rattle.am_refinement.proofs.Carried.{changes_stand_as_moves}
use Rattle.am_refinement.proofs.changes_stand.Goals as goal

pub returns : goal.returns
returns c = changes_stand_as_moves
