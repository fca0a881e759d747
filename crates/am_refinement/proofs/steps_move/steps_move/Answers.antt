use Rattle.am_refinement.proofs.WholeSteps.Steps.{steps_are_group_moves}
use Rattle.am_refinement.proofs.steps_move.steps_move.Goals as goal

pub returns : goal.returns
returns c = steps_are_group_moves
