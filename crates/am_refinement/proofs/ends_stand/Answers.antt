use Rattle.am_refinement.proofs.{Closing.last_leave_stands_as_move, Ends.step_ends_stand_as_moves}
use Rattle.am_refinement.proofs.ends_stand.Goals as goal

pub returns-clause-end : goal.returns-clause-end
returns-clause-end c = step_ends_stand_as_moves

pub returns-clause-close : goal.returns-clause-close
returns-clause-close c = last_leave_stands_as_move
