use Rattle.am_step_laws.proofs.Numbers.RunCounts.{number_bounds_hold_in_runs}
use Rattle.am_step_laws.proofs.numbers_are_bounded.Goals as goal

pub returns : goal.returns
returns c = number_bounds_hold_in_runs
