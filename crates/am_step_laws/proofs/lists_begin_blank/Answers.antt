use Rattle.am_step_laws.proofs.Blank.{blank_lists_hold_in_runs}
use Rattle.am_step_laws.proofs.lists_begin_blank.Goals as goal

pub returns : goal.returns
returns c = blank_lists_hold_in_runs
