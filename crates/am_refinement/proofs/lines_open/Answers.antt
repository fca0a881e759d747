use Rattle.am_refinement.proofs.Opens.{group_runs_keep_lines_open}
use Rattle.am_refinement.proofs.lines_open.Goals as goal

pub returns : goal.returns
returns c = group_runs_keep_lines_open
