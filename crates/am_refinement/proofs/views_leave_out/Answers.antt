use Rattle.am_refinement.proofs.Membership.LeftOut.{left_out_names_have_stopped, group_runs_have_rounds}
use Rattle.am_refinement.proofs.views_leave_out.Goals as goal

pub returns-clause-rounds : goal.returns-clause-rounds
returns-clause-rounds c = group_runs_have_rounds

pub returns-clause-left : goal.returns-clause-left
returns-clause-left c = left_out_names_have_stopped
