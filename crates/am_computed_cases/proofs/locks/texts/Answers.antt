-- The texts of these scripts, by computing. Written by tools/rows.py.
use Rattle.std.proofs.Common.{refl}
use Rattle.am_computed_cases.proofs.Opened.{opened}
use Rattle.am_computed_cases.proofs.locks.texts.Goals as goal

pub returns-clause-joiner_given_up : goal.returns-clause-joiner_given_up
unfolding opened
returns-clause-joiner_given_up c = refl

pub returns-clause-joiner_not_welcomed : goal.returns-clause-joiner_not_welcomed
unfolding opened
returns-clause-joiner_not_welcomed c = refl

pub returns-clause-last_two_leave_at_once : goal.returns-clause-last_two_leave_at_once
unfolding opened
returns-clause-last_two_leave_at_once c = refl

pub returns-clause-leave_lost : goal.returns-clause-leave_lost
unfolding opened
returns-clause-leave_lost c = refl
