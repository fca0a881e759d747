-- The texts of these scripts, by computing. Written by tools/rows.py.
use Rattle.std.proofs.Common.{refl}
use Rattle.am_computed_cases.proofs.Opened.{opened}
use Rattle.am_computed_cases.proofs.worked_members.texts.Goals as goal

pub returns-clause-every_life : goal.returns-clause-every_life
unfolding opened
returns-clause-every_life c = refl

pub returns-clause-join_asked : goal.returns-clause-join_asked
unfolding opened
returns-clause-join_asked c = refl

pub returns-clause-join_with_lost_welcome : goal.returns-clause-join_with_lost_welcome
unfolding opened
returns-clause-join_with_lost_welcome c = refl

pub returns-clause-leave_asked : goal.returns-clause-leave_asked
unfolding opened
returns-clause-leave_asked c = refl

pub returns-clause-only_founder_leaves : goal.returns-clause-only_founder_leaves
unfolding opened
returns-clause-only_founder_leaves c = refl

pub returns-clause-return_after_leave : goal.returns-clause-return_after_leave
unfolding opened
returns-clause-return_after_leave c = refl

pub returns-clause-return_after_stop : goal.returns-clause-return_after_stop
unfolding opened
returns-clause-return_after_stop c = refl

pub returns-clause-returned_leaver_stops : goal.returns-clause-returned_leaver_stops
unfolding opened
returns-clause-returned_leaver_stops c = refl
