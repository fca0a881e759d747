-- The texts of these scripts, by computing. Written by tools/rows.py.
use Rattle.std.proofs.Common.{refl}
use Rattle.am_computed_cases.proofs.Opened.{opened}
use Rattle.am_computed_cases.proofs.asked.texts.Goals as goal

pub returns-clause-asked_after_a_leave : goal.returns-clause-asked_after_a_leave
unfolding opened
returns-clause-asked_after_a_leave c = refl

pub returns-clause-asked_before_two_stops : goal.returns-clause-asked_before_two_stops
unfolding opened
returns-clause-asked_before_two_stops c = refl

pub returns-clause-asked_in_another_view : goal.returns-clause-asked_in_another_view
unfolding opened
returns-clause-asked_in_another_view c = refl

pub returns-clause-decided_by_fetching : goal.returns-clause-decided_by_fetching
unfolding opened
returns-clause-decided_by_fetching c = refl

pub returns-clause-decided_by_giving_up : goal.returns-clause-decided_by_giving_up
unfolding opened
returns-clause-decided_by_giving_up c = refl
