-- The texts of these scripts, by computing. Written by tools/rows.py.
use Rattle.std.proofs.Common.{refl}
use Rattle.am_computed_cases.proofs.Opened.{opened}
use Rattle.am_computed_cases.proofs.stop_table.texts.Goals as goal

pub returns-clause-stops_after_the_acknowledgment : goal.returns-clause-stops_after_the_acknowledgment
unfolding opened
returns-clause-stops_after_the_acknowledgment c = refl

pub returns-clause-stops_after_the_empty_take : goal.returns-clause-stops_after_the_empty_take
unfolding opened
returns-clause-stops_after_the_empty_take c = refl

pub returns-clause-stops_after_the_first_take : goal.returns-clause-stops_after_the_first_take
unfolding opened
returns-clause-stops_after_the_first_take c = refl

pub returns-clause-stops_after_the_second_take : goal.returns-clause-stops_after_the_second_take
unfolding opened
returns-clause-stops_after_the_second_take c = refl

pub returns-clause-stops_after_the_send : goal.returns-clause-stops_after_the_send
unfolding opened
returns-clause-stops_after_the_send c = refl

pub returns-clause-stops_after_the_storing : goal.returns-clause-stops_after_the_storing
unfolding opened
returns-clause-stops_after_the_storing c = refl

pub returns-clause-stops_before_anything : goal.returns-clause-stops_before_anything
unfolding opened
returns-clause-stops_before_anything c = refl
