-- The texts of these scripts, by computing. Written by tools/rows.py.
use Rattle.std.proofs.Common.{refl}
use Rattle.am_computed_cases.proofs.Opened.{opened}
use Rattle.am_computed_cases.proofs.scenarios_first.texts.Goals as goal

pub returns-clause-first_1 : goal.returns-clause-first_1
unfolding opened
returns-clause-first_1 c = refl

pub returns-clause-first_10 : goal.returns-clause-first_10
unfolding opened
returns-clause-first_10 c = refl

pub returns-clause-first_2 : goal.returns-clause-first_2
unfolding opened
returns-clause-first_2 c = refl

pub returns-clause-first_3 : goal.returns-clause-first_3
unfolding opened
returns-clause-first_3 c = refl

pub returns-clause-first_4 : goal.returns-clause-first_4
unfolding opened
returns-clause-first_4 c = refl

pub returns-clause-first_5 : goal.returns-clause-first_5
unfolding opened
returns-clause-first_5 c = refl

pub returns-clause-first_6 : goal.returns-clause-first_6
unfolding opened
returns-clause-first_6 c = refl

pub returns-clause-first_7 : goal.returns-clause-first_7
unfolding opened
returns-clause-first_7 c = refl

pub returns-clause-first_8 : goal.returns-clause-first_8
unfolding opened
returns-clause-first_8 c = refl

pub returns-clause-first_9 : goal.returns-clause-first_9
unfolding opened
returns-clause-first_9 c = refl
