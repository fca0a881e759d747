-- The texts of these scripts, by computing. Written by tools/rows.py.
use Rattle.std.proofs.Common.{refl}
use Rattle.am_computed_cases.proofs.Opened.{opened}
use Rattle.am_computed_cases.proofs.scenarios_all.texts.Goals as goal

pub returns-clause-all_1 : goal.returns-clause-all_1
unfolding opened
returns-clause-all_1 c = refl

pub returns-clause-all_10 : goal.returns-clause-all_10
unfolding opened
returns-clause-all_10 c = refl

pub returns-clause-all_2 : goal.returns-clause-all_2
unfolding opened
returns-clause-all_2 c = refl

pub returns-clause-all_3 : goal.returns-clause-all_3
unfolding opened
returns-clause-all_3 c = refl

pub returns-clause-all_4 : goal.returns-clause-all_4
unfolding opened
returns-clause-all_4 c = refl

pub returns-clause-all_5 : goal.returns-clause-all_5
unfolding opened
returns-clause-all_5 c = refl

pub returns-clause-all_6 : goal.returns-clause-all_6
unfolding opened
returns-clause-all_6 c = refl

pub returns-clause-all_7 : goal.returns-clause-all_7
unfolding opened
returns-clause-all_7 c = refl

pub returns-clause-all_8 : goal.returns-clause-all_8
unfolding opened
returns-clause-all_8 c = refl

pub returns-clause-all_9 : goal.returns-clause-all_9
unfolding opened
returns-clause-all_9 c = refl
