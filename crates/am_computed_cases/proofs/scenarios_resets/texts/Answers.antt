-- The texts of these scripts, by computing. Written by tools/rows.py.
use Rattle.std.proofs.Common.{refl}
use Rattle.am_computed_cases.proofs.Opened.{opened}
use Rattle.am_computed_cases.proofs.scenarios_resets.texts.Goals as goal

pub returns-clause-resets_1 : goal.returns-clause-resets_1
unfolding opened
returns-clause-resets_1 c = refl

pub returns-clause-resets_10 : goal.returns-clause-resets_10
unfolding opened
returns-clause-resets_10 c = refl

pub returns-clause-resets_2 : goal.returns-clause-resets_2
unfolding opened
returns-clause-resets_2 c = refl

pub returns-clause-resets_3 : goal.returns-clause-resets_3
unfolding opened
returns-clause-resets_3 c = refl

pub returns-clause-resets_4 : goal.returns-clause-resets_4
unfolding opened
returns-clause-resets_4 c = refl

pub returns-clause-resets_5 : goal.returns-clause-resets_5
unfolding opened
returns-clause-resets_5 c = refl

pub returns-clause-resets_6 : goal.returns-clause-resets_6
unfolding opened
returns-clause-resets_6 c = refl

pub returns-clause-resets_7 : goal.returns-clause-resets_7
unfolding opened
returns-clause-resets_7 c = refl

pub returns-clause-resets_8 : goal.returns-clause-resets_8
unfolding opened
returns-clause-resets_8 c = refl

pub returns-clause-resets_9 : goal.returns-clause-resets_9
unfolding opened
returns-clause-resets_9 c = refl
