-- The texts of these scripts, by computing. Written by tools/rows.py.
use Rattle.std.proofs.Common.{refl}
use Rattle.am_computed_cases.proofs.Opened.{opened}
use Rattle.am_computed_cases.proofs.scenarios_moves.texts.Goals as goal

pub returns-clause-moves_1 : goal.returns-clause-moves_1
unfolding opened
returns-clause-moves_1 c = refl

pub returns-clause-moves_10 : goal.returns-clause-moves_10
unfolding opened
returns-clause-moves_10 c = refl

pub returns-clause-moves_2 : goal.returns-clause-moves_2
unfolding opened
returns-clause-moves_2 c = refl

pub returns-clause-moves_3 : goal.returns-clause-moves_3
unfolding opened
returns-clause-moves_3 c = refl

pub returns-clause-moves_4 : goal.returns-clause-moves_4
unfolding opened
returns-clause-moves_4 c = refl

pub returns-clause-moves_5 : goal.returns-clause-moves_5
unfolding opened
returns-clause-moves_5 c = refl

pub returns-clause-moves_6 : goal.returns-clause-moves_6
unfolding opened
returns-clause-moves_6 c = refl

pub returns-clause-moves_7 : goal.returns-clause-moves_7
unfolding opened
returns-clause-moves_7 c = refl

pub returns-clause-moves_8 : goal.returns-clause-moves_8
unfolding opened
returns-clause-moves_8 c = refl

pub returns-clause-moves_9 : goal.returns-clause-moves_9
unfolding opened
returns-clause-moves_9 c = refl
