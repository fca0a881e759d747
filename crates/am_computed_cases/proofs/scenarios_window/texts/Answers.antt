-- The texts of these scripts, by computing. Written by tools/rows.py.
use Rattle.std.proofs.Common.{refl}
use Rattle.am_computed_cases.proofs.Opened.{opened}
use Rattle.am_computed_cases.proofs.scenarios_window.texts.Goals as goal

pub returns-clause-window_1 : goal.returns-clause-window_1
unfolding opened
returns-clause-window_1 c = refl

pub returns-clause-window_10 : goal.returns-clause-window_10
unfolding opened
returns-clause-window_10 c = refl

pub returns-clause-window_2 : goal.returns-clause-window_2
unfolding opened
returns-clause-window_2 c = refl

pub returns-clause-window_3 : goal.returns-clause-window_3
unfolding opened
returns-clause-window_3 c = refl

pub returns-clause-window_4 : goal.returns-clause-window_4
unfolding opened
returns-clause-window_4 c = refl

pub returns-clause-window_5 : goal.returns-clause-window_5
unfolding opened
returns-clause-window_5 c = refl

pub returns-clause-window_6 : goal.returns-clause-window_6
unfolding opened
returns-clause-window_6 c = refl

pub returns-clause-window_7 : goal.returns-clause-window_7
unfolding opened
returns-clause-window_7 c = refl

pub returns-clause-window_8 : goal.returns-clause-window_8
unfolding opened
returns-clause-window_8 c = refl

pub returns-clause-window_9 : goal.returns-clause-window_9
unfolding opened
returns-clause-window_9 c = refl
