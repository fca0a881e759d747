-- The texts of these scripts, by computing. Written by tools/rows.py.
use Rattle.std.proofs.Common.{refl}
use Rattle.am_computed_cases.proofs.Opened.{opened}
use Rattle.am_computed_cases.proofs.scenarios_lives.texts.Goals as goal

pub returns-clause-lives_1 : goal.returns-clause-lives_1
unfolding opened
returns-clause-lives_1 c = refl

pub returns-clause-lives_10 : goal.returns-clause-lives_10
unfolding opened
returns-clause-lives_10 c = refl

pub returns-clause-lives_2 : goal.returns-clause-lives_2
unfolding opened
returns-clause-lives_2 c = refl

pub returns-clause-lives_3 : goal.returns-clause-lives_3
unfolding opened
returns-clause-lives_3 c = refl

pub returns-clause-lives_4 : goal.returns-clause-lives_4
unfolding opened
returns-clause-lives_4 c = refl

pub returns-clause-lives_5 : goal.returns-clause-lives_5
unfolding opened
returns-clause-lives_5 c = refl

pub returns-clause-lives_6 : goal.returns-clause-lives_6
unfolding opened
returns-clause-lives_6 c = refl

pub returns-clause-lives_7 : goal.returns-clause-lives_7
unfolding opened
returns-clause-lives_7 c = refl

pub returns-clause-lives_8 : goal.returns-clause-lives_8
unfolding opened
returns-clause-lives_8 c = refl

pub returns-clause-lives_9 : goal.returns-clause-lives_9
unfolding opened
returns-clause-lives_9 c = refl
