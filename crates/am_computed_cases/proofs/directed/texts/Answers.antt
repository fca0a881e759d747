-- The texts of these scripts, by computing. Written by tools/rows.py.
use Rattle.std.proofs.Common.{refl}
use Rattle.am_computed_cases.proofs.Opened.{opened}
use Rattle.am_computed_cases.proofs.directed.texts.Goals as goal

pub returns-clause-crowded_at_the_window : goal.returns-clause-crowded_at_the_window
unfolding opened
returns-clause-crowded_at_the_window c = refl

pub returns-clause-member_lags_first : goal.returns-clause-member_lags_first
unfolding opened
returns-clause-member_lags_first c = refl

pub returns-clause-member_lags_second : goal.returns-clause-member_lags_second
unfolding opened
returns-clause-member_lags_second c = refl

pub returns-clause-member_lags_third : goal.returns-clause-member_lags_third
unfolding opened
returns-clause-member_lags_third c = refl

pub returns-clause-sixteen_lives : goal.returns-clause-sixteen_lives
unfolding opened
returns-clause-sixteen_lives c = refl

pub returns-clause-sixteen_members : goal.returns-clause-sixteen_members
unfolding opened
returns-clause-sixteen_members c = refl
