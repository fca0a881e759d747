-- The texts of these scripts, by computing. Written by tools/rows.py.
use Rattle.std.proofs.Common.{refl}
use Rattle.am_computed_cases.proofs.Opened.{opened}
use Rattle.am_computed_cases.proofs.worked_sends.texts.Goals as goal

pub returns-clause-busy : goal.returns-clause-busy
unfolding opened
returns-clause-busy c = refl

pub returns-clause-cut_packets : goal.returns-clause-cut_packets
unfolding opened
returns-clause-cut_packets c = refl

pub returns-clause-long_body : goal.returns-clause-long_body
unfolding opened
returns-clause-long_body c = refl

pub returns-clause-no_events : goal.returns-clause-no_events
unfolding opened
returns-clause-no_events c = refl

pub returns-clause-reordering : goal.returns-clause-reordering
unfolding opened
returns-clause-reordering c = refl

pub returns-clause-repeat : goal.returns-clause-repeat
unfolding opened
returns-clause-repeat c = refl

pub returns-clause-settled : goal.returns-clause-settled
unfolding opened
returns-clause-settled c = refl

pub returns-clause-short_body : goal.returns-clause-short_body
unfolding opened
returns-clause-short_body c = refl

pub returns-clause-smallest_path : goal.returns-clause-smallest_path
unfolding opened
returns-clause-smallest_path c = refl

pub returns-clause-spread_lost : goal.returns-clause-spread_lost
unfolding opened
returns-clause-spread_lost c = refl

pub returns-clause-window_of_one : goal.returns-clause-window_of_one
unfolding opened
returns-clause-window_of_one c = refl
