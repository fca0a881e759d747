-- The texts of these scripts, by computing. Written by tools/rows.py.
use Rattle.std.proofs.Common.{refl}
use Rattle.am_computed_cases.proofs.Opened.{opened}
use Rattle.am_computed_cases.proofs.repaired.texts.Goals as goal

pub returns-clause-leaver_stops_unaccepted : goal.returns-clause-leaver_stops_unaccepted
unfolding opened
returns-clause-leaver_stops_unaccepted c = refl

pub returns-clause-member_behind_a_crash : goal.returns-clause-member_behind_a_crash
unfolding opened
returns-clause-member_behind_a_crash c = refl
