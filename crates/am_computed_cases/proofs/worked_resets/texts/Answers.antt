-- The texts of these scripts, by computing. Written by tools/rows.py.
use Rattle.std.proofs.Common.{refl}
use Rattle.am_computed_cases.proofs.Opened.{opened}
use Rattle.am_computed_cases.proofs.worked_resets.texts.Goals as goal

pub returns-clause-crowded : goal.returns-clause-crowded
unfolding opened
returns-clause-crowded c = refl

pub returns-clause-crowded_given_up : goal.returns-clause-crowded_given_up
unfolding opened
returns-clause-crowded_given_up c = refl

pub returns-clause-crowded_taken : goal.returns-clause-crowded_taken
unfolding opened
returns-clause-crowded_taken c = refl

pub returns-clause-leaver_let_go_behind : goal.returns-clause-leaver_let_go_behind
unfolding opened
returns-clause-leaver_let_go_behind c = refl

pub returns-clause-leaver_stays_behind : goal.returns-clause-leaver_stays_behind
unfolding opened
returns-clause-leaver_stays_behind c = refl

pub returns-clause-running_member : goal.returns-clause-running_member
unfolding opened
returns-clause-running_member c = refl

pub returns-clause-sequencer_leaves : goal.returns-clause-sequencer_leaves
unfolding opened
returns-clause-sequencer_leaves c = refl

pub returns-clause-sequencer_stops : goal.returns-clause-sequencer_stops
unfolding opened
returns-clause-sequencer_stops c = refl
