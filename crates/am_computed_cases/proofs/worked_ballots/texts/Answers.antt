-- The texts of these scripts, by computing. Written by tools/rows.py.
use Rattle.std.proofs.Common.{refl}
use Rattle.am_computed_cases.proofs.Opened.{opened}
use Rattle.am_computed_cases.proofs.worked_ballots.texts.Goals as goal

pub returns-clause-complete_before_accepted : goal.returns-clause-complete_before_accepted
unfolding opened
returns-clause-complete_before_accepted c = refl

pub returns-clause-coordinator_stop_survived : goal.returns-clause-coordinator_stop_survived
unfolding opened
returns-clause-coordinator_stop_survived c = refl

pub returns-clause-coordinator_stops_too : goal.returns-clause-coordinator_stops_too
unfolding opened
returns-clause-coordinator_stops_too c = refl

pub returns-clause-raised_resilience : goal.returns-clause-raised_resilience
unfolding opened
returns-clause-raised_resilience c = refl

pub returns-clause-raised_resilience_stays : goal.returns-clause-raised_resilience_stays
unfolding opened
returns-clause-raised_resilience_stays c = refl

pub returns-clause-tentative : goal.returns-clause-tentative
unfolding opened
returns-clause-tentative c = refl

pub returns-clause-too_few : goal.returns-clause-too_few
unfolding opened
returns-clause-too_few c = refl

pub returns-clause-two_coordinators : goal.returns-clause-two_coordinators
unfolding opened
returns-clause-two_coordinators c = refl
