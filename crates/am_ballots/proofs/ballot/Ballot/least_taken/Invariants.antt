use Rattle.am_ballots.proofs.Words.{◌≡◌, drop, names_of, names_from, lesser_of_options, least_of_names, taken_number_of_voter, ballot_of}
use Rattle.am_ballots.proofs.ballot.Ballot.least_taken.Given as goal

abbrev pub invariant-loop-place : goal.invariant-loop-place
invariant-loop-place l = lesser_of_options l.least (least_of_names (taken_number_of_voter l.coordinator l.taken (ballot_of l.self)) (names_from l.place (drop l.place l.lives)))
    ≡ least_of_names (taken_number_of_voter l.coordinator l.taken (ballot_of l.self)) (names_of l.lives)
