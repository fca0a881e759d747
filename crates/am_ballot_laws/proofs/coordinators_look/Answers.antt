use Rattle.am_ballot_laws.proofs.Voting.{resets_look, give_ups_look, votes_look}
use Rattle.am_ballot_laws.proofs.coordinators_look.Goals as goal

pub returns-clause-resets : goal.returns-clause-resets
returns-clause-resets c = resets_look

pub returns-clause-given_up : goal.returns-clause-given_up
returns-clause-given_up c = give_ups_look

pub returns-clause-votes : goal.returns-clause-votes
returns-clause-votes c = votes_look
