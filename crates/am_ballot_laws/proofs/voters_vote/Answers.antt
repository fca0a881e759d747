use Rattle.am_ballot_laws.proofs.Voting.{coordinators_invite, invites_are_voted, voters_are_heard}
use Rattle.am_ballot_laws.proofs.voters_vote.Goals as goal

pub returns-clause-ticks : goal.returns-clause-ticks
returns-clause-ticks c = coordinators_invite

pub returns-clause-invites : goal.returns-clause-invites
returns-clause-invites c = invites_are_voted

pub returns-clause-heard : goal.returns-clause-heard
returns-clause-heard c = voters_are_heard
