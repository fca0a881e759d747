use Rattle.am_ballot_laws.proofs.Fetching.{ballots_fetch, pieces_are_looked_at}
use Rattle.am_ballot_laws.proofs.coordinators_fetch.Goals as goal

pub returns-clause-ticks : goal.returns-clause-ticks
returns-clause-ticks c = ballots_fetch

pub returns-clause-pieces : goal.returns-clause-pieces
returns-clause-pieces c = pieces_are_looked_at
