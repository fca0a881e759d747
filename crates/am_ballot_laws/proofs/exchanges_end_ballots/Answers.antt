use Rattle.am_ballot_laws.proofs.Exchanged.{exchanges_follow, exchanges_reach_whole}
use Rattle.am_ballot_laws.proofs.Ending.{learned_ballots_decide, learned_ballots_end}
use Rattle.am_ballot_laws.proofs.exchanges_end_ballots.Goals as goal

pub returns-clause-once : goal.returns-clause-once
returns-clause-once c = exchanges_follow

pub returns-clause-all : goal.returns-clause-all
returns-clause-all c = exchanges_reach_whole

pub returns-clause-ends : goal.returns-clause-ends
returns-clause-ends c = learned_ballots_end

pub returns-clause-decides : goal.returns-clause-decides
returns-clause-decides c = learned_ballots_decide
