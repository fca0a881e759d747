use Rattle.am_ballots.proofs.Words.{◌≡◌, ◌-◌, map, range_with_len, best_vote_from, best_vote, votes_of}
use Rattle.am_ballots.proofs.Votes.{name_of_vote_byte}
use Rattle.am_ballots.proofs.ballot.Ballot.best.Given as goal

abbrev pub invariant-loop-rank : goal.invariant-loop-rank
invariant-loop-rank l = best_vote_from (votes_of l.self.votes) l.best (map name_of_vote_byte (range_with_len l.rank (256 - l.rank)))
    ≡ best_vote (votes_of l.self.votes) l.fn.coordinator l.own
