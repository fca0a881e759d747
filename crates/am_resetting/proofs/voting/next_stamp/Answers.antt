use Rattle.am_resetting.proofs.VotingWords.{◌∙◌, ◌+◌, stamp_is_less, node_of}
use Rattle.am_resetting.proofs.Ballots.{next_stamp_above_promise}
use Rattle.am_resetting.proofs.voting.next_stamp.Goals as goal

pub returns-clause-higher : goal.returns-clause-higher
returns-clause-higher c = (λ k. stamp_is_less (record { round = (c.promise-promise.ensures.value k).round + 1; by = c.name.ensures.value k })
    c.args.parts.now.core.promise) ∙ next_stamp_above_promise (node_of c.args.parts.now)
