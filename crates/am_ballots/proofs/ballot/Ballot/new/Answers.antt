use Rattle.am_ballots.proofs.Words.{ℕ, replicate, Option, None, Bool, false, ap, ◌∙◌, Vote, new_ballot, marks_of}
use Rattle.am_model.specs.Node as node
use Rattle.am_ballots.proofs.Votes.{lookup_in_equal_votes}
use Rattle.am_ballots.proofs.ballot.Ballot.new.Goals as goal

pub returns : goal.returns
returns c =
    let new : node.Ballot = new_ballot c.args.stamp c.args.least c.args.resilience in
    ap (λ (votes : ℕ → Option Vote). record new { votes = votes; given_up = marks_of (replicate 256 false) }) (lookup_in_equal_votes 256 None)
    ∙ ap (λ (marks : ℕ → Bool). record new { given_up = marks }) (lookup_in_equal_votes 256 false)
