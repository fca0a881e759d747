use Rattle.am_ballots.proofs.Words.{ℕ, Bool, not, ◌∙◌, ap, arith, names_that_pass, ballot_of}
use Rattle.am_ballots.proofs.Votes.{names_passing_are_those}
use Rattle.am_ballots.proofs.ballot.Ballot.left_in.Goals as goal

pub returns : goal.returns
returns c =
    let test : ℕ → Bool = (λ name. not ((ballot_of c.args.self.now).given_up name)) in
    c.of_lives.ensures
    ∙ names_passing_are_those test c.each_life-lives.result c.loop-place.left c.loop-place.invariant.long (λ k h. c.loop-place.invariant.filled k (omega arith))
    ∙ ap (names_that_pass test) (c.each_life-lives.ensures.value)
