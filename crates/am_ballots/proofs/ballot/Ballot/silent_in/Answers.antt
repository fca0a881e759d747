use Rattle.am_ballots.proofs.Words.{ℕ, Bool, not, ◌∙◌, ap, arith, names_that_pass, has_voted, ballot_of}
use Rattle.am_ballots.proofs.Votes.{names_passing_are_those}
use Rattle.am_ballots.proofs.ballot.Ballot.silent_in.Goals as goal

pub returns : goal.returns
returns c =
    let test : ℕ → Bool = (λ name. not (has_voted c.args.coordinator (ballot_of c.args.self.now) name)) in
    c.of_lives.ensures
    ∙ names_passing_are_those test c.each_life-lives.result c.loop-place.silent c.loop-place.invariant.long (λ k h. c.loop-place.invariant.filled k (omega arith))
    ∙ ap (names_that_pass test) (c.each_life-lives.ensures.value)
