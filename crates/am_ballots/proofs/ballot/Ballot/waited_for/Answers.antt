use Rattle.am_ballots.proofs.Words.{ℕ, Bool, not, ◌∙◌, ap, has_voted, need_set_without_given_up, ballot_of}
use Rattle.am_ballots.proofs.Votes.{those_of_those}
use Rattle.am_ballots.proofs.ballot.Ballot.waited_for.Goals as goal

pub returns : goal.returns
returns c =
    let ballot = ballot_of c.args.self.now in
    let silent : ℕ → Bool = (λ name. not (has_voted c.args.coordinator ballot name)) in
    let left : ℕ → Bool = (λ name. not (ballot.given_up name)) in
    c.left_in.ensures ∙ ap (need_set_without_given_up ballot) c.silent_in.ensures ∙ those_of_those silent left c.args.needed
