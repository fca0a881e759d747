use Rattle.am_node_parts.proofs.Words.{ℕ, Bool, nat_lt, ◌∙◌, ap, arith, reports_of, names_that_pass}
use Rattle.am_ballots.proofs.Votes.{names_passing_are_those}
use Rattle.am_step_end.proofs.viewing.behind.Goals as goal

pub returns : goal.returns
returns c =
    let test : ℕ → Bool = (λ name. nat_lt (reports_of c.args.parts.now.fronts name).stored c.args.number) in
    c.of_lives.ensures
    ∙ names_passing_are_those test c.each_life-lives.result c.loop-place.behind c.loop-place.invariant.long (λ k h. c.loop-place.invariant.filled k (omega arith))
    ∙ ap (names_that_pass test) (c.each_life-lives.ensures.value ∙ c.others.ensures.value)
