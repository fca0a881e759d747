use Rattle.am_ballots.proofs.Words.{◌≡◌, ℕ, ◌∙◌, ap, sym, length, arith, names_of, least_of_names, least_of_after_last_place, taken_number_of_voter, ballot_of}
use Rattle.am_ballots.proofs.Votes.{least_of_votes_le_own}
use Rattle.am_ballots.proofs.ballot.Ballot.least_taken.Goals as goal

pub returns-clause-own : goal.returns-clause-own
returns-clause-own c =
    let f : ℕ → ℕ = taken_number_of_voter c.args.coordinator c.args.taken (ballot_of c.args.self.now) in
    let set = c.each_life-lives.ensures.set in
    let same = ap length c.each_life-lives.ensures.value in
    let e : c.loop-place.least ≡ least_of_names f (names_of c.args.names) =
    sym (least_of_after_last_place f c.loop-place.least c.each_life-lives.result c.loop-place.place (omega arith)) ∙ c.loop-place.invariant
    ∙ ap (λ names. least_of_names f (names_of names)) c.each_life-lives.ensures.value in
    least_of_votes_le_own c.args.coordinator c.args.taken (ballot_of c.args.self.now) c.args.names c.loop-place.least set e
