use Rattle.am_resetting.proofs.DecidingWords.{ap, sym, option_map, Option, KeptBallot, ballot_of, node_of}
use Rattle.am_resetting.proofs.Promises.{taken_out_ballot_is_own}
use Rattle.am_resetting.proofs.promising.take_ballot.Goals as goal

pub returns-clause-own : goal.returns-clause-own
returns-clause-own c =
    let old = node_of c.args.parts.now in
    taken_out_ballot_is_own old (record old { ballot = option_map ballot_of c.take.new.self }) (option_map ballot_of c.take.result) c.args.parts.now.keeps
    (ap (option_map ballot_of) (sym c.take.ensures.value)) (ap (λ (o : Option KeptBallot). record old { ballot = option_map ballot_of o }) c.take.ensures.after)
