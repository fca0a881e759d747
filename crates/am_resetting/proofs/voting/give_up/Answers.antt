use Rattle.am_resetting.proofs.VotingWords.{sym, subst, node_of, ballot_of, untrimmed_node_ends_itself, Ballot, ballot_without_voter, give_up_in_ballot, decide, IsTakenOut, VerdictComesTo, reply_fetches_and_asks_nobody, reply_asking_names, equal_reply_of_plan, true}
use Rattle.am_resetting.proofs.Ballots.{taken_out_ballot_without_voter}
use Rattle.am_resetting.proofs.voting.give_up.Goals as goal

pub decide-outcome-requires : goal.decide-outcome-requires
decide-outcome-requires c =
    let old = node_of c.args.parts.now in
    subst (λ (b : Ballot). IsTakenOut old b) (sym c.give_up.ensures) (taken_out_ballot_without_voter old (ballot_of c.args.ballot) c.args.name c.requires.other c.requires.ballot)

pub returns : goal.returns
unfolding give_up_in_ballot
returns c =
    let old = node_of c.args.parts.now in
    let new = ballot_without_voter (ballot_of c.args.ballot) c.args.name in
    let comes : VerdictComesTo (decide old new) c.decide-outcome.result (node_of c.decide-outcome.new.parts) =
    subst (λ (b : Ballot). VerdictComesTo (decide old b) c.decide-outcome.result (node_of c.decide-outcome.new.parts)) c.give_up.ensures
    (c.decide-outcome.ensures.comes old (untrimmed_node_ends_itself old c.requires.ballot.order.kept)) in
    equal_reply_of_plan (give_up_in_ballot old (ballot_of c.args.ballot) c.args.name) c.asking.result (reply_asking_names c.decide-outcome.result c.empty.result true) (node_of c.decide-outcome.new.parts) c.asking.ensures
    (reply_fetches_and_asks_nobody (decide old new) (node_of c.decide-outcome.new.parts) c.decide-outcome.result c.empty.result comes c.decide-outcome.ensures.told c.empty.ensures)
