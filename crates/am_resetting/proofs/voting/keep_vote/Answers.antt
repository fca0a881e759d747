use Rattle.am_resetting.proofs.VotingWords.{◌≡◌, sym, subst, node_of, ballot_of, untrimmed_node_ends_itself, Ballot, ballot_with_vote, newly_needed_names, keep_vote_in_ballot, decide, IsTakenOut, VerdictComesTo, true}
use Rattle.am_resetting.proofs.VotingWords.{reply_asks_names_and_fetches, reply_asking_names, equal_reply_of_plan}
use Rattle.am_resetting.proofs.Ballots.{taken_out_ballot_with_vote, minus_is_newly_needed}
use Rattle.am_resetting.proofs.voting.keep_vote.Goals as goal

pub decide-outcome-requires : goal.decide-outcome-requires
decide-outcome-requires c =
    let old = node_of c.args.parts.now in
    subst (λ (b : Ballot). IsTakenOut old b) (sym c.keep.ensures)
    (taken_out_ballot_with_vote old (ballot_of c.args.ballot) c.args.from c.args.vote.now c.requires.other c.requires.ballot)

pub returns : goal.returns
unfolding keep_vote_in_ballot
returns c =
    let old = node_of c.args.parts.now in
    let new = ballot_with_vote (ballot_of c.args.ballot) c.args.from c.args.vote.now in
    let invited : c.newly_needed-invited.result ≡ newly_needed_names old (ballot_of c.args.ballot) new =
    minus_is_newly_needed old (ballot_of c.args.ballot) new (ballot_of c.keep.new.self) c.name-who.result c.own_vote-own.result c.best.result c.best-2.result
    c.newly_needed-invited.result c.members-before.result c.members-needed.result c.keep.ensures c.name-who.ensures.value c.own_vote-own.ensures.value
    c.best.ensures c.best-2.ensures c.members-before.ensures c.members-needed.ensures c.newly_needed-invited.ensures in
    let comes : VerdictComesTo (decide old new) c.decide-outcome.result (node_of c.decide-outcome.new.parts) =
    subst (λ (b : Ballot). VerdictComesTo (decide old b) c.decide-outcome.result (node_of c.decide-outcome.new.parts)) c.keep.ensures
    (c.decide-outcome.ensures.comes old (untrimmed_node_ends_itself old c.requires.ballot.order.kept)) in
    equal_reply_of_plan (keep_vote_in_ballot old (ballot_of c.args.ballot) c.args.from c.args.vote.now) c.asking.result (reply_asking_names c.decide-outcome.result c.newly_needed-invited.result true) (node_of c.decide-outcome.new.parts) c.asking.ensures
    (reply_asks_names_and_fetches (decide old new) (node_of c.decide-outcome.new.parts) c.decide-outcome.result
    (newly_needed_names old (ballot_of c.args.ballot) new) c.newly_needed-invited.result comes c.decide-outcome.ensures.told invited)
