use Rattle.am_resetting.proofs.VotingWords.{Some, None, subst, ballot_of, node_of, Node, give_up_in_open_ballot, give_up_row, Replies, reply_quiet_with_outcome, no_ballot_was_taken_out, one_ballot_was_taken_out, reply_without_letters}
use Rattle.am_resetting.proofs.VotingWords.{untrimmed_node_has_equal_end, equal_reply_of_plan}
use Rattle.am_base.specs.declared.outcome.Outcome.TheVariants as said
use Rattle.am_resetting.proofs.VoteRows.{give_up_row_by_ballot}
use Rattle.am_resetting.proofs.voting.on_give_up.Goals as goal

pub returns-in-None : goal.returns-in-None
returns-in-None c =
    let old = node_of c.args.parts.now in
    let new = node_of c.take_ballot.new.parts in
    let taken = no_ballot_was_taken_out old new c.take_ballot.ensures.ballot c.take_ballot.ensures.rest c.in-None.is in
    equal_reply_of_plan (give_up_row old c.args.name) c.quiet.result (reply_without_letters said.NotCoordinator) new c.quiet.ensures
    (give_up_row_by_ballot old new c.args.name (reply_without_letters said.NotCoordinator) None taken.0
    (reply_quiet_with_outcome old new said.NotCoordinator (λ k. untrimmed_node_has_equal_end old new c.accept_front-front.ensures.order.kept taken.1)))

pub returns-in-Some : goal.returns-in-Some
returns-in-Some c =
    let old = node_of c.args.parts.now in
    let new = node_of c.give_up_of.new.parts in
    let b = ballot_of c.in-Some.ballot in
    let taken = one_ballot_was_taken_out old (node_of c.take_ballot.new.parts) c.take_ballot.ensures.ballot c.take_ballot.ensures.rest c.in-Some.is in
    give_up_row_by_ballot old new c.args.name c.give_up_of.result (Some b) taken.0
    (subst (λ (x : Node). Replies (give_up_in_open_ballot x c.args.name (Some b)) c.give_up_of.result new) taken.1
    c.give_up_of.ensures)
