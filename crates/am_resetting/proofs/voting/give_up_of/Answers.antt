use Rattle.am_resetting.proofs.VotingWords.{◌==◌, Some, sym, ap, ◌∙◌, ballot_of, node_of, Node, give_up_in_open_ballot, untrimmed_node_has_equal_end, equal_reply_of_plan, reply_without_letters}
use Rattle.am_base.specs.declared.outcome.Outcome.TheVariants as said
use Rattle.am_resetting.proofs.VoteRows.{give_up_of_over_ballot, give_up_of_own_name, give_up_of_other_name}
use Rattle.am_resetting.proofs.voting.give_up_of.Goals as goal

pub returns-then-is_over : goal.returns-then-is_over
returns-then-is_over c =
    let b = ballot_of c.args.ballot in
    let m : Node = record (node_of c.args.parts.now) { ballot = Some b } in
    let new = node_of c.put_back.new.parts in
    equal_reply_of_plan (give_up_in_open_ballot m c.args.name (Some b)) c.quiet.result (reply_without_letters said.NotCoordinator) new c.quiet.ensures
    (give_up_of_over_ballot m new c.args.name b (sym c.is_over.ensures ∙ c.if-is_over.true) (untrimmed_node_has_equal_end m new c.requires.order.kept c.put_back.ensures))

pub returns-then-eq : goal.returns-then-eq
returns-then-eq c =
    let b = ballot_of c.args.ballot in
    let m : Node = record (node_of c.args.parts.now) { ballot = Some b } in
    let new = node_of c.put_back-then-eq.new.parts in
    equal_reply_of_plan (give_up_in_open_ballot m c.args.name (Some b)) c.quiet-then-eq.result (reply_without_letters said.Unfit) new c.quiet-then-eq.ensures
    (give_up_of_own_name m new c.args.name b (sym c.is_over.ensures ∙ c.if-is_over.false) (ap (λ who. c.args.name == who) (sym c.name.ensures.value) ∙ sym c.eq.ensures
    ∙ c.if-eq.true) (untrimmed_node_has_equal_end m new c.requires.order.kept c.put_back-then-eq.ensures))

pub returns : goal.returns
returns c =
    let b = ballot_of c.args.ballot in
    let m = node_of c.args.parts.now in
    give_up_of_other_name m (node_of c.give_up.new.parts) c.args.name b (Some b) c.give_up.result (sym c.is_over.ensures
    ∙ c.if-is_over.false) (ap (λ who. c.args.name == who) (sym c.name.ensures.value) ∙ sym c.eq.ensures ∙ c.if-eq.false) c.give_up.ensures
