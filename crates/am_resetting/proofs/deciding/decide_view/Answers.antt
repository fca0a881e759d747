use Rattle.am_resetting.proofs.DecidingWords.{sym, ap, ◌∙◌, node_of, ballot_of, put_back}
use Rattle.am_resetting.proofs.Verdicts.{decide_without_room_comes, node_with_equal_ballot_end, ended_ballot_is_own}
use Rattle.am_resetting.proofs.deciding.decide_view.Goals as goal

pub returns-then-is_crowded-clause-comes : goal.returns-then-is_crowded-clause-comes
returns-then-is_crowded-clause-comes c =
    let old = node_of c.args.parts.now in
    let b = ballot_of c.args.ballot.now in
    decide_without_room_comes old (put_back old (ballot_of c.close.new.ballot)) b c.args.names c.close.result (sym c.is_crowded.ensures ∙ c.if-is_crowded.true)
    (c.close.ensures.answer ∙ c.crowded_answer.ensures)
    (node_with_equal_ballot_end old (put_back old (ballot_of c.close.new.ballot)) b c.close.ensures.answer (ap (put_back old) c.close.ensures.ballot))

pub push_view-requires-clause-room : goal.push_view-requires-clause-room
push_view-requires-clause-room c = sym c.is_crowded.ensures ∙ c.if-is_crowded.false

pub returns-then-is_crowded-clause-own : goal.returns-then-is_crowded-clause-own
returns-then-is_crowded-clause-own c =
    ended_ballot_is_own (node_of c.args.parts.now) (ballot_of c.args.ballot.now) c.close.ensures (c.requires.ballot.own).resilience
