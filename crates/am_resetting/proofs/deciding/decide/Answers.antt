use Rattle.am_resetting.proofs.DecidingWords.{sym, subst, Node, node_of, ballot_of, decide, VerdictComesTo}
use Rattle.am_resetting.proofs.deciding.decide.Goals as goal

pub returns-clause-comes : goal.returns-clause-comes
returns-clause-comes c = λ all e. subst (λ (n : Node). VerdictComesTo (decide all (ballot_of c.args.ballot)) c.look-answer.result n)
    (sym c.put_back.ensures) (c.look-answer.ensures.comes all e)
