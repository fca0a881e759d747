use Rattle.am_race_laws.specs.Callings.{IsHand}
use Rattle.am_race_laws.specs.Going.{request_in_call}
use Rattle.am_race_laws.proofs.Making.{CallHasTurned}
use Rattle.am_calls.proofs.kernels.Kernels.go_on.Given as goal

abbrev pub invariant-loop-spent : goal.invariant-loop-spent
invariant-loop-spent g l =
    IsHand g.N.Racing.wire g.N.Racing.plan l.call.tag.caller l.hand.share l.hand.chooser
    × CallHasTurned g.N.Racing.plan l.call.node l.call.tag (request_in_call l.call.act.now l.came) l.initial.hand.share.seen l.hand.share.seen l.spent l.late
