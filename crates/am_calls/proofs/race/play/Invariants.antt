use Rattle.am_race_laws.proofs.Playing.{ThreadPlaysItsCalls}
use Rattle.am_calls.proofs.race.play.Given as goal

abbrev pub invariant-loop-act : goal.invariant-loop-act
invariant-loop-act g l = ThreadPlaysItsCalls g.N.Racing.plan l.thread l.initial.caller.number l.act-index l.caller
