use Rattle.std.proofs.Common.{sym, ◌∙◌}
use Rattle.am_race_laws.proofs.Making.{receive_begins_without_own_act, act_refused_call_is_made, act_answered_call_is_made, call_begins_by_own_act, continued_call_is_made}
use Rattle.am_calls.proofs.kernels.Kernels.do_call.Goals as goal

pub go_on-requires-clause-begun : goal.go_on-requires-clause-begun
go_on-requires-clause-begun g c = receive_begins_without_own_act c.args.call.now.act.now _ (sym c.is_take.ensures ∙ c.if-is_take.true) c.requires.fresh

pub go_on-requires-in-None-clause-begun : goal.go_on-requires-in-None-clause-begun
go_on-requires-in-None-clause-begun g c =
    call_begins_by_own_act c.args.call.now.node c.args.call.now.tag c.args.call.now.act.now c.in-Ok.came _ _ c.requires.call (sym c.is_take.ensures
    ∙ c.if-is_take.false) c.requires.fresh c.in-Ok.ensures.ok (sym c.own_answer.ensures ∙ c.in-None.is)

pub returns-in-Err-clause-made : goal.returns-in-Err-clause-made
returns-in-Err-clause-made g c = act_refused_call_is_made g.N.Racing.plan c.args.call.now.node c.args.call.now.tag c.args.call.now.act.now _ _ c.in-Err.answer c.in-Err.ensures.err

pub returns-in-Some-clause-made : goal.returns-in-Some-clause-made
returns-in-Some-clause-made g c =
    act_answered_call_is_made g.N.Racing.plan c.args.call.now.node c.args.call.now.tag c.args.call.now.act.now c.in-Ok.came _ _ c.in-Some.answer c.requires.call (sym c.is_take.ensures
    ∙ c.if-is_take.false) c.in-Ok.ensures.ok (sym c.own_answer.ensures ∙ c.in-Some.is)

pub returns-in-None-clause-made : goal.returns-in-None-clause-made
returns-in-None-clause-made g c =
    continued_call_is_made g.N.Racing.plan c.args.call.now.node c.args.call.now.tag c.args.call.now.act.now c.in-Ok.came _ _ _ c.go_on-in-None.result c.requires.fresh c.in-Ok.ensures.ok
    c.go_on-in-None.ensures.made
