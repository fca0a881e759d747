use Rattle.std.proofs.Common.{◌≡◌, true, sym, ap, ◌∙◌, subst}
use Rattle.am_group.specs.declared.event.Act.{Act}
use Rattle.am_group.specs.declared.event.By.{By}
use Rattle.am_race_laws.specs.Going.{by_of, is_asked, end_part, OwnActIsDone}
use Rattle.am_race_laws.specs.Boxes.{node_by}
use Rattle.am_race_laws.specs.Tags.{is_turn_part, of_call}
use Rattle.am_race_laws.specs.Turns.{is_due}
use Rattle.am_race_laws.proofs.Hands.{call_end_is_asked_act, call_end_is_no_turn}
use Rattle.am_race_laws.proofs.Looking.{asked_end_has_ended_call}
use Rattle.am_calls.proofs.node_box.NodeBox.end.Goals as goal

pub ask-requires-clause-asks : goal.ask-requires-clause-asks
ask-requires-clause-asks g c = ap is_asked c.end_act-last.ensures ∙ call_end_is_asked_act c.args.visit.now.act.now c.args.came.now

pub ask-requires-clause-no_turn : goal.ask-requires-clause-no_turn
ask-requires-clause-no_turn g c =
    ap (λ (b : By). is_turn_part b.part) c.with.ensures ∙ ap is_turn_part c.end_part-part.ensures ∙ call_end_is_no_turn c.args.visit.now.act.now

pub ask-requires-clause-due : goal.ask-requires-clause-due
ask-requires-clause-due g c = λ end.
    subst (λ (b : By). is_due g.N.Racing.plan (node_by g.N.Racing.plan c.args.self.now.seen c.args.self.now.name)
    (of_call b.caller b.call c.args.self.now.seen) ≡ true) (sym c.with.ensures) c.requires.due

pub returns-in-Ok-clause-ok : goal.returns-in-Ok-clause-ok
returns-in-Ok-clause-ok g c =
    asked_end_has_ended_call g.N.Racing.plan c.args.self.now.name c.args.visit.now.tag c.args.visit.now.act.now c.args.came.now c.in-Ok.came _ _
    (subst (λ (x : Act). OwnActIsDone g.N.Racing.plan c.args.self.now.name x
    (by_of c.args.visit.now.tag (end_part c.args.visit.now.act.now)) c.in-Ok.came c.args.hand.now.share.seen c.ask.new.hand.share.seen) c.end_act-last.ensures
    (subst (λ (b : By). OwnActIsDone g.N.Racing.plan c.args.self.now.name c.end_act-last.result b c.in-Ok.came c.args.hand.now.share.seen c.ask.new.hand.share.seen)
    (c.with.ensures ∙ ap (by_of c.args.visit.now.tag) c.end_part-part.ensures) c.in-Ok.ensures.ok))
