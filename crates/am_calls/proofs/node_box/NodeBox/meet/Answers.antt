use Rattle.std.proofs.Common.{rules, sym, ◌∙◌, subst}
use Rattle.am_race_laws.specs.Boxes.{IsRefused}
use Rattle.am_race_laws.specs.declared.answer.CallAnswer.{CallAnswer}
use Rattle.am_race_laws.proofs.Boxing.{box_sees_more_records, closed_box_gives_its_refusal}
use Rattle.am_calls.proofs.node_box.NodeBox.meet.Goals as goal

pub invariant_of-self : goal.invariant_of-self
invariant_of-self g c = box_sees_more_records _ _ _ _ _ _ _ _ _ _ c.self.invariant c.meet.ensures.pass c.meet.ensures.lawful c.meet.ensures.few

pub returns-in-Some-clause-err : goal.returns-in-Some-clause-err
returns-in-Some-clause-err g c =
    let after = box_sees_more_records _ _ _ _ _ _ _ _ _ _ c.self.invariant c.meet.ensures.pass c.meet.ensures.lawful c.meet.ensures.few in
    subst (λ (a : CallAnswer). IsRefused c.meet.new.pass.seen c.self.inside.name a) (sym c.answer_of.ensures) (closed_box_gives_its_refusal _ _ _ _ _ _ _ _ _ _ after c.in-Some.is)

pub invariant_of-self-then-self : goal.invariant_of-self-then-self
invariant_of-self-then-self g c = box_sees_more_records _ _ _ _ _ _ _ _ _ _ c.self.invariant c.meet.ensures.pass c.meet.ensures.lawful c.meet.ensures.few

pub returns-then-self-clause-err : goal.returns-then-self-clause-err
returns-then-self-clause-err g c =
    let after = box_sees_more_records _ _ _ _ _ _ _ _ _ _ c.self.invariant c.meet.ensures.pass c.meet.ensures.lawful c.meet.ensures.few in
    sym (after.stopped_ (search rules)) ∙ search rules

pub invariant_of-self-2 : goal.invariant_of-self-2
invariant_of-self-2 g c = box_sees_more_records _ _ _ _ _ _ _ _ _ _ c.self.invariant c.meet.ensures.pass c.meet.ensures.lawful c.meet.ensures.few

pub returns-clause-runs : goal.returns-clause-runs
returns-clause-runs g c =
    let after = box_sees_more_records _ _ _ _ _ _ _ _ _ _ c.self.invariant c.meet.ensures.pass c.meet.ensures.lawful c.meet.ensures.few in
    sym (after.stopped_ (search rules)) ∙ search rules
