use Rattle.std.proofs.Common.{Option, sym, ◌∙◌, subst}
use Rattle.am_race_laws.specs.declared.call.Came.{Came}
use Rattle.am_race_laws.specs.Boxes.{node_by}
use Rattle.am_race_laws.specs.Going.{IsCame, EndTells}
use Rattle.am_race_laws.proofs.Hands.{receive_is_ready_by_node, call_is_ready_by_node, ready_receive_told_at_end, ready_call_told_at_end}
use Rattle.am_calls.proofs.node_box.NodeBox.is_ready.Goals as goal

pub returns-in-None-clause-ready : goal.returns-in-None-clause-ready
returns-in-None-clause-ready g c = λ own came.
    c.may_take.ensures
    ∙ receive_is_ready_by_node _ _ _ _ _ _ _ _ _ _ c.self.view_is c.self.invariant c.requires.open_ c.args.act.now own
    (subst (λ (o : Option Came). IsCame c.args.act.now o own) c.in-None.is came)

pub returns-in-None-clause-told : goal.returns-in-None-clause-told
returns-in-None-clause-told g c = λ own came ready.
    subst (λ (o : Option Came). EndTells (node_by g.N.Racing.plan c.args.self.now.seen c.args.self.now.name) c.args.act.now o) (sym c.in-None.is)
    (ready_receive_told_at_end _ _ _ _ _ _ _ _ _ _ c.self.view_is c.self.invariant c.requires.open_ c.args.act.now own
    (subst (λ (o : Option Came). IsCame c.args.act.now o own) c.in-None.is came) (sym c.may_take.ensures ∙ ready))

pub returns-in-Some-clause-ready : goal.returns-in-Some-clause-ready
returns-in-Some-clause-ready g c = λ own came.
    c.is_ready_after.ensures
    ∙ call_is_ready_by_node _ _ _ _ _ _ _ _ _ _ c.self.view_is c.self.invariant c.requires.open_ c.args.act.now c.in-Some.came own
    (subst (λ (o : Option Came). IsCame c.args.act.now o own) c.in-Some.is came)

pub returns-in-Some-clause-told : goal.returns-in-Some-clause-told
returns-in-Some-clause-told g c = λ own came ready.
    subst (λ (o : Option Came). EndTells (node_by g.N.Racing.plan c.args.self.now.seen c.args.self.now.name) c.args.act.now o) (sym c.in-Some.is)
    (ready_call_told_at_end _ _ _ _ _ _ _ _ _ _ c.self.view_is c.self.invariant c.requires.open_ c.args.act.now c.in-Some.came (sym c.is_ready_after.ensures ∙ ready))
