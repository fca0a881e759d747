use Rattle.std.proofs.Common.{ℕ, List, IfOk, IfErr, sym, ◌∙◌, subst}
use Rattle.am_group.specs.declared.event.Record.{Record}
use Rattle.am_race_laws.specs.Boxes.{node_by}
use Rattle.am_race_laws.specs.Tags.{of_call, own_of}
use Rattle.am_race_laws.specs.Going.{HasLooked, WasRefused, EndTells}
use Rattle.am_race_laws.proofs.Hands.{ready_call_is_due}
use Rattle.am_race_laws.proofs.Looking.{own_outcome_stays_seen, box_call_due_if_used, look_without_turn_ends_call, look_ends_ready_call, look_with_turn_spends_it, refusal_since_earlier_records}
use Rattle.am_calls.proofs.node_box.NodeBox.look.Goals as goal

pub spend-requires-clause-unready : goal.spend-requires-clause-unready
spend-requires-clause-unready g c =
    sym (c.is_ready.ensures.ready (own_of (of_call c.args.visit.now.tag.caller c.args.visit.now.tag.call c.meet_caller.new.self.seen))
    (own_outcome_stays_seen c.args.visit.now.tag c.args.visit.now.act.now c.args.came.now c.args.hand.now.share.seen c.meet_caller.new.hand.share.seen c.meet_caller.new.self.seen
    c.meet_caller.ensures.goes c.in_ok-meet_caller.ensures.ok.same c.requires.may.came_))
    ∙ c.if-is_ready.false

pub end-requires-clause-due : goal.end-requires-clause-due
end-requires-clause-due g c =
    box_call_due_if_used g.N.Racing.plan c.args.visit.now.tag (node_by g.N.Racing.plan c.meet_caller.new.self.seen c.meet_caller.new.self.name)
    c.args.hand.now.share.seen c.meet_caller.new.hand.share.seen c.meet_caller.new.self.seen c.meet_caller.ensures.goes
    c.in_ok-meet_caller.ensures.ok.same (c.requires.may.used c.if-not-has_turn.true)

pub end-requires-then-is_ready-clause-due : goal.end-requires-then-is_ready-clause-due
end-requires-then-is_ready-clause-due g c =
    ready_call_is_due g.N.Racing.plan (node_by g.N.Racing.plan c.meet_caller.new.self.seen c.meet_caller.new.self.name)
    (of_call c.args.visit.now.tag.caller c.args.visit.now.tag.call c.meet_caller.new.self.seen)
    (sym (c.is_ready.ensures.ready (own_of (of_call c.args.visit.now.tag.caller c.args.visit.now.tag.call c.meet_caller.new.self.seen))
    (own_outcome_stays_seen c.args.visit.now.tag c.args.visit.now.act.now c.args.came.now c.args.hand.now.share.seen c.meet_caller.new.hand.share.seen c.meet_caller.new.self.seen
    c.meet_caller.ensures.goes c.in_ok-meet_caller.ensures.ok.same c.requires.may.came_))
    ∙ c.if-is_ready.true)

pub returns-then-not-has_turn-clause-ok : goal.returns-then-not-has_turn-clause-ok
returns-then-not-has_turn-clause-ok g c =
    subst (λ (n : ℕ). IfOk c.end.result (HasLooked n c.args.visit.now.tag c.args.visit.now.act.now c.args.came.now c.args.has_turn c.args.hand.now.share.seen
    c.end.new.hand.share.seen)) c.meet_caller.ensures.name
    (look_without_turn_ends_call g.N.Racing.plan c.meet_caller.new.self.name c.args.visit.now.tag c.args.visit.now.act.now c.args.came.now c.args.has_turn c.args.hand.now.share.seen
    c.meet_caller.new.hand.share.seen c.end.new.hand.share.seen
    c.end.result c.if-not-has_turn.true c.meet_caller.ensures.goes c.end.ensures.ok)

pub returns-then-not-has_turn-clause-err : goal.returns-then-not-has_turn-clause-err
returns-then-not-has_turn-clause-err g c =
    subst (λ (n : ℕ). IfErr c.end.result (WasRefused n c.args.visit.now.tag.caller c.args.hand.now.share.seen c.end.new.hand.share.seen))
    c.meet_caller.ensures.name
    (refusal_since_earlier_records c.meet_caller.new.self.name c.args.visit.now.tag.caller c.args.hand.now.share.seen c.meet_caller.new.hand.share.seen
    c.end.new.hand.share.seen c.end.result c.meet_caller.ensures.goes c.end.ensures.err)

pub returns-then-is_ready-clause-ok : goal.returns-then-is_ready-clause-ok
returns-then-is_ready-clause-ok g c =
    subst (λ (n : ℕ). IfOk c.end-then-is_ready.result (HasLooked n c.args.visit.now.tag c.args.visit.now.act.now c.args.came.now c.args.has_turn
    c.args.hand.now.share.seen c.end-then-is_ready.new.hand.share.seen)) c.meet_caller.ensures.name
    (look_ends_ready_call g.N.Racing.plan c.meet_caller.new.self.name c.args.visit.now.tag c.args.visit.now.act.now c.args.came.now c.args.has_turn c.args.hand.now.share.seen
    c.meet_caller.new.hand.share.seen c.end-then-is_ready.new.hand.share.seen
    c.end-then-is_ready.result
    (subst (λ (rs : List Record). EndTells (node_by g.N.Racing.plan rs c.meet_caller.new.self.name) c.args.visit.now.act.now c.args.came.now)
    (sym c.in_ok-meet_caller.ensures.ok.same)
    (c.is_ready.ensures.told (own_of (of_call c.args.visit.now.tag.caller c.args.visit.now.tag.call c.meet_caller.new.self.seen))
    (own_outcome_stays_seen c.args.visit.now.tag c.args.visit.now.act.now c.args.came.now c.args.hand.now.share.seen c.meet_caller.new.hand.share.seen c.meet_caller.new.self.seen
    c.meet_caller.ensures.goes c.in_ok-meet_caller.ensures.ok.same c.requires.may.came_)
    c.if-is_ready.true))
    c.meet_caller.ensures.goes c.end-then-is_ready.ensures.ok)

pub returns-then-is_ready-clause-err : goal.returns-then-is_ready-clause-err
returns-then-is_ready-clause-err g c =
    subst (λ (n : ℕ). IfErr c.end-then-is_ready.result (WasRefused n c.args.visit.now.tag.caller c.args.hand.now.share.seen
    c.end-then-is_ready.new.hand.share.seen)) c.meet_caller.ensures.name
    (refusal_since_earlier_records c.meet_caller.new.self.name c.args.visit.now.tag.caller c.args.hand.now.share.seen c.meet_caller.new.hand.share.seen
    c.end-then-is_ready.new.hand.share.seen c.end-then-is_ready.result c.meet_caller.ensures.goes c.end-then-is_ready.ensures.err)

pub returns-clause-ok : goal.returns-clause-ok
returns-clause-ok g c =
    subst (λ (n : ℕ). IfOk c.spend.result (HasLooked n c.args.visit.now.tag c.args.visit.now.act.now c.args.came.now c.args.has_turn c.args.hand.now.share.seen
    c.spend.new.hand.share.seen)) c.meet_caller.ensures.name
    (look_with_turn_spends_it c.meet_caller.new.self.name c.args.visit.now.tag c.args.visit.now.act.now c.args.came.now c.args.has_turn c.args.hand.now.share.seen
    c.meet_caller.new.hand.share.seen c.spend.new.hand.share.seen
    c.spend.result c.if-not-has_turn.false c.meet_caller.ensures.goes c.spend.ensures.ok)

pub returns-clause-err : goal.returns-clause-err
returns-clause-err g c =
    subst (λ (n : ℕ). IfErr c.spend.result (WasRefused n c.args.visit.now.tag.caller c.args.hand.now.share.seen c.spend.new.hand.share.seen))
    c.meet_caller.ensures.name
    (refusal_since_earlier_records c.meet_caller.new.self.name c.args.visit.now.tag.caller c.args.hand.now.share.seen c.meet_caller.new.hand.share.seen
    c.spend.new.hand.share.seen c.spend.result c.meet_caller.ensures.goes c.spend.ensures.err)
