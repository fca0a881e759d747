use Rattle.std.proofs.Common.{ℕ, ◌+◌, List, [], ◌∷◌, length, length-append, sym, ap, ◌∙◌, subst}
use Rattle.am_group.specs.declared.event.Act.{Act}
use Rattle.am_race_laws.specs.Callings.{IsHand, HasMade, Called}
use Rattle.am_race_laws.proofs.Making.{new_call_has_no_records, caller_of_new_call, caller_has_made_new_call, new_call_was_called}
use Rattle.am_calls.proofs.kernels.Kernels.make.Goals as goal

pub do_call-answer-requires-clause-fresh : goal.do_call-answer-requires-clause-fresh
do_call-answer-requires-clause-fresh g c =
    new_call_has_no_records g.N.Racing.plan c.caller.inside.number c.caller.inside.calls _ c.args.caller.now c.next_call-tag.result c.caller.view_is c.next_call-tag.ensures
    c.caller.invariant.1

pub do_call-answer-requires-clause-hand : goal.do_call-answer-requires-clause-hand
do_call-answer-requires-clause-hand g c =
    subst (λ (n : ℕ). IsHand g.N.Racing.wire g.N.Racing.plan n c.caller.inside.hand.share c.caller.inside.hand.chooser)
    (sym (caller_of_new_call g.N.Racing.plan c.caller.inside.number c.caller.inside.calls _ c.args.caller.now c.next_call-tag.result c.caller.view_is
    c.next_call-tag.ensures c.caller.invariant.1))
    c.caller.invariant.0

pub invariant_of-caller : goal.invariant_of-caller
invariant_of-caller g c = (
  subst (λ (n : ℕ). IsHand g.N.Racing.wire g.N.Racing.plan n c.do_call-answer.new.hand.share c.do_call-answer.new.hand.chooser)
      (caller_of_new_call g.N.Racing.plan c.caller.inside.number c.caller.inside.calls _ c.args.caller.now c.next_call-tag.result c.caller.view_is
      c.next_call-tag.ensures c.caller.invariant.1)
      c.do_call-answer.ensures.hand,
  subst (λ (l : List Act). HasMade g.N.Racing.plan c.caller.inside.number l c.do_call-answer.new.hand.share.seen) (sym c.push.ensures)
      (caller_has_made_new_call g.N.Racing.plan c.caller.inside.number c.caller.inside.calls _ c.args.caller.now c.next_call-tag.result c.caller.view_is c.next_call-tag.ensures
      c.caller.invariant.1 c.args.node c.args.act.now _ c.do_call-answer.result c.do_call-answer.ensures.made),
  ap (λ (n : ℕ). n + 1) c.caller.invariant.2 ∙ sym (ap length c.push.ensures ∙ length-append c.caller.inside.calls (c.args.act.now ∷ [])),
)

pub returns : goal.returns
returns g c =
    subst (λ (l : List Act). Called g.N.Racing.plan c.args.node c.args.act.now c.args.caller.now
    (record { number = c.caller.inside.number; calls = l; seen = c.do_call-answer.new.hand.share.seen }) c.do_call-answer.result) (sym c.push.ensures)
    (new_call_was_called g.N.Racing.plan c.caller.inside.number c.caller.inside.calls _ c.args.caller.now c.next_call-tag.result c.caller.view_is
    c.next_call-tag.ensures c.caller.invariant.1 c.args.node c.args.act.now _ c.do_call-answer.result c.do_call-answer.ensures.made)
