use Rattle.std.proofs.Common.{ℕ, ◌+◌, List, [], ◌∷◌, length, length-append, refl, sym, ap, ◌∙◌, subst}
use Rattle.am_group.specs.declared.event.Act.{Act}
use Rattle.am_group.specs.declared.event.Act.TheVariants as act
use Rattle.am_race_laws.specs.Callings.{HasMade, Called}
use Rattle.am_race_laws.specs.declared.answer.CallAnswer.TheVariants as answer
use Rattle.am_race_laws.proofs.Making.{call_without_memory_is_made, caller_has_made_new_call, new_call_was_called}
use Rattle.am_calls.proofs.kernels.Kernels.send.Goals as goal

pub invariant_of-caller : goal.invariant_of-caller
invariant_of-caller g c = (
  c.caller.invariant.0,
  subst (λ (l : List Act). HasMade g.N.Racing.plan c.caller.inside.number l c.caller.inside.hand.share.seen) (sym c.push_send.ensures)
      (caller_has_made_new_call g.N.Racing.plan c.caller.inside.number c.caller.inside.calls _ c.args.caller.now
      (record { caller = c.args.caller.now.number; call = length c.args.caller.now.calls }) c.caller.view_is refl
      c.caller.invariant.1 c.args.node (act.Send c.args.body) _ answer.NoMemory
      (call_without_memory_is_made g.N.Racing.plan c.args.node _ (act.Send c.args.body) _)),
  ap (λ (n : ℕ). n + 1) c.caller.invariant.2 ∙ sym (ap length c.push_send.ensures ∙ length-append c.caller.inside.calls (act.Send c.args.body ∷ [])),
)

pub returns-in-Err : goal.returns-in-Err
returns-in-Err g c =
    subst (λ (l : List Act). Called g.N.Racing.plan c.args.node (act.Send c.args.body) c.args.caller.now
    (record { number = c.caller.inside.number; calls = l; seen = c.caller.inside.hand.share.seen }) answer.NoMemory) (sym c.push_send.ensures)
    (new_call_was_called g.N.Racing.plan c.caller.inside.number c.caller.inside.calls _ c.args.caller.now
    (record { caller = c.args.caller.now.number; call = length c.args.caller.now.calls }) c.caller.view_is refl
    c.caller.invariant.1 c.args.node (act.Send c.args.body) _ answer.NoMemory (call_without_memory_is_made g.N.Racing.plan c.args.node _ (act.Send c.args.body) _))
