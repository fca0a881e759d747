use Rattle.std.proofs.Common.{ap, length, sym, ◌≤◌, subst}
use Rattle.std.specs.Prelude.{ℕ}
use Rattle.am_model.specs.Step.{row, step}
use Rattle.am_model.proofs.LettersHeard.{step_sends_at_most_nine}
use Rattle.am_node_parts.specs.Parts.{node_of}
use Rattle.am_node.proofs.node.Node.step.Goals as goal

pub finish-requires-clause-may : goal.finish-requires-clause-may
finish-requires-clause-may c = c.reply_to-reply.ensures.says.tells.may

pub returns : goal.returns
unfolding step
returns c =
    let old = node_of c.args.self.now.parts in
    let did = c.finish.ensures old (row old c.args.event.now) (sym c.accept_front-before.ensures.value) c.reply_to-reply.ensures in
    record { does = did; few = subst (λ (n : ℕ). n ≤ 9) (sym (ap length did.sent)) (step_sends_at_most_nine old c.args.event.now) }
