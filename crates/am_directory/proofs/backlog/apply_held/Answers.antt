use Rattle.std.proofs.Common.{ℕ, List}
use Rattle.std.proofs.Common.{ap, ◌∙◌, refl}
use Rattle.std.proofs.lemmas.List.{take_all}
use Rattle.am_directory.specs.declared.backlog.HeldCommand.{HeldCommand}
use Rattle.am_service_defs.specs.Contents.{applied}
use Rattle.am_service_defs.specs.Replicas.{apply_held}
use Rattle.am_directory.specs.Holding.{held_in}
use Rattle.am_directory.proofs.Loops.{held_command_is_applied_next}
use Rattle.am_directory.proofs.backlog.apply_held.Goals as goal

pub loop-at-init : goal.loop-at-init
loop-at-init c = refl

pub loop-at-preserved : goal.loop-at-preserved
loop-at-preserved c = held_command_is_applied_next c.args.directory.now c.args.held.now c.loop-at.at c.index-held-at.result c.loop-at.directory c.apply.new.self
    c.loop-at.invariant c.loop-at-test.true c.index-held-at.is
    (c.in_ok-apply.ensures.applied ∙ ap (λ (b : List ℕ). applied c.loop-at.directory c.index-held-at.result.number b) c.bytes.ensures.value)

pub returns : goal.returns
returns c = c.loop-at.invariant ∙ ap (λ (h : List HeldCommand). apply_held c.args.directory.now (held_in h)) (take_all c.loop-at.at c.args.held.now
    c.loop-at-test.false)
