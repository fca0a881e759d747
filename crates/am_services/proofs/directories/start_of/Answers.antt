use Rattle.std.proofs.Common.{true, false, sym, ap, ◌∙◌}
use Rattle.am_base.specs.Names.{has}
use Rattle.am_services.proofs.Starts.{start_of_log_by_founder}
use Rattle.am_services.proofs.directories.start_of.Goals as goal

pub returns-then-has : goal.returns-then-has
returns-then-has c =
    start_of_log_by_founder c.args.founding.now c.args.records.now c.args.name c.loop-item.item-index true c.loop-item-test.false c.loop-item.invariant
    (ap (λ f. has f c.args.name) (sym c.founders.ensures.value) ∙ sym c.has.ensures ∙ c.if-has.true)

pub returns-else-has : goal.returns-else-has
returns-else-has c =
    start_of_log_by_founder c.args.founding.now c.args.records.now c.args.name c.loop-item.item-index false c.loop-item-test.false c.loop-item.invariant
    (ap (λ f. has f c.args.name) (sym c.founders.ensures.value) ∙ sym c.has.ensures ∙ c.if-has.false)
