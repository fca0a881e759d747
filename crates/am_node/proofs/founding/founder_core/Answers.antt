use Rattle.std.proofs.Common.{ap, ◌∙◌}
use Rattle.am_base.specs.Lists.{image_of_log, blank, image_after_entries, fits}
use Rattle.am_node_defs.specs.Cores.{CoreState}
use Rattle.am_node.proofs.Founders.{founders_view_fits_blank}
use Rattle.am_node.proofs.founding.founder_core.Goals as goal

pub push-requires-clause-fits : goal.push-requires-clause-fits
unfolding image_after_entries
push-requires-clause-fits c =
    ap (λ (x : CoreState). fits (image_of_log x.log) c.as_ref.result) c.first_core-core.ensures.value
    ∙ ap (fits blank) (c.as_ref.ensures ∙ c.founders_view.ensures.value)
    ∙ founders_view_fits_blank c.args.founding.now c.founders_view.ensures.within
