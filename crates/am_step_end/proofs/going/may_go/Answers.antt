use Rattle.am_node_parts.proofs.Words.{ap, ◌∙◌, without_name, untrimmed_core_keeps_own_log}
use Rattle.am_node_defs.specs.Reports.{reports_of}
use Rattle.am_step_end.specs.Going.{is_stored}
use Rattle.am_step_end.proofs.going.may_go.Goals as goal

pub returns : goal.returns
returns c =
    let core = c.args.parts.now.core in
    let reports = reports_of c.args.parts.now.fronts in
    let kept = c.accept_front-accepted.ensures.order.kept in
    let concerned = c.since_accepted.ensures.model core.log (untrimmed_core_keeps_own_log core kept) in
    c.is_stored.ensures
    ∙ (λ k. is_stored reports (c.accept_front-accepted.ensures.value k) (c.row-left.ensures.value k).left
    ((c.without-others.ensures ∙ ap (λ names. without_name names c.args.name) concerned) k))
