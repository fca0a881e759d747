use Rattle.am_node_defs.proofs.Refreshes.{go_up_by_its_parts}
use Rattle.am_node_storage.proofs.fronts.Fronts.go_up.Goals as goal

pub returns-clause-value : goal.returns-clause-value
returns-clause-value g c = go_up_by_its_parts c.args.core.now _ _ _ _ _ _ c.core.view_is c.report_own.ensures c.accept_front-core-inside.ensures.value
    c.advance.ensures.value c.report_own-2.ensures
