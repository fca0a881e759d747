use Rattle.am_node_parts.proofs.Words.{sym, subst, Node, refresh, IsEndOf, IsSteady, node_of}
use Rattle.am_node_parts.proofs.{Ends.untrimmed_node_ends_itself, Ends.end_of_refreshed_is_refreshed, Keeping.end_of_refresh_is_steady, Keeping.report_is_steady, Keeping.steady_nodes_follow_each_other}
use Rattle.am_node_parts.proofs.parts.Parts.take_report.Goals as goal

pub returns-clause-end : goal.returns-clause-end
returns-clause-end c =
    let mid = node_of c.report.new.self in
    let order = c.accept_front-before.ensures.order in
    subst (λ (x : Node). IsEndOf (refresh x) (node_of c.refresh.new.self)) c.report.ensures (c.refresh.ensures.changes mid (untrimmed_node_ends_itself mid order.kept))

pub returns-clause-again : goal.returns-clause-again
returns-clause-again c =
    let mid = node_of c.report.new.self in
    let order = c.accept_front-before.ensures.order in
    let end = untrimmed_node_ends_itself mid order.kept in
    end_of_refreshed_is_refreshed mid (node_of c.refresh.new.self) (c.refresh.ensures.changes mid end) c.accept_front-after.ensures.order (c.refresh.ensures.again mid end)

pub returns-clause-steady : goal.returns-clause-steady
returns-clause-steady c =
    let old = node_of c.args.self.now in
    let mid = node_of c.report.new.self in
    let order = c.accept_front-before.ensures.order in
    let first = subst (λ (x : Node). IsSteady old x) (sym c.report.ensures) (report_is_steady old c.args.from c.args.report) in
    steady_nodes_follow_each_other old mid (node_of c.refresh.new.self) first (end_of_refresh_is_steady mid (node_of c.refresh.new.self)
    (c.refresh.ensures.changes mid (untrimmed_node_ends_itself mid order.kept)))
