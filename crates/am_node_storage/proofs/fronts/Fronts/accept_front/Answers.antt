use Rattle.std.proofs.Common.{◌≡◌, ◌<◌, ⊎_elim, ap, sym, ◌∙◌, arith}
use Rattle.std.proofs.Math.Nat.{eq-or-lt_of_le}
use Rattle.am_base.specs.Fronts.{is_held}
use Rattle.am_node_defs.specs.Reports.{reports_of}
use Rattle.am_node_defs.proofs.Walks.{accept_front_where_walk_stops, accept_front_stays_below_view}
use Rattle.am_node_storage.proofs.fronts.Fronts.accept_front.Goals as goal

pub returns-then-view-acc-clause-value : goal.returns-then-view-acc-clause-value
returns-then-view-acc-clause-value g c = accept_front_where_walk_stops (reports_of c.args.self.now)
    (g.L.Log.list c.args.log.now) c.args.acc c.walk.result c.walk.ensures.low c.walk.ensures.high (omega arith)
    (λ n low view high. c.walk.ensures.held n low high) c.walk.ensures.stops

pub returns-then-top-view-clause-value : goal.returns-then-top-view-clause-value
returns-then-top-view-clause-value g c = accept_front_stays_below_view (reports_of c.args.self.now) (g.L.Log.list c.args.log.now) c.args.acc (omega arith) (omega arith)
    (λ h. absurd (omega arith))

pub returns-then-not-is_held-clause-value : goal.returns-then-not-is_held-clause-value
returns-then-not-is_held-clause-value g c =
    let held = is_held (reports_of c.args.self.now) (g.L.Log.list c.args.log.now) in
    accept_front_stays_below_view (reports_of c.args.self.now) (g.L.Log.list c.args.log.now) c.args.acc (omega arith) (omega arith)
    (λ h. ap held (sym c.view_number-view.ensures.value) ∙ sym c.is_held.ensures ∙ c.if-not-is_held.true)

pub returns-clause-value : goal.returns-clause-value
returns-clause-value g c =
    let held = is_held (reports_of c.args.self.now) (g.L.Log.list c.args.log.now) in
    accept_front_where_walk_stops (reports_of c.args.self.now) (g.L.Log.list c.args.log.now) c.args.acc c.walk-2.result (omega arith) c.walk-2.ensures.high (omega arith)
    (λ n low view high. ⊎_elim
    (λ (e : c.view_number-view.result ≡ n). ap held (sym e) ∙ sym c.is_held.ensures ∙ c.if-not-is_held.false)
    (λ (h : c.view_number-view.result < n). c.walk-2.ensures.held n h high)
    (eq-or-lt_of_le (omega arith))) c.walk-2.ensures.stops
