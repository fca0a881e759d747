use Rattle.std.proofs.Common.{◌≡◌, ◌+◌, ◌<◌, ⊎_elim, ap, sym, ◌∙◌, arith}
use Rattle.std.proofs.Math.Nat.{eq-or-lt_of_le}
use Rattle.am_base.specs.Fronts.{is_held}
use Rattle.am_node_defs.specs.Reports.{reports_of}
use Rattle.am_node_storage.proofs.fronts.Fronts.walk.Goals as goal

pub loop-number-preserved : goal.loop-number-preserved
loop-number-preserved g c = λ n low high. ⊎_elim
    (λ (e : n ≡ c.loop-number.number + 1). ap (is_held (reports_of c.args.self.now) (g.L.Log.list c.args.log.now)) e ∙ sym c.is_held.ensures
    ∙ c.if-not-is_held.false)
    (λ (h : n < c.loop-number.number + 1). c.loop-number.invariant n low (omega arith))
    (eq-or-lt_of_le high)
