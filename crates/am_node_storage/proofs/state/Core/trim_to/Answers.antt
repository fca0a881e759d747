use Rattle.std.proofs.Common.{arith, ap}
use Rattle.am_node_defs.specs.Cores.{CoreState}
use Rattle.am_node_defs.proofs.CoreLaws.{trim_to_keeps_end}
use Rattle.am_node_storage.proofs.state.Core.trim_to.Goals as goal

pub returns-then-base-clause-keeps : goal.returns-then-base-clause-keeps
returns-then-base-clause-keeps g c =
    let taken = ap (λ (s : CoreState). s.taken) c.self.view_is in
    let ordered = c.self.invariant in
    rw (c.trim.ensures.list, ← c.self.view_is) (trim_to_keeps_end c.args.base _ (omega arith) (omega arith))
