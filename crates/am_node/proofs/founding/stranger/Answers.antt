use Rattle.std.proofs.Common.{refl, ap, ℕ, arith}
use Rattle.am_base.specs.declared.image.Report.{Report}
use Rattle.am_model.specs.Node.{stranger_node}
use Rattle.am_node.proofs.Founders.{stranger_keeps_node_order, node_keeps_as_equal_node}
use Rattle.am_node.proofs.founding.stranger.Goals as goal

pub invariant_of-result : goal.invariant_of-result
invariant_of-result c =
    let own = ap (λ (r : ℕ → Report). (r c.first_core-core.result.who).taken) c.new-3.ensures in
    record {
      keeps = node_keeps_as_equal_node (stranger_node c.room.inside.founding c.args.name) _ c.first_core-core.ensures.value (omega arith) refl refl refl c.new.ensures
          (stranger_keeps_node_order c.room.inside.founding c.args.name);
    }
