use Rattle.std.proofs.Common.{◌≡◌, ◌+◌, ◌-◌, sym, ◌∙◌, ap, arith}
use Rattle.am_base.specs.Names.{union_of_names}
use Rattle.am_base.specs.Lists.{log_members_at}
use Rattle.am_node_defs.proofs.CoreLaws.{unions_with_next_number}
use Rattle.am_node_defs.proofs.Lives.{unions_of_unchanged_members}
use Rattle.am_node_storage.proofs.state.Core.since_accepted.Goals.{then-not-is_data, else-not-is_data}
use Rattle.am_node_storage.proofs.state.Core.since_accepted.Goals as goal

pub loop-number-preserved : goal.loop-number-preserved
loop-number-preserved g c =
    let log = g.L.Log.list c.self.inside.log in
    let acc = c.self.inside.acc in
    let number = c.loop-number.number in
    let before = c.self.invariant in
    elim c.if-not-is_data.branch [
      | then-not-is_data w ↦ w.names-is ∙ w.union-names.ensures ∙ (λ k. union_of_names (c.loop-number.invariant k) (w.members_after.ensures k))
          ∙ sym (unions_with_next_number log acc number (omega arith))
      | else-not-is_data w ↦
          let at : number + 1 - 1 ≡ number = omega arith in
          w.names-is ∙ c.loop-number.invariant
          ∙ sym (unions_of_unchanged_members log _ acc number c.top-number-end.ensures.kept (omega arith) (omega arith)
          (c.is_data.ensures w.if-not-is_data.false ∙ ap (log_members_at log) at))
    ]
