use Rattle.am_node_calls.proofs.Words.{sym, subst, arith, Parts, node_of, NodeKeeps}
use Rattle.am_node_calls.proofs.Changes.{node_keeps_by_greater_taken}
use Rattle.am_node_calls.proofs.changing.set_taken.Goals as goal

pub invariant_of-parts-inside : goal.invariant_of-parts-inside
invariant_of-parts-inside c =
    let m = node_of c.args.parts.now in
    let next = c.requires.next in
    let keeps : NodeKeeps (record m { core = record (m.core) { taken = c.args.number } }) = node_keeps_by_greater_taken m c.args.number (omega arith) c.args.parts.now.keeps in
    record { keeps = subst (λ (p : Parts). NodeKeeps (record (node_of p) { core = record (p.core) { taken = c.args.number } })) (sym c.parts.view_is) keeps }
