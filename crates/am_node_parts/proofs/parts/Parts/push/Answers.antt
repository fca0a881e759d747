use Rattle.am_node_parts.proofs.Words.{ap, sym, subst, CoreState, Node, NodeKeeps, node_of}
use Rattle.am_node_parts.proofs.parts.Parts.push.Goals as goal

pub invariant_of-self : goal.invariant_of-self
invariant_of-self c = record {
  keeps = subst (λ (x : CoreState). NodeKeeps (record (node_of c.args.self.now) { core = x }))
      (sym c.push.ensures.value) c.requires.keeps;
}

pub returns-clause-node : goal.returns-clause-node
returns-clause-node c = ap (λ (x : CoreState). let n : Node = record (node_of c.args.self.now) { core = x } in n) c.push.ensures.value
