use Rattle.am_ordering.proofs.ReceivingWords.{List, ap, KeptBody, Node, node_of, bodies_keep_node_order}
use Rattle.am_ordering.proofs.storing.drop_bodies.Goals as goal

pub invariant_of-parts : goal.invariant_of-parts
invariant_of-parts c = record { keeps = bodies_keep_node_order (node_of c.args.parts.now) c.drop_from.new.pool c.args.parts.now.keeps }

pub returns : goal.returns
returns c = ap (λ (bodies : List KeptBody). let n : Node = record (node_of c.args.parts.now) { bodies = bodies } in n) c.drop_from.ensures
