use Rattle.am_node_calls.proofs.Words.{node_of, bodies_keep_node_order}
use Rattle.am_node_calls.proofs.changing.keep_body.Goals as goal

pub invariant_of-parts : goal.invariant_of-parts
invariant_of-parts c = record { keeps = bodies_keep_node_order (node_of c.args.parts.now) c.keep.new.self c.args.parts.now.keeps }
