use Rattle.am_node_calls.proofs.Words.{node_of, leaving_keeps_node_order}
use Rattle.am_node_calls.proofs.changing.begin_leaving.Goals as goal

pub invariant_of-parts : goal.invariant_of-parts
invariant_of-parts c = record { keeps = leaving_keeps_node_order (node_of c.args.parts.now) c.requires c.args.parts.now.keeps }
