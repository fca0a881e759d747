use Rattle.am_node_parts.proofs.Words.{node_of}
use Rattle.am_node_parts.proofs.LastMember.{departed_status_keeps_node_order}
use Rattle.am_node_parts.proofs.parts.Parts.set_status.Goals as goal

pub invariant_of-self : goal.invariant_of-self
invariant_of-self c = record { keeps = departed_status_keeps_node_order (node_of c.args.self.now) c.args.status c.requires.outside c.requires.log c.args.self.now.keeps }
