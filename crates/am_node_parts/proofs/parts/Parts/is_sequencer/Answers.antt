use Rattle.am_node_parts.proofs.Words.{node_of}
use Rattle.am_node_parts.proofs.Ends.{is_sequencer_tells_node}
use Rattle.am_node_parts.proofs.parts.Parts.is_sequencer.Goals as goal

pub returns-clause-tells : goal.returns-clause-tells
returns-clause-tells c = is_sequencer_tells_node (node_of c.args.self.now) _ c.leads.ensures.value
