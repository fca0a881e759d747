use Rattle.am_node_parts.proofs.Words.{refresh, settle_waiting_send, refresh_at_end, node_of}
use Rattle.am_node_parts.proofs.Ends.{changes_follow_each_other}
use Rattle.am_node_parts.proofs.parts.Parts.end.Goals as goal

pub returns : goal.returns
unfolding refresh_at_end
returns c = changes_follow_each_other refresh settle_waiting_send (node_of c.args.self.now) (node_of c.refresh.new.self)
    (node_of c.settle.new.self) c.refresh.ensures.changes c.settle.ensures.changes
