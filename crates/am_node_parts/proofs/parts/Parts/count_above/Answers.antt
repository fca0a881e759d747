use Rattle.am_node_parts.proofs.Words.{node_of}
use Rattle.am_node_parts.proofs.Serves.{count_of_entries_to_serve}
use Rattle.am_node_parts.proofs.parts.Parts.count_above.Goals as goal

pub returns : goal.returns
returns c =
    let kept = c.last_served.ensures.order.kept in
    let may = c.requires in
    count_of_entries_to_serve (node_of c.args.self.now) c.args.stored c.last_served.result kept may.low may.high c.last_served.ensures.value
