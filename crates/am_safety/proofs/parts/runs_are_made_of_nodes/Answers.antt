use Rattle.am_safety.proofs.Made.{events_are_parts_of_nodes}
use Rattle.am_safety.proofs.parts.runs_are_made_of_nodes.Goals as goal

pub returns : goal.returns
returns c = events_are_parts_of_nodes
