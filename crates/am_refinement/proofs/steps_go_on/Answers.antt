use Rattle.am_refinement.proofs.NodeKeeping.Begun.{first_nodes_keep_at_start}
use Rattle.am_refinement.proofs.NodeKeeping.Stepped.{other_nodes_keep_through_change, changes_keep_step_known}
use Rattle.am_refinement.proofs.NodeKeeping.Refreshing.{refreshes_keep_the_node}
use Rattle.am_refinement.proofs.steps_go_on.Goals as goal

pub returns : goal.returns
returns c = record { change = changes_keep_step_known; refresh = refreshes_keep_the_node; others = other_nodes_keep_through_change; start = first_nodes_keep_at_start }
