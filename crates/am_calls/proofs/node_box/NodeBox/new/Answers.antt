use Rattle.am_race_laws.proofs.Starting.{box_of_new_node}
use Rattle.am_calls.proofs.node_box.NodeBox.new.Goals as goal

pub invariant_of-result : goal.invariant_of-result
invariant_of-result g c = box_of_new_node _ _ _ _ _ c.requires.place c.requires.node c.requires.pass
