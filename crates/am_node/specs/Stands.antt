-- Which node of the protocol a node of the code is: one that keeps the end of its list.
use Rattle.am_node_parts.specs.Parts.{node_of}
use Rattle.am_model.specs.Node as model
use Rattle.am_node.specs.declared.node.Node.{Node}

abbrev pub state_of : Node → model.Node
state_of n = node_of n.parts
