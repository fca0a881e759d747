-- What a call for a node did.
use Rattle.std.specs.Prelude.{◌≡◌, ℕ, List, Option, Some}
use Rattle.am_cli_words.specs.declared.form.Form.{Form}
use Rattle.am_cli_words.specs.declared.form.Form.TheVariants as form
use Rattle.am_cli_words.specs.declared.node.NodeWords.{NodeWords}
use Rattle.am_node_lines.specs.declared.ending.SpokenEnd.{SpokenEnd}
use Rattle.am_node_lines.specs.declared.ending.SpokenEnd.TheVariants as ends
use Rattle.am_node_lines.specs.Speaking.{Spoke}
use Rattle.am_player.specs.declared.status.ExitStatus.{ExitStatus}
use Rattle.am_player.specs.declared.status.ExitStatus.TheVariants.{Done, ReadFault, WriteFault, NoMemory}

-- how a node's speaking ended, as a status
abbrev pub status_of : SpokenEnd → ExitStatus
status_of ends.Done = Done
status_of ends.ReadFault = ReadFault
status_of ends.WriteFault = WriteFault
status_of ends.NoMemory = NoMemory

-- a node's speaking came to a status by one of its ends, and did what that says of what was taken of the source and appended to the sink
abbrev pub Spoken : NodeWords → ExitStatus → Option (List ℕ) → Option (List ℕ) → Option (List ℕ) → Option (List ℕ) → Type 0
Spoken node status source left old new = (end : SpokenEnd) × (status ≡ status_of end) × Spoke node.founding node.name end source left old new

-- what holds of the node, where words ask for one
abbrev pub IfNode : Option Form → (NodeWords → Type 0) → Type 0
IfNode (Some (form.Node node)) claim = claim node
IfNode _ claim = Unit {0}

-- words ask for a node
abbrev pub WordsAskForNode : Option Form → Type 0
WordsAskForNode (Some (form.Node node)) = Unit {0}
WordsAskForNode _ = ⊥
