-- A step of what is kept is one of the whole node.
use Rattle.std.proofs.Common.{List, sym, ◌∙◌}
use Rattle.am_base.specs.declared.event.NodeEvent.{NodeEvent}
use Rattle.am_base.specs.declared.outcome.Outcome.{Outcome}
use Rattle.am_packet.specs.Boxes.{Letter}
use Rattle.am_node_defs.specs.Cores.{CoreFrontsAreInOrder}
use Rattle.am_model.specs.Node.{Node}
use Rattle.am_model.specs.Step.{row, step}
use Rattle.am_model.specs.Ends.{DoesRow}
use Rattle.am_model.proofs.Hearing.{ends_step_alike}
use Rattle.am_examples.specs.Members.{StepIsOfWholeNode}

pub step_of_equal_outcome : (event : NodeEvent) (old new : Node) (outcome : Outcome) (letters : List Letter) → CoreFrontsAreInOrder old.core → DoesRow (λ m. row m event) old outcome letters new
    → StepIsOfWholeNode event old outcome letters new
unfolding step
step_of_equal_outcome event old new outcome letters order does = λ all end.
    let alike = ends_step_alike all old event end order in
    (does.answer ∙ sym alike.answer, does.sent ∙ sym alike.sent, alike.node new does.node)
