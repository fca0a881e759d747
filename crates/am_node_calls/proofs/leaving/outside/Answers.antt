use Rattle.am_node_calls.proofs.Words.{sym, ◌∙◌, node_of}
use Rattle.am_model.specs.declared.status.Status.TheVariants as status
use Rattle.am_node_calls.proofs.Leaves.{leave_row_by_status, leave_row_of_no_member}
use Rattle.am_node_calls.proofs.leaving.outside.Goals as goal

pub returns-in-Departed : goal.returns-in-Departed
returns-in-Departed c = leave_row_by_status (node_of c.args.parts.now) status.Departed (sym c.status.ensures ∙ c.in-Departed.is)

pub returns-in_default : goal.returns-in_default
returns-in_default c = leave_row_of_no_member (node_of c.args.parts.now) c.requires (λ is. c.in_default.not-Departed (c.status.ensures ∙ is))
