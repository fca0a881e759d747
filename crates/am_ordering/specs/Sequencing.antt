-- Pieces of the sequencer's rows.
use Rattle.std.specs.Prelude.{ℕ, ◌+◌, List, Bool, not, nat_lt, nat_le, if◌then◌else◌, Option, Some, None}
use Rattle.am_base.specs.declared.image.Report.{Report}
use Rattle.am_base.specs.declared.image.Row.{Row}
use Rattle.am_base.specs.declared.entry.Entry.TheVariants.{Data}
use Rattle.am_base.specs.declared.outcome.Outcome.{Outcome}
use Rattle.am_base.specs.declared.outcome.Outcome.TheVariants as said
use Rattle.am_model.specs.Node.{Node, report_fits}
use Rattle.am_model.specs.Sequencing.{has_no_join}
use Rattle.am_node_parts.specs.declared.reply.Note.{Note}
use Rattle.am_node_parts.specs.declared.reply.Note.TheVariants as note

-- what is told of a report that isn't taken
abbrev pub report_refusal : Node → ℕ → Report → Option Outcome
report_refusal m from report = if has_no_join m from then Some said.Stranger else if not (report_fits m report) then Some said.Unfit else None

-- what is told of a send that isn't its sender's next one, or whose sender has left, by the sender's row
abbrev pub request_refusal : Row → ℕ → Option Outcome
request_refusal r req =
    if nat_lt 0 r.left then Some said.Stranger
    else if nat_le req r.last then Some said.Again
    else if nat_lt (r.last + 1) req then Some (said.Early r.last)
    else None

-- what is told of a numbered send: its number alone where everybody has its body
abbrev pub data_note : ℕ → ℕ → ℕ → List ℕ → Bool → Note
data_note number from req body by_order = if by_order then note.Order number from req else note.Bcast number (Data from req body)
