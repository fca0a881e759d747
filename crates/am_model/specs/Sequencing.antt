-- What the sequencer does with sends and reports.
use Rattle.std.specs.Prelude.{ℕ, ◌+◌, List, [], length, Bool, not, ◌==◌, nat_lt, nat_le, if◌then◌else◌}
use Rattle.am_base.specs.declared.image.Report.{Report}
use Rattle.am_base.specs.declared.image.Row.{Row}
use Rattle.am_base.specs.declared.entry.Entry.TheVariants.{Data}
use Rattle.am_base.specs.declared.outcome.Outcome.{Outcome}
use Rattle.am_base.specs.declared.outcome.Outcome.TheVariants as said
use Rattle.am_base.specs.Lists.{row_of_name}
use Rattle.am_model.specs.Node.{Node, top, image_of_node, set_of_one_name, has_room, report_fits, node_with_report}
use Rattle.am_model.specs.Refresh.{refresh}
use Rattle.am_model.specs.Emit.{Plan, plan_without_letters, plan_with_poll, with_one_more_letter, plan_numbering_entry, bcast_packet_of, order_packet_of, hold_packet_of, entries_to_serve, letters_of_entries}

abbrev pub row_of_name_in_list : Node → ℕ → Row
row_of_name_in_list m name = row_of_name (image_of_node m) name

-- no Join of this name stands in the list
abbrev pub has_no_join : Node → ℕ → Bool
has_no_join m s = (row_of_name_in_list m s).joined == 0

-- its report is taken, and what follows from it
abbrev pub take_report : Node → ℕ → Report → Node
take_report m s report = refresh (node_with_report m s report)

-- a send gets the next number, which a body that everybody has needs alone
abbrev pub number_send_of_member : Node → ℕ → ℕ → List ℕ → Bool → Plan
number_send_of_member m s req body by_order =
    plan_numbering_entry m (Data s req body) (said.Numbered (top m + 1)) (λ n. if by_order then order_packet_of n (top m + 1) s req else bcast_packet_of n (top m + 1) (Data s req body))

-- a send, once its report is taken
abbrev pub answer_request : Node → ℕ → ℕ → List ℕ → Bool → Plan
answer_request m s req body by_order =
    if nat_lt 0 (row_of_name_in_list m s).left then plan_without_letters m said.Stranger
    else if nat_le req (row_of_name_in_list m s).last then plan_without_letters m said.Again
    else if nat_lt ((row_of_name_in_list m s).last + 1) req then plan_without_letters m (said.Early (row_of_name_in_list m s).last)
    else if not (has_room m) then with_one_more_letter (plan_with_poll m (said.Held m.core.base (top m))) (set_of_one_name s) (λ n. hold_packet_of n req)
    else number_send_of_member m s req body by_order

-- a Request, or with by_order a Spread
unfoldable pub request_row : Node → ℕ → Report → ℕ → List ℕ → Bool → Plan
request_row m s report req body by_order =
    if has_no_join m s then plan_without_letters m said.Stranger
    else if not (report_fits m report) then plan_without_letters m said.Unfit
    else answer_request (take_report m s report) s req body by_order

-- what is accepted rose in this step
abbrev pub outcome_where_accepted_rose : Node → Outcome → (Node → Outcome) → Node → Outcome
outcome_where_accepted_rose m otherwise rose n = if nat_lt m.core.acc n.core.acc then rose n else otherwise

unfoldable pub ack_row : Node → ℕ → Report → Plan
ack_row m s report =
    if has_no_join m s then plan_without_letters m said.Stranger
    else if not (report_fits m report) then plan_without_letters m said.Unfit
    else record (plan_without_letters (node_with_report m s report) said.Noted) { outcome = outcome_where_accepted_rose m said.Noted (λ n. said.Accepted n.core.acc) }

-- the entries above what is stored, one packet each
abbrev pub serve_entries_above : Node → ℕ → ℕ → Plan
serve_entries_above m s stored = record (plan_without_letters m (said.Served (length (entries_to_serve m stored)))) {
  letters =
      λ n. letters_of_entries (bcast_packet_of n) (set_of_one_name s) (stored + 1) (entries_to_serve m stored) [];
}

abbrev pub serve_again : Node → ℕ → ℕ → Plan
serve_again m s stored = if nat_lt stored m.core.base then plan_without_letters m said.Behind else serve_entries_above m s stored

unfoldable pub nack_row : Node → ℕ → Report → Plan
nack_row m s report =
    if has_no_join m s then plan_without_letters m said.Stranger
    else if not (report_fits m report) then plan_without_letters m said.Unfit
    else serve_again (take_report m s report) s report.stored
