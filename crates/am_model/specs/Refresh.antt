-- What a node does at the end of every step, and in some rows before: it takes in what it knows by now.
use Rattle.std.specs.Prelude.{ℕ, ◌+◌, ◌-◌, List, take, Option, Some, None, Bool, false, ◌&&◌, ◌==◌, if◌then◌else◌, position}
use Rattle.am_base.specs.declared.entry.Entry.{Entry}
use Rattle.am_base.specs.declared.entry.Entry.TheVariants.{Data, Join, Leave, View}
use Rattle.am_node_defs.specs.Cores as cores
use Rattle.am_node_defs.specs.Cores.{members_since_accepted}
use Rattle.am_node_defs.specs.Reports as reports
use Rattle.am_node_defs.specs.Refresh as fronts
use Rattle.am_node_defs.specs.Refresh.{CoreWithReports}
use Rattle.am_node_defs.specs.declared.sender.OwnSend.{OwnSend}
use Rattle.am_node_defs.specs.Sends as own
use Rattle.am_model.specs.Node.{Node, is_sequencer, entries_above, waiting_send_of}

-- whose reports hold back the base: whoever is a member after some number from what is accepted up to the top
abbrev pub concerned_names : Node → List ℕ
concerned_names m = members_since_accepted m.core

-- the least that some names have stored, where there is one
abbrev pub node_least_stored : Node → List ℕ → Option ℕ
node_least_stored m set = reports.least_stored_of_names m.reports set

-- what any member does: what is accepted goes on, and a joiner passes over the entries below its Join
abbrev pub advance_node : Node → Node
advance_node m = record m { core = cores.advance_core m.core }

-- what the sequencer does: its own report, how far the list is accepted, what any member does, its report again, and a
-- trim to what everybody concerned has taken
abbrev pub core_with_reports_of : Node → CoreWithReports
core_with_reports_of m = record { core = m.core; reports = m.reports }

abbrev pub node_with_core_and_reports : Node → CoreWithReports → Node
node_with_core_and_reports m s = record m { core = s.core; reports = s.reports }

unfoldable pub refresh_as_sequencer : Node → Node
refresh_as_sequencer m = node_with_core_and_reports m (fronts.refresh_with_reports (core_with_reports_of m))

-- what a node does with what it knows
unfoldable pub refresh : Node → Node
refresh m = if is_sequencer m then refresh_as_sequencer m else advance_node m

-- ---- the end of a step

abbrev pub is_data_of : ℕ → ℕ → Entry → Bool
is_data_of who req (Data from r body) = (from == who) && (r == req)
is_data_of who req (Join name) = false
is_data_of who req (Leave name) = false
is_data_of who req (View v) = false

-- where a send stands among the entries that are accepted and not trimmed
abbrev pub accepted_number_of_send : Node → ℕ → Option ℕ
accepted_number_of_send m req = position (is_data_of m.core.who req) (take (m.core.acc - m.core.base) (entries_above m m.core.base))

abbrev pub settle_send_at : Node → ℕ → Option ℕ → Node
settle_send_at m req None = m
settle_send_at m req (Some k) = record m { sends = own.settle_request req (m.core.base + 1 + k) m.sends }

-- the waiting send is settled where it is accepted
abbrev pub settle_send_where_accepted : Node → Option OwnSend → Node
settle_send_where_accepted m None = m
settle_send_where_accepted m (Some s) = settle_send_at m s.req (accepted_number_of_send m s.req)

unfoldable pub settle_waiting_send : Node → Node
settle_waiting_send m = settle_send_where_accepted m (waiting_send_of m)

unfoldable pub refresh_at_end : Node → Node
refresh_at_end m = settle_waiting_send (refresh m)
