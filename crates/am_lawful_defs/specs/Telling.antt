-- What a watcher is told of a step, and of an answer.
use Rattle.std.specs.Prelude.{ℕ, List, [], ◌∷◌, ◌++◌, Option, Some, None, Ok, Err, Bool, true, false, not, ◌&&◌, ◌||◌, if◌then◌else◌}
use Rattle.am_base.specs.declared.entry.Entry.{Entry}
use Rattle.am_base.specs.declared.entry.Entry.TheVariants.{View}
use Rattle.am_base.specs.declared.event.NodeEvent.{NodeEvent}
use Rattle.am_base.specs.declared.event.NodeEvent.TheVariants.{Hear}
use Rattle.am_base.specs.declared.outcome.Outcome.{Outcome}
use Rattle.am_base.specs.declared.outcome.Outcome.TheVariants as said
use Rattle.am_base.specs.Stamps.{stamps_are_equal}
use Rattle.am_packet.specs.declared.packet.Packet.{Packet}
use Rattle.am_packet.specs.declared.packet.Packet.TheVariants.{Piece}
use Rattle.am_packet.specs.Reading.{Read, reading}
use Rattle.am_model.specs.declared.status.Status.{Status}
use Rattle.am_model.specs.Node.{Node, is_member, has_log_by_status}
use Rattle.am_lawful_defs.specs.declared.views.DecidedView.{DecidedView}
use Rattle.am_lawful_defs.specs.declared.views.ShownNode.{ShownNode}
use Rattle.am_lawful_defs.specs.declared.views.NameStanding.{NameStanding}
use Rattle.am_lawful_defs.specs.Watching.{Watching, standing, watch_decides, watching_with_decided, watching_with_entries, watch_step, watch_accepts}
use Rattle.am_lawful_defs.specs.Watches.{last_view_of_node}

-- what is told of a node
abbrev pub shown_node_of : Node → ShownNode
shown_node_of n = record { status = n.status; start = n.core.start; base = n.core.base; decided = last_view_of_node n }

-- a name's list began in a step
abbrev pub list_begins_in_step : NameStanding → Status → Bool
list_begins_in_step before after = not (has_log_by_status before.status) && is_member after

-- what its node shows after that: its list begins at its base, or where it began before
abbrev pub standing_after : NameStanding → ShownNode → NameStanding
standing_after before n = record {
  status = n.status;
  view = n.decided.view.stamp;
  start = n.start;
  from = if list_begins_in_step before n.status then n.base else before.from;
}

-- the entry of a Piece
abbrev pub entry_of_piece : Packet → Option Entry
entry_of_piece (Piece s v base number e) = Some e
entry_of_piece _ = None

abbrev pub entry_of_read_piece : Read Packet → Option Entry
entry_of_read_piece (Ok packet) = entry_of_piece packet
entry_of_read_piece (Err refusal) = None

abbrev pub entry_of_heard_piece : NodeEvent → Option Entry
entry_of_heard_piece (Hear bytes) = entry_of_read_piece (reading bytes)
entry_of_heard_piece _ = None

abbrev pub list_of_option : Option Entry → List Entry
list_of_option None = []
list_of_option (Some e) = e ∷ []

-- the View that made a view
abbrev pub view_entry_of : DecidedView → Entry
view_entry_of v = View v.view

-- the Views that a name stored in a step: the last one, where it is a new one, and before that what was fetched, where the
-- name then decided a view
abbrev pub views_stored_in_step : ℕ → NameStanding → NameStanding → DecidedView → NodeEvent → List Entry
views_stored_in_step name before after v what =
    if list_begins_in_step before after.status || stamps_are_equal before.view after.view then []
    else (if watch_decides before name after then list_of_option (entry_of_heard_piece what) else []) ++ view_entry_of v ∷ []

-- what is kept of the view that a name decided in a step, and of the Views that it stored
abbrev pub watching_with_views : Watching → ℕ → NameStanding → NameStanding → DecidedView → NodeEvent → Watching
watching_with_views k name before after v what = watching_with_entries (watching_with_decided k name after v) name (views_stored_in_step name before after v what)

-- what is kept once a name did a step, whose node then shows this, and the group list went on by these entries
unfoldable pub watching_after_told_step : Watching → ℕ → ShownNode → NodeEvent → ℕ → List Entry → Watching
watching_after_told_step k name n what number more =
    let after = standing_after (standing k name) n in
    watch_accepts (watch_step k name after n.decided (views_stored_in_step name (standing k name) after n.decided what)) number more

-- a name that has or hasn't stopped stops by an answer: by its own event, or because its place returns
abbrev pub stops_by_outcome : Bool → Outcome → Bool
stops_by_outcome stopped said.Stopped = true
stops_by_outcome stopped (said.Returned life) = not stopped
stops_by_outcome stopped _ = false
