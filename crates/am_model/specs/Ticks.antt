-- The tick.
use Rattle.std.specs.Prelude.{ℕ, List, Option, Some, None, true, not, ◌&&◌, ◌==◌, nat_lt, if◌then◌else◌}
use Rattle.am_base.specs.declared.entry.Entry.{Entry}
use Rattle.am_base.specs.declared.entry.Entry.TheVariants.{Data, Join, Leave, View}
use Rattle.am_base.specs.declared.outcome.Outcome.{Outcome}
use Rattle.am_base.specs.declared.outcome.Outcome.TheVariants as said
use Rattle.am_base.specs.Names.{empty_set_of_names}
use Rattle.am_base.specs.Lists.{log_entry_at}
use Rattle.am_packet.specs.Boxes.{with_letter}
use Rattle.am_model.specs.declared.status.Status.{Status}
use Rattle.am_model.specs.declared.status.Status.TheVariants as status
use Rattle.am_node_defs.specs.declared.sender.OwnSend.{OwnSend}
use Rattle.am_model.specs.Node.{Node, Ballot, top, image_of_node, view, other_members, set_of_one_name, names_that_pass, acts_in_its_view, is_sequencer, has_room, waiting_send_of}
use Rattle.am_model.specs.Emit.{Plan, plan_without_letters, plan_with_letter, ack_packet_of, invite_packet_of, fetch_packet_of, result_packet_of}
use Rattle.am_model.specs.Calls.{would_emit_send, emit_waiting_send, ask_to_join, plan_of_leaving}

-- a coordinator asks again for what its ballot waits for
abbrev pub tick_of_coordinator : Node → Outcome → Plan
tick_of_coordinator m (said.Waiting names) = plan_with_letter m said.Ticked names invite_packet_of
tick_of_coordinator m (said.Fetching from want) = plan_with_letter m said.Ticked (set_of_one_name from) fetch_packet_of
tick_of_coordinator m _ = plan_without_letters m said.Ticked

-- a member that doesn't act fetches from the name that it promised
abbrev pub tick_of_non_acting_member : Node → Plan
tick_of_non_acting_member m =
    if m.core.promise.by == m.core.who then plan_without_letters m said.Ticked
    else plan_with_letter m said.Ticked (set_of_one_name m.core.promise.by) fetch_packet_of

-- an acting member goes on leaving, or hands in its send, or reports
abbrev pub tick_of_follower : Node → Plan
tick_of_follower m =
    if m.leaving then plan_of_leaving (plan_without_letters m said.Ticked)
    else if would_emit_send m (waiting_send_of m) then emit_waiting_send m (waiting_send_of m) said.Ticked
    else plan_with_letter m said.Ticked (set_of_one_name (view m).by) ack_packet_of

-- the sequencer has no room for its own send
abbrev pub tick_outcome_of_waiting_send : Node → Option OwnSend → Outcome
tick_outcome_of_waiting_send m None = said.Ticked
tick_outcome_of_waiting_send m (Some s) = if would_emit_send m (Some s) && not (has_room m) then said.PutOff s.req m.core.base (top m) else said.Ticked

-- the members that haven't stored the last View, while that is kept
abbrev pub members_behind_view : Node → List ℕ
members_behind_view n =
    if nat_lt n.core.base (image_of_node n).view_number then names_that_pass (λ name. nat_lt (n.reports name).stored (image_of_node n).view_number) (other_members n)
    else empty_set_of_names

-- the members that a View names
abbrev pub members_of_view_entry : Option Entry → List ℕ
members_of_view_entry None = empty_set_of_names
members_of_view_entry (Some (Data from req body)) = empty_set_of_names
members_of_view_entry (Some (Join name)) = empty_set_of_names
members_of_view_entry (Some (Leave name)) = empty_set_of_names
members_of_view_entry (Some (View v)) = v.members

-- the last View, told again to those
abbrev pub with_result_told_again : Plan → Plan
with_result_told_again p = record p {
  letters = λ n. with_letter (members_behind_view n)
      (result_packet_of n (image_of_node n).view_number (members_of_view_entry (log_entry_at n.core.log (image_of_node n).view_number)) (image_of_node n).resilience) (p.letters n);
}

abbrev pub go_on_where_leaving : Node → Plan → Plan
go_on_where_leaving m p = if m.leaving then plan_of_leaving p else p

-- the sequencer numbers its own send, polls, tells its View again, and goes on leaving
abbrev pub tick_of_sequencer : Node → Plan
tick_of_sequencer m = go_on_where_leaving m (with_result_told_again (record (emit_waiting_send m (waiting_send_of m) (tick_outcome_of_waiting_send m (waiting_send_of m))) { polls = true }))

abbrev pub tick_of_acting_member : Node → Plan
tick_of_acting_member m =
    if not (acts_in_its_view m) then tick_of_non_acting_member m
    else if is_sequencer m then tick_of_sequencer m
    else tick_of_follower m

abbrev pub tick_by_ballot : Node → Option Ballot → Plan
tick_by_ballot m None = tick_of_acting_member m
tick_by_ballot m (Some b) = if b.is_over then tick_of_acting_member m else tick_of_coordinator m b.answer

abbrev pub tick_by_status : Node → Status → Plan
tick_by_status m status.Stranger = plan_without_letters m said.Idle
tick_by_status m status.Asking = ask_to_join m said.Ticked
tick_by_status m status.Member = tick_by_ballot m m.ballot
tick_by_status m status.Departed = plan_without_letters m said.Idle

unfoldable pub tick_row : Node → Plan
tick_row m = tick_by_status m m.status
