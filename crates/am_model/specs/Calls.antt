-- The calls of an application, and the tick.
use Rattle.std.specs.Prelude.{ℕ, ◌+◌, List, length, Option, Some, None, Bool, true, false, not, ◌&&◌, ◌||◌, ◌==◌, nat_lt, nat_le}
use Rattle.std.specs.Prelude.{if◌then◌else◌, is_some}
use Rattle.am_base.specs.declared.entry.Entry.{Entry}
use Rattle.am_base.specs.declared.entry.Entry.TheVariants.{Data, Leave}
use Rattle.am_base.specs.declared.outcome.Outcome.{Outcome}
use Rattle.am_base.specs.declared.outcome.Outcome.TheVariants as said
use Rattle.am_base.specs.Names.{place_of_name, list_by_place, has, size}
use Rattle.am_base.specs.Lists.{log_entry_at}
use Rattle.am_node_defs.specs.declared.sender.OwnSend.{OwnSend}
use Rattle.am_node_defs.specs.Sends as own
use Rattle.am_model.specs.declared.status.Status.{Status}
use Rattle.am_model.specs.declared.status.Status.TheVariants as status
use Rattle.am_model.specs.Node.{Node, Ballot, top, view, members, own_row, other_members, set_of_one_name, lowest_name_or_zero, acts_in_its_view, is_sequencer, is_member, has_room, waiting_send_of}
use Rattle.am_model.specs.Node.{node_unsettled_count, push_entry}
use Rattle.am_model.specs.Emit.{Plan, plan_without_letters, plan_with_letter, with_one_more_letter, plan_numbering_entry, request_packet_of, spread_packet_of, bcast_packet_of, join_ask_packet_of, leave_ask_packet_of, hand_over_packet_of}
use Rattle.am_model.specs.Ballots.{begin_ballot, give_up_in_ballot}

-- ---- sends

-- life 1 of the fifteen other places
unfoldable pub first_lives_of_other_places : Node → List ℕ
first_lives_of_other_places m = list_by_place (λ place. if place == place_of_name m.core.who then 0 else 1)

-- the waiting send would go out: the node acts, and the send isn't numbered yet
abbrev pub would_emit_send : Node → Option OwnSend → Bool
would_emit_send m None = false
would_emit_send m (Some s) = acts_in_its_view m && nat_lt (own_row m).last s.req

-- a member's send: by the sequencer where it is short, else to everybody
abbrev pub hand_in_send : Node → OwnSend → Outcome → Plan
hand_in_send m s outcome =
    if nat_le (length s.body) m.core.rules.pb_up_to
    then plan_with_letter m outcome (set_of_one_name (view m).by) (λ n. request_packet_of n s.req s.body)
    else plan_with_letter m outcome (other_members m) (λ n. spread_packet_of n s.req s.body)

-- the sequencer's own send
abbrev pub number_send : Node → OwnSend → Outcome → Plan
number_send m s outcome = plan_numbering_entry m (Data m.core.who s.req s.body) outcome (λ n. bcast_packet_of n (top m + 1) (Data m.core.who s.req s.body))

-- emits the waiting send
abbrev pub emit_waiting_send : Node → Option OwnSend → Outcome → Plan
emit_waiting_send m None outcome = plan_without_letters m outcome
emit_waiting_send m (Some s) outcome =
    if not (would_emit_send m (Some s)) then plan_without_letters m outcome
    else if not (is_sequencer m) then hand_in_send m s outcome
    else if has_room m then number_send m s outcome
    else plan_without_letters m outcome

-- the next send is queued; where none waits before it, it goes out
abbrev pub node_with_queued_send : Node → List ℕ → Node
node_with_queued_send m body = record m { sends = own.queue_send body m.sends }

abbrev pub queue : Node → List ℕ → Plan
queue m body =
    if is_some (waiting_send_of m) then plan_without_letters (node_with_queued_send m body) (said.Queued (m.sends.last + 1))
    else emit_waiting_send (node_with_queued_send m body) (waiting_send_of (node_with_queued_send m body)) (said.Queued (m.sends.last + 1))

unfoldable pub send_row : Node → List ℕ → Plan
send_row m body =
    if not (is_member m.status) then plan_without_letters m said.NotMember
    else if m.leaving then plan_without_letters m said.Leaving
    else if nat_le 4 (length m.sends.queue) then plan_without_letters m (said.Busy 4)
    else queue m body

-- what came of a send, which is removed once that is told
unfoldable pub done_row : Node → ℕ → Plan
done_row m req = plan_without_letters (record m { sends = own.collect req m.sends }) (own.collect_outcome req m.sends)

-- ---- what is accepted

abbrev pub give_out_entry : Node → Option Entry → Plan
give_out_entry m None = plan_without_letters m said.Empty
give_out_entry m (Some e) = plan_without_letters (record m { core = record (m.core) { taken = m.core.taken + 1 } }) (said.Took (m.core.taken + 1) e)

unfoldable pub take_row : Node → Plan
take_row m =
    if not (is_member m.status) then plan_without_letters m said.NotMember
    else if m.core.taken == m.core.acc then plan_without_letters m said.Empty
    else give_out_entry m (log_entry_at m.core.log (m.core.taken + 1))

-- ---- joining and leaving

abbrev pub ask_to_join : Node → Outcome → Plan
ask_to_join m outcome = plan_with_letter m outcome (first_lives_of_other_places m) join_ask_packet_of

abbrev pub join_by_status : Node → Status → Plan
join_by_status m status.Stranger = ask_to_join (record m { status = status.Asking }) said.Asked
join_by_status m status.Asking = plan_without_letters m said.Asked
join_by_status m status.Member = plan_without_letters m (said.Joined m.core.start)
join_by_status m status.Departed = plan_without_letters m said.NotMember

unfoldable pub join_row : Node → Plan
join_row m = join_by_status m m.status

abbrev pub state_by_status : Node → Status → Plan
state_by_status m status.Stranger = plan_without_letters m said.Stranger
state_by_status m status.Asking = plan_without_letters m said.Asked
state_by_status m status.Member = if m.leaving then plan_without_letters m said.Leaving else plan_without_letters m (said.Joined m.core.start)
state_by_status m status.Departed = plan_without_letters m said.Departed

unfoldable pub state_row : Node → Plan
state_row m = state_by_status m m.status

-- a leaving node goes on: a member asks the others; the sequencer hands over to the lowest other member; the last member
-- numbers its own Leave and departs, where there is room
abbrev pub plan_of_leaving : Plan → Plan
plan_of_leaving p =
    if not (is_sequencer p.node) then with_one_more_letter p (other_members p.node) leave_ask_packet_of
    else if nat_lt 0 (size (other_members p.node)) then with_one_more_letter p (set_of_one_name (lowest_name_or_zero (other_members p.node))) hand_over_packet_of
    else if has_room p.node then record p { node = push_entry p.node (Leave p.node.core.who); outcome = λ n. said.Departed; numbers = true; departs = true }
    else record p { outcome = λ n. said.Held p.node.core.base (top p.node) }

abbrev pub is_unfinished_ballot : Option Ballot → Bool
is_unfinished_ballot None = false
is_unfinished_ballot (Some b) = not b.is_over

abbrev pub begin_leaving : Node → Plan
begin_leaving m =
    if m.leaving then plan_without_letters m said.Leaving
    else if nat_lt 0 (node_unsettled_count m) || is_unfinished_ballot m.ballot then plan_without_letters m (said.Busy (node_unsettled_count m))
    else plan_of_leaving (plan_without_letters (record m { leaving = true }) said.Asked)

abbrev pub leave_by_status : Node → Status → Plan
leave_by_status m status.Stranger = plan_without_letters m said.NotMember
leave_by_status m status.Asking = plan_without_letters m said.NotMember
leave_by_status m status.Member = begin_leaving m
leave_by_status m status.Departed = plan_without_letters m said.Departed

unfoldable pub leave_row : Node → Plan
leave_row m = leave_by_status m m.status

-- ---- ballots

-- a member that isn't leaving begins a ballot
unfoldable pub reset_row : Node → ℕ → ℕ → Plan
reset_row m least resilience =
    if not (is_member m.status && has (members m) m.core.who) then plan_without_letters m said.NotMember
    else if m.leaving then plan_without_letters m said.Leaving
    else begin_ballot m least resilience

abbrev pub answer_ask_of_ballot : Node → ℕ → Option Ballot → Plan
answer_ask_of_ballot m round None = plan_without_letters m said.Unknown
answer_ask_of_ballot m round (Some b) =
    if nat_lt b.stamp.round round then plan_without_letters m said.Unknown
    else if nat_lt round b.stamp.round then plan_without_letters m (said.Overtaken b.stamp)
    else plan_without_letters m b.answer

unfoldable pub ask_row : Node → ℕ → Plan
ask_row m round = answer_ask_of_ballot m round m.ballot

abbrev pub give_up_in_open_ballot : Node → ℕ → Option Ballot → Plan
give_up_in_open_ballot m name None = plan_without_letters m said.NotCoordinator
give_up_in_open_ballot m name (Some b) =
    if b.is_over then plan_without_letters m said.NotCoordinator
    else if name == m.core.who then plan_without_letters m said.Unfit
    else give_up_in_ballot m b name

unfoldable pub give_up_row : Node → ℕ → Plan
give_up_row m name = give_up_in_open_ballot m name m.ballot
