-- Hearing a packet: who may be heard, and by which row.
use Rattle.std.specs.Prelude.{ℕ, List, Bool, true, false, not, ◌&&◌, ◌||◌, ◌==◌, if◌then◌else◌}
use Rattle.am_base.specs.declared.image.Report.{Report}
use Rattle.am_base.specs.declared.name.Stamp.{Stamp}
use Rattle.am_base.specs.declared.outcome.Outcome.TheVariants as said
use Rattle.am_base.specs.Stamps.{stamps_are_equal}
use Rattle.am_packet.specs.declared.kind.PacketGate.{PacketGate}
use Rattle.am_packet.specs.declared.kind.PacketGate.TheVariants as gates
use Rattle.am_packet.specs.declared.packet.Packet.{Packet}
use Rattle.am_packet.specs.declared.packet.Packet.TheVariants.{Request, Spread, Bcast, Order, Accept, Ack, Nack, Hold, JoinAsk, Welcome, LeaveAsk, Gone, Invite}
use Rattle.am_packet.specs.declared.packet.Packet.TheVariants.{Vote, Fetch, Piece, Result, HandOver}
use Rattle.am_packet.specs.Kinds.{table, head_of}
use Rattle.am_packet.specs.Spelling.{sender_of, stamp_of}
use Rattle.am_model.specs.Node.{Node, image_of_node, view, acts_in_its_view, is_asking_status, is_member, is_sequencer}
use Rattle.am_model.specs.Emit.{Plan, plan_without_letters}
use Rattle.am_model.specs.Sequencing.{request_row, ack_row, nack_row}
use Rattle.am_model.specs.Receiving.{spread_row, bcast_row, order_row, accept_row, hold_row}
use Rattle.am_model.specs.Joining.{join_ask_row, welcome_row, leave_ask_row, gone_row}
use Rattle.am_model.specs.Resets.{invite_row, vote_row, fetch_row, piece_row, result_row}
use Rattle.am_model.specs.Calls.{reset_row}

-- another name's packet at a member
abbrev pub member_hears_other : Node → ℕ → Bool
member_hears_other m s = not (s == m.core.who) && is_member m.status

-- or at a node that asks to join
abbrev pub member_or_asker_hears_other : Node → ℕ → Bool
member_or_asker_hears_other m s = not (s == m.core.who) && (is_member m.status || is_asking_status m.status)

-- a packet of the view in which the node acts
abbrev pub hears_packet_of_its_view : Node → ℕ → Stamp → Bool
hears_packet_of_its_view m s v = member_hears_other m s && (acts_in_its_view m && stamps_are_equal v (view m))

-- one for the sequencer
abbrev pub sequencer_hears_packet : Node → ℕ → Stamp → Bool
sequencer_hears_packet m s v = hears_packet_of_its_view m s v && is_sequencer m

-- one of the sequencer
abbrev pub hears_packet_of_sequencer : Node → ℕ → Stamp → Bool
hears_packet_of_sequencer m s v = hears_packet_of_its_view m s v && (v.by == s)

-- who passes the gate of a packet's kind
abbrev pub passes_gate : PacketGate → Node → ℕ → Stamp → Bool
passes_gate gates.Member m s v = member_hears_other m s
passes_gate gates.Leading m s v = member_hears_other m s && is_sequencer m
passes_gate gates.OfBeginner m s v = member_hears_other m s && (v.by == s)
passes_gate gates.Early m s v = member_or_asker_hears_other m s && (v.by == s)
passes_gate gates.InView m s v = hears_packet_of_its_view m s v
passes_gate gates.AsSequencer m s v = sequencer_hears_packet m s v
passes_gate gates.OfSequencer m s v = hears_packet_of_sequencer m s v

-- whether a packet is heard
abbrev pub packet_is_heard : Node → Packet → Bool
packet_is_heard m packet = passes_gate (table (head_of packet).kind).gate m (sender_of packet) (stamp_of packet)

-- what is done with a body that its sender spread
abbrev pub row_of_heard_spread : Node → ℕ → Report → ℕ → List ℕ → Plan
row_of_heard_spread m s report req body = if is_sequencer m then request_row m s report req body true else spread_row m s req body

-- what is done where it is heard; a HandOver is a reset with least size 1 and the list's resilience
abbrev pub heard_row : Node → Packet → Plan
heard_row m (Request s v report req body) = request_row m s report req body false
heard_row m (Spread s v report req body) = row_of_heard_spread m s report req body
heard_row m (Bcast s v base acc number e) = bcast_row m s base acc number e
heard_row m (Order s v base acc number from req) = order_row m s base acc number from req
heard_row m (Accept s v base acc high poll) = accept_row m s base acc high poll
heard_row m (Ack s v report) = ack_row m s report
heard_row m (Nack s v report) = nack_row m s report
heard_row m (Hold s v base high req) = hold_row m base high req
heard_row m (JoinAsk s v) = join_ask_row m s
heard_row m (Welcome s v base join image) = welcome_row m s v base join image
heard_row m (LeaveAsk s v report) = leave_ask_row m s v report
heard_row m (Gone s v number) = gone_row m
heard_row m (Invite s v) = invite_row m s v
heard_row m (Vote s v vote) = vote_row m s v vote
heard_row m (Fetch s v stored) = fetch_row m s v stored
heard_row m (Piece s v base number e) = piece_row m s v base number e
heard_row m (Result s base number v) = result_row m s base number v
heard_row m (HandOver s v) = reset_row m 1 (image_of_node m).resilience

-- the row, where the packet may be heard
abbrev pub plan_where_heard : Bool → Node → Plan → Plan
plan_where_heard heard m plan = if heard then plan else plan_without_letters m said.Elsewhere

unfoldable pub hear_row : Node → Packet → Plan
hear_row m packet = plan_where_heard (packet_is_heard m packet) m (heard_row m packet)
