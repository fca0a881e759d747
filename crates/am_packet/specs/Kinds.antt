-- The kinds of packets, in one table; and the kind, the sender and the stamp of a packet.
use Rattle.std.specs.Prelude.{ℕ, List, [], ◌∷◌, codes, find, Option, Bool, ◌==◌, ◌&&◌, nat_le}
use Rattle.am_base.specs.declared.name.Stamp.{Stamp}
use Rattle.am_packet.specs.declared.kind.PacketGate.{PacketGate}
use Rattle.am_packet.specs.declared.kind.PacketGate.TheVariants as gates
use Rattle.am_packet.specs.declared.kind.PacketKind.{PacketKind}
use Rattle.am_packet.specs.declared.kind.PacketKind.TheVariants as kinds
use Rattle.am_packet.specs.declared.packet.Packet.{Packet}
use Rattle.am_packet.specs.declared.packet.Packet.TheVariants as packets

-- The most bytes of a Request and of a Spread, 24 before a body's; of an entry, 6 before a body's; and the most that the count in a packet
-- can tell.
abbrev pub most_request : ℕ
most_request = 1048

abbrev pub most_entry : ℕ
most_entry = 1030

abbrev pub greatest_two_byte_count : ℕ
greatest_two_byte_count = 65535

-- a kind: the number in a packet's fourth byte, its name in texts, the least and the greatest number of bytes of its packets, and who hears them
pub record KindRow : Type 0 where
  pub number : ℕ
  pub word : List ℕ
  pub least : ℕ
  pub most : ℕ
  pub gate : PacketGate

abbrev pub kind_row : ℕ → List ℕ → ℕ → ℕ → PacketGate → KindRow
kind_row number word least most gate = record { number = number; word = word; least = least; most = most; gate = gate }

abbrev pub table : PacketKind → KindRow
table kinds.Request = kind_row 1 (codes "Request") 24 most_request gates.AsSequencer
table kinds.Spread = kind_row 2 (codes "Spread") 24 most_request gates.InView
table kinds.Bcast = kind_row 3 (codes "Bcast") 25 greatest_two_byte_count gates.OfSequencer
table kinds.Order = kind_row 4 (codes "Order") 29 29 gates.OfSequencer
table kinds.Accept = kind_row 5 (codes "Accept") 25 25 gates.OfSequencer
table kinds.Ack = kind_row 6 (codes "Ack") 20 20 gates.AsSequencer
table kinds.Nack = kind_row 7 (codes "Nack") 20 20 gates.AsSequencer
table kinds.Hold = kind_row 8 (codes "Hold") 24 24 gates.OfSequencer
-- of joins and leaves
table kinds.JoinAsk = kind_row 9 (codes "JoinAsk") 12 12 gates.Leading
table kinds.Welcome = kind_row 10 (codes "Welcome") 238 238 gates.Early
table kinds.LeaveAsk = kind_row 11 (codes "LeaveAsk") 20 20 gates.Leading
table kinds.Gone = kind_row 12 (codes "Gone") 16 16 gates.Member
-- of ballots and of catching up
table kinds.Invite = kind_row 13 (codes "Invite") 12 12 gates.Early
table kinds.Vote = kind_row 14 (codes "Vote") 35 35 gates.Member
table kinds.Fetch = kind_row 15 (codes "Fetch") 16 16 gates.Member
table kinds.Piece = kind_row 16 (codes "Piece") 21 greatest_two_byte_count gates.Member
table kinds.Result = kind_row 17 (codes "Result") 31 31 gates.OfBeginner
table kinds.HandOver = kind_row 18 (codes "HandOver") 12 12 gates.OfSequencer

abbrev pub all_kinds : List PacketKind
all_kinds = kinds.Request ∷ kinds.Spread ∷ kinds.Bcast ∷ kinds.Order ∷ kinds.Accept ∷ kinds.Ack ∷ kinds.Nack ∷ kinds.Hold ∷ kinds.JoinAsk ∷ kinds.Welcome
    ∷ kinds.LeaveAsk ∷ kinds.Gone ∷ kinds.Invite ∷ kinds.Vote ∷ kinds.Fetch ∷ kinds.Piece ∷ kinds.Result ∷ kinds.HandOver ∷ []

abbrev pub packet_kind_number : PacketKind → ℕ
packet_kind_number kind = (table kind).number

abbrev pub least_total : PacketKind → ℕ
least_total kind = (table kind).least

abbrev pub most_total : PacketKind → ℕ
most_total kind = (table kind).most

abbrev pub is_total : PacketKind → ℕ → Bool
is_total kind total = nat_le (least_total kind) total && nat_le total (most_total kind)

-- the kind of a number
unfoldable pub kind_at : ℕ → Option PacketKind
kind_at n = find (λ kind. n == packet_kind_number kind) all_kinds

-- ---- packets

-- what a packet of any kind has
pub record Head : Type 0 where
  pub kind : PacketKind
  pub sender : ℕ
  pub stamp : Stamp

abbrev pub head : PacketKind → ℕ → Stamp → Head
head kind sender stamp = record { kind = kind; sender = sender; stamp = stamp }

abbrev pub head_of : Packet → Head
head_of (packets.Request sender stamp report req body) = head kinds.Request sender stamp
head_of (packets.Spread sender stamp report req body) = head kinds.Spread sender stamp
head_of (packets.Bcast sender stamp base acc number entry) = head kinds.Bcast sender stamp
head_of (packets.Order sender stamp base acc number from req) = head kinds.Order sender stamp
head_of (packets.Accept sender stamp base acc top poll) = head kinds.Accept sender stamp
head_of (packets.Ack sender stamp report) = head kinds.Ack sender stamp
head_of (packets.Nack sender stamp report) = head kinds.Nack sender stamp
head_of (packets.Hold sender stamp base top req) = head kinds.Hold sender stamp
head_of (packets.JoinAsk sender stamp) = head kinds.JoinAsk sender stamp
head_of (packets.Welcome sender stamp base join image) = head kinds.Welcome sender stamp
head_of (packets.LeaveAsk sender stamp report) = head kinds.LeaveAsk sender stamp
head_of (packets.Gone sender stamp number) = head kinds.Gone sender stamp
head_of (packets.Invite sender stamp) = head kinds.Invite sender stamp
head_of (packets.Vote sender stamp vote) = head kinds.Vote sender stamp
head_of (packets.Fetch sender stamp stored) = head kinds.Fetch sender stamp
head_of (packets.Piece sender stamp base number entry) = head kinds.Piece sender stamp
head_of (packets.Result sender base number v) = head kinds.Result sender v.stamp
head_of (packets.HandOver sender stamp) = head kinds.HandOver sender stamp

-- the number of its kind
abbrev pub kind_of : Packet → ℕ
kind_of packet = packet_kind_number (head_of packet).kind

-- a request to join goes to any life of its places
abbrev pub goes_to_any : Packet → Bool
goes_to_any packet = kind_of packet == 9
