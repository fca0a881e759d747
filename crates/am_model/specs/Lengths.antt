-- How many bytes a packet has.
use Rattle.std.specs.Prelude.{ℕ, ◌+◌, length}
use Rattle.am_base.specs.declared.entry.Entry.{Entry}
use Rattle.am_base.specs.declared.entry.Entry.TheVariants.{Data, Join, Leave, View}
use Rattle.am_packet.specs.declared.packet.Packet.{Packet}
use Rattle.am_packet.specs.declared.packet.Packet.TheVariants as packet

abbrev pub entry_length : Entry → ℕ
entry_length (Data from req body) = 6 + length body
entry_length (Join name) = 2
entry_length (Leave name) = 2
entry_length (View v) = 17

abbrev pub packet_length : Packet → ℕ
packet_length (packet.Request s v report req body) = 24 + length body
packet_length (packet.Spread s v report req body) = 24 + length body
packet_length (packet.Bcast s v base acc number e) = 24 + entry_length e
packet_length (packet.Order s v base acc number from req) = 29
packet_length (packet.Accept s v base acc high poll) = 25
packet_length (packet.Ack s v report) = 20
packet_length (packet.Nack s v report) = 20
packet_length (packet.Hold s v base high req) = 24
packet_length (packet.Welcome s v base join image) = 238
packet_length (packet.LeaveAsk s v report) = 20
packet_length (packet.Gone s v number) = 16
packet_length (packet.Vote s v vote) = 35
packet_length (packet.Fetch s v stored) = 16
packet_length (packet.Piece s v base number e) = 20 + entry_length e
packet_length (packet.Result s base number v) = 31
packet_length _ = 12
