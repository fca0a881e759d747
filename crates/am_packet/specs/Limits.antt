-- Which packets have a spelling.
use Rattle.std.specs.Prelude.{◌≡◌, ◌≤◌, length}
use Rattle.am_base.specs.Most.{most_bytes_of_body}
use Rattle.am_base.specs.declared.entry.Entry.{Entry}
use Rattle.am_base.specs.declared.entry.Entry.TheVariants.{Data, Join, Leave, View}
use Rattle.am_base.specs.Limits.{NumberIsInRange, ReportIsInRange, ImageIsInRange, VoteIsInRange, EntryIsInRange}
use Rattle.am_base.specs.Names.{IsSetOfNames}
use Rattle.am_packet.specs.declared.packet.Packet.{Packet}
use Rattle.am_packet.specs.declared.packet.Packet.TheVariants as packets
use Rattle.am_packet.specs.Spelling.{stamp_of}

-- the numbers of a packet's fields are within their limits
abbrev pub FieldsWithin : Packet → Type 0
FieldsWithin (packets.Request sender stamp report req body) = ReportIsInRange report × NumberIsInRange req
FieldsWithin (packets.Spread sender stamp report req body) = ReportIsInRange report × NumberIsInRange req
FieldsWithin (packets.Bcast sender stamp base acc number entry) = NumberIsInRange base × NumberIsInRange acc × NumberIsInRange number × EntryIsInRange entry
FieldsWithin (packets.Order sender stamp base acc number from req) = NumberIsInRange base × NumberIsInRange acc × NumberIsInRange number × NumberIsInRange req
FieldsWithin (packets.Accept sender stamp base acc top poll) = NumberIsInRange base × NumberIsInRange acc × NumberIsInRange top
FieldsWithin (packets.Ack sender stamp report) = ReportIsInRange report
FieldsWithin (packets.Nack sender stamp report) = ReportIsInRange report
FieldsWithin (packets.Hold sender stamp base top req) = NumberIsInRange base × NumberIsInRange top × NumberIsInRange req
FieldsWithin (packets.Welcome sender stamp base join image) = NumberIsInRange base × NumberIsInRange join × ImageIsInRange image
FieldsWithin (packets.LeaveAsk sender stamp report) = ReportIsInRange report
FieldsWithin (packets.Gone sender stamp number) = NumberIsInRange number
FieldsWithin (packets.Vote sender stamp vote) = VoteIsInRange vote
FieldsWithin (packets.Fetch sender stamp stored) = NumberIsInRange stored
FieldsWithin (packets.Piece sender stamp base number entry) = NumberIsInRange base × NumberIsInRange number × EntryIsInRange entry
FieldsWithin (packets.Result sender base number v) = NumberIsInRange base × NumberIsInRange number × (v.resilience ≤ 15)
FieldsWithin _ = Unit {0}

-- and so is the round of its stamp
unfoldable pub PacketIsWithin : Packet → Type 0
PacketIsWithin packet = NumberIsInRange (stamp_of packet).round × FieldsWithin packet

-- what the parts' types keep: a body has at most 1,024 bytes, a set has a life or 0 for each of sixteen places, and an
-- image sixteen rows
abbrev pub HasEntryParts : Entry → Type 0
HasEntryParts (Data from req body) = length body ≤ most_bytes_of_body
HasEntryParts (Join name) = Unit {0}
HasEntryParts (Leave name) = Unit {0}
HasEntryParts (View v) = IsSetOfNames v.members

unfoldable pub HasParts : Packet → Type 0
HasParts (packets.Request sender stamp report req body) = length body ≤ most_bytes_of_body
HasParts (packets.Spread sender stamp report req body) = length body ≤ most_bytes_of_body
HasParts (packets.Bcast sender stamp base acc number entry) = HasEntryParts entry
HasParts (packets.Welcome sender stamp base join image) = length image.rows ≡ 16
HasParts (packets.Vote sender stamp vote) = IsSetOfNames vote.members
HasParts (packets.Piece sender stamp base number entry) = HasEntryParts entry
HasParts (packets.Result sender base number v) = IsSetOfNames v.members
HasParts _ = Unit {0}

-- a packet that has a spelling
pub record IsPacket (packet : Packet) : Type 0 where
  pub within : PacketIsWithin packet
  pub parts : HasParts packet
