-- The numbers of a packet that is heard are within their limits, by its kind.
use Rattle.std.proofs.Common.{ℕ, List}
use Rattle.am_base.specs.declared.entry.Entry.{Entry}
use Rattle.am_base.specs.declared.entry.Entry.TheVariants.{View}
use Rattle.am_base.specs.declared.entry.GroupView.{GroupView}
use Rattle.am_base.specs.declared.image.Image.{Image}
use Rattle.am_base.specs.declared.image.Report.{Report}
use Rattle.am_base.specs.declared.image.Vote.{Vote}
use Rattle.am_base.specs.declared.name.Stamp.{Stamp}
use Rattle.am_base.specs.Limits.{NumberIsInRange, EntryIsInRange, ImageIsInRange}
use Rattle.am_packet.specs.declared.packet.Packet.TheVariants as packets
use Rattle.am_packet.specs.Limits.{PacketIsWithin}

pub request_number_of_packet : (s : ℕ) (v : Stamp) (report : Report) (req : ℕ) (body : List ℕ) → PacketIsWithin (packets.Request s v report req body) → NumberIsInRange req
unfolding PacketIsWithin
request_number_of_packet s v report req body is = is.1.1

pub spread_number_of_packet : (s : ℕ) (v : Stamp) (report : Report) (req : ℕ) (body : List ℕ) → PacketIsWithin (packets.Spread s v report req body) → NumberIsInRange req
unfolding PacketIsWithin
spread_number_of_packet s v report req body is = is.1.1

pub bcast_number_of_packet : (s : ℕ) (v : Stamp) (base acc number : ℕ) (e : Entry) → PacketIsWithin (packets.Bcast s v base acc number e) → NumberIsInRange number × EntryIsInRange e
unfolding PacketIsWithin
bcast_number_of_packet s v base acc number e is = (is.1.2, is.1.3)

pub order_number_of_packet : (s : ℕ) (v : Stamp) (base acc number from req : ℕ) → PacketIsWithin (packets.Order s v base acc number from req) → NumberIsInRange number × NumberIsInRange req
unfolding PacketIsWithin
order_number_of_packet s v base acc number from req is = (is.1.2, is.1.3)

pub welcome_numbers_of_packet : (s : ℕ) (v : Stamp) (base join : ℕ) (image : Image) → PacketIsWithin (packets.Welcome s v base join image) → NumberIsInRange v.round × NumberIsInRange base
    × ImageIsInRange image
unfolding PacketIsWithin
welcome_numbers_of_packet s v base join image is = (is.0, is.1.0, is.1.2)

pub invite_round_of_packet : (s : ℕ) (v : Stamp) → PacketIsWithin (packets.Invite s v) → NumberIsInRange v.round
unfolding PacketIsWithin
invite_round_of_packet s v is = is.0

pub vote_round_of_packet : (s : ℕ) (v : Stamp) (vote : Vote) → PacketIsWithin (packets.Vote s v vote) → NumberIsInRange v.round
unfolding PacketIsWithin
vote_round_of_packet s v vote is = is.0

pub piece_entry_of_packet : (s : ℕ) (v : Stamp) (base number : ℕ) (e : Entry) → PacketIsWithin (packets.Piece s v base number e) → EntryIsInRange e
unfolding PacketIsWithin
piece_entry_of_packet s v base number e is = is.1.2

pub result_view_of_packet : (s base number : ℕ) (v : GroupView) → PacketIsWithin (packets.Result s base number v) → EntryIsInRange (View v)
unfolding PacketIsWithin
result_view_of_packet s base number v is = (is.0, is.1.2)
