-- The one spelling of each packet. A number field of so many bytes has its most significant byte first.
use Rattle.std.specs.Prelude.{ℕ, ◌+◌, List, [], ◌∷◌, ◌++◌, length, Bool, true, false}
use Rattle.byteorder.specs.Endian.{big_bytes}
use Rattle.am_base.specs.declared.name.Stamp.{Stamp}
use Rattle.am_base.specs.declared.image.Row.{Row}
use Rattle.am_base.specs.declared.image.Report.{Report}
use Rattle.am_base.specs.declared.image.Vote.{Vote}
use Rattle.am_base.specs.declared.image.Image.{Image}
use Rattle.am_base.specs.declared.entry.Entry.{Entry}
use Rattle.am_base.specs.declared.entry.Entry.TheVariants.{Data, Join, Leave, View}
use Rattle.am_base.specs.Names.{mask_of_names, lives_of_names}
use Rattle.am_packet.specs.declared.packet.Packet.{Packet}
use Rattle.am_packet.specs.declared.packet.Packet.TheVariants as packets
use Rattle.am_packet.specs.Kinds.{head_of, kind_of}

abbrev pub sender_of : Packet → ℕ
sender_of packet = (head_of packet).sender

abbrev pub stamp_of : Packet → Stamp
stamp_of packet = (head_of packet).stamp

abbrev pub stamp_bytes : Stamp → List ℕ
stamp_bytes stamp = big_bytes 4 stamp.round ++ stamp.by ∷ []

-- two numbers
abbrev pub two_bytes : ℕ → ℕ → List ℕ
two_bytes first second = big_bytes 4 first ++ big_bytes 4 second

abbrev pub report_bytes : Report → List ℕ
report_bytes report = big_bytes 4 report.stored ++ big_bytes 4 report.taken

-- a set of names: its places as a mask, and their lives
abbrev pub set_bytes : List ℕ → List ℕ
set_bytes set = big_bytes 2 (mask_of_names set) ++ big_bytes 8 (lives_of_names set)

abbrev pub row_bytes : Row → List ℕ
row_bytes row = row.life ∷ [] ++ big_bytes 4 row.joined ++ big_bytes 4 row.left ++ big_bytes 4 row.last

unfoldable pub rows_bytes : List Row → List ℕ
rows_bytes [] = []
rows_bytes (row ∷ rows) = row_bytes row ++ rows_bytes rows

abbrev pub image_bytes : Image → List ℕ
image_bytes image = stamp_bytes image.view ++ big_bytes 4 image.view_number ++ image.resilience ∷ [] ++ rows_bytes image.rows

abbrev pub vote_bytes : Vote → List ℕ
vote_bytes vote = stamp_bytes vote.view ++ big_bytes 4 vote.top ++ big_bytes 4 vote.taken ++ set_bytes vote.members

abbrev pub flag_byte : Bool → ℕ
flag_byte true = 1
flag_byte false = 0

-- an entry: its tag, and the tag's fields
unfoldable pub entry_bytes : Entry → List ℕ
entry_bytes (Data from req body) = 1 ∷ from ∷ [] ++ big_bytes 4 req ++ body
entry_bytes (Join name) = 2 ∷ name ∷ []
entry_bytes (Leave name) = 3 ∷ name ∷ []
entry_bytes (View v) = 4 ∷ [] ++ stamp_bytes v.stamp ++ set_bytes v.members ++ v.resilience ∷ []

-- a packet's fields after its header
unfoldable pub fields_of : Packet → List ℕ
fields_of (packets.Request sender stamp report req body) = report_bytes report ++ big_bytes 4 req ++ body
fields_of (packets.Spread sender stamp report req body) = report_bytes report ++ big_bytes 4 req ++ body
fields_of (packets.Bcast sender stamp base acc number entry) = big_bytes 4 base ++ big_bytes 4 acc ++ big_bytes 4 number ++ entry_bytes entry
fields_of (packets.Order sender stamp base acc number from req) = big_bytes 4 base ++ big_bytes 4 acc ++ big_bytes 4 number ++ from ∷ [] ++ big_bytes 4 req
fields_of (packets.Accept sender stamp base acc top poll) = big_bytes 4 base ++ big_bytes 4 acc ++ big_bytes 4 top ++ flag_byte poll ∷ []
fields_of (packets.Ack sender stamp report) = report_bytes report
fields_of (packets.Nack sender stamp report) = report_bytes report
fields_of (packets.Hold sender stamp base top req) = big_bytes 4 base ++ big_bytes 4 top ++ big_bytes 4 req
fields_of (packets.Welcome sender stamp base join image) = big_bytes 4 base ++ big_bytes 4 join ++ image_bytes image
fields_of (packets.LeaveAsk sender stamp report) = report_bytes report
fields_of (packets.Gone sender stamp number) = big_bytes 4 number
fields_of (packets.Vote sender stamp vote) = vote_bytes vote
fields_of (packets.Fetch sender stamp stored) = big_bytes 4 stored
fields_of (packets.Piece sender stamp base number entry) = big_bytes 4 base ++ big_bytes 4 number ++ entry_bytes entry
fields_of (packets.Result sender base number v) = big_bytes 4 base ++ big_bytes 4 number ++ set_bytes v.members ++ v.resilience ∷ []
fields_of _ = []

-- the mark AG, the version 3, the kind, the sender, the stamp, and the number of all bytes
abbrev pub header : ℕ → ℕ → Stamp → ℕ → List ℕ
header kind sender stamp total = 65 ∷ 71 ∷ 3 ∷ kind ∷ sender ∷ [] ++ stamp_bytes stamp ++ big_bytes 2 total

unfoldable pub spelling : Packet → List ℕ
spelling packet = header (kind_of packet) (sender_of packet) (stamp_of packet) (12 + length (fields_of packet)) ++ fields_of packet
