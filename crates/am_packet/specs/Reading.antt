-- What bytes spell, or the first cause that they are no packet.
use Rattle.std.specs.Prelude.{ℕ, zero, suc, ◌+◌, List, [], ◌∷◌, length, drop, min, Bool, true, false, not, ◌==◌, ◌&&◌, nat_lt, nat_le, if◌then◌else◌, Option}
use Rattle.std.specs.Prelude.{Some, None, Result, Ok, Err, slice_index}
use Rattle.am_base.specs.Most.{greatest_number, greatest_word}
use Rattle.byteorder.specs.Endian.{big_number}
use Rattle.am_base.specs.declared.entry.GroupView.{GroupView}
use Rattle.am_base.specs.declared.name.Stamp.{Stamp}
use Rattle.am_base.specs.declared.image.Row.{Row}
use Rattle.am_base.specs.declared.image.Report.{Report}
use Rattle.am_base.specs.declared.image.Vote.{Vote}
use Rattle.am_base.specs.declared.image.Image.{Image}
use Rattle.am_base.specs.declared.entry.Entry.{Entry}
use Rattle.am_base.specs.declared.entry.Entry.TheVariants.{Data, Join, Leave, View}
use Rattle.am_base.specs.Names.{names_of_mask_and_lives, are_mask_and_lives}
use Rattle.am_packet.specs.declared.packet.Packet.{Packet}
use Rattle.am_packet.specs.declared.packet.Packet.TheVariants as packets
use Rattle.am_packet.specs.declared.refusal.PacketRefusal.{PacketRefusal}
use Rattle.am_packet.specs.declared.refusal.PacketRefusal.TheVariants.{Short, BadMark, BadVersion, BadKind, BadLength, BadField}
use Rattle.am_packet.specs.declared.kind.PacketKind.{PacketKind}
use Rattle.am_packet.specs.declared.kind.PacketKind.TheVariants as kinds
use Rattle.am_packet.specs.Kinds.{kind_at, is_total, most_entry}

abbrev pub Read : Type 0 → Type 0
Read A = Result A PacketRefusal

infixl 10 ◌>>=◌
abbrev pub ◌>>=◌ : {A B : Type 0} → Read A → (A → Read B) → Read B
(Ok x) >>= f = f x
(Err e) >>= f = Err e

-- the number in the four bytes from a place on, which has its limit
unfoldable pub number_at : List ℕ → ℕ → Read ℕ
number_at bytes at = if nat_le (big_number 4 (drop at bytes)) greatest_number then Ok (big_number 4 (drop at bytes)) else Err (BadField at)

unfoldable pub report_at : List ℕ → ℕ → Read Report
report_at bytes at = do
  stored ← number_at bytes at
  taken ← number_at bytes (at + 4)
  Ok (record { stored = stored; taken = taken })

unfoldable pub stamp_at : List ℕ → ℕ → Read Stamp
stamp_at bytes at = do
  round ← number_at bytes at
  Ok (record { round = round; by = slice_index bytes (at + 4) })

-- a set of names: a mask, and lives that are 0 outside it
unfoldable pub read_set_at : List ℕ → ℕ → Read (List ℕ)
read_set_at bytes at =
    if are_mask_and_lives (big_number 2 (drop at bytes)) (big_number 8 (drop (at + 2) bytes))
    then Ok (names_of_mask_and_lives (big_number 2 (drop at bytes)) (big_number 8 (drop (at + 2) bytes)))
    else Err (BadField (at + 2))

unfoldable pub resilience_at : List ℕ → ℕ → Read ℕ
resilience_at bytes at = if nat_le (slice_index bytes at) 15 then Ok (slice_index bytes at) else Err (BadField at)

unfoldable pub flag_at : List ℕ → ℕ → Read Bool
flag_at bytes at = if slice_index bytes at == 0 then Ok false else if slice_index bytes at == 1 then Ok true else Err (BadField at)

-- a life, which is 0 where the number of its Join is
unfoldable pub life_at : List ℕ → ℕ → ℕ → Read ℕ
life_at bytes at joined =
    if nat_le (slice_index bytes at) 16 then (if slice_index bytes at
    == 0 then (if joined == 0 then Ok (slice_index bytes at) else Err (BadField at)) else
    (if joined == 0 then Err (BadField at) else Ok (slice_index bytes at)))
    else Err (BadField at)

unfoldable pub read_row_at : List ℕ → ℕ → Read Row
read_row_at bytes at = do
  joined ← number_at bytes (at + 1)
  life ← life_at bytes at joined
  left ← number_at bytes (at + 5)
  last ← number_at bytes (at + 9)
  Ok (record { life = life; joined = joined; left = left; last = last })

unfoldable pub rows_at : ℕ → List ℕ → ℕ → Read (List Row)
rows_at zero bytes at = Ok []
rows_at (suc more) bytes at = do
  row ← read_row_at bytes at
  rows ← rows_at more bytes (at + 13)
  Ok (row ∷ rows)

unfoldable pub read_image_at : List ℕ → ℕ → Read Image
read_image_at bytes at = do
  view ← stamp_at bytes at
  view_number ← number_at bytes (at + 5)
  resilience ← resilience_at bytes (at + 9)
  rows ← rows_at 16 bytes (at + 10)
  Ok (record { view = view; view_number = view_number; resilience = resilience; rows = rows })

unfoldable pub vote_at : List ℕ → ℕ → Read Vote
vote_at bytes at = do
  view ← stamp_at bytes at
  top ← number_at bytes (at + 5)
  taken ← number_at bytes (at + 9)
  members ← read_set_at bytes (at + 13)
  Ok (record { view = view; top = top; taken = taken; members = members })

-- the entries of each tag; a total that the tag can't have comes before its fields
unfoldable pub data_at : List ℕ → ℕ → Read Entry
data_at bytes at =
    if nat_le (at + 6) (length bytes) && nat_le (length bytes) (at + most_entry)
    then (number_at bytes (at + 2) >>= λ req. Ok (Data (slice_index bytes (at + 1)) req (drop (at + 6) bytes)))
    else Err (BadField 10)

unfoldable pub join_at : List ℕ → ℕ → Read Entry
join_at bytes at = if length bytes == at + 2 then Ok (Join (slice_index bytes (at + 1))) else Err (BadField 10)

unfoldable pub leave_at : List ℕ → ℕ → Read Entry
leave_at bytes at = if length bytes == at + 2 then Ok (Leave (slice_index bytes (at + 1))) else Err (BadField 10)

-- a view of these fields
abbrev pub viewed : Stamp → List ℕ → ℕ → GroupView
viewed stamp members resilience = record { stamp = stamp; members = members; resilience = resilience }

unfoldable pub view_fields_at : List ℕ → ℕ → Read Entry
view_fields_at bytes at = do
  stamp ← stamp_at bytes (at + 1)
  members ← read_set_at bytes (at + 6)
  resilience ← resilience_at bytes (at + 16)
  Ok (View (viewed stamp members resilience))

unfoldable pub view_at : List ℕ → ℕ → Read Entry
view_at bytes at = if length bytes == at + 17 then view_fields_at bytes at else Err (BadField 10)

unfoldable pub read_entry_at : List ℕ → ℕ → Read Entry
read_entry_at bytes at =
    if slice_index bytes at == 1 then data_at bytes at
    else if slice_index bytes at == 2 then join_at bytes at
    else if slice_index bytes at == 3 then leave_at bytes at
    else if slice_index bytes at == 4 then view_at bytes at
    else Err (BadField at)

-- what comes of the two numbers after the header
abbrev pub two_at : List ℕ → (ℕ → ℕ → Read Packet) → Read Packet
two_at bytes make = number_at bytes 12 >>= λ first. number_at bytes 16 >>= λ second. make first second

-- what comes of the three numbers there
abbrev pub three_at : List ℕ → (ℕ → ℕ → ℕ → Read Packet) → Read Packet
three_at bytes make = two_at bytes (λ first second. number_at bytes 20 >>= λ third. make first second third)

-- the packet of a kind, a sender and a stamp, by its fields after the header
unfoldable pub packet_at : PacketKind → ℕ → Stamp → List ℕ → Read Packet
packet_at kinds.Request sender stamp bytes =
    report_at bytes 12 >>= λ report. number_at bytes 20 >>= λ req. Ok (packets.Request sender stamp report req (drop 24 bytes))
packet_at kinds.Spread sender stamp bytes =
    report_at bytes 12 >>= λ report. number_at bytes 20 >>= λ req. Ok (packets.Spread sender stamp report req (drop 24 bytes))
packet_at kinds.Bcast sender stamp bytes =
    three_at bytes (λ base acc number. read_entry_at bytes 24 >>= λ entry. Ok (packets.Bcast sender stamp base acc number entry))
packet_at kinds.Order sender stamp bytes =
    three_at bytes (λ base acc number. number_at bytes 25 >>= λ req. Ok (packets.Order sender stamp base acc number (slice_index bytes 24) req))
packet_at kinds.Accept sender stamp bytes =
    three_at bytes (λ base acc top. flag_at bytes 24 >>= λ poll. Ok (packets.Accept sender stamp base acc top poll))
packet_at kinds.Ack sender stamp bytes = report_at bytes 12 >>= λ report. Ok (packets.Ack sender stamp report)
packet_at kinds.Nack sender stamp bytes = report_at bytes 12 >>= λ report. Ok (packets.Nack sender stamp report)
packet_at kinds.Hold sender stamp bytes = three_at bytes (λ base top req. Ok (packets.Hold sender stamp base top req))
packet_at kinds.JoinAsk sender stamp bytes = Ok (packets.JoinAsk sender stamp)
packet_at kinds.Welcome sender stamp bytes =
    two_at bytes (λ base join. read_image_at bytes 20 >>= λ image. Ok (packets.Welcome sender stamp base join image))
packet_at kinds.LeaveAsk sender stamp bytes = report_at bytes 12 >>= λ report. Ok (packets.LeaveAsk sender stamp report)
packet_at kinds.Gone sender stamp bytes = number_at bytes 12 >>= λ number. Ok (packets.Gone sender stamp number)
packet_at kinds.Invite sender stamp bytes = Ok (packets.Invite sender stamp)
packet_at kinds.Vote sender stamp bytes = vote_at bytes 12 >>= λ vote. Ok (packets.Vote sender stamp vote)
packet_at kinds.Fetch sender stamp bytes = number_at bytes 12 >>= λ stored. Ok (packets.Fetch sender stamp stored)
packet_at kinds.Piece sender stamp bytes =
    two_at bytes (λ base number. read_entry_at bytes 20 >>= λ entry. Ok (packets.Piece sender stamp base number entry))
packet_at kinds.Result sender stamp bytes =
    two_at bytes (λ base number. read_set_at bytes 20 >>= λ members. resilience_at bytes 30 >>= λ resilience. Ok
    (packets.Result sender base number (viewed stamp members resilience)))
packet_at kinds.HandOver sender stamp bytes = Ok (packets.HandOver sender stamp)

-- what stands in the header
abbrev pub has_mark : List ℕ → Bool
has_mark bytes = (slice_index bytes 0 == 65) && (slice_index bytes 1 == 71)

abbrev pub version_in : List ℕ → ℕ
version_in bytes = slice_index bytes 2

abbrev pub kind_in : List ℕ → ℕ
kind_in bytes = slice_index bytes 3

abbrev pub total_in : List ℕ → ℕ
total_in bytes = big_number 2 (drop 10 bytes)

-- how many bytes there are, as far as a refusal can tell
abbrev pub found_in : List ℕ → ℕ
found_in bytes = min (length bytes) greatest_word

-- the stamp's round, then the total of the kind, then the fields
unfoldable pub fields_at : PacketKind → List ℕ → Read Packet
fields_at kind bytes = do
  stamp ← stamp_at bytes 5
  if is_total kind (length bytes) then packet_at kind (slice_index bytes 4) stamp bytes else Err (BadField 10)

unfoldable pub of_kind_at : Option PacketKind → List ℕ → Read Packet
of_kind_at None bytes = Err (BadKind (kind_in bytes))
of_kind_at (Some kind) bytes = if total_in bytes == length bytes then fields_at kind bytes else Err (BadLength (total_in bytes) (found_in bytes))

-- what the bytes spell, or the first cause that they spell nothing
unfoldable pub reading : List ℕ → Read Packet
reading bytes =
    if nat_lt (length bytes) 12 then Err Short
    else if not (has_mark bytes) then Err BadMark
    else if not (version_in bytes == 3) then Err (BadVersion (version_in bytes))
    else of_kind_at (kind_at (kind_in bytes)) bytes

-- the number of a cause
abbrev pub refusal_number : PacketRefusal → ℕ
refusal_number Short = 1
refusal_number BadMark = 2
refusal_number (BadVersion version) = 3
refusal_number (BadKind kind) = 4
refusal_number (BadLength said found) = 5
refusal_number (BadField at) = 6
