-- A spelling is read as its packet.
use Rattle.std.proofs.Common.{◌≡◌, ℕ, ◌+◌, ◌≤◌, ◌&&◌, true, List, [], ◌++◌, length, drop, Some, Ok, refl, sym, ◌∙◌, arith}
use Rattle.std.specs.Prelude.{nat_le}
use Rattle.std.proofs.lemmas.Bool.{le-leb, le-ltb, eq-eqb, and_from}
use Rattle.byteorder.specs.Endian.{big_bytes}
use Rattle.byteorder.specs.Numbers.{big_number-reads_back}
use Rattle.am_base.specs.declared.entry.Entry.{Entry}
use Rattle.am_base.specs.declared.entry.Entry.TheVariants.{Data, Join, Leave, View}
use Rattle.am_packet.specs.declared.packet.Packet.{Packet}
use Rattle.am_packet.specs.declared.packet.Packet.TheVariants as packets
use Rattle.am_packet.specs.declared.kind.PacketKind.{PacketKind}
use Rattle.am_packet.specs.declared.kind.PacketKind.TheVariants as kinds
use Rattle.am_packet.specs.Kinds.{head_of, packet_kind_number, kind_at, is_total, most_request, greatest_two_byte_count, most_entry}
use Rattle.am_base.specs.Limits.{NumberIsInRange}
use Rattle.am_packet.specs.Limits.{PacketIsWithin, HasParts, HasEntryParts, IsPacket}
use Rattle.am_packet.specs.Spelling.{spelling, fields_of, sender_of, stamp_of, entry_bytes}
use Rattle.am_packet.specs.Reading.{number_at, packet_at, fields_at, of_kind_at, reading, total_in}
use Rattle.am_packet.proofs.Lengths.{length-rows_bytes}
use Rattle.am_packet.proofs.Fields.{bytes_dropped_are_fields_dropped, byte_is_field_byte, number_at_big_bytes, report_at_report_bytes, stamp_at_stamp_bytes, set_at_set_bytes, resilience_at_byte, flag_at_flag_byte}
use Rattle.am_packet.proofs.Parts.{image_at_image_bytes, vote_at_vote_bytes, entry_at_entry_bytes}

pub kind_at_number_of_kind : (kind : PacketKind) → kind_at (packet_kind_number kind) ≡ Some kind
unfolding kind_at
kind_at_number_of_kind kinds.Request = refl
kind_at_number_of_kind _ = refl

round_within : (packet : Packet) → PacketIsWithin packet → NumberIsInRange (stamp_of packet).round
unfolding PacketIsWithin
round_within packet within = within.0

-- ---- how long fields are

entry_short : (entry : Entry) → HasEntryParts entry → length (entry_bytes entry) ≤ most_entry
unfolding entry_bytes
entry_short (Data from req body) parts = omega (arith, parts)
entry_short (Join name) parts = omega arith
entry_short (Leave name) parts = omega arith
entry_short (View v) parts = omega arith

entry_some : (entry : Entry) → 1 ≤ length (entry_bytes entry)
unfolding entry_bytes
entry_some (Data from req body) = omega arith
entry_some (Join name) = omega arith
entry_some (Leave name) = omega arith
entry_some (View v) = omega arith

within_total : (n least most : ℕ) → least ≤ n → n ≤ most → (nat_le least n && nat_le n most) ≡ true
within_total n least most low high = and_from (nat_le least n) (nat_le n most) (le-leb least n low) (le-leb n most high)

total_fits : (packet : Packet) → HasParts packet → is_total (head_of packet).kind (12 + length (fields_of packet)) ≡ true
unfolding HasParts fields_of
total_fits (packets.Request sender stamp report req body) parts =
    within_total (12 + length (fields_of (packets.Request sender stamp report req body))) 24 most_request (omega arith) (omega (arith, parts))
total_fits (packets.Spread sender stamp report req body) parts =
    within_total (12 + length (fields_of (packets.Spread sender stamp report req body))) 24 most_request (omega arith) (omega (arith, parts))
total_fits (packets.Bcast sender stamp base acc number entry) parts =
    within_total (12 + length (fields_of (packets.Bcast sender stamp base acc number entry))) 25 greatest_two_byte_count (omega (arith, entry_some entry))
    (omega (arith, entry_short entry parts))
total_fits (packets.Welcome sender stamp base join image) parts =
    within_total (12 + length (fields_of (packets.Welcome sender stamp base join image))) 238 238 (omega (arith, length-rows_bytes image.rows, parts))
    (omega (arith, length-rows_bytes image.rows, parts))
total_fits (packets.Piece sender stamp base number entry) parts =
    within_total (12 + length (fields_of (packets.Piece sender stamp base number entry))) 21 greatest_two_byte_count (omega (arith, entry_some entry))
    (omega (arith, entry_short entry parts))
total_fits _ parts = refl

pub fields_of_packet_are_short : (packet : Packet) → HasParts packet → length (fields_of packet) ≤ 1100
unfolding HasParts fields_of
fields_of_packet_are_short (packets.Request sender stamp report req body) parts = omega (arith, parts)
fields_of_packet_are_short (packets.Spread sender stamp report req body) parts = omega (arith, parts)
fields_of_packet_are_short (packets.Bcast sender stamp base acc number entry) parts = omega (arith, entry_short entry parts)
fields_of_packet_are_short (packets.Welcome sender stamp base join image) parts = omega (arith, length-rows_bytes image.rows, parts)
fields_of_packet_are_short (packets.Piece sender stamp base number entry) parts = omega (arith, entry_short entry parts)
fields_of_packet_are_short _ parts = omega arith

-- ---- the fields of each kind

-- three numbers that follow one another
record Three (bytes : List ℕ) (a b c : ℕ) : Type 0 where
  first : number_at bytes 12 ≡ Ok a
  second : number_at bytes 16 ≡ Ok b
  third : number_at bytes 20 ≡ Ok c

three_again : (bytes rest : List ℕ) (a b c : ℕ) → drop 12 bytes ≡ big_bytes 4 a ++ big_bytes 4 b ++ big_bytes 4 c ++ rest → NumberIsInRange a → NumberIsInRange b
    → NumberIsInRange c → Three bytes a b c
three_again bytes rest a b c h is-a is-b is-c = record {
  first = number_at_big_bytes bytes _ 12 a h is-a;
  second = number_at_big_bytes bytes _ 16 b (bytes_dropped_are_fields_dropped bytes _ 12 4 h) is-b;
  third = number_at_big_bytes bytes _ 20 c (bytes_dropped_are_fields_dropped bytes _ 12 8 h) is-c;
}

packet_again : (packet : Packet) (bytes : List ℕ) → drop 12 bytes ≡ fields_of packet → length bytes ≡ 12 + length (fields_of packet) → PacketIsWithin packet
    → HasParts packet
    → packet_at (head_of packet).kind (sender_of packet) (stamp_of packet) bytes ≡ Ok packet
unfolding packet_at fields_of PacketIsWithin HasParts
packet_again (packets.Request sender stamp report req body) bytes h long within parts =
    rw (report_at_report_bytes bytes _ 12 report h within.1.0, number_at_big_bytes bytes _ 20 req (bytes_dropped_are_fields_dropped bytes _ 12 8 h) within.1.1, bytes_dropped_are_fields_dropped bytes _ 12 12 h) refl
packet_again (packets.Spread sender stamp report req body) bytes h long within parts =
    rw (report_at_report_bytes bytes _ 12 report h within.1.0, number_at_big_bytes bytes _ 20 req (bytes_dropped_are_fields_dropped bytes _ 12 8 h) within.1.1, bytes_dropped_are_fields_dropped bytes _ 12 12 h) refl
packet_again (packets.Bcast sender stamp base acc number entry) bytes h long within parts =
    let n = three_again bytes _ base acc number h within.1.0 within.1.1 within.1.2 in
    rw (n.first, n.second, n.third, entry_at_entry_bytes bytes 24 entry (bytes_dropped_are_fields_dropped bytes _ 12 12 h) (omega (arith, long)) within.1.3 parts) refl
packet_again (packets.Order sender stamp base acc number from req) bytes h long within parts =
    let n = three_again bytes _ base acc number h within.1.0 within.1.1 within.1.2 in
    rw (n.first, n.second, n.third, number_at_big_bytes bytes _ 25 req (bytes_dropped_are_fields_dropped bytes _ 12 13 h) within.1.3, byte_is_field_byte bytes _ 12 12 h) refl
packet_again (packets.Accept sender stamp base acc top poll) bytes h long within parts =
    let n = three_again bytes _ base acc top h within.1.0 within.1.1 within.1.2 in
    rw (n.first, n.second, n.third, flag_at_flag_byte bytes 24 poll (byte_is_field_byte bytes _ 12 12 h)) refl
packet_again (packets.Ack sender stamp report) bytes h long within parts =
    rw (report_at_report_bytes bytes _ 12 report h within.1) refl
packet_again (packets.Nack sender stamp report) bytes h long within parts =
    rw (report_at_report_bytes bytes _ 12 report h within.1) refl
packet_again (packets.Hold sender stamp base top req) bytes h long within parts =
    let n = three_again bytes [] base top req h within.1.0 within.1.1 within.1.2 in
    rw (n.first, n.second, n.third) refl
packet_again (packets.Welcome sender stamp base join image) bytes h long within parts =
    rw (
      number_at_big_bytes bytes _ 12 base h within.1.0,
      number_at_big_bytes bytes _ 16 join (bytes_dropped_are_fields_dropped bytes _ 12 4 h) within.1.1,
      image_at_image_bytes bytes 20 image (bytes_dropped_are_fields_dropped bytes _ 12 8 h) within.1.2,
    ) refl
packet_again (packets.LeaveAsk sender stamp report) bytes h long within parts =
    rw (report_at_report_bytes bytes _ 12 report h within.1) refl
packet_again (packets.Gone sender stamp number) bytes h long within parts =
    rw (number_at_big_bytes bytes _ 12 number h within.1) refl
packet_again (packets.Vote sender stamp vote) bytes h long within parts =
    rw (vote_at_vote_bytes bytes 12 vote h within.1 parts) refl
packet_again (packets.Fetch sender stamp stored) bytes h long within parts =
    rw (number_at_big_bytes bytes _ 12 stored h within.1) refl
packet_again (packets.Piece sender stamp base number entry) bytes h long within parts =
    rw (
      number_at_big_bytes bytes _ 12 base h within.1.0,
      number_at_big_bytes bytes _ 16 number (bytes_dropped_are_fields_dropped bytes _ 12 4 h) within.1.1,
      entry_at_entry_bytes bytes 20 entry (bytes_dropped_are_fields_dropped bytes _ 12 8 h) (omega (arith, long)) within.1.2,
    ) refl
packet_again (packets.Result sender base number v) bytes h long within parts =
    rw (
      number_at_big_bytes bytes _ 12 base h within.1.0,
      number_at_big_bytes bytes _ 16 number (bytes_dropped_are_fields_dropped bytes _ 12 4 h) within.1.1,
      set_at_set_bytes bytes _ 20 v.members (bytes_dropped_are_fields_dropped bytes _ 12 8 h) parts,
      resilience_at_byte bytes 30 v.resilience (byte_is_field_byte bytes _ 12 18 h) within.1.2,
    ) refl
packet_again _ bytes h long within parts = refl

-- ---- all of a spelling

pub length-spelling : (packet : Packet) → length (spelling packet) ≡ 12 + length (fields_of packet)
unfolding spelling
length-spelling packet = omega arith

total-spelling : (packet : Packet) → HasParts packet → total_in (spelling packet) ≡ 12 + length (fields_of packet)
unfolding spelling
total-spelling packet parts = big_number-reads_back 2 (12 + length (fields_of packet)) (fields_of packet) (omega (arith, fields_of_packet_are_short packet parts))

pub reading_of_spelling : (packet : Packet) → IsPacket packet → reading (spelling packet) ≡ Ok packet
unfolding reading of_kind_at fields_at spelling
reading_of_spelling packet is =
    let bytes = spelling packet in
    let long : length bytes ≡ 12 + length (fields_of packet) = length-spelling packet in
    let same : total_in bytes ≡ length bytes = total-spelling packet is.parts ∙ sym long in
    rw (
      le-ltb (length bytes) 12 (omega arith),
      kind_at_number_of_kind (head_of packet).kind,
      eq-eqb (total_in bytes) (length bytes) same,
      stamp_at_stamp_bytes bytes _ 5 (stamp_of packet) refl (round_within packet is.within),
      long,
      total_fits packet is.parts,
    )
    (packet_again packet bytes refl long is.within is.parts)
