-- What is read as a packet is its fields' spelling, kind by kind.
use Rattle.std.proofs.Common.{◌≡◌, ℕ, ◌≤◌, List, [], ◌∷◌, ◌++◌, length, drop, slice_index, Ok, refl, sym, ap, subst, ◌∙◌, arith}
use Rattle.std.proofs.lemmas.List.{drop_all, length-drop}
use Rattle.byteorder.specs.Endian.{big_bytes}
use Rattle.am_base.specs.declared.name.Stamp.{Stamp}
use Rattle.am_base.specs.declared.image.Report.{Report}
use Rattle.am_packet.specs.declared.packet.Packet.{Packet}
use Rattle.am_packet.specs.declared.packet.Packet.TheVariants as packets
use Rattle.am_packet.specs.declared.kind.PacketKind.{PacketKind}
use Rattle.am_packet.specs.declared.kind.PacketKind.TheVariants as kinds
use Rattle.am_packet.specs.Kinds.{Head, head, head_of, least_total, most_total}
use Rattle.am_base.specs.Limits.{NumberIsInRange, ReportIsInRange}
use Rattle.am_packet.specs.Limits.{FieldsWithin, HasParts}
use Rattle.am_packet.specs.Spelling.{fields_of, report_bytes, set_bytes, image_bytes, vote_bytes, flag_byte}
use Rattle.am_packet.specs.Reading.{Read, ◌>>=◌, number_at, report_at, read_set_at, resilience_at, flag_at, read_image_at, viewed, vote_at, read_entry_at, packet_at}
use Rattle.am_packet.specs.Laws.{IsBytes}
use Rattle.am_packet.proofs.Fields.{BytesTakePiece, read_that_is_done, bound_read_is_ok, done_read_is_injective, pieces_taken_follow, piece_taken_up_to_end, byte_is_taken_by_read, number_is_taken_by_read, report_is_taken_by_read, set_is_taken_by_read, resilience_is_taken_by_read}
use Rattle.am_packet.proofs.Fields.{flag_is_taken_by_read}
use Rattle.am_packet.proofs.Parts.{image_is_taken_by_read, vote_is_taken_by_read, entry_read_ends_bytes}

-- the packet has this head, and its fields stand after the header
pub record BytesSpellPacket (h : Head) (bytes : List ℕ) (packet : Packet) : Type 0 where
  pub head_is : head_of packet ≡ h
  pub fields_are : drop 12 bytes ≡ fields_of packet
  pub within : FieldsWithin packet
  pub parts : HasParts packet

spelled : (h : Head) (bytes : List ℕ) (made packet : Packet) → read_that_is_done made ≡ read_that_is_done packet → head_of made ≡ h → drop 12 bytes ≡ fields_of made → FieldsWithin made
    → HasParts made → BytesSpellPacket h bytes packet
spelled h bytes made packet read head_is fields_are within parts =
    subst (λ (p : Packet). BytesSpellPacket h bytes p) (done_read_is_injective made packet read)
    (record { head_is = head_is; fields_are = fields_are; within = within; parts = parts })

-- ---- fields that several kinds have

-- what is made of fields that were read
record Made (h : Head) (fields : List ℕ) (limits : Type 0) (made : Packet) : Type 0 where
  head_is : head_of made ≡ h
  fields_are : fields_of made ≡ fields
  within : limits → FieldsWithin made
  parts : HasParts made

made_found : {fields : List ℕ} {limits : Type 0} (h : Head) (bytes : List ℕ) (made packet : Packet) → read_that_is_done made ≡ read_that_is_done packet → Made h fields limits made
    → drop 12 bytes ≡ fields → limits → BytesSpellPacket h bytes packet
made_found h bytes made packet read is here limits =
    spelled h bytes made packet read is.head_is (here ∙ sym is.fields_are) (is.within limits) is.parts

nothing_found : (h : Head) (bytes : List ℕ) (made packet : Packet) → read_that_is_done made ≡ read_that_is_done packet → head_of made ≡ h → length bytes ≤ 12 → [] ≡ fields_of made
    → FieldsWithin made → HasParts made → BytesSpellPacket h bytes packet
nothing_found h bytes made packet read head_is most none within parts =
    spelled h bytes made packet read head_is (drop_all 12 bytes most ∙ none) within parts

number_found : {bytes : List ℕ} {packet : Packet} (h : Head) (make : ℕ → Packet) → ((n : ℕ) → Made h (big_bytes 4 n) (NumberIsInRange n) (make n)) → IsBytes bytes
    → 16 ≤ length bytes → length bytes ≤ 16 → (number_at bytes 12 >>= λ n. read_that_is_done (make n)) ≡ read_that_is_done packet → BytesSpellPacket h bytes packet
number_found {bytes = bytes} {packet = packet} h make is fits least most read =
    let n = bound_read_is_ok (number_at bytes 12) (λ n. read_that_is_done (make n)) packet read in
    let here = number_is_taken_by_read bytes 12 16 n.0 refl fits least n.1 in
    made_found h bytes (make n.0) packet n.2 (is n.0) (piece_taken_up_to_end bytes 12 16 (big_bytes 4 n.0) here.0 most) here.1

report_found : {bytes : List ℕ} {packet : Packet} (h : Head) (make : Report → Packet) → ((r : Report) → Made h (report_bytes r) (ReportIsInRange r) (make r))
    → IsBytes bytes → 20 ≤ length bytes → length bytes ≤ 20 → (report_at bytes 12 >>= λ r. read_that_is_done (make r)) ≡ read_that_is_done packet → BytesSpellPacket h bytes packet
report_found {bytes = bytes} {packet = packet} h make is fits least most read =
    let r = bound_read_is_ok (report_at bytes 12) (λ r. read_that_is_done (make r)) packet read in
    let here = report_is_taken_by_read bytes 12 20 r.0 refl fits least r.1 in
    made_found h bytes (make r.0) packet r.2 (is r.0) (piece_taken_up_to_end bytes 12 20 (report_bytes r.0) here.0 most) here.1

send_found : {bytes : List ℕ} {packet : Packet} (h : Head) (make : Report → ℕ → Packet)
    → ((r : Report) (n : ℕ) → Made h (report_bytes r ++ big_bytes 4 n ++ drop 24 bytes) (ReportIsInRange r × NumberIsInRange n) (make r n)) → IsBytes bytes
    → 24 ≤ length bytes → (report_at bytes 12 >>= λ r. number_at bytes 20 >>= λ n. read_that_is_done (make r n)) ≡ read_that_is_done packet → BytesSpellPacket h bytes packet
send_found {bytes = bytes} {packet = packet} h make is fits least read =
    let r = bound_read_is_ok (report_at bytes 12) (λ r. number_at bytes 20 >>= λ n. read_that_is_done (make r n)) packet read in
    let n = bound_read_is_ok (number_at bytes 20) (λ n. read_that_is_done (make r.0 n)) packet r.2 in
    let r-here = report_is_taken_by_read bytes 12 20 r.0 refl fits (omega arith) r.1 in
    let n-here = number_is_taken_by_read bytes 20 24 n.0 refl fits least n.1 in
    made_found h bytes (make r.0 n.0) packet n.2 (is r.0 n.0) (pieces_taken_follow bytes 12 20 24 (report_bytes r.0) (big_bytes 4 n.0) r-here.0 n-here.0).here
    (r-here.1, n-here.1)

-- two numbers, and then the rest
record Two (bytes : List ℕ) (rest : ℕ → ℕ → Read Packet) (packet : Packet) : Type 0 where
  a : ℕ
  b : ℕ
  takes : BytesTakePiece bytes 12 (big_bytes 4 a ++ big_bytes 4 b) 20
  a_is : NumberIsInRange a
  b_is : NumberIsInRange b
  read : rest a b ≡ read_that_is_done packet

two_found : (bytes : List ℕ) (rest : ℕ → ℕ → Read Packet) (packet : Packet) → IsBytes bytes → 20 ≤ length bytes
    → (number_at bytes 12 >>= λ a. number_at bytes 16 >>= λ b. rest a b) ≡ read_that_is_done packet → Two bytes rest packet
two_found bytes rest packet fits least read =
    let a = bound_read_is_ok (number_at bytes 12) (λ a. number_at bytes 16 >>= λ b. rest a b) packet read in
    let b = bound_read_is_ok (number_at bytes 16) (λ b. rest a.0 b) packet a.2 in
    let a-here = number_is_taken_by_read bytes 12 16 a.0 refl fits (omega arith) a.1 in
    let b-here = number_is_taken_by_read bytes 16 20 b.0 refl fits least b.1 in
    let takes = pieces_taken_follow bytes 12 16 20 (big_bytes 4 a.0) (big_bytes 4 b.0) a-here.0 b-here.0 in
    record { a = a.0; b = b.0; takes = takes; a_is = a-here.1; b_is = b-here.1; read = b.2 }

-- and three
record Three (bytes : List ℕ) (rest : ℕ → ℕ → ℕ → Read Packet) (packet : Packet) : Type 0 where
  a : ℕ
  b : ℕ
  c : ℕ
  takes : BytesTakePiece bytes 12 (big_bytes 4 a ++ big_bytes 4 b ++ big_bytes 4 c) 24
  a_is : NumberIsInRange a
  b_is : NumberIsInRange b
  c_is : NumberIsInRange c
  read : rest a b c ≡ read_that_is_done packet

three_found : (bytes : List ℕ) (rest : ℕ → ℕ → ℕ → Read Packet) (packet : Packet) → IsBytes bytes → 24 ≤ length bytes
    → (number_at bytes 12 >>= λ a. number_at bytes 16 >>= λ b. number_at bytes 20 >>= λ c. rest a b c) ≡ read_that_is_done packet → Three bytes rest packet
three_found bytes rest packet fits least read =
    let two = two_found bytes (λ a b. number_at bytes 20 >>= λ c. rest a b c) packet fits (omega arith) read in
    let c = bound_read_is_ok (number_at bytes 20) (λ c. rest two.a two.b c) packet two.read in
    let here = number_is_taken_by_read bytes 20 24 c.0 refl fits least c.1 in
    record {
      a = two.a;
      b = two.b;
      c = c.0;
      takes = pieces_taken_follow bytes 12 20 24 (big_bytes 4 two.a ++ big_bytes 4 two.b) (big_bytes 4 c.0) two.takes here.0;
      a_is = two.a_is;
      b_is = two.b_is;
      c_is = here.1;
      read = c.2;
    }

-- ---- the kinds

pub packet_read_is_spelled : (kind : PacketKind) (sender : ℕ) (stamp : Stamp) (bytes : List ℕ) (packet : Packet) → IsBytes bytes → least_total kind ≤ length bytes
    → length bytes ≤ most_total kind → packet_at kind sender stamp bytes ≡ Ok packet
    → BytesSpellPacket (head kind sender stamp) bytes packet
unfolding packet_at fields_of HasParts
packet_read_is_spelled kinds.Request sender stamp bytes packet fits least most read =
    send_found (head kinds.Request sender stamp) (λ report req. packets.Request sender stamp report req (drop 24 bytes))
    (λ report req. record { head_is = refl; fields_are = refl; within = λ k. k; parts = omega (arith, length-drop 24 bytes) }) fits least read
packet_read_is_spelled kinds.Spread sender stamp bytes packet fits least most read =
    send_found (head kinds.Spread sender stamp) (λ report req. packets.Spread sender stamp report req (drop 24 bytes))
    (λ report req. record { head_is = refl; fields_are = refl; within = λ k. k; parts = omega (arith, length-drop 24 bytes) }) fits least read
packet_read_is_spelled kinds.Bcast sender stamp bytes packet fits least most read =
    let n = three_found bytes (λ base acc number. read_entry_at bytes 24 >>= λ entry. Ok (packets.Bcast sender stamp base acc number entry)) packet fits
    (omega arith) read in
    let entry = bound_read_is_ok (read_entry_at bytes 24) (λ entry. Ok (packets.Bcast sender stamp n.a n.b n.c entry)) packet n.read in
    let here = entry_read_ends_bytes bytes 24 entry.0 fits (omega arith) entry.1 in
    spelled (head kinds.Bcast sender stamp) bytes (packets.Bcast sender stamp n.a n.b n.c entry.0) packet entry.2 refl
    (n.takes.here ∙ ap (λ xs. (big_bytes 4 n.a ++ big_bytes 4 n.b ++ big_bytes 4 n.c) ++ xs) here.here)
    (n.a_is, n.b_is, n.c_is, here.within) here.parts
packet_read_is_spelled kinds.Order sender stamp bytes packet fits least most read =
    let n = three_found bytes (λ base acc number. number_at bytes 25 >>= λ req. Ok (packets.Order sender stamp base acc number (slice_index bytes 24) req))
    packet fits (omega arith) read in
    let req = bound_read_is_ok (number_at bytes 25) (λ req. Ok (packets.Order sender stamp n.a n.b n.c (slice_index bytes 24) req)) packet n.read in
    let req-here = number_is_taken_by_read bytes 25 29 req.0 refl fits (omega arith) req.1 in
    let numbers = big_bytes 4 n.a ++ big_bytes 4 n.b ++ big_bytes 4 n.c in
    let to-25 = pieces_taken_follow bytes 12 24 25 numbers (slice_index bytes 24 ∷ []) n.takes (byte_is_taken_by_read bytes 24 25 refl (omega arith)) in
    let to-29 = pieces_taken_follow bytes 12 25 29 (numbers ++ slice_index bytes 24 ∷ []) (big_bytes 4 req.0) to-25 req-here.0 in
    spelled (head kinds.Order sender stamp) bytes (packets.Order sender stamp n.a n.b n.c (slice_index bytes 24) req.0) packet req.2 refl
    (piece_taken_up_to_end bytes 12 29 (numbers ++ slice_index bytes 24 ∷ [] ++ big_bytes 4 req.0) to-29 most)
    (n.a_is, n.b_is, n.c_is, req-here.1) tt
packet_read_is_spelled kinds.Accept sender stamp bytes packet fits least most read =
    let n = three_found bytes (λ base acc top. flag_at bytes 24 >>= λ poll. Ok (packets.Accept sender stamp base acc top poll)) packet fits
    (omega arith) read in
    let poll = bound_read_is_ok (flag_at bytes 24) (λ poll. Ok (packets.Accept sender stamp n.a n.b n.c poll)) packet n.read in
    let here = flag_is_taken_by_read bytes 24 25 poll.0 refl (omega arith) poll.1 in
    let numbers = big_bytes 4 n.a ++ big_bytes 4 n.b ++ big_bytes 4 n.c in
    let to-25 = pieces_taken_follow bytes 12 24 25 numbers (flag_byte poll.0 ∷ []) n.takes here in
    spelled (head kinds.Accept sender stamp) bytes (packets.Accept sender stamp n.a n.b n.c poll.0) packet poll.2 refl
    (piece_taken_up_to_end bytes 12 25 (numbers ++ flag_byte poll.0 ∷ []) to-25 most)
    (n.a_is, n.b_is, n.c_is) tt
packet_read_is_spelled kinds.Ack sender stamp bytes packet fits least most read =
    report_found (head kinds.Ack sender stamp) (λ report. packets.Ack sender stamp report) (λ report. record { head_is = refl; fields_are = refl; within = λ k. k; parts = tt }) fits least most read
packet_read_is_spelled kinds.Nack sender stamp bytes packet fits least most read =
    report_found (head kinds.Nack sender stamp) (λ report. packets.Nack sender stamp report) (λ report. record { head_is = refl; fields_are = refl; within = λ k. k; parts = tt }) fits least most read
packet_read_is_spelled kinds.Hold sender stamp bytes packet fits least most read =
    let n = three_found bytes (λ base top req. Ok (packets.Hold sender stamp base top req)) packet fits least read in
    spelled (head kinds.Hold sender stamp) bytes (packets.Hold sender stamp n.a n.b n.c) packet n.read refl
    (piece_taken_up_to_end bytes 12 24 (big_bytes 4 n.a ++ big_bytes 4 n.b ++ big_bytes 4 n.c) n.takes most)
    (n.a_is, n.b_is, n.c_is) tt
packet_read_is_spelled kinds.Welcome sender stamp bytes packet fits least most read =
    let n = two_found bytes (λ base join. read_image_at bytes 20 >>= λ image. Ok (packets.Welcome sender stamp base join image)) packet fits (omega arith) read in
    let image = bound_read_is_ok (read_image_at bytes 20) (λ image. Ok (packets.Welcome sender stamp n.a n.b image)) packet n.read in
    let here = image_is_taken_by_read bytes 20 238 image.0 refl fits (omega arith) image.1 in
    let to-238 = pieces_taken_follow bytes 12 20 238 (big_bytes 4 n.a ++ big_bytes 4 n.b) (image_bytes image.0) n.takes here.takes in
    spelled (head kinds.Welcome sender stamp) bytes (packets.Welcome sender stamp n.a n.b image.0) packet image.2 refl
    (piece_taken_up_to_end bytes 12 238 (big_bytes 4 n.a ++ big_bytes 4 n.b ++ image_bytes image.0) to-238 most)
    (n.a_is, n.b_is, here.within) (here.within).places
packet_read_is_spelled kinds.LeaveAsk sender stamp bytes packet fits least most read =
    report_found (head kinds.LeaveAsk sender stamp) (λ report. packets.LeaveAsk sender stamp report) (λ report. record { head_is = refl; fields_are = refl; within = λ k. k; parts = tt }) fits least most read
packet_read_is_spelled kinds.Gone sender stamp bytes packet fits least most read =
    number_found (head kinds.Gone sender stamp) (λ number. packets.Gone sender stamp number) (λ number. record { head_is = refl; fields_are = refl; within = λ k. k; parts = tt }) fits least most read
packet_read_is_spelled kinds.Vote sender stamp bytes packet fits least most read =
    let vote = bound_read_is_ok (vote_at bytes 12) (λ vote. Ok (packets.Vote sender stamp vote)) packet read in
    let here = vote_is_taken_by_read bytes 12 35 vote.0 refl fits least vote.1 in
    spelled (head kinds.Vote sender stamp) bytes (packets.Vote sender stamp vote.0) packet vote.2 refl
    (piece_taken_up_to_end bytes 12 35 (vote_bytes vote.0) here.takes most)
    (here.within) here.set
packet_read_is_spelled kinds.Fetch sender stamp bytes packet fits least most read =
    number_found (head kinds.Fetch sender stamp) (λ stored. packets.Fetch sender stamp stored) (λ stored. record { head_is = refl; fields_are = refl; within = λ k. k; parts = tt }) fits least most read
packet_read_is_spelled kinds.Piece sender stamp bytes packet fits least most read =
    let n = two_found bytes (λ base number. read_entry_at bytes 20 >>= λ entry. Ok (packets.Piece sender stamp base number entry)) packet fits (omega arith) read in
    let entry = bound_read_is_ok (read_entry_at bytes 20) (λ entry. Ok (packets.Piece sender stamp n.a n.b entry)) packet n.read in
    let here = entry_read_ends_bytes bytes 20 entry.0 fits (omega arith) entry.1 in
    spelled (head kinds.Piece sender stamp) bytes (packets.Piece sender stamp n.a n.b entry.0) packet entry.2 refl
    (n.takes.here ∙ ap (λ xs. (big_bytes 4 n.a ++ big_bytes 4 n.b) ++ xs) here.here)
    (n.a_is, n.b_is, here.within) here.parts
packet_read_is_spelled kinds.Result sender stamp bytes packet fits least most read =
    let n = two_found bytes (λ base number. read_set_at bytes 20 >>= λ members. resilience_at bytes 30 >>= λ resilience. Ok
    (packets.Result sender base number (viewed stamp members resilience))) packet fits (omega arith) read in
    let members = bound_read_is_ok (read_set_at bytes 20) (λ members. resilience_at bytes 30 >>= λ resilience. Ok
    (packets.Result sender n.a n.b (viewed stamp members resilience))) packet n.read in
    let resilience = bound_read_is_ok (resilience_at bytes 30) (λ resilience. Ok (packets.Result sender n.a n.b (viewed stamp members.0 resilience))) packet members.2 in
    let set-here = set_is_taken_by_read bytes 20 30 members.0 refl fits (omega arith) members.1 in
    let last-here = resilience_is_taken_by_read bytes 30 31 resilience.0 refl (omega arith) resilience.1 in
    let numbers = big_bytes 4 n.a ++ big_bytes 4 n.b in
    let to-30 = pieces_taken_follow bytes 12 20 30 numbers (set_bytes members.0) n.takes set-here.0 in
    let to-31 = pieces_taken_follow bytes 12 30 31 (numbers ++ set_bytes members.0) (resilience.0 ∷ []) to-30 last-here.0 in
    spelled (head kinds.Result sender stamp) bytes (packets.Result sender n.a n.b (viewed stamp members.0 resilience.0)) packet resilience.2 refl
    (piece_taken_up_to_end bytes 12 31 (numbers ++ set_bytes members.0 ++ resilience.0 ∷ []) to-31 most)
    (n.a_is, n.b_is, last-here.1) set-here.1
packet_read_is_spelled kind sender stamp bytes packet fits least most read = nothing_found (head kind sender stamp) bytes _ packet read refl most refl tt tt
