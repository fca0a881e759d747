-- What is read is spelled so, no spelling begins another, and a part of one is refused.
use Rattle.std.proofs.Common.{◌≡◌, ◌≢◌, ℕ, ◌+◌, ◌-◌, ◌<◌, ◌≤◌, true, cond, eqb, List, [], ◌∷◌, ◌++◌, length, take, drop, slice_index, Some, Ok, Err}
use Rattle.std.proofs.Common.{inl, inr, refl, sym, ap, subst, ◌∙◌, length-append, arith}
use Rattle.std.specs.Prelude.{IfOk, if◌then◌else◌, nat_lt, nat_le, ◌&&◌, ◌==◌}
use Rattle.std.proofs.lemmas.Bool.{cases_lt, and_parts, leb-true, eqb-true, le-ltb, lt-ltb}
use Rattle.std.proofs.lemmas.List.{append-nil, length-drop, length-take-le, drop-take, drop-append-le, get_or-take, nil_from_length}
use Rattle.byteorder.specs.Endian.{big_bytes, big_number}
use Rattle.byteorder.specs.Numbers.{big_from-take, big_from-append}
use Rattle.am_base.specs.declared.name.Stamp.{Stamp}
use Rattle.am_base.proofs.Found.{found_passes_test}
use Rattle.am_packet.specs.declared.packet.Packet.{Packet}
use Rattle.am_packet.specs.declared.refusal.PacketRefusal.TheVariants.{Short, BadLength, BadField}
use Rattle.am_packet.specs.declared.kind.PacketKind.{PacketKind}
use Rattle.am_packet.specs.Kinds.{Head, kind_of, packet_kind_number, all_kinds, kind_at, is_total, least_total, most_total}
use Rattle.am_base.specs.Limits.{NumberIsInRange}
use Rattle.am_packet.specs.Limits.{PacketIsWithin, IsPacket}
use Rattle.am_packet.specs.Spelling.{spelling, fields_of, sender_of, stamp_of, stamp_bytes}
use Rattle.am_packet.specs.Reading.{Read, version_in, kind_in, total_in, found_in, stamp_at, packet_at, fields_at, reading}
use Rattle.am_packet.specs.Causes.{HasKind, HasTotal}
use Rattle.am_packet.specs.Laws.{IsBytes}
use Rattle.am_packet.proofs.Numbers.{dropped_bytes_are_big_bytes}
use Rattle.am_packet.proofs.Fields.{bound_read_is_ok, passed_test_of_read, done_read_is_injective, pieces_taken_follow, byte_is_taken_by_read, stamp_is_taken_by_read}
use Rattle.am_packet.proofs.Found.{packet_read_is_spelled}
use Rattle.am_packet.proofs.Again.{fields_of_packet_are_short, length-spelling, reading_of_spelling}
use Rattle.am_packet.proofs.Causes.{ReadingTellsFirstCause, reading_tells_first_cause, reading_after_header, kind_not_none_is_some, reading_of_short_bytes, reading_of_other_length}

-- the kind that is found for a number has it
kind_number : (n : ℕ) (kind : PacketKind) → kind_at n ≡ Some kind → n ≡ packet_kind_number kind
unfolding kind_at
kind_number n kind found = eqb-true n (packet_kind_number kind) (found_passes_test (λ k. n == packet_kind_number k) all_kinds kind found)

-- ---- what is read is spelled so

mark_is : (a b : ℕ) → (eqb a 65 && eqb b 71) ≡ true → (a ≡ 65) × (b ≡ 71)
mark_is a b h = let both = and_parts (eqb a 65) (eqb b 71) h in (eqb-true _ _ both.0, eqb-true _ _ both.1)

-- a header and fields are a spelling
put_together : (packet : Packet) (bytes rest : List ℕ) (a b version kind sender total : ℕ) (stamp : Stamp)
    → bytes ≡ (a ∷ b ∷ version ∷ kind ∷ sender ∷ [] ++ stamp_bytes stamp ++ big_bytes 2 total) ++ rest
    → (a ≡ 65) × (b ≡ 71) → version ≡ 3 → kind ≡ kind_of packet → sender_of packet ≡ sender → stamp_of packet ≡ stamp → total ≡ 12 + length (fields_of packet)
    → rest ≡ fields_of packet
    → bytes ≡ spelling packet
unfolding spelling
put_together packet bytes rest a b version kind sender total stamp whole mark version-is kind-is sender-is stamp-is total-is rest-is =
    whole ∙ rw (mark.0, mark.1, version-is, kind-is, sender-is, stamp-is, total-is, rest-is) refl

pub packet_read_from_its_spelling : (bytes : List ℕ) (packet : Packet) → IsBytes bytes → reading bytes ≡ Ok packet → IsPacket packet × (bytes ≡ spelling packet)
unfolding fields_at PacketIsWithin
packet_read_from_its_spelling bytes packet fits read =
    let has : HasTotal bytes = subst (λ r. ReadingTellsFirstCause r bytes) read (reading_tells_first_cause bytes) in
    let kind = kind_not_none_is_some (kind_at (kind_in bytes)) has.0.1 in
    let fields : fields_at kind.0 bytes ≡ Ok packet = sym (reading_after_header bytes kind.0 has kind.1) ∙ read in
    let stamp = bound_read_is_ok (stamp_at bytes 5) (λ stamp. cond (is_total kind.0 (length bytes)) (packet_at kind.0 (slice_index bytes 4) stamp bytes)
    (Err (BadField 10))) packet fields in
    let total = passed_test_of_read (is_total kind.0 (length bytes)) (packet_at kind.0 (slice_index bytes 4) stamp.0 bytes) (BadField 10) packet stamp.2 in
    let limits = and_parts (nat_le (least_total kind.0) (length bytes)) (nat_le (length bytes) (most_total kind.0)) total.0 in
    let found = packet_read_is_spelled kind.0 (slice_index bytes 4) stamp.0 bytes packet fits (leb-true _ _ limits.0) (leb-true _ _ limits.1) total.1 in
    let long : 12 ≤ length bytes = has.0.0.0.0 in
    let mark = mark_is (slice_index bytes 0) (slice_index bytes 1) has.0.0.0.1 in
    let t5 = stamp_is_taken_by_read bytes 5 10 stamp.0 refl fits (omega arith) stamp.1 in
    let t10 : drop 10 bytes ≡ big_bytes 2 (total_in bytes) ++ drop 12 bytes = dropped_bytes_are_big_bytes 2 10 bytes long fits in
    let t01 = pieces_taken_follow bytes 0 1 2 (slice_index bytes 0 ∷ []) (slice_index bytes 1 ∷ []) (byte_is_taken_by_read bytes 0 1 refl (omega arith))
    (byte_is_taken_by_read bytes 1 2 refl (omega arith)) in
    let t03 = pieces_taken_follow bytes 0 2 3 (slice_index bytes 0 ∷ slice_index bytes 1 ∷ []) (version_in bytes ∷ []) t01 (byte_is_taken_by_read bytes 2 3 refl (omega arith)) in
    let t04 = pieces_taken_follow bytes 0 3 4 (slice_index bytes 0 ∷ slice_index bytes 1 ∷ version_in bytes ∷ []) (kind_in bytes ∷ []) t03
    (byte_is_taken_by_read bytes 3 4 refl (omega arith)) in
    let t05 = pieces_taken_follow bytes 0 4 5 (slice_index bytes 0 ∷ slice_index bytes 1 ∷ version_in bytes ∷ kind_in bytes ∷ []) (slice_index bytes 4 ∷ []) t04
    (byte_is_taken_by_read bytes 4 5 refl (omega arith)) in
    let t06 = pieces_taken_follow bytes 0 5 10 (slice_index bytes 0 ∷ slice_index bytes 1 ∷ version_in bytes ∷ kind_in bytes ∷ slice_index bytes 4 ∷ [])
    (stamp_bytes stamp.0) t05 t5.0 in
    let t07 = pieces_taken_follow bytes 0 10 12 (slice_index bytes 0 ∷ slice_index bytes 1 ∷ version_in bytes ∷ kind_in bytes ∷ slice_index bytes 4 ∷ []
    ++ stamp_bytes stamp.0) (big_bytes 2 (total_in bytes)) t06 (record { here = t10 }) in
    let kind-is : kind_in bytes ≡ kind_of packet = kind_number (kind_in bytes) kind.0 kind.1 ∙ ap (λ h. packet_kind_number h.kind) (sym found.head_is) in
    let count : length (fields_of packet) ≡ length bytes - 12 = ap length (sym found.fields_are) ∙ length-drop 12 bytes in
    let total-is : total_in bytes ≡ 12 + length (fields_of packet) = has.1 ∙ (let sum : length bytes ≡ 12 + length (fields_of packet) = omega arith in sum) in (
      record { within = (subst (λ (h : Head). NumberIsInRange h.stamp.round) (sym found.head_is) t5.1, found.within); parts = found.parts },
      put_together packet bytes (drop 12 bytes) (slice_index bytes 0) (slice_index bytes 1) (version_in bytes) (kind_in bytes) (slice_index bytes 4)
          (total_in bytes) stamp.0
          t07.here mark has.0.0.1 kind-is (ap (λ h. h.sender) found.head_is) (ap (λ h. h.stamp) found.head_is) total-is found.fields_are,
    )

-- ---- prefixes

-- a spelling's header is right
header_has : (packet : Packet) → IsPacket packet → HasTotal (spelling packet)
header_has packet is = subst (λ r. ReadingTellsFirstCause r (spelling packet)) (reading_of_spelling packet is) (reading_tells_first_cause (spelling packet))

total_append : (bytes more : List ℕ) → 12 ≤ length bytes → total_in (bytes ++ more) ≡ total_in bytes
total_append bytes more long =
    ap (λ xs. big_number 2 xs) (drop-append-le 10 bytes more (omega arith)) ∙ big_from-append 2 (drop 10 bytes) more (omega (arith, length-drop 10 bytes))

-- how the first bytes of a longer list look
first_bytes : (bytes : List ℕ) (found k : ℕ) → k < found → slice_index (take found bytes) k ≡ slice_index bytes k
first_bytes bytes found k lt = get_or-take found bytes k 0 lt

first_total : (bytes : List ℕ) (found : ℕ) → 12 ≤ found → total_in (take found bytes) ≡ total_in bytes
first_total bytes found long =
    let split : found ≡ 10 + (found - 10) = omega arith in
    let rest : drop 10 (take found bytes) ≡ take (found - 10) (drop 10 bytes) = ap (λ n. drop 10 (take n bytes)) split ∙ drop-take 10 (found - 10) bytes in
    ap (λ xs. big_number 2 xs) rest ∙ big_from-take 0 2 (found - 10) (drop 10 bytes) (omega arith)

kind_part : (bytes : List ℕ) (found : ℕ) → 12 ≤ found → HasKind bytes → length (take found bytes) ≡ found → HasKind (take found bytes)
kind_part bytes found long has count =
    let same : (k : ℕ) → k < 12 → slice_index (take found bytes) k ≡ slice_index bytes k = λ k lt. first_bytes bytes found k (omega arith) in (
      (
        (
          rw count long,
          rw (same 0 (omega arith), same 1 (omega arith)) has.0.0.1,
        ),
        rw (same 2 (omega arith)) has.0.1,
      ),
      rw (same 3 (omega arith)) has.1,
    )

pub part_of_spelling_is_refused : (packet : Packet) (found : ℕ) → IsPacket packet → found < length (spelling packet)
    → reading (take found (spelling packet)) ≡ (if nat_lt found 12 then Err Short else Err (BadLength (length (spelling packet)) found))
part_of_spelling_is_refused packet found is lt =
    let bytes = spelling packet in
    let count : length (take found bytes) ≡ found = length-take-le found bytes (omega (arith, lt)) in
    elim (cases_lt found 12) [
      | inl short ↦ rw (lt-ltb found 12 short) (reading_of_short_bytes (take found bytes) (rw count short))
      | inr long ↦
          let has = header_has packet is in
          let total : total_in (take found bytes) ≡ length bytes = first_total bytes found long ∙ has.1 in
          let few : length bytes ≤ 4294967295 = omega (arith, length-spelling packet, fields_of_packet_are_short packet is.parts) in
          let found-is : found_in (take found bytes) ≡ found = rw count (omega (arith, few, lt)) in
          let other : length bytes ≢ length (take found bytes) = rw count (omega (arith, lt)) in
          rw (le-ltb found 12 long) (reading_of_other_length (take found bytes) (length bytes) found (kind_part bytes found long has.0 count) total found-is other)
    ]

-- a spelling that begins another is that other
pub no_spelling_begins_other : (packet other : Packet) (more : List ℕ) → IsPacket packet → IsPacket other → spelling packet ++ more ≡ spelling other → (packet ≡ other)
    × (more ≡ [])
no_spelling_begins_other packet other more is is-other e =
    let has = header_has packet is in
    let has-other = header_has other is-other in
    let long = has.0.0.0.0 in
    let same_total : total_in (spelling packet ++ more) ≡ total_in (spelling packet) = total_append (spelling packet) more long in
    let lengths : length (spelling packet) ≡ length (spelling other) = sym has.1 ∙ sym same_total ∙ ap (λ bytes. total_in bytes) e ∙ has-other.1 in
    let none : more ≡ [] = nil_from_length more (let whole : length (spelling packet) + length more ≡ length (spelling other) =
    sym (length-append (spelling packet) more) ∙ ap length e in omega (arith, whole, lengths)) in
    let spellings : spelling packet ≡ spelling other = sym (append-nil (spelling packet)) ∙ ap (λ xs. spelling packet ++ xs) (sym none) ∙ e in
    let answers : Ok packet ≡ Ok other = sym (reading_of_spelling packet is) ∙ ap (λ bytes. reading bytes) spellings ∙ reading_of_spelling other is-other in
    (done_read_is_injective packet other answers, none)

pub packet_read_is_in_grammar : (r : Read Packet) (bytes : List ℕ) → IsBytes bytes → r ≡ reading bytes → IfOk r (λ packet. IsPacket packet × (bytes ≡ spelling packet))
packet_read_is_in_grammar (Ok packet) bytes fits read = packet_read_from_its_spelling bytes packet fits (sym read)
packet_read_is_in_grammar (Err e) bytes fits read = tt
