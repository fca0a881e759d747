-- What a spelling is read as.
use Rattle.std.proofs.Common.{◌≡◌, ℕ, ◌<◌, ◌≤◌, List, ap, refl, sym, subst, ◌∙◌, length, slice_index, arith}
use Rattle.am_packet.specs.declared.packet.Packet.{Packet}
use Rattle.am_packet.specs.Kinds.{kind_of}
use Rattle.am_packet.specs.Limits.{IsPacket}
use Rattle.am_packet.specs.Spelling.{spelling}
use Rattle.am_packet.proofs.Again.{fields_of_packet_are_short, reading_of_spelling, length-spelling}
use Rattle.am_packet.specs.Letters.{packet_in, read_packet, IsSpelled}

pub packet_in_of_spelling : (packet : Packet) → IsPacket packet → packet_in (spelling packet) ≡ packet
packet_in_of_spelling packet is = ap read_packet (reading_of_spelling packet is)

pub spelling_is_spelled : (packet : Packet) → IsPacket packet → IsSpelled (spelling packet)
spelling_is_spelled packet is =
    let same = packet_in_of_spelling packet is in
    record { packet = subst IsPacket (sym same) is; spelled = ap spelling (sym same) }

pub ruleset spelled_packet_rules = (packet_in_of_spelling, spelling_is_spelled)

-- a packet's kind stands in its header
spelled_kind : (packet : Packet) → slice_index (spelling packet) 3 ≡ kind_of packet
unfolding spelling
spelled_kind packet = refl

pub kind_byte_of_spelled_bytes : (bytes : List ℕ) → IsSpelled bytes → slice_index bytes 3 ≡ kind_of (packet_in bytes)
kind_byte_of_spelled_bytes bytes is = ap (λ l. slice_index l 3) is.spelled ∙ spelled_kind (packet_in bytes)

pub spelled_bytes_have_kind_byte : (bytes : List ℕ) → IsSpelled bytes → 3 < length bytes
spelled_bytes_have_kind_byte bytes is = let long = length-spelling (packet_in bytes) in subst (λ l. 3 < length l) (sym is.spelled) (omega arith)

pub ruleset header_read_rules = (kind_byte_of_spelled_bytes, spelled_bytes_have_kind_byte)

pub spelled_bytes_are_short : (bytes : List ℕ) → IsSpelled bytes → length bytes ≤ 1152
spelled_bytes_are_short bytes is =
    let packet = packet_in bytes in
    let long = length-spelling packet in
    let few = fields_of_packet_are_short packet is.packet.parts in
    subst (λ l. length l ≤ 1152) (sym is.spelled) (omega (arith, long, few))
