-- Bytes that are heard.
use Rattle.am_model_laws.proofs.Words.{◌≡◌, ℕ, ◌+◌, ◌<◌, ◌≤◌, nat_lt, nat_le, List, length, take, Ok, Err, refl, ap, ◌∙◌, arith, nat_tests, take_all, Entry, Data}
use Rattle.am_model_laws.proofs.Words.{Hear, Packet, Short, BadLength, IsPacket, HasParts, spelling, fields_of, entry_bytes, Read, reading, length-rows_bytes}
use Rattle.am_model_laws.proofs.Words.{length-spelling, reading_of_spelling, part_of_spelling_is_refused, Node, finish, row_of_read_bytes, row, step, hear_packet, hear_refused_bytes, entry_length}
use Rattle.am_model_laws.proofs.Words.{packet_length, SpellingIsHeard, CutIsHeard, split_on_bool}
use Rattle.am_packet.specs.declared.packet.Packet.TheVariants as packets

-- bytes, by what is read of them
by_reading : (m : Node) (bytes : List ℕ) (read : Read Packet) → reading bytes ≡ read → step m (Hear bytes) ≡ finish m (row_of_read_bytes m read)
unfolding step row
by_reading m bytes read is = ap (λ r. finish m (row_of_read_bytes m r)) is

pub spelled_packet_is_heard : SpellingIsHeard
unfolding hear_packet
spelled_packet_is_heard m packet is = by_reading m (spelling packet) (Ok packet) (reading_of_spelling packet is)

length-entry : (e : Entry) → length (entry_bytes e) ≡ entry_length e
unfolding entry_bytes
length-entry (Data from req body) = omega arith
length-entry _ = refl

length-fields : (packet : Packet) → HasParts packet → 12 + length (fields_of packet) ≡ packet_length packet
unfolding HasParts fields_of
length-fields (packets.Request s v report req body) parts = omega arith
length-fields (packets.Spread s v report req body) parts = omega arith
length-fields (packets.Bcast s v base acc number e) parts = omega (arith, length-entry e)
length-fields (packets.Welcome s v base join image) parts = omega (arith, length-rows_bytes image.rows, parts)
length-fields (packets.Piece s v base number e) parts = omega (arith, length-entry e)
length-fields _ parts = refl

long : (packet : Packet) → IsPacket packet → length (spelling packet) ≡ packet_length packet
long packet is = length-spelling packet ∙ length-fields packet is.parts

pub cut_packet_whole_or_refused : CutIsHeard
unfolding hear_refused_bytes
cut_packet_whole_or_refused m packet keep is =
    let many = long packet is in
    let bytes = spelling packet in
    split_on_bool (nat_le (packet_length packet) keep)
    (λ t. let whole : length bytes ≤ keep = grind (arith, nat_tests) in
    rw (t, take_all keep bytes whole) (spelled_packet_is_heard m packet is))
    (λ f. let part : keep < length bytes = grind (arith, nat_tests) in
    let read = part_of_spelling_is_refused packet keep is part in
    split_on_bool (nat_lt keep 12)
    (λ s. rw (f, s) (by_reading m (take keep bytes) (Err Short) (rw s at read)))
    (λ s. rw (f, s) (by_reading m (take keep bytes) (Err (BadLength (length bytes) keep)) (rw s at read))))
