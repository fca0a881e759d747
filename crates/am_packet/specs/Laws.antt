-- What holds of spellings and of what is read.
use Rattle.std.specs.Prelude.{◌≡◌, ℕ, ◌<◌, List, [], ◌++◌, length, take, Ok, Err, slice_index, if◌then◌else◌, nat_lt}
use Rattle.byteorder.specs.Endian.{big_number}
use Rattle.am_packet.specs.declared.packet.Packet.{Packet}
use Rattle.am_packet.specs.declared.refusal.PacketRefusal.TheVariants.{Short, BadLength}
use Rattle.am_packet.specs.Limits.{IsPacket}
use Rattle.am_packet.specs.Spelling.{spelling}
use Rattle.am_packet.specs.Reading.{reading}

-- a list of bytes
abbrev pub IsBytes : List ℕ → Type 0
IsBytes bytes = (i : ℕ) → slice_index bytes i < 256

-- two lists of bytes of one length and one value are equal
abbrev pub one_list : Type 0
one_list = (n : ℕ) (xs ys : List ℕ) → length xs ≡ n → length ys ≡ n → IsBytes xs → IsBytes ys → big_number n xs ≡ big_number n ys → xs ≡ ys

-- what is spelled is read
abbrev pub read_again : Type 0
read_again = (packet : Packet) → IsPacket packet → reading (spelling packet) ≡ Ok packet

-- what is read is spelled so
abbrev pub spelled_so : Type 0
spelled_so = (bytes : List ℕ) (packet : Packet) → IsBytes bytes → reading bytes ≡ Ok packet → IsPacket packet × (bytes ≡ spelling packet)

-- a spelling that begins another is that other
abbrev pub no_prefix : Type 0
no_prefix = (packet other : Packet) (more : List ℕ) → IsPacket packet → IsPacket other → spelling packet ++ more ≡ spelling other → (packet ≡ other)
    × (more ≡ [])

-- the first bytes of a spelling are refused, as too few for a header or by the total that the header says
abbrev pub parts_refused : Type 0
parts_refused = (packet : Packet) (found : ℕ) → IsPacket packet → found < length (spelling packet)
    → reading (take found (spelling packet)) ≡ (if nat_lt found 12 then Err Short else Err (BadLength (length (spelling packet)) found))
