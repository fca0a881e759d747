-- A message longer than a body, cut into parts, each of which is a body: its first byte is 83, then come the index of the part and how
-- many parts there are, two bytes each, the most significant first, and then its share of the message.
use Rattle.std.specs.Prelude.{◌≡◌, ◌↔◌, ℕ, ◌+◌, ◌*◌, ◌/◌, ◌<◌, ◌≤◌, List, ◌∷◌, ◌++◌, length, take, drop, map, slice_index}
use Rattle.std.specs.Prelude.{Option, Some, None, Bool, ◌&&◌, ◌==◌, nat_lt, nat_le, if◌then◌else◌}
use Rattle.std.specs.List.{range_with_len}
use Rattle.byteorder.specs.Endian.{big_bytes, big_from}

-- how many bytes a message has at most
abbrev pub most_bytes_of_message : ℕ
most_bytes_of_message = 65535

-- how many parts that is at most
abbrev pub most_parts : ℕ
most_parts = 65

-- how many bytes of a message stand in each part but the last
abbrev pub most_payload : ℕ
most_payload = 1019

-- in how many parts a message of so many bytes goes: the empty one in one
abbrev pub part_count : ℕ → ℕ
part_count n = if n == 0 then 1 else (n + 1018) / 1019

-- what stands in a part of a message
abbrev pub payload_of : List ℕ → ℕ → List ℕ
payload_of message index = take 1019 (drop (1019 * index) message)

-- a part's bytes
abbrev pub part_bytes : ℕ → ℕ → List ℕ → List ℕ
part_bytes index count payload = 83 ∷ (big_bytes 2 index ++ big_bytes 2 count ++ payload)

-- a part of a message as a body
unfoldable pub part_of : List ℕ → ℕ → List ℕ
part_of message index = part_bytes index (part_count (length message)) (payload_of message index)

-- all of them, in order
unfoldable pub parts_of : List ℕ → List (List ℕ)
parts_of message = map (part_of message) (range_with_len 0 (part_count (length message)))

-- ---- what a body is read as

pub record Part : Type 0 where
  pub index : ℕ
  pub count : ℕ
  pub payload : List ℕ

-- what stands in the fields of a body
abbrev pub part_fields_of : List ℕ → Part
part_fields_of body = record { index = big_from 1 2 body; count = big_from 3 2 body; payload = drop 5 body }

-- a message of so many bytes ends with this part
abbrev pub ends_message : ℕ → ℕ → Bool
ends_message size count = nat_le size most_bytes_of_message && (part_count size == count)

-- some message has such a part: each but the last is full
abbrev pub fits_message : Part → Bool
fits_message p = (nat_lt p.index p.count && nat_le p.count most_parts) && (if nat_lt (p.index + 1) p.count then length p.payload == 1019
    else ends_message (1019 * p.index + length p.payload) p.count)

-- a body that is a part, read; None where it is no part of any message
unfoldable pub part_in : List ℕ → Option Part
part_in body = if (nat_le 5 (length body) && (slice_index body 0 == 83)) && fits_message (part_fields_of body) then Some (part_fields_of body) else None

-- a body is a part of some message
pub record IsPart (body : List ℕ) (p : Part) : Type 0 where
  pub message : List ℕ
  pub few : length message ≤ most_bytes_of_message
  pub within : p.index < part_count (length message)
  pub same : body ≡ part_of message p.index
  pub count : p.count ≡ part_count (length message)
  pub payload : p.payload ≡ payload_of message p.index

-- ---- what is claimed of it

abbrev pub PartsAreRead : Type 0
PartsAreRead = (body : List ℕ) (p : Part) → (part_in body ≡ Some p) ↔ IsPart body p
