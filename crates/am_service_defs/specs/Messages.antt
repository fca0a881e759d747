-- Messages in a list of a group: one ends where the last parts that came from its sender's place are all of its parts, in order.
use Rattle.std.specs.Prelude.{◌≡◌, ℕ, ◌-◌, ◌<◌, ◌≤◌, ◌↔◌, List, [], ◌∷◌, ◌++◌, length, take, drop, map, slice_get, Option, Some, None, Bool, ◌&&◌, ◌==◌, nat_eq}
use Rattle.std.specs.Prelude.{nat_le, if◌then◌else◌}
use Rattle.std.specs.List.{flat_map}
use Rattle.std.specs.Cmp.Lexicographic.{pointwise}
use Rattle.byteorder.specs.Endian.{big_from}
use Rattle.am_base.specs.Names.{place_of_name}
use Rattle.am_base.specs.declared.entry.Entry.{Entry}
use Rattle.am_base.specs.declared.entry.Entry.TheVariants.{Data, Join, Leave, View}
use Rattle.am_service_defs.specs.Parts.{most_bytes_of_message, parts_of}

-- the entries that were given, without their numbers
abbrev pub entries_of : List (ℕ × Entry) → List Entry
entries_of given = map (λ one. one.1) given

-- the Data of an entry, where it is of a name of this place: its sender and its body
abbrev pub sent_from : ℕ → Entry → List (ℕ × List ℕ)
sent_from place (Data from req body) = if place_of_name from == place then (from, body) ∷ [] else []
sent_from place (Join name) = []
sent_from place (Leave name) = []
sent_from place (View v) = []

-- the Data of the names of a place, in order
unfoldable pub from_place : ℕ → List Entry → List (ℕ × List ℕ)
from_place place list = flat_map (sent_from place) list

-- the parts of a message, with who sends them
abbrev pub parts_from : ℕ → List ℕ → List (ℕ × List ℕ)
parts_from name message = map (λ body. (name, body)) (parts_of message)

-- ---- where a message ends

-- a message of a name ends at a number of a list: the entry of that number is a Data of the name, and the last Data of the name's place
-- up to there are the message's parts
pub record EndsAt (list : List Entry) (number name : ℕ) (message : List ℕ) : Type 0 where
  pub from_one : 0 < number
  pub last : (req : ℕ) × (body : List ℕ) × (slice_get list (number - 1) ≡ Some (Data name req body))
  pub few : length message ≤ most_bytes_of_message
  pub parts : (before : List (ℕ × List ℕ)) × (from_place (place_of_name name) (take number list) ≡ before ++ parts_from name message)

-- ---- the same, computed

-- the last so many
abbrev pub last_so_many : {A : Type 0} → List A → ℕ → List A
last_so_many items count = drop (length items - count) items

-- what stands in parts, without their first five bytes each
abbrev pub payloads_of : List (ℕ × List ℕ) → List ℕ
payloads_of parts = flat_map (λ part. drop 5 part.1) parts

abbrev pub is_same : ℕ × List ℕ → ℕ × List ℕ → Bool
is_same a b = (a.0 == b.0) && pointwise nat_eq a.1 b.1

-- they are just the parts of that message
abbrev pub are_parts_of_message : ℕ → List ℕ → List (ℕ × List ℕ) → Bool
are_parts_of_message name message parts = nat_le (length message) most_bytes_of_message && pointwise is_same parts (parts_from name message)

abbrev pub message_of : ℕ → List (ℕ × List ℕ) → Option (ℕ × List ℕ)
message_of name parts = if are_parts_of_message name (payloads_of parts) parts then Some (name, payloads_of parts) else None

-- by the last entry: as many parts as it says there are
abbrev pub message_by : List Entry → Option Entry → Option (ℕ × List ℕ)
message_by list None = None
message_by list (Some (Data from req body)) = message_of from (last_so_many (from_place (place_of_name from) list) (big_from 3 2 body))
message_by list (Some (Join name)) = None
message_by list (Some (Leave name)) = None
message_by list (Some (View v)) = None

-- the message that ends with the last entry of a list, and whose it is
unfoldable pub message_at : List Entry → Option (ℕ × List ℕ)
message_at list = message_by list (slice_get list (length list - 1))

-- ---- what is claimed of it

abbrev pub ComputedMessagesEnd : Type 0
ComputedMessagesEnd = (list : List Entry) (number name : ℕ) (message : List ℕ) → number ≤ length list
    → (message_at (take number list) ≡ Some (name, message)) ↔ EndsAt list number name message
