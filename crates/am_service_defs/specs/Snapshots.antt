-- The contents of a directory as bytes, for the name whose Join has a number.
use Rattle.std.specs.Prelude.{◌≡◌, ◌↔◌, ℕ, zero, suc, List, [], ◌∷◌, ◌++◌, length, Bool, true, ◌==◌, nat_le, if◌then◌else◌}
use Rattle.std.specs.Prelude.{Option, Some, None}
use Rattle.std.specs.Option.{option_map}
use Rattle.std.specs.List.{All, flat_map}
use Rattle.std.specs.Ordering.{is_lt}
use Rattle.byteorder.specs.Endian.{big_bytes}
use Rattle.am_base.specs.Most.{greatest_number}
use Rattle.am_base.specs.Limits.{NumberIsInRange}
use Rattle.am_packet.specs.Laws.{IsBytes}
use Rattle.am_service_defs.specs.declared.setting.Setting.{Setting}
use Rattle.am_service_defs.specs.Lengths.{◌>>=◌, Cut, Numbered, field_bytes, field_in, number_in}
use Rattle.am_service_defs.specs.Commands.{is_empty}
use Rattle.am_service_defs.specs.Values.{most_key, most_value}
use Rattle.std.specs.Map.{values_of}
use Rattle.am_service_defs.specs.Contents.{most_keys, Contents, key_cmp, IsDirectory, applied}

-- of bytes in a snapshot
abbrev pub most_snapshot : ℕ
most_snapshot = 26119

-- a key, the number that set it, and its value
abbrev pub setting_bytes : List ℕ × Setting → List ℕ
setting_bytes (key, setting) = field_bytes key ++ (big_bytes 4 setting.number ++ field_bytes setting.value)

-- what stands before them: the number of the Join, and how many they are
abbrev pub head_bytes : ℕ → ℕ → List ℕ
head_bytes join count = 4 ∷ big_bytes 4 join ++ big_bytes 2 count

-- the contents for a Join
unfoldable pub snapshot_of : Contents → ℕ → List ℕ
snapshot_of contents join = head_bytes join (length contents) ++ flat_map setting_bytes contents

-- contents that a snapshot can have
pub record IsContents (contents : Contents) : Type 0 where
  pub directory : IsDirectory contents
  pub numbers : All (λ setting. NumberIsInRange setting.number) (values_of contents)

-- these bytes are these contents for this Join
pub record IsSnapshot (bytes : List ℕ) (join : ℕ) (contents : Contents) : Type 0 where
  pub number : NumberIsInRange join
  pub within : IsContents contents
  pub same : bytes ≡ snapshot_of contents join

-- ---- the same, computed

-- a number within its limit
unfoldable pub limited_in : List ℕ → Option Numbered
limited_in bytes = do
  number ← number_in 4 bytes
  if nat_le number.number greatest_number then Some number else None

-- a key may stand after another, or first
abbrev pub may_follow : Option (List ℕ) → List ℕ → Bool
may_follow None key = true
may_follow (Some last) key = is_lt (key_cmp last key)

-- a key with what it has, and the bytes after it
pub record ReadKey : Type 0 where
  pub key : List ℕ
  pub setting : Setting
  pub rest : List ℕ

unfoldable pub setting_behind : Cut → Option ReadKey
setting_behind key = do
  number ← limited_in key.rest
  value ← field_in 0 most_value number.rest
  Some (record { key = key.field; setting = record { number = number.number; value = value.field }; rest = value.rest })

-- the first of them, after the last key
unfoldable pub setting_in : Option (List ℕ) → List ℕ → Option ReadKey
setting_in last bytes = do
  key ← field_in 1 most_key bytes
  if may_follow last key.field then setting_behind key else None

-- so many settings, the keys ascending from after the last one on, and nothing after them
unfoldable pub settings_in : ℕ → Option (List ℕ) → List ℕ → Option Contents
settings_in zero last bytes = if is_empty bytes then Some [] else None
settings_in (suc more) last bytes =
    setting_in last bytes >>= λ read. option_map (λ others. (read.key, read.setting) ∷ others) (settings_in more (Some read.key) read.rest)

-- what stands before them: the number of the Join, and how many they are
pub record SnapshotHead : Type 0 where
  pub join : ℕ
  pub count : ℕ
  pub rest : List ℕ

unfoldable pub head_behind : List ℕ → Option SnapshotHead
head_behind bytes = do
  join ← limited_in bytes
  count ← number_in 2 join.rest
  if nat_le count.number most_keys then Some (record { join = join.number; count = count.number; rest = count.rest }) else None

unfoldable pub head_in : List ℕ → Option SnapshotHead
head_in [] = None
head_in (kind ∷ bytes) = if kind == 4 then head_behind bytes else None

-- the Join that bytes are a snapshot for, and its contents
unfoldable pub snapshot_in : List ℕ → Option (ℕ × Contents)
snapshot_in bytes = head_in bytes >>= λ head. option_map (λ contents. (head.join, contents)) (settings_in head.count None head.rest)

-- bytes are read as a snapshot exactly where they are it
abbrev pub SnapshotsAreTheirBytes : Type 0
SnapshotsAreTheirBytes = (bytes : List ℕ) (join : ℕ) (contents : Contents) → IsBytes bytes
    → (snapshot_in bytes ≡ Some (join, contents)) ↔ IsSnapshot bytes join contents

-- contents stay such as a snapshot can have, whatever is applied
abbrev pub ContentsStayWithin : Type 0
ContentsStayWithin = (contents : Contents) (number : ℕ) (body : List ℕ) → IsContents contents → NumberIsInRange number → IsContents (applied contents number body)
