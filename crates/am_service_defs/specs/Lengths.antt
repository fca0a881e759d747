-- What commands and snapshots are made of: fields of a length, and numbers, each with the bytes after it.
use Rattle.std.specs.Prelude.{ℕ, List, [], ◌∷◌, length, take, drop, ◌&&◌, nat_le, if◌then◌else◌, Option, Some, None}
use Rattle.byteorder.specs.Endian.{big_number}

infixl 10 ◌>>=◌
abbrev pub ◌>>=◌ : {A B : Type 0} → Option A → (A → Option B) → Option B
(Some x) >>= f = f x
None >>= f = None

-- bytes, and those after them
pub record Cut : Type 0 where
  pub field : List ℕ
  pub rest : List ℕ

-- so many bytes
unfoldable pub cut_at : ℕ → List ℕ → Option Cut
cut_at count bytes = if nat_le count (length bytes) then Some (record { field = take count bytes; rest = drop count bytes }) else None

-- a field is a byte with its length, and so many bytes
abbrev pub field_bytes : List ℕ → List ℕ
field_bytes field = length field ∷ field

-- a field of a length within these two
unfoldable pub field_in : ℕ → ℕ → List ℕ → Option Cut
field_in least most [] = None
field_in least most (count ∷ bytes) = if nat_le least count && nat_le count most then cut_at count bytes else None

-- a number, and the bytes after it
pub record Numbered : Type 0 where
  pub number : ℕ
  pub rest : List ℕ

-- a number in so many bytes, the most significant first
unfoldable pub number_in : ℕ → List ℕ → Option Numbered
number_in count bytes = if nat_le count (length bytes) then Some (record { number = big_number count bytes; rest = drop count bytes }) else None
