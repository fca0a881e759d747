-- For whom a letter is.
use Rattle.std.specs.Prelude.{◌≡◌, ℕ, ◌+◌, ◌≤◌, List, [], ◌∷◌, length, take, drop, Option, Some, None, Bool, nat_lt, if◌then◌else◌, slice_index}
use Rattle.am_base.specs.Names.{place_of_name, has}
use Rattle.am_packet.specs.Boxes.{Letter}

-- a letter is for the names in its set, or for every life of their places
abbrev pub is_for : Letter → ℕ → Bool
is_for letter name = if letter.any then nat_lt 0 (slice_index letter.to (place_of_name name)) else has letter.to name

-- the number of the first letter that is for a name, where the letters are numbered from one on
abbrev pub first_for : List Letter → ℕ → ℕ → Option ℕ
first_for [] number name = None
first_for (letter ∷ letters) number name = if is_for letter name then Some number else first_for letters (number + 1) name

-- the least number above another whose letter is for a name
unfoldable pub next_for : List Letter → ℕ → ℕ → Option ℕ
next_for letters name after = first_for (drop after letters) (after + 1) name

-- the letters up to a number were looked through: none of them above another number is for the name
pub record IsSeen (letters : List Letter) (name after seen : ℕ) : Type 0 where
  pub low : after ≤ seen
  pub high : seen ≤ length letters
  pub none : next_for (take seen letters) name after ≡ None
