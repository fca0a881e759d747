-- The limits of keys and values.
use Rattle.std.specs.Prelude.{ℕ, ◌≤◌, List, length}

-- of bytes in a key, which has one at least
abbrev pub most_key : ℕ
most_key = 32

-- of bytes in a value
abbrev pub most_value : ℕ
most_value = 64

-- of bytes in a command
abbrev pub most_command : ℕ
most_command = 99

pub record IsKey (key : List ℕ) : Type 0 where
  pub some : 1 ≤ length key
  pub few : length key ≤ most_key

abbrev pub IsValue : List ℕ → Type 0
IsValue value = length value ≤ most_value
