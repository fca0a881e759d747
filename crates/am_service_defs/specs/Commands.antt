-- What a body asks of a directory.
use Rattle.std.specs.Prelude.{◌≡◌, ◌↔◌, ℕ, List, [], ◌∷◌, ◌++◌, ◌==◌, if◌then◌else◌, Bool, true, false, Option, Some, None}
use Rattle.std.specs.Option.{option_map}
use Rattle.am_service_defs.specs.Values.{most_key, most_value, IsKey, IsValue}
use Rattle.am_service_defs.specs.Lengths.{◌>>=◌, Cut, field_bytes, field_in}

pub data Command : Type 0 where
  Put : List ℕ → List ℕ → Command
  Delete : List ℕ → Command
  Claim : List ℕ → List ℕ → Command

-- its key and value are within their limits
abbrev pub IsCommand : Command → Type 0
IsCommand (Put key value) = IsKey key × IsValue value
IsCommand (Delete key) = IsKey key
IsCommand (Claim key value) = IsKey key × IsValue value

-- a command as a body: its kind, its key, its value
abbrev pub command_bytes : Command → List ℕ
command_bytes (Put key value) = 1 ∷ field_bytes key ++ field_bytes value
command_bytes (Delete key) = 2 ∷ field_bytes key
command_bytes (Claim key value) = 3 ∷ field_bytes key ++ field_bytes value

abbrev pub is_empty : List ℕ → Bool
is_empty [] = true
is_empty (byte ∷ bytes) = false

-- a field with nothing after it
abbrev pub sole : Cut → Option (List ℕ)
sole cut = if is_empty cut.rest then Some cut.field else None

-- a value with nothing after it
unfoldable pub value_in_body : List ℕ → Option (List ℕ)
value_in_body bytes = do
  value ← field_in 0 most_value bytes
  sole value

-- the command of a kind, a key and the bytes after that
unfoldable pub of_kind : ℕ → Cut → Option Command
of_kind kind key =
    if kind == 1 then option_map (Put key.field) (value_in_body key.rest)
    else if kind == 2 then option_map Delete (sole key)
    else if kind == 3 then option_map (Claim key.field) (value_in_body key.rest)
    else None

-- the command that a body is, where it is one
unfoldable pub command_of : List ℕ → Option Command
command_of [] = None
command_of (kind ∷ bytes) = do
  key ← field_in 1 most_key bytes
  of_kind kind key

-- a body is a command exactly where it is that command's bytes
abbrev pub CommandsAreTheirBytes : Type 0
CommandsAreTheirBytes = (body : List ℕ) (command : Command) → (command_of body ≡ Some command) ↔ ((body ≡ command_bytes command) × IsCommand command)
