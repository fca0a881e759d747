-- A sink behind a room: what is written goes to the sink in order, piece by piece, until a write fails.
use Rattle.std.specs.Prelude.{◌≡◌, ℕ, List, [], ◌++◌, Option, true, false, if◌then◌else◌}
use Rattle.std.specs.Io.KnownBytes.{Appends}
use Rattle.am_io.specs.Outside.{next}
use Rattle.am_io.specs.declared.buffered.Buffered.{Buffered}

-- no write failed, and the room is empty
abbrev pub IsEmpty : {K : Type 0} → Buffered K → Type 0
IsEmpty out = (out.failed ≡ false) × (out.room.items ≡ [])

-- The sink took a beginning of what the room held and of what was written after that. The room holds the rest; but where a write failed, that is lost,
-- and one fault more is counted.
pub record Moves {K : Type 0} (contents : K → Option (List ℕ)) (count : K → ℕ) (before : Buffered K) (bytes : List ℕ) (after : Buffered K) : Type 0 where
  pub taken : List ℕ
  pub rest : List ℕ
  pub appended : Appends (contents before.sink.now) (contents after.sink.now) taken
  pub whole : taken ++ rest ≡ before.room.items ++ bytes
  pub held : after.failed ≡ false → after.room.items ≡ rest
  pub counted : count after.sink.now ≡ (if after.failed then next (count before.sink.now) else count before.sink.now)

-- after a fault the sink is let alone
pub record Rests {K : Type 0} (before after : Buffered K) : Type 0 where
  pub failed : after.failed ≡ true
  pub same : after.sink.now ≡ before.sink.now

-- these bytes were written: they went on as far as writes didn't fail
pub record Goes {K : Type 0} (contents : K → Option (List ℕ)) (count : K → ℕ) (before : Buffered K) (bytes : List ℕ) (after : Buffered K) : Type 0 where
  pub named : after.sink.ghost_name ≡ before.sink.ghost_name
  pub moves : before.failed ≡ false → Moves contents count before bytes after
  pub rests : before.failed ≡ true → Rests before after
