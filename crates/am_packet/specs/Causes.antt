-- How far a header is right.
use Rattle.std.specs.Prelude.{◌≡◌, ◌≢◌, ℕ, ◌≤◌, List, length, None, true}
use Rattle.am_packet.specs.Kinds.{kind_at}
use Rattle.am_packet.specs.Reading.{has_mark, version_in, kind_in, total_in}

abbrev pub HasMark : List ℕ → Type 0
HasMark bytes = (12 ≤ length bytes) × (has_mark bytes ≡ true)

abbrev pub HasVersion : List ℕ → Type 0
HasVersion bytes = HasMark bytes × (version_in bytes ≡ 3)

abbrev pub HasKind : List ℕ → Type 0
HasKind bytes = HasVersion bytes × (kind_at (kind_in bytes) ≢ None)

abbrev pub HasTotal : List ℕ → Type 0
HasTotal bytes = HasKind bytes × (total_in bytes ≡ length bytes)
