-- What reads take and how faults are counted. A source or sink may tell its bytes or not, as std's readers and writers do.
use Rattle.std.specs.Prelude.{◌≡◌, ℕ, ◌+◌, ◌-◌, ◌^◌, ◌<◌, ◌≤◌, [], List, Option, Some, None, length, min}
use Rattle.std.specs.Io.KnownBytes.{Consumes}
use Rattle.am_io.specs.declared.outside.ReadResult.{ReadResult}
use Rattle.am_io.specs.declared.outside.ReadResult.TheVariants.{Took, End, Failed}
use Rattle.am_io.specs.declared.outside.WriteResult.{WriteResult}
use Rattle.am_io.specs.declared.outside.WriteResult.TheVariants.{Took as Wrote, Failed as Refused}

-- one more, up to the greatest count
abbrev pub next : ℕ → ℕ
next n = min (n + 1) (2 ^ 64 - 1)

-- the count of faults after a read: one more exactly where it failed
abbrev pub faults_after : ReadResult → ℕ → ℕ
faults_after (Took n) before = before
faults_after End before = before
faults_after Failed before = next before

-- the same after a write
abbrev pub refusals_after : WriteResult → ℕ → ℕ
refusals_after (Wrote n) before = before
refusals_after Refused before = next before

-- these bytes are all that was left, and nothing is left
abbrev pub ReadToEnd : Option (List ℕ) → Option (List ℕ) → List ℕ → Type 0
ReadToEnd (Some before) after bytes = (before ≡ bytes) × (after ≡ Some [])
ReadToEnd None after bytes = Unit {0}

-- more bytes than the limit were taken
abbrev pub GaveMore : ℕ → Option (List ℕ) → Option (List ℕ) → Type 0
GaveMore limit before after = (bytes : List ℕ) × Consumes before after bytes × (limit < length bytes)

-- at most so many bytes were taken
abbrev pub GaveAtMost : ℕ → Option (List ℕ) → Option (List ℕ) → Type 0
GaveAtMost limit before after = (bytes : List ℕ) × Consumes before after bytes × (length bytes ≤ limit)

-- what holds of the number of bytes that a read took
abbrev pub IfTook : ReadResult → (ℕ → Type 0) → Type 0
IfTook (Took n) claim = claim n
IfTook End claim = Unit {0}
IfTook Failed claim = Unit {0}

-- what holds where a read found the end
abbrev pub OnEnd : ReadResult → Type 0 → Type 0
OnEnd (Took n) claim = Unit {0}
OnEnd End claim = claim
OnEnd Failed claim = Unit {0}

-- what holds where a read failed
abbrev pub OnFailed : ReadResult → Type 0 → Type 0
OnFailed (Took n) claim = Unit {0}
OnFailed End claim = Unit {0}
OnFailed Failed claim = claim

-- what holds of the number of bytes that a write took
abbrev pub IfPut : WriteResult → (ℕ → Type 0) → Type 0
IfPut (Wrote n) claim = claim n
IfPut Refused claim = Unit {0}

-- what holds where a write was refused
abbrev pub OnRefused : WriteResult → Type 0 → Type 0
OnRefused (Wrote n) claim = Unit {0}
OnRefused Refused claim = claim
