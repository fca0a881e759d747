-- Text that is written in several calls.
use Rattle.std.specs.Prelude.{◌≡◌, ℕ, List, ◌++◌}
use Rattle.std.specs.Fmt.{WritesInCalls}

-- of all that is to be written from here on, so much is left there
pub record IsLeftToWrite {W : Type 0} (writes : W → List ℕ → W → Type 0) (start : W) (all : List ℕ) (now : W) (rest : List ℕ) : Type 0 where
  pub done : List ℕ
  pub wrote : WritesInCalls writes start done now
  pub whole : done ++ rest ≡ all
