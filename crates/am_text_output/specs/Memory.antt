-- Sources and sinks in memory.
use Rattle.std.specs.Prelude.{ℕ, List, []}

-- bytes to give, the numbers of the reads that fail, the most that one read gives, the reads and the faults so far
pub record Supply : Type 0 where
  pub left : List ℕ
  pub fail : List ℕ
  pub most : ℕ
  pub calls : ℕ
  pub faults : ℕ

-- before its first read
abbrev pub new_supply : List ℕ → List ℕ → ℕ → Supply
new_supply left fail most = record { left = left; fail = fail; most = most; calls = 0; faults = 0 }

-- bytes held, the numbers of the writes that fail, the most that one write takes, the most bytes that it can hold, the
-- writes and the faults so far
pub record Store : Type 0 where
  pub held : List ℕ
  pub fail : List ℕ
  pub most : ℕ
  pub size : ℕ
  pub calls : ℕ
  pub faults : ℕ

-- before its first write
abbrev pub new_store : List ℕ → ℕ → ℕ → Store
new_store fail most size = record { held = []; fail = fail; most = most; size = size; calls = 0; faults = 0 }
