-- What is claimed of runs in which no ballot is decided.
use Rattle.std.specs.Prelude.{◌≡◌, ℕ, List}
use Rattle.am_abstract_group.specs.Group.{Group}
use Rattle.am_abstract_group.specs.Runs.{QuietRun, first_stamp}
use Rattle.am_abstract_group.specs.Kept.{GroupKeeps}

-- in a run in which no ballot is decided, whoever stops, all that is kept, and the first view stays
pub record KeptByFirst (first : ℕ) (s : Group) : Type 0 where
  pub kept : GroupKeeps s
  pub current : s.views.current ≡ first_stamp first

abbrev pub QuietRunsKeep : Type 0
QuietRunsKeep = (founders : List ℕ) (first resilience : ℕ) (s : Group) → QuietRun founders first resilience s → KeptByFirst first s
