-- Lawfulness between the moves of one event.
use Rattle.std.specs.Prelude.{ℕ, List}
use Rattle.am_abstract_group.specs.Group.{Group}
use Rattle.am_abstract_group.specs.Moves.{Move, stops}
use Rattle.am_abstract_group.specs.Runs.{Run}

abbrev pub IsNoStop : {s t : Group} → Move s t → Type 0
IsNoStop (stops i) = ⊥
IsNoStop _ = Unit {0}

-- a run that goes on by a move that is no stop, before any view is marked, is lawful
abbrev pub LawfulRunsGoOn : Type 0
LawfulRunsGoOn = (founders : List ℕ) (first resilience : ℕ) (s t : Group) → Run founders first resilience s → (move : Move s t) → IsNoStop move
    → Run founders first resilience t
