-- The numbers of an outcome, in order.
use Rattle.std.specs.Prelude.{ℕ, List, [], ◌∷◌}
use Rattle.am_report.specs.declared.outcome.OutcomeNumbers.{OutcomeNumbers}
use Rattle.am_report.specs.declared.outcome.OutcomeNumbers.TheVariants.{Nothing, One, Two, Three}

unfoldable pub outcome_numbers_in : OutcomeNumbers → List ℕ
outcome_numbers_in Nothing = []
outcome_numbers_in (One first) = first ∷ []
outcome_numbers_in (Two first second) = first ∷ second ∷ []
outcome_numbers_in (Three first second third) = first ∷ second ∷ third ∷ []
