use Rattle.std.proofs.Common.{ℕ, ◌<◌}
use Rattle.am_race_laws.specs.Boxes.{InBoth}
use Rattle.am_calls.proofs.acts.least_of_both.Given as goal

abbrev pub invariant-loop-place : goal.invariant-loop-place
invariant-loop-place l = (place : ℕ) → place < l.place → InBoth l.waited l.stopped place → ⊥
