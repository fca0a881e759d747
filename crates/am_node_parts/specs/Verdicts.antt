-- What looking at a ballot comes to.
use Rattle.std.specs.Prelude.{◌≡◌}
use Rattle.am_base.specs.declared.outcome.Outcome.{Outcome}
use Rattle.am_base.specs.declared.outcome.Outcome.TheVariants.{Decided}
use Rattle.am_base.specs.Limits.{NumberIsInRange}
use Rattle.am_model.specs.Node.{Node}
use Rattle.am_model.specs.Ballots.{BallotVerdict}
use Rattle.am_model.specs.Ends.{IsEndOf}

-- the number that an answer tells a view's members is within its limit
abbrev pub IsTold : Outcome → Type 0
IsTold (Decided number members) = NumberIsInRange number
IsTold _ = Unit {0}

-- what a ballot comes to, done: the node is the end of the verdict's, and this is the answer
pub record VerdictComesTo (v : BallotVerdict) (outcome : Outcome) (new : Node) : Type 0 where
  pub node : IsEndOf v.node new
  pub answer : v.outcome ≡ outcome
