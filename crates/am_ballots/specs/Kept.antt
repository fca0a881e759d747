-- A ballot as it is kept: what each of the 256 names voted, and who was given up, in lists by the names' bytes.
use Rattle.std.specs.Prelude.{ℕ, List, Option, None, Bool, false, slice_index_or}
use Rattle.am_base.specs.declared.image.Vote.{Vote}
use Rattle.am_base.specs.declared.name.Stamp.{Stamp}
use Rattle.am_base.specs.declared.outcome.Outcome.{Outcome}
use Rattle.am_model.specs.Node.{Ballot}

pub record KeptBallot : Type 0 where
  pub stamp : Stamp
  pub least : ℕ
  pub resilience : ℕ
  pub votes : List (Option Vote)
  pub given_up : List Bool
  pub answer : Outcome
  pub is_over : Bool

-- the votes of a list
abbrev pub votes_of : List (Option Vote) → ℕ → Option Vote
votes_of kept = λ name. slice_index_or kept name None

-- the names that are marked in a list
abbrev pub marks_of : List Bool → ℕ → Bool
marks_of kept = λ name. slice_index_or kept name false

-- the ballot that is kept
abbrev pub ballot_of : KeptBallot → Ballot
ballot_of b = record {
  stamp = b.stamp;
  least = b.least;
  resilience = b.resilience;
  votes = votes_of b.votes;
  given_up = marks_of b.given_up;
  answer = b.answer;
  is_over = b.is_over;
}
