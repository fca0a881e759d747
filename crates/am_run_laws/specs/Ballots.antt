-- What is claimed of ballots.
use Rattle.std.specs.Prelude.{◌≡◌, ℕ, List, Option, Some, None, true, false}
use Rattle.am_base.specs.declared.name.Stamp.{Stamp}
use Rattle.am_base.specs.declared.outcome.Outcome.{Outcome}
use Rattle.am_base.specs.declared.outcome.Outcome.TheVariants as said
use Rattle.am_base.specs.Founding.{Rules, MayFound}
use Rattle.am_group.specs.declared.event.Event.{Event}
use Rattle.am_model.specs.Node.{Ballot, has_log_by_status}
use Rattle.am_group_defs.specs.World.{World, is_stopped, run}
use Rattle.am_run_laws.specs.PromisedClaim.{StampIsAtMost}

-- what a ballot may be answered with
abbrev pub IsOfBallot : Outcome → Type 0
IsOfBallot said.Asked = Unit {0}
IsOfBallot (said.Waiting names) = Unit {0}
IsOfBallot (said.Fetching from want) = Unit {0}
IsOfBallot (said.Decided number names) = Unit {0}
IsOfBallot (said.TooFew got least) = Unit {0}
IsOfBallot (said.Crowded base high) = Unit {0}
IsOfBallot (said.NotIn best) = Unit {0}
IsOfBallot (said.Overtaken by) = Unit {0}
IsOfBallot _ = ⊥

-- a name's ballot: of a stamp of its own, which as long as it is unfinished is its promise; who is given up has stopped
pub record BallotIsOwn (w : World) (i : ℕ) (promise : Stamp) (b : Ballot) : Type 0 where
  pub own : b.stamp.by ≡ i
  pub low : b.is_over ≡ false → StampIsAtMost b.stamp promise
  pub high : b.is_over ≡ false → StampIsAtMost promise b.stamp
  pub given : (name : ℕ) → b.given_up name ≡ true → is_stopped w name ≡ true
  pub answer : IsOfBallot b.answer

abbrev pub LastBallotIsSound : World → ℕ → Stamp → Option Ballot → Type 0
LastBallotIsSound w i promise None = Unit {0}
LastBallotIsSound w i promise (Some b) = BallotIsOwn w i promise b

pub record BallotsAreSound (w : World) : Type 0 where
  pub each : (i : ℕ) → LastBallotIsSound w i (w.nodes i).core.promise (w.nodes i).ballot
  -- who has no list has no ballot
  pub blank : (i : ℕ) → has_log_by_status (w.nodes i).status ≡ false → (w.nodes i).ballot ≡ None

-- In each run of every founding.
abbrev pub BallotsAreOwn : Type 0
BallotsAreOwn = (rules : Rules) (events : List Event) → MayFound rules → BallotsAreSound (run rules events)
