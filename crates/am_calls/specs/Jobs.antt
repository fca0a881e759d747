-- What callers leave that did a job.
use Rattle.std.specs.Prelude.{List, All}
use Rattle.am_group.specs.declared.event.Record.{Record}
use Rattle.am_group.specs.declared.plan.RacePlan.{RacePlan}
use Rattle.am_race_laws.specs.Callings.{Calling}
use Rattle.am_race_laws.specs.Ran.{IsLeft}

-- the journal that the callers of a plan left, of each of which this holds
pub record IsLeftBy (did : Calling → Type 0) (plan : RacePlan) (journal : List Record) : Type 0 where
  pub left : IsLeft plan journal
  pub done : All did left.callers
