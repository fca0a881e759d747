-- What the sends of a race have as bodies.
use Rattle.std.specs.Prelude.{List, All}
use Rattle.am_group.specs.declared.event.Act.{Act}
use Rattle.am_group.specs.declared.event.Record.{Record}
use Rattle.am_group.specs.declared.plan.RacePlan.{RacePlan}
use Rattle.am_group.specs.declared.plan.ThreadPlan.{ThreadPlan}
use Rattle.am_step_laws.specs.Bytes.{BodyIsWithinLimit}
use Rattle.am_script_defs.specs.Schedules.{IsOfBytes}
use Rattle.am_race_laws.specs.Legal.{IsLegalWithTags}
use Rattle.am_race_laws.specs.Plans.{calls_of}

-- a body that is sent is of bytes, at most 1,024
pub record HasBody (a : Act) : Type 0 where
  pub within : BodyIsWithinLimit a
  pub bytes : IsOfBytes a

abbrev pub ThreadHasBodies : ThreadPlan → Type 0
ThreadHasBodies thread = All HasBody thread.calls

-- where the bodies of planned calls are so, those of the journal are
abbrev pub RacesHavePlannedBodies : Type 0
RacesHavePlannedBodies = (plan : RacePlan) (journal : List Record) → All ThreadHasBodies plan.threads → IsLegalWithTags plan (calls_of plan) journal
    → All (λ (r : Record). HasBody r.event.act) journal
