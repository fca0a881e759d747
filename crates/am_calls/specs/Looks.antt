-- What a further look of a call begins with.
use Rattle.std.specs.Prelude.{◌≡◌, ◌≤◌, List, Option, Bool, false, count_by}
use Rattle.am_group.specs.declared.event.Act.{Act}
use Rattle.am_group.specs.declared.event.Record.{Record}
use Rattle.am_group.specs.declared.plan.RacePlan.{RacePlan}
use Rattle.am_race_laws.specs.declared.call.Tag.{Tag}
use Rattle.am_race_laws.specs.declared.call.Came.{Came}
use Rattle.am_race_laws.specs.Going.{IsCame}
use Rattle.am_race_laws.specs.Tags.{of_call, own_of, is_turn_part}

-- what came of the call's own act is what its records say, and a call that has no turn left has used them
pub record CallerMayLook (plan : RacePlan) (tag : Tag) (a : Act) (came : Option Came) (has_turn : Bool) (seen : List Record) : Type 0 where
  pub came_ : IsCame a came (own_of (of_call tag.caller tag.call seen))
  pub used : has_turn ≡ false → plan.turns ≤ count_by (λ r. is_turn_part r.by.part) (of_call tag.caller tag.call seen)
