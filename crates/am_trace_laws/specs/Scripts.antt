-- That the journal of a race has a script.
use Rattle.std.specs.Prelude.{◌≤◌, List, length, map, All}
use Rattle.am_base.specs.Most.{most_events_of_run}
use Rattle.am_group.specs.declared.event.Record.{Record}
use Rattle.am_group.specs.declared.plan.RacePlan.{RacePlan}
use Rattle.am_script_defs.specs.Limits.{ScriptIsWithin}
use Rattle.am_script_defs.specs.RaceLimits.{RaceWithin}
use Rattle.am_race_laws.specs.Legal.{IsLegalWithTags}
use Rattle.am_race_laws.specs.Plans.{calls_of}
use Rattle.am_trace_laws.specs.RacedBodies.{ThreadHasBodies}

-- the events of a race that was read are within the limits of scripts
abbrev pub RacesHaveScripts : Type 0
RacesHaveScripts = (plan : RacePlan) (journal : List Record) → RaceWithin plan → All ThreadHasBodies plan.threads → length journal ≤ most_events_of_run
    → IsLegalWithTags plan (calls_of plan) journal → ScriptIsWithin plan.founding (map (λ r. r.event) journal)
