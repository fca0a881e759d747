-- What a race writes.
use Rattle.std.specs.Prelude.{◌≡◌, ℕ, ◌≤◌, List, ◌++◌, length, map, Ok, false}
use Rattle.am_base.specs.Most.{most_events_of_run}
use Rattle.am_base.specs.Founding.{Rules}
use Rattle.am_group.specs.declared.event.Event.{Event}
use Rattle.am_group.specs.declared.event.Record.{Record}
use Rattle.am_group.specs.declared.plan.RacePlan.{RacePlan}
use Rattle.am_group_defs.specs.Text.{newline}
use Rattle.am_group_defs.specs.Play.{play_text_of}
use Rattle.am_script_defs.specs.Limits.{ScriptIsWithin}
use Rattle.am_script_defs.specs.Scripts.{script_of, script_reading}
use Rattle.am_script_defs.specs.Schedules.{script_text, AreOfBytes}
use Rattle.am_race_laws.specs.Legal.{IsLegalWithTags}
use Rattle.am_race_laws.specs.Plans.{calls_of, ArePlayed}

-- what was done
abbrev pub events_of : List Record → List Event
events_of records = map (λ r. r.event) records

-- what was done as a script, which is one line, and the text of the run of that
abbrev pub race_text : Rules → List Event → List ℕ
race_text rules events = script_text rules events ++ (newline ++ play_text_of rules events)

-- the journal of a race: legal with its tags, with each thread's calls done as far as they go on, and no longer than a run
pub record IsRaced (plan : RacePlan) (journal : List Record) : Type 0 where
  pub legal : IsLegalWithTags plan (calls_of plan) journal
  pub played : ArePlayed plan journal
  pub few : length journal ≤ most_events_of_run

-- events within the limits of scripts are read again as their script
abbrev pub IsReadAgain : Rules → List Event → Type 0
IsReadAgain rules events = ScriptIsWithin rules events → AreOfBytes events → script_reading (script_text rules events) ≡ Ok (script_of rules events false)

-- a text is that of a journal of a race, whose script is read again
abbrev pub IsRaceText : RacePlan → List ℕ → Type 0
IsRaceText plan text = (journal : List Record) × IsRaced plan journal × (text ≡ race_text plan.founding (events_of journal))
    × IsReadAgain plan.founding (events_of journal)
