-- What is claimed of the texts of runs.
use Rattle.std.specs.Prelude.{◌≡◌, ◌⊎◌, ℕ, ◌==◌, if◌then◌else◌, List, ◌++◌, length, None, Ok}
use Rattle.am_base.specs.Founding.{Rules}
use Rattle.am_group.specs.declared.event.Event.{Event}
use Rattle.am_group_defs.specs.World.{run}
use Rattle.am_group_defs.specs.Claims.{NoBallot}
use Rattle.am_group_defs.specs.Lawful.{watch_run, broken_at}
use Rattle.am_group_defs.specs.Play.{play_text_of}
use Rattle.am_group_defs.specs.Text.{newline}
use Rattle.am_step_laws.specs.Bytes.{IsRunWithinScriptLimits}
use Rattle.am_script_defs.specs.Schedules.{script_text, AreOfBytes}
use Rattle.am_audit_defs.specs.declared.verdict.Verdict.{Verdict}
use Rattle.am_audit_defs.specs.declared.verdict.Verdict.TheVariants as verdicts
use Rattle.am_audit_defs.specs.Lines.{read_text}
use Rattle.am_audit_defs.specs.Verdicts.{verdict_of}
use Rattle.am_trace_laws.specs.Texts.{reading_of}

-- a text is read as the records, the list and the logs of a run
abbrev pub ReadsAs : Rules → List Event → List ℕ → Type 0
ReadsAs rules events text = read_text text ≡ Ok (reading_of rules (watch_run rules events))

-- the verdict that agrees: where there are no events, the lists agree
abbrev pub right_verdict : List Event → Verdict
right_verdict events = if length events == 0 then verdicts.ListsAgree else verdicts.Agrees

-- and its verdict agrees
pub record AgreesAs (rules : Rules) (events : List Event) (text : List ℕ) : Type 0 where
  pub reads : ReadsAs rules events text
  pub verdict : verdict_of (reading_of rules (watch_run rules events)) ≡ right_verdict events

-- a run that is lawful, or in which nobody began a ballot, whoever stops
abbrev pub IsOfOneList : Rules → List Event → Type 0
IsOfOneList rules events = (broken_at rules events ≡ None) ⊎ NoBallot (run rules events)

-- every run, lawful or not
abbrev pub RunsHaveTheirTexts : Type 0
RunsHaveTheirTexts = (rules : Rules) (events : List Event) → IsRunWithinScriptLimits rules events → AreOfBytes events → ReadsAs rules events (play_text_of rules events)

abbrev pub LawfulTextsAgree : Type 0
LawfulTextsAgree = (rules : Rules) (events : List Event) → IsRunWithinScriptLimits rules events → AreOfBytes events → IsOfOneList rules events
    → AgreesAs rules events (play_text_of rules events)

-- a run's text after a line that has its events as a script is read as it is without that line
abbrev pub ScriptsArePassedOver : Type 0
ScriptsArePassedOver = (rules : Rules) (events : List Event) → AreOfBytes events → ReadsAs rules events (play_text_of rules events)
    → ReadsAs rules events (script_text rules events ++ (newline ++ play_text_of rules events))
