-- What a call that plays did.
use Rattle.std.specs.Prelude.{◌≡◌, ℕ, ◌<◌, ◌≤◌, true, List, length, take, Option, Ok, Err, Bool}
use Rattle.am_base.specs.Most.{most_events_of_run}
use Rattle.am_base.specs.Founding.{Rules}
use Rattle.am_base.specs.Names.{has}
use Rattle.am_group.specs.declared.event.Event.{Event}
use Rattle.am_model.specs.Node.{top, members}
use Rattle.am_group_defs.specs.World.{current, run}
use Rattle.am_group_defs.specs.Claims.{Headline, FitsView, Sent, NoBallot, HoldsUnballoted}
use Rattle.am_group_defs.specs.Lawful.{Watch, lawful_front}
use Rattle.am_repair.specs.Claim.{MayRepair, HasCaughtUp}
use Rattle.am_repair.specs.Answers.{AnswersUpTo}
use Rattle.am_io.specs.Outside.{ReadToEnd}
use Rattle.am_script_defs.specs.declared.script.Script.{Script}
use Rattle.am_script_defs.specs.Limits.{ScriptIsWithin}
use Rattle.am_script_defs.specs.Scripts.{script_of, script_reading}
use Rattle.am_world.specs.declared.world.WorldRefusal.{WorldRefusal}
use Rattle.am_world.specs.declared.world.WorldRefusal.TheVariants as refusals
use Rattle.am_player.specs.declared.play.Unplayed.{Unplayed}
use Rattle.am_player.specs.declared.play.Unplayed.TheVariants as unplayed
use Rattle.am_player.specs.Runs.{done_of, run_watch, IsRunText, IsLong}

-- What is claimed of every run: the headline, which is up to its lawful front, and that no node ever kept more than it may; and that at each moment up
-- to there a View which leaves somebody out fits each node. Besides, of the whole run, whoever stops: everything in the one group list was sent before it
-- stood there; and where nobody began a ballot, all but what the headline says of complete views.
pub record KeepsRun (rules : Rules) (events : List Event) : Type 0 where
  pub headline : Headline rules events
  pub fits : (moment name : ℕ) → FitsView rules ((run rules (take moment (lawful_front rules events))).nodes name)
  pub sent : Sent rules events
  pub unballoted : NoBallot (run rules events) → HoldsUnballoted rules events

-- Where a run is lawful and its group may be repaired, the events that settle the run bring each member of the sequencer's list to where the sequencer
-- stood: it has stored all up to there, and knows it to be accepted.
abbrev pub Repaired : Rules → List Event → Type 0
Repaired rules events = (place : ℕ) → place < 16 → lawful_front rules events ≡ events → MayRepair (run rules events) place
    → (name : ℕ) → has (members ((run rules events).nodes (current (run rules events) place))) name ≡ true
    → HasCaughtUp ((run rules (done_of rules events true)).nodes name) (top ((run rules events).nodes (current (run rules events) place)))

-- And of each of them no own send is pending that stands in its list up to there, from where it joined.
abbrev pub SendsAreAnswered : Rules → List Event → Type 0
SendsAreAnswered rules events = (place : ℕ) → place < 16 → lawful_front rules events ≡ events → MayRepair (run rules events) place
    → (name : ℕ) → has (members ((run rules events).nodes (current (run rules events) place))) name ≡ true
    → AnswersUpTo ((run rules (done_of rules events true)).nodes name) (top ((run rules events).nodes (current (run rules events) place)))

-- what was read is a script within its limits, what was written is shown of its run, which has at most 100,000 events, and that run keeps what is claimed;
-- where it is settled, it is repaired, and what stands is answered
pub record PlayedBy (what : Rules → Watch → List ℕ) (bytes text : List ℕ) : Type 0 where
  pub founding : Rules
  pub events : List Event
  pub settles : Bool
  pub script : script_reading bytes ≡ Ok (script_of founding events settles)
  pub within : ScriptIsWithin founding events
  pub written : text ≡ what founding (run_watch founding events settles)
  pub few : length (done_of founding events settles) ≤ most_events_of_run
  pub keeps : KeepsRun founding (done_of founding events settles)
  pub repaired : settles ≡ true → Repaired founding events
  pub answered : settles ≡ true → SendsAreAnswered founding events

-- a text is shown of the script that was read to the end of what was left
abbrev pub IsPlayedBy : (Rules → Watch → List ℕ) → Option (List ℕ) → Option (List ℕ) → List ℕ → Type 0
IsPlayedBy what before after text = (bytes : List ℕ) × ReadToEnd before after bytes × PlayedBy what bytes text

-- the bytes are a script of which this holds
abbrev pub IsScript : List ℕ → (Rules → List Event → Bool → Type 0) → Type 0
IsScript bytes claim = (founding : Rules) × (events : List Event) × (settle : Bool) × (script_reading bytes ≡ Ok (script_of founding events settle))
    × claim founding events settle

-- a script whose run would have more events than a run may have
abbrev pub IsSpent : List ℕ → Type 0
IsSpent bytes = IsScript bytes IsLong

-- a text is shown of what a play's run does
abbrev pub IsText : (Rules → Watch → List ℕ) → Script → List ℕ → Type 0
IsText what script text = IsRunText what script.founding script.events script.settle text

-- why a play isn't run
abbrev pub IsUnrun : Script → Unplayed → Type 0
IsUnrun script (unplayed.BadScript cause) = ⊥
IsUnrun script unplayed.Spent = IsLong script.founding script.events script.settle
IsUnrun script unplayed.NoMemory = Unit {0}

-- why bytes have no text
abbrev pub IsUnplayed : List ℕ → Unplayed → Type 0
IsUnplayed bytes (unplayed.BadScript cause) = script_reading bytes ≡ Err cause
IsUnplayed bytes unplayed.Spent = IsSpent bytes
IsUnplayed bytes unplayed.NoMemory = Unit {0}

-- the cause by a world's
abbrev pub unplayed_for : WorldRefusal → Unplayed
unplayed_for refusals.NoMemory = unplayed.NoMemory
unplayed_for refusals.Spent = unplayed.Spent
