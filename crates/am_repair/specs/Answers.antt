-- What is answered of the sends that stand in the list, and what is given of it.
use Rattle.std.specs.Prelude.{◌≡◌, ◌≢◌, ℕ, zero, suc, ◌+◌, ◌<◌, ◌≤◌, List, Some, true}
use Rattle.am_base.specs.declared.entry.Entry.{Entry}
use Rattle.am_base.specs.declared.entry.Entry.TheVariants.{Data}
use Rattle.am_base.specs.declared.outcome.Outcome.TheVariants as said
use Rattle.am_base.specs.declared.event.NodeEvent.TheVariants as does
use Rattle.am_base.specs.Founding.{Rules, MayFound}
use Rattle.am_base.specs.Lists.{log_entry_at}
use Rattle.am_base.specs.Names.{has}
use Rattle.am_group.specs.declared.event.Event.{Event}
use Rattle.am_model.specs.Node.{Node, top, members, is_member}
use Rattle.am_model.specs.Step.{step}
use Rattle.am_group_defs.specs.Lawful.{lawful_front}
use Rattle.am_group_defs.specs.Settle.{settle_events}
use Rattle.am_group_defs.specs.World.{current, world_after_events, run}
use Rattle.am_repair.specs.Claim.{MayRepair}

-- no own send is pending that stands in a node's list from where the node joined up to this number
abbrev pub AnswersUpTo : Node → ℕ → Type 0
AnswersUpTo m last = (number req : ℕ) (body : List ℕ) → m.core.start ≤ number → number ≤ last → log_entry_at m.core.log number ≡ Some (Data m.core.who req body)
    → (step m (does.Done req)).outcome ≢ said.Pending req

-- in every run, up to what a node has accepted
abbrev pub AcceptedAreAnswered : Type 0
AcceptedAreAnswered = (rules : Rules) (events : List Event) (name : ℕ) → MayFound rules
    → AnswersUpTo ((run rules events).nodes name) ((run rules events).nodes name).core.acc

-- and where a group may be repaired, after a lossless schedule up to where the sequencer stood
abbrev pub RepairedAreAnswered : Type 0
RepairedAreAnswered = (rules : Rules) (events : List Event) (place : ℕ) → MayFound rules → place < 16 → lawful_front rules events ≡ events
    → MayRepair (run rules events) place
    → (name : ℕ) → has (members ((run rules events).nodes (current (run rules events) place))) name ≡ true
    → AnswersUpTo ((world_after_events (run rules events) (settle_events rules (run rules events))).nodes name)
    (top ((run rules events).nodes (current (run rules events) place)))

-- so many Takes give the next entries of a node's list, one each
unfoldable pub Gives : ℕ → Node → Type 0
Gives zero m = Unit {0}
Gives (suc many) m = ((e : Entry) × (log_entry_at m.core.log (m.core.taken + 1) ≡ Some e) × ((step m does.Take).outcome ≡ said.Took (m.core.taken + 1) e))
    × Gives many (step m does.Take).node

-- a Member's up to a number
abbrev pub GivesUpTo : Node → ℕ → Type 0
GivesUpTo m last = (many : ℕ) → is_member m.status ≡ true → m.core.taken + many ≤ last → Gives many m

-- in every run, up to what it has accepted
abbrev pub AcceptedAreGiven : Type 0
AcceptedAreGiven = (rules : Rules) (events : List Event) (name : ℕ) → MayFound rules → name < 256
    → GivesUpTo ((run rules events).nodes name) ((run rules events).nodes name).core.acc

-- and where a group may be repaired, after a lossless schedule up to where the sequencer stood
abbrev pub RepairedAreGiven : Type 0
RepairedAreGiven = (rules : Rules) (events : List Event) (place : ℕ) → MayFound rules → place < 16 → lawful_front rules events ≡ events
    → MayRepair (run rules events) place
    → (name : ℕ) → name < 256 → has (members ((run rules events).nodes (current (run rules events) place))) name ≡ true
    → GivesUpTo ((world_after_events (run rules events) (settle_events rules (run rules events))).nodes name)
    (top ((run rules events).nodes (current (run rules events) place)))
