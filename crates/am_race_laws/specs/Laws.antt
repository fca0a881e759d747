-- What holds of the definitions.
use Rattle.std.specs.Prelude.{◌≡◌, ◌≢◌, ◌↔◌, ℕ, List, [], ◌∷◌, ◌++◌, true, All}
use Rattle.am_base.specs.Founding.{Rules}
use Rattle.am_base.specs.Names.{place_of_name, has}
use Rattle.am_group.specs.declared.event.By.{By}
use Rattle.am_group.specs.declared.event.Event.{Event}
use Rattle.am_group.specs.declared.event.Record.{Record}
use Rattle.am_group.specs.declared.plan.RacePlan.{RacePlan}
use Rattle.am_group_defs.specs.Legal.{IsLegal}
use Rattle.am_shared_journal_defs.specs.declared.terms.SharerKey.TheVariants.{Place, Caller}
use Rattle.am_shared_journal_defs.specs.declared.terms.Terms.{Terms}
use Rattle.am_shared_journal_defs.specs.Keys.{of_key}
use Rattle.am_shared_journal_defs.specs.Sights.{EachComesNext}
use Rattle.am_shared_journal_defs.specs.Stops.{stopped_names, has_stopped}
use Rattle.am_race_laws.specs.Told.{world_after, IsNext}
use Rattle.am_race_laws.specs.Turns.{is_turn}
use Rattle.am_race_laws.specs.Lawful.{IsLawfulRecord}
use Rattle.am_race_laws.specs.Tags.{of_place, of_caller, of_call, up_to_last}

-- a journal is legal where each record is what its event gives after those before it
abbrev pub EachIsNext : Type 0
EachIsNext = (rules : Rules) (journal : List Record) → IsLegal rules journal
    ↔ ((before rest : List Record) (r : Record) → journal ≡ before ++ r ∷ rest → IsNext rules before r)

-- a record of another place leaves a name's node, and the life of its place
abbrev pub OthersStay : Type 0
OthersStay = (rules : Rules) (before : List Record) (r : Record) (name : ℕ) → place_of_name name ≢ place_of_name r.event.node
    → ((world_after rules (before ++ r ∷ [])).nodes name ≡ (world_after rules before).nodes name)
    × ((world_after rules (before ++ r ∷ [])).lives (place_of_name name) ≡ (world_after rules before).lives (place_of_name name))

-- what is known, what a place and a caller did, and the records of a call are the same
pub record KnowledgeIsSame (at by number : ℕ) (before after : List Record) : Type 0 where
  pub known : up_to_last at by after ≡ up_to_last at by before
  pub place : of_place at after ≡ of_place at before
  pub caller : of_caller by after ≡ of_caller by before
  pub call : of_call by number after ≡ of_call by number before

-- a record of another place and another caller
pub record RecordIsApart (at by : ℕ) (r : Record) : Type 0 where
  pub place : place_of_name r.event.node ≢ at
  pub caller : r.by.caller ≢ by

-- it leaves them
abbrev pub OthersAreApart : Type 0
OthersAreApart = (place caller call : ℕ) (before : List Record) (r : Record) → RecordIsApart place caller r → KnowledgeIsSame place caller call before (before ++ r ∷ [])

-- a turn is one also where others' records came between
abbrev pub TurnsStay : Type 0
TurnsStay = (plan : RacePlan) (before more : List Record) (e : Event) (by : By) → All (RecordIsApart (place_of_name e.node) by.caller) more
    → is_turn plan before e by ≡ true
    → is_turn plan (before ++ more) e by ≡ true

-- in a lawful journal the set of the names that stopped has just those names
abbrev pub StoppedAreKnown : Type 0
StoppedAreKnown = (terms : Terms) (before : List Record) (name : ℕ) → EachComesNext (IsLawfulRecord terms) before → has (stopped_names before) name
    ≡ has_stopped before name

-- the records of a place and of a caller are those of their keys
pub record HaveKeys (records : List Record) : Type 0 where
  pub place : (place : ℕ) → of_place place records ≡ of_key (Place place) records
  pub caller : (caller : ℕ) → of_caller caller records ≡ of_key (Caller caller) records
