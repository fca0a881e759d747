-- The journals that a race may leave.
use Rattle.std.specs.Prelude.{◌≡◌, ℕ, ◌<◌, List, ◌∷◌, ◌++◌, Bool, true, false, ◌&&◌, ◌==◌}
use Rattle.std.specs.List.{list_all}
use Rattle.am_base.specs.Names.{place_of_name}
use Rattle.am_group.specs.declared.event.Act.{Act}
use Rattle.am_group.specs.declared.event.Act.TheVariants as act
use Rattle.am_group.specs.declared.event.Record.{Record}
use Rattle.am_group.specs.declared.plan.RacePlan.{RacePlan}
use Rattle.am_group.specs.declared.plan.ThreadPlan.{ThreadPlan}
use Rattle.am_group.specs.Deliveries.{acting_name_of_record}
use Rattle.am_group_defs.specs.Legal.{IsLegal}
use Rattle.am_shared_journal_defs.specs.Stops.{has_stopped}
use Rattle.am_race_laws.specs.Tags.{of_caller, is_turn_part}
use Rattle.am_race_laws.specs.Answers.{is_end}
use Rattle.am_race_laws.specs.Turns.{is_turn, may_end}
use Rattle.am_race_laws.specs.Callers.{is_callers, are_finished}
use Rattle.am_race_laws.specs.Lawful.{is_of_race, IsSent}

-- a record of its place's first life, which its event names; it hears packets whole, as they were sent to it, and doesn't return
pub record IsOfRace (before : List Record) (r : Record) : Type 0 where
  pub node : r.event.node < 16
  pub life : r.life ≡ 1
  pub act_ : is_of_race r.event.act ≡ true
  pub hears : (number : ℕ) → r.event.act ≡ act.Hear number → IsSent before (acting_name_of_record r) number

-- the run of its events gives its outcomes and letters; the records of each caller are those of its calls; each turn
-- is one of its call by what stood before it; each call ends where it is ready, or has used its turns;
-- a name that stopped does nothing more; and each record is of its place's first life, and hears what was sent to it
pub record IsLegalWithTags (plan : RacePlan) (calls : ℕ → List Act) (journal : List Record) : Type 0 where
  pub legal : IsLegal plan.founding journal
  pub callers : (caller : ℕ) → is_callers plan.turns (calls caller) (of_caller caller journal) ≡ true
  pub turns : (before rest : List Record) (r : Record) → journal ≡ before ++ r ∷ rest → is_turn_part r.by.part ≡ true → is_turn plan before r.event r.by ≡ true
  pub ends : (before rest : List Record) (r : Record) → journal ≡ before ++ r ∷ rest → is_end r ≡ true → may_end plan before r.event r.by ≡ true
  pub stops : (before rest : List Record) (r : Record) → journal ≡ before ++ r ∷ rest → has_stopped before (acting_name_of_record r) ≡ false
  pub each : (before rest : List Record) (r : Record) → journal ≡ before ++ r ∷ rest → IsOfRace before r

-- what a thread of a race has done: its calls at its node, each finished, up to one that used its turns; only where the node stopped it may have ended before
abbrev pub is_played : ℕ → ThreadPlan → ℕ → List Record → Bool
is_played turns thread caller journal =
    list_all (λ r. place_of_name r.event.node == place_of_name thread.node) (of_caller caller journal)
    && are_finished turns (has_stopped journal (place_of_name thread.node)) 0 thread.calls (of_caller caller journal)
