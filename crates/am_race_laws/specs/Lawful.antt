-- Which record may come next in the journal of a race.
use Rattle.std.specs.Prelude.{◌≡◌, ℕ, ◌<◌, List, [], length, Some, Bool, true, false}
use Rattle.am_packet.specs.Boxes.{Letter}
use Rattle.am_group.specs.Addressed.{is_for}
use Rattle.am_group.specs.Journals.{letters_of_records, letter_at}
use Rattle.am_group.specs.declared.event.Act.{Act}
use Rattle.am_group.specs.declared.event.Act.TheVariants as act
use Rattle.am_group.specs.declared.event.Record.{Record}
use Rattle.am_group.specs.declared.plan.RacePlan.{RacePlan}
use Rattle.am_group.specs.Deliveries.{acting_name_of_record}
use Rattle.am_shared_journal_defs.specs.declared.terms.Terms.{Terms}
use Rattle.am_shared_journal_defs.specs.Stops.{has_stopped}
use Rattle.am_race_laws.specs.Told.{IsNext}
use Rattle.am_race_laws.specs.Tags.{is_turn_part}
use Rattle.am_race_laws.specs.Answers.{is_end}
use Rattle.am_race_laws.specs.Turns.{is_turn, may_end}

-- what the wire of a plan is told
abbrev pub terms_of : RacePlan → Terms
terms_of plan = record { founding = plan.founding; callers = length plan.threads; seed = plan.seed_number; loss = plan.loss; repeat = plan.repeat; turns = plan.turns }

-- as far as turns and ends go by it, the plan of a wire
abbrev pub threadless_plan_of_terms : Terms → RacePlan
threadless_plan_of_terms terms = record { founding = terms.founding; seed_number = terms.seed; loss = terms.loss; repeat = terms.repeat; turns = terms.turns; threads = [] }

-- packets are heard whole, and nobody returns
abbrev pub is_of_race : Act → Bool
is_of_race (act.Cut packet keep) = false
is_of_race act.Return = false
is_of_race _ = true

-- a letter was sent, and is for a name
pub record IsSent (before : List Record) (name number : ℕ) : Type 0 where
  pub letter : Letter
  pub there : letter_at (letters_of_records before) number ≡ Some letter
  pub its : is_for letter name ≡ true

-- a record of its place's first life, which its event names, and which is what its event gives; it hears what was sent to it,
-- is a turn of its call where it is one, may be the end of its call where it is that, and isn't of a name that has stopped
pub record IsLawfulRecord (terms : Terms) (before : List Record) (r : Record) : Type 0 where
  pub node : r.event.node < 16
  pub life : r.life ≡ 1
  pub act_ : is_of_race r.event.act ≡ true
  pub next : IsNext terms.founding before r
  pub turn : is_turn_part r.by.part ≡ true → is_turn (threadless_plan_of_terms terms) before r.event r.by ≡ true
  pub end_ : is_end r ≡ true → may_end (threadless_plan_of_terms terms) before r.event r.by ≡ true
  pub stop : has_stopped before (acting_name_of_record r) ≡ false
  pub hears : (number : ℕ) → r.event.act ≡ act.Hear number → IsSent before (acting_name_of_record r) number
