-- Callers as contracts see them, and what a blocking call leaves.
use Rattle.std.specs.Prelude.{◌≡◌, ℕ, ◌+◌, ◌≤◌, ◌<◌, List, [], ◌∷◌, ◌++◌, length, Some, None, All, true, false, ◌==◌}
use Rattle.std.specs.List.{list_all, list_any}
use Rattle.am_base.specs.Most.{most_events_of_run}
use Rattle.atomic_table.specs.Seated.{TableId}
use Rattle.am_base.specs.Names.{place_of_name}
use Rattle.am_group.specs.declared.event.Act.{Act}
use Rattle.am_group.specs.declared.event.Record.{Record}
use Rattle.am_group.specs.declared.plan.RacePlan.{RacePlan}
use Rattle.am_shared_journal_defs.specs.Choices.{Luck, words_by_seed}
use Rattle.am_shared_journal_defs.specs.declared.terms.SharerKey.TheVariants.{Caller}
use Rattle.am_shared_journal_defs.specs.Passes.{Known}
use Rattle.am_shared_journal_defs.specs.Sights.{StartsWith}
use Rattle.am_shared_journal_defs.specs.Stops.{has_stopped}
use Rattle.am_race_laws.specs.declared.answer.CallAnswer.{CallAnswer}
use Rattle.am_race_laws.specs.declared.answer.CallAnswer.TheVariants as answer
use Rattle.am_race_laws.specs.Tags.{of_caller, of_call}
use Rattle.am_race_laws.specs.Answers.{answer_of, is_end}
use Rattle.am_race_laws.specs.Turns.{words_drawn, later}
use Rattle.am_race_laws.specs.Callers.{is_callers, is_one_call}
use Rattle.am_race_laws.specs.Lawful.{terms_of}

-- a caller: its number, the calls that it has made, and what it has seen
pub record Calling : Type 0 where
  pub number : ℕ
  pub calls : List Act
  pub seen : List Record

-- the chooser of a caller after so many words
abbrev pub caller_luck_after : RacePlan → ℕ → ℕ → Luck
caller_luck_after plan caller count = record { words = later count (words_by_seed plan.seed_number caller); loss = plan.loss; repeat = plan.repeat }

-- what a caller acts with: its share, and its chooser, which stands after the words that its turns drew
pub record IsHand (wire : TableId) (plan : RacePlan) (number : ℕ) (share : Known) (luck : Luck) : Type 0 where
  pub own : share.wire ≡ wire
  pub terms : share.terms ≡ terms_of plan
  pub keys : share.keys ≡ Caller number ∷ []
  pub luck_ : luck ≡ caller_luck_after plan number (words_drawn number share.seen)

-- its records are those of the calls that it has made
pub record HasMade (plan : RacePlan) (number : ℕ) (calls : List Act) (seen : List Record) : Type 0 where
  pub made : is_callers plan.turns calls (of_caller number seen) ≡ true
  pub earlier : All (λ r. r.by.call < length calls) (of_caller number seen)

-- the records of a call have no answer, and it came to no end
pub record IsUnanswered (turns : ℕ) (mine : List Record) : Type 0 where
  pub none : answer_of turns mine ≡ None
  pub unended : list_any is_end mine ≡ false

-- an answer goes by the records of its call. Where these have none it was refused: Stopped by its node's Stop, Spent by the journal's length
abbrev pub IsAnswerOfCall : ℕ → List Record → List Record → ℕ → CallAnswer → Type 0
IsAnswerOfCall turns mine seen node answer.Stopped = (has_stopped seen (place_of_name node) ≡ true) × IsUnanswered turns mine
IsAnswerOfCall turns mine seen node answer.Spent = (length seen ≡ most_events_of_run) × IsUnanswered turns mine
IsAnswerOfCall turns mine seen node answer.NoMemory = IsUnanswered turns mine
IsAnswerOfCall turns mine seen node other = answer_of turns mine ≡ Some other

-- the records of the next call of a caller, in what it then has seen
abbrev pub of_next : Calling → List Record → List Record
of_next c seen = of_call c.number (length c.calls) seen

-- one call was made at a node
pub record Called (plan : RacePlan) (node : ℕ) (a : Act) (old new : Calling) (its : CallAnswer) : Type 0 where
  pub number : new.number ≡ old.number
  pub calls : new.calls ≡ old.calls ++ a ∷ []
  pub begins : StartsWith new.seen old.seen
  pub others : of_caller old.number new.seen ≡ of_caller old.number old.seen ++ of_next old new.seen
  pub its_records : is_one_call plan.turns a (of_next old new.seen) ≡ true
  pub place : list_all (λ r. place_of_name r.event.node == place_of_name node) (of_next old new.seen) ≡ true
  pub most : length (of_next old new.seen) ≤ plan.turns + 2
  pub spent : its ≡ answer.Spent → length (of_next old new.seen) ≤ plan.turns + 1
  pub answer_ : IsAnswerOfCall plan.turns (of_next old new.seen) new.seen node its
