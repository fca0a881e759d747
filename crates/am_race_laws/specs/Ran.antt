-- What the callers of a race leave.
use Rattle.std.specs.Prelude.{◌≡◌, ℕ, ◌+◌, ◌*◌, ◌<◌, ◌≤◌, List, [], ◌∷◌, length, map, take, Option, Some, None, Bool, true, ◌==◌, slice_get, All}
use Rattle.std.specs.List.{list_all, range_with_len}
use Rattle.am_base.specs.Most.{most_events_of_run}
use Rattle.am_base.specs.Names.{place_of_name}
use Rattle.am_group.specs.declared.event.Act.{Act}
use Rattle.am_group.specs.declared.event.Record.{Record}
use Rattle.am_group.specs.declared.plan.RacePlan.{RacePlan}
use Rattle.am_group.specs.declared.plan.ThreadPlan.{ThreadPlan}
use Rattle.am_shared_journal_defs.specs.declared.terms.WireRefusal.{WireRefusal}
use Rattle.am_shared_journal_defs.specs.declared.terms.WireRefusal.TheVariants as refusals
use Rattle.am_shared_journal_defs.specs.declared.terms.SharerKey.TheVariants.{Place, Caller}
use Rattle.am_shared_journal_defs.specs.Keys.{times}
use Rattle.am_shared_journal_defs.specs.Passes.{Known}
use Rattle.am_shared_journal_defs.specs.Sights.{StartsWith, GoesOn}
use Rattle.am_shared_journal_defs.specs.Stops.{has_stopped}
use Rattle.am_race_laws.specs.Tags.{of_caller}
use Rattle.am_race_laws.specs.declared.answer.CallAnswer.{CallAnswer}
use Rattle.am_race_laws.specs.declared.answer.CallAnswer.TheVariants as answer
use Rattle.am_race_laws.specs.Callers.{are_finished, is_last}
use Rattle.am_race_laws.specs.Callings.{Calling, HasMade}
use Rattle.am_race_laws.specs.Legal.{IsLegalWithTags}
use Rattle.am_race_laws.specs.Plans.{calls_of}

-- a caller that has made no call
abbrev pub fresh_caller : ℕ → Calling
fresh_caller number = record { number = number; calls = []; seen = [] }

-- so many of them, in their order
abbrev pub fresh_callers : ℕ → List Calling
fresh_callers count = map fresh_caller (range_with_len 0 count)

-- the numbers of callers
abbrev pub caller_numbers : List Calling → List ℕ
caller_numbers callers = map (λ (c : Calling). c.number) callers

abbrev pub calls_made : Option Calling → List Act
calls_made None = []
calls_made (Some c) = c.calls

-- the calls that the caller of a number has made, of several in their order
abbrev pub calls_by : List Calling → ℕ → List Act
calls_by callers number = calls_made (slice_get callers number)

-- a journal goes on from what a caller has seen, with no record more of it
pub record EndsFor (journal : List Record) (c : Calling) : Type 0 where
  pub begins : StartsWith journal c.seen
  pub own : of_caller c.number journal ≡ of_caller c.number c.seen

-- a thread has done its calls at its node, as far as they go on, by what its caller has seen; it may have ended before where the node stopped by then
pub record HasPlayed (turns : ℕ) (thread : ThreadPlan) (c : Calling) : Type 0 where
  pub place : list_all (λ r. place_of_name r.event.node == place_of_name thread.node) (of_caller c.number c.seen) ≡ true
  pub finished : (stopped : Bool) → (has_stopped c.seen (place_of_name thread.node) ≡ true → stopped ≡ true)
      → are_finished turns stopped 0 thread.calls (of_caller c.number c.seen) ≡ true

-- the refusal that an answer is
abbrev pub refusal_in : CallAnswer → Option WireRefusal
refusal_in answer.NoMemory = Some refusals.NoMemory
refusal_in answer.Spent = Some refusals.Spent
refusal_in _ = None

-- a thread ends with this answer
abbrev pub ends_thread : CallAnswer → Bool
ends_thread answer.NoMemory = true
ends_thread answer.Spent = true
ends_thread answer.Stopped = true
ends_thread other = is_last other

-- the first refusal of several threads, if one has one
abbrev pub first_refusal : List (Option WireRefusal) → Option WireRefusal
first_refusal [] = None
first_refusal (None ∷ others) = first_refusal others
first_refusal (Some refusal ∷ others) = Some refusal

-- how many records its calls have at most
abbrev pub most_records_of : RacePlan → ℕ → ℕ
most_records_of plan caller = length (calls_of plan caller) * (plan.turns + 2)

-- the journal that so many callers left, which are numbered in their order: legal with the calls that they made, and with all their records
pub record IsLeft (plan : RacePlan) (journal : List Record) : Type 0 where
  pub callers : List Calling
  pub numbers : caller_numbers callers ≡ range_with_len 0 (length plan.threads)
  pub legal : IsLegalWithTags plan (calls_by callers) journal
  pub ends : All (EndsFor journal) callers

-- a caller has made the first of its planned calls
abbrev pub IsPlanned : RacePlan → Calling → Type 0
IsPlanned plan c = take (length c.calls) (calls_of plan c.number) ≡ c.calls

-- a caller's thread has ended, perhaps with a refusal: it has made the first of its planned calls; where the journal was full, a call of it had room
-- for more records
pub record HasRun (plan : RacePlan) (c : Calling) (refusal : Option WireRefusal) : Type 0 where
  pub planned : IsPlanned plan c
  pub most : length (of_caller c.number c.seen) ≤ most_records_of plan c.number
  pub spent : refusal ≡ Some refusals.Spent → (length c.seen ≡ most_events_of_run) × (length (of_caller c.number c.seen) < most_records_of plan c.number)
  pub played : refusal ≡ None → (thread : ThreadPlan) → slice_get plan.threads c.number ≡ Some thread → HasPlayed plan.turns thread c

-- ---- the end

-- a pass has the keys of so many places
abbrev pub HasPlaces : ℕ → Known → Type 0
HasPlaces count p = (place : ℕ) → place < count → 0 < times (Place place) p.keys

-- a pass has the key of a caller, and has seen what that has; its records are those of its calls
pub record IsIn (plan : RacePlan) (p : Known) (c : Calling) : Type 0 where
  pub key : 0 < times (Caller c.number) p.keys
  pub goes : GoesOn (Caller c.number ∷ []) c.seen p.seen
  pub made : HasMade plan c.number c.calls c.seen
