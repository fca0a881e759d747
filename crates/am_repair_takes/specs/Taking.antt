-- The lossless schedule in which applications take, too, and what is claimed of it.
use Rattle.std.specs.Prelude.{◌≡◌, ℕ, zero, suc, ◌+◌, ◌-◌, ◌*◌, ◌<◌, ◌≤◌, List, [], ◌∷◌, ◌++◌, length, true, All}
use Rattle.am_base.specs.Founding.{Rules, MayFound}
use Rattle.am_base.specs.Names.{has}
use Rattle.am_group.specs.declared.event.Act.TheVariants as act
use Rattle.am_group.specs.declared.event.Event.{Event}
use Rattle.am_model.specs.Node.{top, members}
use Rattle.am_group_defs.specs.Lawful.{lawful_front}
use Rattle.am_group_defs.specs.Settle.{Settling, settle_then, event_at, running_places, round, round_count}
use Rattle.am_group_defs.specs.World.{World, current, world_after_events, run}
use Rattle.am_repair.specs.Claim.{MayRepair, HasCaughtUp}
use Rattle.am_repair.specs.Answers.{AnswersUpTo}
use Rattle.am_repair.specs.Calm.{Repair, Calm}
use Rattle.am_repair.specs.Rounds.{IsOurs}

-- ---- the schedule

unfoldable pub so_many : ℕ → Event → List Event
so_many zero e = []
so_many (suc left) e = e ∷ so_many left e

-- a place's application takes all that its node has accepted
abbrev pub takes_of : World → ℕ → List Event
takes_of w place = let m = w.nodes (current w place) in so_many (m.core.acc - m.core.taken) (event_at place act.Take)

unfoldable pub takes_at : World → List ℕ → List Event
takes_at w [] = []
takes_at w (place ∷ places) = takes_of w place ++ takes_at w places

-- so does the one of each place that runs
abbrev pub takes : World → List Event
takes w = takes_at w (running_places w)

-- and then there is a round
abbrev pub taking_round : Settling → Settling
taking_round s = round (settle_then s (takes s.world))

unfoldable pub taking_rounds : ℕ → Settling → Settling
taking_rounds zero s = s
taking_rounds (suc left) s = taking_rounds left (taking_round s)

-- ---- claims

-- ticks, hearings of the schedule's own letters, and takes
pub data IsTaking (r : Repair) : Event → Type 0 where
  ours : (e : Event) → IsOurs r e → IsTaking r e
  takes_one : (place : ℕ) → IsTaking r (event_at place act.Take)

-- a calm world of a run stays calm through them
abbrev pub TakingStaysCalm : Type 0
TakingStaysCalm = (rules : Rules) (events more : List Event) (r : Repair) → MayFound rules → Calm r (run rules events) → All (IsTaking r) more
    → Calm r (run rules (events ++ more))

-- the world after so many taking rounds
abbrev pub after_rounds : ℕ → World → World
after_rounds many w = (taking_rounds many (record { world = w; events = [] })).world

-- a member has stored and accepted all up to a number, and where all take once more, its application has it
pub record HasAll (w : World) (name number : ℕ) : Type 0 where
  pub caught : HasCaughtUp (w.nodes name) number
  pub given : number ≤ ((world_after_events w (takes w)).nodes name).core.taken

-- From a calm world of a run in which no member is more than so many entries behind, eight a round: two rounds more, and each member has all
-- up to where the sequencer stood.
abbrev pub TakingRepairs : Type 0
TakingRepairs = (rules : Rules) (events : List Event) (r : Repair) (many : ℕ) → MayFound rules → Calm r (run rules events)
    → r.sent ≤ length (run rules events).letters
    → ((name : ℕ) → has r.members name ≡ true → r.high ≤ top ((run rules events).nodes name) + 8 * many)
    → (name : ℕ) → has r.members name ≡ true → HasAll (after_rounds (many + 2) (run rules events)) name r.high

-- and so in every lawful run that may be repaired, after as many rounds as a schedule has in which nobody takes, and after each later one
abbrev pub RepairedByTaking : Type 0
RepairedByTaking = (rules : Rules) (events : List Event) (place more : ℕ) → MayFound rules → place < 16 → lawful_front rules events ≡ events
    → MayRepair (run rules events) place
    → (name : ℕ) → has (members ((run rules events).nodes (current (run rules events) place))) name ≡ true
    → HasAll (after_rounds (round_count rules + more) (run rules events)) name (top ((run rules events).nodes (current (run rules events) place)))

-- and no own send of theirs is pending that stood there
abbrev pub AnsweredByTaking : Type 0
AnsweredByTaking = (rules : Rules) (events : List Event) (place more : ℕ) → MayFound rules → place < 16 → lawful_front rules events ≡ events
    → MayRepair (run rules events) place
    → (name : ℕ) → has (members ((run rules events).nodes (current (run rules events) place))) name ≡ true
    → AnswersUpTo ((after_rounds (round_count rules + more) (run rules events)).nodes name) (top ((run rules events).nodes (current (run rules events) place)))
