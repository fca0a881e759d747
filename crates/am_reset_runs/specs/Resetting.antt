-- What is claimed of one member that resets, where nobody asks to join: it decides a view, and all that the view's members sent is answered.
use Rattle.std.specs.Prelude.{◌≡◌, ◌⊎◌, ℕ, ◌<◌, List, ◌++◌, Some, true, false, ◌==◌, ◌+◌, ◌/◌, ◌≤◌, All}
use Rattle.am_base.specs.declared.outcome.Outcome.TheVariants as said
use Rattle.am_base.specs.Founding.{Rules, MayFound}
use Rattle.am_base.specs.Names.{has}
use Rattle.am_base.specs.Stamps.{stamp_is_less}
use Rattle.am_group.specs.declared.event.Act.TheVariants as act
use Rattle.am_group.specs.declared.event.Event.{Event}
use Rattle.am_model.specs.Node.{Node, Ballot, members, is_member}
use Rattle.am_group_defs.specs.Lawful.{lawful_front}
use Rattle.am_group_defs.specs.Settle.{event_at}
use Rattle.am_group_defs.specs.World.{World, current, is_stopped, run}
use Rattle.am_fetch_runs.specs.Events.{ticks_at}
use Rattle.am_fetch_runs.specs.Gathering.{IsCurrent, IsTickOrHearing}
use Rattle.am_trim_laws.specs.Trims.{HasComeToJoin}
use Rattle.am_repair_takes.specs.Resting.{NobodyAsks}
use Rattle.am_repair_fetches.specs.Rest.{IsDecidedAnew, AreAnsweredLater}

-- a current name that runs may vote: it is a Member, isn't leaving, and has come to its Join
pub record MayVote (w : World) (name : ℕ) : Type 0 where
  pub current_ : IsCurrent w name
  pub member_ : is_member (w.nodes name).status ≡ true
  pub stays : (w.nodes name).leaving ≡ false
  pub come : HasComeToJoin (w.nodes name)

-- and it may vote for another, if it has promised no more than that name
pub record MayVoteFor (w : World) (c name : ℕ) : Type 0 where
  pub votes : MayVote w name
  pub open votes use *
  pub promised : stamp_is_less (w.nodes c).core.promise (w.nodes name).core.promise ≡ false

-- a member may reset: whoever is in the list of a name that may vote for it, itself among them, has stopped or may vote for it
pub record MayReset (w : World) (c : ℕ) : Type 0 where
  pub itself : MayVoteFor w c c
  pub listed : has (members (w.nodes c)) c ≡ true
  pub each : (voter name : ℕ) → MayVoteFor w c voter → has (members (w.nodes voter)) name ≡ true → (is_stopped w name ≡ true) ⊎ MayVoteFor w c name

-- what happens then: its place resets with least size 1, and gives up names; all places tick and hear
pub data IsOfReset (place : ℕ) : Event → Type 0 where
  resets : (resilience : ℕ) → IsOfReset place (event_at place (act.Reset 1 resilience))
  gives_up : (name : ℕ) → IsOfReset place (event_at place (act.GiveUp name))
  spreads : (e : Event) → IsTickOrHearing e → IsOfReset place e

-- in a reset its place ticks no more than so often, and no other place ticks
pub record TicksOfReset (rules : Rules) (place : ℕ) (more : List Event) : Type 0 where
  pub few : ticks_at place more ≤ 16 + (rules.window + 22) / 8
  pub others : (other : ℕ) → (other == place) ≡ false → ticks_at other more ≡ 0

-- its View doesn't fit, and it gave up no member of its list
pub record HasNoRoom (m : Node) : Type 0 where
  pub ballot : Ballot
  pub last : m.ballot ≡ Some ballot
  pub base : ℕ
  pub top_ : ℕ
  pub answer : ballot.answer ≡ said.Crowded base top_
  pub all : (name : ℕ) → has (members m) name ≡ true → ballot.given_up name ≡ false

-- each Member that runs and isn't leaving is a member by the list of a place's name
abbrev pub HasAllRunning : World → ℕ → Type 0
HasAllRunning w place = (name : ℕ) → is_member (w.nodes name).status ≡ true → is_stopped w name ≡ false → (w.nodes name).leaving ≡ false
    → has (members (w.nodes (current w place))) name ≡ true

-- the place's name decided a view of all Members that run and don't leave, and of nobody else, and there are events after which all that they sent
-- is answered
pub record DecidesAndAnswers (rules : Rules) (events : List Event) (place : ℕ) : Type 0 where
  pub decided : IsDecidedAnew (run rules events) place
  pub all : HasAllRunning (run rules events) place
  pub answers : AreAnsweredLater rules events place

-- so a reset ends, or its View doesn't fit, where it gave up nobody
abbrev pub ResetEnds : Rules → List Event → ℕ → Type 0
ResetEnds rules events place = HasNoRoom ((run rules events).nodes (current (run rules events) place)) ⊎ DecidesAndAnswers rules events place

-- of every lawful run in which a member may reset, and nobody who runs asks to join
abbrev pub ResetsAreAnswered : Type 0
ResetsAreAnswered = (rules : Rules) (events : List Event) (place resilience : ℕ) → MayFound rules → place < 16 → lawful_front rules events ≡ events
    → MayReset (run rules events) (current (run rules events) place) → NobodyAsks (run rules events)
    → (more : List Event) × All (IsOfReset place) more × TicksOfReset rules place more × ResetEnds rules (events ++ more) place

-- whatever names have promised: a member whose list has another name may reset again and again
pub record MayResetAgain (w : World) (c : ℕ) : Type 0 where
  pub itself : MayVote w c
  pub listed : has (members (w.nodes c)) c ≡ true
  pub other : ℕ
  pub differs : (other == c) ≡ false
  pub listed_too : has (members (w.nodes c)) other ≡ true
  pub each : (voter name : ℕ) → MayVote w voter → has (members (w.nodes voter)) name ≡ true → (is_stopped w name ≡ true) ⊎ MayVote w name

-- then as many resets as bring it above what they have promised do the same
abbrev pub RepeatedResetsAreAnswered : Type 0
RepeatedResetsAreAnswered = (rules : Rules) (events : List Event) (place resilience : ℕ) → MayFound rules → place < 16 → lawful_front rules events ≡ events
    → MayResetAgain (run rules events) (current (run rules events) place) → NobodyAsks (run rules events)
    → (more : List Event) × All (IsOfReset place) more × TicksOfReset rules place more × ResetEnds rules (events ++ more) place
