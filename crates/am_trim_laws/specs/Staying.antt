-- What the laws of members without the View ask for of what is trimmed, for members that aren't leaving and have come to their Join.
use Rattle.std.specs.Prelude.{◌≡◌, ℕ, ◌+◌, List, Some, true, false, nat_lt, ◌==◌}
use Rattle.am_base.specs.Founding.{Rules, MayFound}
use Rattle.am_base.specs.declared.outcome.Outcome.TheVariants as said
use Rattle.am_base.specs.Names.{has, size}
use Rattle.am_base.specs.Stamps.{stamp_is_less, stamps_are_equal}
use Rattle.am_group.specs.declared.event.Event.{Event}
use Rattle.am_model.specs.Node.{Node, Ballot, top, view, members, is_member, is_sequencer, names_that_pass}
use Rattle.am_model.specs.Ballots.{best_vote_for_ballot, need_set_of, is_waited_for}
use Rattle.am_group_defs.specs.Lawful.{lawful_front}
use Rattle.am_group_defs.specs.World.{World, run}
use Rattle.am_fetch_runs.specs.Behind.{RunsInListOf, LagsBehind}
use Rattle.am_fetch_runs.specs.Gathering.{IsCurrent, MayGather}
use Rattle.am_fetch_runs.specs.Ballots.{FetchesFromVoter}
use Rattle.am_trim_laws.specs.Trims.{HasComeToJoin}

-- it isn't leaving, and has come to its Join
pub record StaysPastJoin (m : Node) : Type 0 where
  pub stays : m.leaving ≡ false
  pub come : HasComeToJoin m

-- ---- a member without the sequencer's View

pub record LagsAndStays (w : World) (q name : ℕ) : Type 0 where
  pub among : RunsInListOf w q name
  pub promised : stamp_is_less (view (w.nodes q)) (w.nodes name).core.promise ≡ false
  pub behind : stamps_are_equal (view (w.nodes name)) (view (w.nodes q)) ≡ false
  pub past : StaysPastJoin (w.nodes name)

-- it lags behind as those laws ask for
abbrev pub StayingMembersLag : Type 0
StayingMembersLag = (rules : Rules) (events : List Event) (q name : ℕ) → MayFound rules → lawful_front rules events ≡ events
    → LagsAndStays (run rules events) q name → LagsBehind (run rules events) q name

-- ---- all members of a sequencer's list

pub record MayGatherAndStays (w : World) (q name : ℕ) : Type 0 where
  pub current_ : IsCurrent w name
  pub member_ : is_member (w.nodes name).status ≡ true
  pub promised : stamp_is_less (view (w.nodes q)) (w.nodes name).core.promise ≡ false
  pub past : StaysPastJoin (w.nodes name)

pub record AllMayGatherAndStay (w : World) (q : ℕ) : Type 0 where
  pub leads : is_sequencer (w.nodes q) ≡ true
  pub current_ : IsCurrent w q
  pub each : (name : ℕ) → has (members (w.nodes q)) name ≡ true → MayGatherAndStays w q name

-- they may gather
abbrev pub StayingMembersMayGather : Type 0
StayingMembersMayGather = (rules : Rules) (events : List Event) (q : ℕ) → MayFound rules → lawful_front rules events ≡ events
    → AllMayGatherAndStay (run rules events) q → MayGather (run rules events) q

-- ---- a coordinator that fetches, which isn't leaving, since its ballot is open

pub record FetchesPastJoin (w : World) (voter name : ℕ) (b : Ballot) : Type 0 where
  pub at_voter : IsCurrent w voter
  pub at_name : IsCurrent w name
  pub other : (voter == name) ≡ false
  pub votes_ : is_member (w.nodes voter).status ≡ true
  pub member_ : is_member (w.nodes name).status ≡ true
  pub last : (w.nodes name).ballot ≡ Some b
  pub open_ : b.is_over ≡ false
  pub answer : b.answer ≡ said.Fetching voter (top (w.nodes name) + 1)
  pub best : (best_vote_for_ballot (w.nodes name) b).by ≡ voter
  pub needed : has (need_set_of (w.nodes name) b) name ≡ true
  pub nobody : nat_lt 0 (size (names_that_pass (is_waited_for name b) (need_set_of (w.nodes name) b))) ≡ false
  pub promised : (w.nodes voter).core.promise ≡ (w.nodes name).core.promise
  pub come : HasComeToJoin (w.nodes name)

-- it fetches from the voter as those laws ask for
abbrev pub CoordinatorsPastJoinFetch : Type 0
CoordinatorsPastJoinFetch = (rules : Rules) (events : List Event) (voter name : ℕ) (b : Ballot) → MayFound rules → lawful_front rules events ≡ events
    → FetchesPastJoin (run rules events) voter name b → FetchesFromVoter (run rules events) voter name b
