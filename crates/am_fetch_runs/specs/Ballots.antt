-- The events by which a coordinator that fetches comes to the best vote's list, and its ballot ends.
use Rattle.std.specs.Prelude.{◌≡◌, ℕ, ◌+◌, ◌*◌, ◌≤◌, ◌==◌, nat_lt, List, ◌++◌, Some, true, false}
use Rattle.am_base.specs.declared.image.Vote.{Vote}
use Rattle.am_base.specs.declared.outcome.Outcome.TheVariants as said
use Rattle.am_base.specs.Founding.{Rules, MayFound}
use Rattle.am_base.specs.Names.{has, size}
use Rattle.am_group.specs.declared.event.Event.{Event}
use Rattle.am_model.specs.Node.{Ballot, top, is_member, names_that_pass}
use Rattle.am_model.specs.Ballots.{best_vote_for_ballot, need_set_of, is_waited_for}
use Rattle.am_model.specs.Refresh.{refresh_at_end}
use Rattle.am_group_defs.specs.Lawful.{lawful_front}
use Rattle.am_group_defs.specs.World.{World, run}
use Rattle.am_ballot_laws.specs.Following.{MayFollowVoter, LooksAtWhole, fetching_ballot}
use Rattle.am_fetch_runs.specs.Events.{events_of_exchanges}
use Rattle.am_fetch_runs.specs.Gathering.{IsCurrent}

-- in every run, of two current names that run
abbrev pub BallotsEndInRuns : Type 0
BallotsEndInRuns = (rules : Rules) (events : List Event) (voter name many : ℕ) (best : Vote) (b : Ballot) → MayFound rules
    → IsCurrent (run rules events) voter → IsCurrent (run rules events) name
    → MayFollowVoter ((run rules events).nodes voter) ((run rules events).nodes name) best b → top ((run rules events).nodes voter) ≤ top ((run rules events).nodes name) + 8 * many
    → (n : ℕ) × (n ≤ many) × LooksAtWhole ((run rules events).nodes voter).core.log (fetching_ballot b voter (top ((run rules events).nodes voter)))
    ((run rules (events ++ events_of_exchanges n (run rules events) voter name)).nodes name)

-- ---- lawful runs

-- a coordinator whose open ballot fetches from another name, both of which run; nobody is waited for, the other name has promised no other stamp,
-- and the coordinator has taken what that trims at the end of a step
pub record FetchesFromVoter (w : World) (voter name : ℕ) (b : Ballot) : Type 0 where
  pub at_voter : IsCurrent w voter
  pub at_name : IsCurrent w name
  pub other : (voter == name) ≡ false
  pub votes_ : is_member (w.nodes voter).status ≡ true
  pub member_ : is_member (w.nodes name).status ≡ true
  pub last : (w.nodes name).ballot ≡ Some b
  pub open_ : b.is_over ≡ false
  pub answer : b.answer ≡ said.Fetching voter (top (w.nodes name) + 1)
  pub best : (best_vote_for_ballot (w.nodes name) b).by ≡ voter
  pub needed : has (need_set_of (w.nodes name) b) name ≡ true
  pub nobody : nat_lt 0 (size (names_that_pass (is_waited_for name b) (need_set_of (w.nodes name) b))) ≡ false
  pub promised : (w.nodes voter).core.promise ≡ (w.nodes name).core.promise
  pub trimmed : (refresh_at_end (w.nodes voter)).core.base ≤ (w.nodes name).core.taken

abbrev pub CoordinatorsMayFollow : Type 0
CoordinatorsMayFollow = (rules : Rules) (events : List Event) (voter name : ℕ) (b : Ballot) → MayFound rules → lawful_front rules events ≡ events
    → FetchesFromVoter (run rules events) voter name b
    → MayFollowVoter ((run rules events).nodes voter) ((run rules events).nodes name) (best_vote_for_ballot ((run rules events).nodes name) b).vote b

-- so enough exchanges end its ballot
abbrev pub FetchingBallotsEnd : Type 0
FetchingBallotsEnd = (rules : Rules) (events : List Event) (voter name many : ℕ) (b : Ballot) → MayFound rules → lawful_front rules events ≡ events
    → FetchesFromVoter (run rules events) voter name b → top ((run rules events).nodes voter) ≤ top ((run rules events).nodes name) + 8 * many
    → (n : ℕ) × (n ≤ many) × LooksAtWhole ((run rules events).nodes voter).core.log (fetching_ballot b voter (top ((run rules events).nodes voter)))
    ((run rules (events ++ events_of_exchanges n (run rules events) voter name)).nodes name)
