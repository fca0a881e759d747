-- What a coordinator and its voters do while a ballot waits for votes.
use Rattle.std.specs.Prelude.{◌≡◌, ℕ, List, [], ◌∷◌, min, Some, true, false, ◌==◌}
use Rattle.am_base.specs.declared.event.NodeEvent.TheVariants as does
use Rattle.am_base.specs.declared.image.Vote.{Vote}
use Rattle.am_base.specs.declared.name.Stamp.{Stamp}
use Rattle.am_base.specs.declared.outcome.Outcome.TheVariants as said
use Rattle.am_base.specs.Names.{has, size}
use Rattle.am_base.specs.Stamps.{stamp_is_less, stamps_are_equal}
use Rattle.am_packet.specs.declared.packet.Packet.TheVariants as packet
use Rattle.am_packet.specs.Boxes.{letter_to}
use Rattle.am_model.specs.Ballots.{decide, next_stamp, new_ballot, node_with_promise, own_vote, ballot_with_vote, ballot_without_voter}
use Rattle.am_model.specs.Emit.{StepResult}
use Rattle.am_model.specs.Node.{Node, Ballot, view, is_member, set_of_one_name}
use Rattle.am_model.specs.Refresh.{refresh_at_end}
use Rattle.am_model.specs.Step.{step, hear_packet}
use Rattle.am_step_laws.specs.Looks.{MayBegin}
use Rattle.am_fetch_laws.specs.Exchanges.{exchange}

-- a Reset begins a ballot of the next stamp of the node's own, and looks at it
abbrev pub ResetsLook : Type 0
ResetsLook = (m : Node) (least resilience : ℕ) → MayBegin m
    → (step m (does.Reset least resilience)).node ≡ refresh_at_end (decide (node_with_promise m (next_stamp m)) (new_ballot (next_stamp m) least (min resilience 15))).node

-- ---- the coordinator

-- a Member with an open ballot; it has promised the ballot's stamp, which is its own, and isn't its list's view
pub record Coordinates (m : Node) (b : Ballot) : Type 0 where
  pub listed : is_member m.status ≡ true
  pub last : m.ballot ≡ Some b
  pub open_ : b.is_over ≡ false
  pub stamp : b.stamp ≡ m.core.promise
  pub own : m.core.promise.by ≡ m.core.who
  pub below : stamps_are_equal (view m) m.core.promise ≡ false

-- it looks at its ballot if a name is given up
abbrev pub GiveUpsLook : Type 0
GiveUpsLook = (m : Node) (b : Ballot) (name : ℕ) → Coordinates m b → (name == m.core.who) ≡ false
    → (step m (does.GiveUp name)).node ≡ refresh_at_end (decide m (ballot_without_voter b name)).node

-- its list stays, and it invites these names
pub record Invites (m : Node) (names : List ℕ) (s : StepResult) : Type 0 where
  pub node : s.node ≡ refresh_at_end m
  pub letters : s.letters ≡ letter_to names (packet.Invite m.core.who m.core.promise) ∷ []

-- so it does at a tick with all that it waits for
abbrev pub CoordinatorsInvite : Type 0
CoordinatorsInvite = (m : Node) (b : Ballot) (names : List ℕ) → Coordinates m b → b.answer ≡ said.Waiting names → (size names == 0) ≡ false
    → Invites m names (step m does.Tick)

-- and it looks at its ballot if it hears a vote
abbrev pub VotesLook : Type 0
VotesLook = (m : Node) (b : Ballot) (s : ℕ) (vote : Vote) → Coordinates m b → (s == m.core.who) ≡ false → b.given_up s ≡ false
    → (hear_packet m (packet.Vote s m.core.promise vote)).node ≡ refresh_at_end (decide m (ballot_with_vote b s vote)).node

-- ---- a voter

-- a Member that may promise another name's stamp, which isn't its list's view
pub record MayVote (m : Node) (v : Stamp) : Type 0 where
  pub listed : is_member m.status ≡ true
  pub other : (v.by == m.core.who) ≡ false
  pub may : stamp_is_less v m.core.promise ≡ false
  pub below : stamps_are_equal (view m) v ≡ false

-- it promises the stamp, and shows its list to that name
pub record Votes (m : Node) (v : Stamp) (s : StepResult) : Type 0 where
  pub node : s.node ≡ refresh_at_end (node_with_promise m v)
  pub letters : s.letters ≡ letter_to (set_of_one_name v.by) (packet.Vote m.core.who v (own_vote s.node)) ∷ []

abbrev pub InvitesAreVoted : Type 0
InvitesAreVoted = (m : Node) (v : Stamp) → MayVote m v → Votes m v (hear_packet m (packet.Invite v.by v))

-- ---- an exchange

-- a coordinator waits for a voter, which may promise its stamp
pub record WaitsForVoter (p m : Node) (b : Ballot) (names : List ℕ) : Type 0 where
  pub coordinates : Coordinates m b
  pub answer : b.answer ≡ said.Waiting names
  pub among : has names p.core.who ≡ true
  pub kept : b.given_up p.core.who ≡ false
  pub voter : MayVote p m.core.promise

-- the voter once it has promised the coordinator's stamp
abbrev pub voted : Node → Node → Node
voted p m = refresh_at_end (node_with_promise p m.core.promise)

-- an exchange of theirs without loss brings the coordinator this vote
abbrev pub VotersAreHeard : Type 0
VotersAreHeard = (p m : Node) (b : Ballot) (names : List ℕ) → WaitsForVoter p m b names → exchange (record { sequencer = p; member_ = m })
    ≡ record { sequencer = voted p m; member_ = refresh_at_end (decide (refresh_at_end m) (ballot_with_vote b p.core.who (own_vote (voted p m)))).node }
