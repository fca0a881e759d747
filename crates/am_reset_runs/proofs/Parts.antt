-- What is known of a coordinator, its voters and its ballot while votes come.
use Rattle.am_reset_runs.proofs.Words.{◌≡◌, ℕ, ◌+◌, ◌-◌, ◌==◌, ◌<◌, ◌≤◌, size, length, stamps_are_equal, true, false, Some, None, Node, Ballot, Stamp, stamp_is_less, has, top, view, members, refresh_at_end, World, is_stopped, is_member, next_stamp}
use Rattle.am_reset_runs.proofs.Words.{Vote, vote_is_less, own_vote, decide, need_set_of, need_set_without_given_up, HasLearned, IsCurrent, MayVoteFor}
use Rattle.am_trim_laws.specs.Trims.{HasComeToJoin}

-- the stamp of its ballot
abbrev pub stamp_of_reset : World → ℕ → Stamp
stamp_of_reset w c = next_stamp (w.nodes c)

-- what runs keep of the names that may vote: their views are of names and no greater than their promises, and the coordinator is a member by
-- each list that shows more than its own
pub record VotersAreSound (w : World) (c : ℕ) : Type 0 where
  pub who : (name : ℕ) → (w.nodes name).core.who ≡ name
  pub small : (name : ℕ) → MayVoteFor w c name → (view (w.nodes name)).by < 256
  pub high : (name : ℕ) → MayVoteFor w c name → stamp_is_less (w.nodes name).core.promise (view (w.nodes name)) ≡ false
  pub better : (name : ℕ) → MayVoteFor w c name → vote_is_less (own_vote (w.nodes c)) (own_vote (w.nodes name)) ≡ true → has (members (w.nodes name)) c ≡ true

-- a name has voted, by its list as it was at first, and has promised the ballot's stamp
pub record HasVoted (w v : World) (c name : ℕ) (vote : Vote) : Type 0 where
  pub may : MayVoteFor w c name
  pub other : (name == c) ≡ false
  pub view_ : vote.view ≡ view (w.nodes name)
  pub top_ : vote.top ≡ top (w.nodes name)
  pub members_ : vote.members ≡ members (w.nodes name)
  pub log : (v.nodes name).core.log ≡ (w.nodes name).core.log
  pub promise : (v.nodes name).core.promise ≡ stamp_of_reset w c
  pub status : (v.nodes name).status ≡ (w.nodes name).status
  pub leaving : (v.nodes name).leaving ≡ (w.nodes name).leaving

-- The coordinator has looked at this ballot with this node, whose list is as it was at first. Only who may vote has voted, only who has stopped
-- was given up, and all else is as it was.
pub record VotesCome (w v : World) (c : ℕ) (m : Node) (b : Ballot) : Type 0 where
  pub log : m.core.log ≡ (w.nodes c).core.log
  pub who : m.core.who ≡ c
  pub promise : m.core.promise ≡ stamp_of_reset w c
  pub status : m.status ≡ (w.nodes c).status
  pub leaving : m.leaving ≡ (w.nodes c).leaving
  pub stamp : b.stamp ≡ stamp_of_reset w c
  pub open_ : b.is_over ≡ false
  pub least_ : b.least ≡ 1
  pub votes : (name : ℕ) (vote : Vote) → b.votes name ≡ Some vote → HasVoted w v c name vote
  pub given : (name : ℕ) → b.given_up name ≡ true → is_stopped w name ≡ true
  pub lives : v.lives ≡ w.lives
  pub stopped : v.stopped ≡ w.stopped
  pub alike : (name : ℕ) → (name == c) ≡ false → b.votes name ≡ None → v.nodes name ≡ w.nodes name
  pub looked : v.nodes c ≡ refresh_at_end (decide m b).node

-- ---- a ballot that has learned all that it needs

-- a name is ready for a view: a current name that runs, a Member that isn't leaving and has come to its Join, which has promised this stamp
pub record IsReady (v : World) (name : ℕ) (stamp : Stamp) : Type 0 where
  pub current_ : IsCurrent v name
  pub member_ : is_member (v.nodes name).status ≡ true
  pub stays : (v.nodes name).leaving ≡ false
  pub come : HasComeToJoin (v.nodes name)
  pub promise : (v.nodes name).core.promise ≡ stamp

-- A coordinator that runs, isn't leaving and has come to its Join has looked at this ballot with this node, a Member that had learned all. Whoever else is needed and
-- wasn't given up is ready.
pub record HasLearnedAll (v : World) (c : ℕ) (m : Node) (b : Ballot) : Type 0 where
  pub current_ : IsCurrent v c
  pub stays : (v.nodes c).leaving ≡ false
  pub come : HasComeToJoin (v.nodes c)
  pub who : m.core.who ≡ c
  pub listed : is_member m.status ≡ true
  pub promise : m.core.promise ≡ b.stamp
  pub below : stamps_are_equal (view m) m.core.promise ≡ false
  pub own : b.stamp.by ≡ c
  pub least_ : b.least ≡ 1
  pub kept : b.given_up c ≡ false
  pub unvoted : b.votes c ≡ None
  pub learned : HasLearned m b
  pub ready : (name : ℕ) → has (need_set_without_given_up b (need_set_of m b)) name ≡ true → (name == c) ≡ false → IsReady v name b.stamp
  pub looked : v.nodes c ≡ refresh_at_end (decide m b).node

-- each Member that runs, isn't leaving and has come to its Join has taken what this name trims at the end of a step
abbrev pub TrimsTaken : World → ℕ → Type 0
TrimsTaken v c = (name : ℕ) → IsCurrent v name → is_member (v.nodes name).status ≡ true → (v.nodes name).leaving ≡ false
    → HasComeToJoin (v.nodes name) → (refresh_at_end (v.nodes c)).core.base ≤ (v.nodes name).core.taken

-- a node's list has room for its members: its last entry isn't further above its base than they allow
pub record HasRoomForMembers (n : Node) : Type 0 where
  pub window : 0 < n.core.rules.window
  pub sixteen : length (members n) ≡ 16
  pub room : n.core.base < top n → top n - n.core.base ≤ n.core.rules.window + 16 - size (members n)
