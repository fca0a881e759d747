-- What a look at a ballot comes to, and what makes a node look.
use Rattle.std.specs.Prelude.{◌≡◌, ℕ, ◌+◌, ◌-◌, Some, true, false, ◌==◌, nat_lt}
use Rattle.am_base.specs.declared.image.Vote.{Vote}
use Rattle.am_base.specs.declared.name.Stamp.{Stamp}
use Rattle.am_base.specs.declared.entry.Entry.{Entry}
use Rattle.am_base.specs.declared.entry.Entry.TheVariants.{View}
use Rattle.am_base.specs.declared.outcome.Outcome.TheVariants as said
use Rattle.am_base.specs.declared.event.NodeEvent.TheVariants.{Reset, GiveUp}
use Rattle.am_base.specs.Names.{has, size}
use Rattle.am_base.specs.Stamps.{stamp_is_less, stamps_are_equal}
use Rattle.am_packet.specs.declared.packet.Packet.TheVariants as packet
use Rattle.am_model.specs.Node.{Node, Ballot, top, members, names_that_pass, is_member, push_entry}
use Rattle.am_model.specs.Ballots.{BallotVerdict, need_set_of, best_vote_for_ballot, is_waited_for, need_set_without_given_up, verdict_going_on, verdict_ending, decided_view, restart_reports, trim_to_least_taken_by, ballot_with_vote}
use Rattle.am_model.specs.Ballots.{ballot_without_voter}
use Rattle.am_model.specs.Hearing.{member_hears_other, hears_packet_of_sequencer}
use Rattle.am_step_laws.specs.Causes.{Cause, calls, hears}

-- ---- what a look finds

-- the View that a ballot decides has the needed names that weren't given up, and no less resilience
abbrev pub decided_view_node : Node → Ballot → Node
decided_view_node m b = push_entry (trim_to_least_taken_by m b (need_set_without_given_up b (need_set_of m b))) (View (decided_view m b (need_set_without_given_up b (need_set_of m b))))

-- the coordinator is among those it needs, nobody is waited for, and nobody has shown more than it has
pub record HasLearned (m : Node) (b : Ballot) : Type 0 where
  pub needed : has (need_set_of m b) m.core.who ≡ true
  pub all : nat_lt 0 (size (names_that_pass (is_waited_for m.core.who b) (need_set_of m b))) ≡ false
  pub own : ((best_vote_for_ballot m b).by == m.core.who) ≡ true

-- and the View has enough names, and fits the window
pub record MayDecide (m : Node) (b : Ballot) : Type 0 where
  pub learned : HasLearned m b
  pub enough : nat_lt (size (need_set_without_given_up b (need_set_of m b))) b.least ≡ false
  pub room : nat_lt (m.core.rules.window + 16 - size (need_set_without_given_up b (need_set_of m b))) (top m + 1 - (trim_to_least_taken_by m b (need_set_without_given_up b (need_set_of m b))).core.base) ≡ false

-- a verdict, and why
pub data LooksAtBallot (m : Node) (b : Ballot) : BallotVerdict → Type 0 where
  finds_itself_out : has (need_set_of m b) m.core.who ≡ false → LooksAtBallot m b (verdict_ending m b (said.NotIn (best_vote_for_ballot m b).vote.view))
  waits : has (need_set_of m b) m.core.who ≡ true → nat_lt 0 (size (names_that_pass (is_waited_for m.core.who b) (need_set_of m b))) ≡ true
      → LooksAtBallot m b (verdict_going_on m b (said.Waiting (names_that_pass (is_waited_for m.core.who b) (need_set_of m b))))
  fetches_from_best : has (need_set_of m b) m.core.who ≡ true → nat_lt 0 (size (names_that_pass (is_waited_for m.core.who b) (need_set_of m b))) ≡ false
      → ((best_vote_for_ballot m b).by == m.core.who) ≡ false → LooksAtBallot m b (verdict_going_on m b (said.Fetching (best_vote_for_ballot m b).by (top m + 1)))
  finds_too_few : HasLearned m b → nat_lt (size (need_set_without_given_up b (need_set_of m b))) b.least ≡ true
      → LooksAtBallot m b (verdict_ending m b (said.TooFew (size (need_set_without_given_up b (need_set_of m b))) b.least))
  finds_no_room : HasLearned m b → LooksAtBallot m b (verdict_ending (trim_to_least_taken_by m b (need_set_without_given_up b (need_set_of m b))) b
      (said.Crowded (trim_to_least_taken_by m b (need_set_without_given_up b (need_set_of m b))).core.base (top m)))
  decides : MayDecide m b → LooksAtBallot m b (verdict_ending (restart_reports (decided_view_node m b)) b (said.Decided (top m + 1) (need_set_without_given_up b (need_set_of m b))))

-- ---- why it looks

-- a member that isn't leaving begins a ballot, by a call or where the sequencer hands over
pub record MayBegin (m : Node) : Type 0 where
  pub member : is_member m.status ≡ true
  pub listed : has (members m) m.core.who ≡ true
  pub stays : m.leaving ≡ false

pub data BeginsBy (m : Node) : Cause → Type 0 where
  by_reset : (least resilience : ℕ) → BeginsBy m (calls (Reset least resilience))
  by_hand_over : (s : ℕ) (v : Stamp) → hears_packet_of_sequencer m s v ≡ true → BeginsBy m (hears (packet.HandOver s v))

-- the node's unfinished ballot
pub record HasOpenBallot (m : Node) (b : Ballot) : Type 0 where
  pub last : m.ballot ≡ Some b
  pub open_ : b.is_over ≡ false

-- a ballot is looked at as it is once it was opened, by a call or a hand-over, or an entry was fetched for it
pub data MayLookAtBallot (c : Cause) (m : Node) : Type 0 where
  was_reset : (least resilience : ℕ) → c ≡ calls (Reset least resilience) → MayLookAtBallot c m
  was_handed : (s : ℕ) (v : Stamp) → c ≡ hears (packet.HandOver s v) → MayLookAtBallot c m
  was_fetched : (s : ℕ) (v : Stamp) (base number : ℕ) (e : Entry) → c ≡ hears (packet.Piece s v base number e) → stamps_are_equal v m.core.promise ≡ true → MayLookAtBallot c m

-- the ballot that is looked at: the open one with a vote more or a name given up, or as it is
pub data BallotIsLookedAt (c : Cause) (m : Node) : Ballot → Type 0 where
  with_more : (old : Ballot) (s : ℕ) (v : Stamp) (vote : Vote) → c ≡ hears (packet.Vote s v vote) → member_hears_other m s ≡ true → stamp_is_less v m.core.promise ≡ false
      → stamp_is_less m.core.promise v ≡ false → HasOpenBallot m old → old.stamp ≡ v → old.given_up s ≡ false → BallotIsLookedAt c m (ballot_with_vote old s vote)
  without_one : (old : Ballot) (name : ℕ) → c ≡ calls (GiveUp name) → HasOpenBallot m old → (name == m.core.who) ≡ false → BallotIsLookedAt c m (ballot_without_voter old name)
  as_it_is : (old : Ballot) → HasOpenBallot m old → MayLookAtBallot c m → BallotIsLookedAt c m old
