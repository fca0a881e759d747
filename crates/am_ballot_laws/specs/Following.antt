-- How a coordinator that fetches comes to the best vote's list, where their letters aren't lost.
use Rattle.std.specs.Prelude.{◌≡◌, ℕ, ◌+◌, ◌-◌, ◌*◌, ◌<◌, ◌≤◌, ◌⊎◌, Some, None, true, false, nat_lt}
use Rattle.am_base.specs.declared.entry.Entry.{Entry}
use Rattle.am_base.specs.declared.image.Vote.{Vote}
use Rattle.am_base.specs.Lists.{Log, top_of_log, image_of_log, members_of_image, log_entry_at, log_image_at, fits, row_of_name}
use Rattle.am_base.specs.Names.{has, size, name_is_less}
use Rattle.am_base.specs.Stamps.{stamps_are_equal}
use Rattle.am_base.specs.Votes.{vote_is_less}
use Rattle.am_base.specs.declared.outcome.Outcome.TheVariants as said
use Rattle.am_model.specs.Ballots.{decide, is_waited_for, ballot_with_answer, verdict_ending, restart_reports, need_set_of, need_set_without_given_up}
use Rattle.am_model.specs.Calls.{is_unfinished_ballot}
use Rattle.am_model.specs.Node.{Node, Ballot, top, image_of_node, names_that_pass}
use Rattle.am_model.specs.Refresh.{refresh_at_end}
use Rattle.am_model.specs.Resets.{is_unfetchable_view}
use Rattle.am_step_laws.specs.Looks.{HasLearned, MayDecide, decided_view_node}
use Rattle.am_fetch_laws.specs.Exchanges.{TwoNodes, exchange, exchanges}
use Rattle.am_ballot_laws.specs.Voting.{Coordinates}
use Rattle.am_ballot_laws.specs.Fetching.{FetchesFor, HasPromised}

-- what a list shows as a vote up to a number
abbrev pub vote_at : Log → ℕ → Vote
vote_at log number = record { view = (log_image_at log number).view; top = number; taken = 0; members = members_of_image (log_image_at log number) }

-- the votes of a ballot, of which this name's is the best, and the list that it shows
pub record BestIs (who : ℕ) (b : Ballot) (from : ℕ) (best : Vote) (log : Log) : Type 0 where
  pub own : b.votes who ≡ None
  pub names : (name : ℕ) (v : Vote) → b.votes name ≡ Some v → (name < 256) × (v.view.by < 256)
  pub shown : b.votes from ≡ Some best
  pub greatest : (name : ℕ) (v : Vote) → b.votes name ≡ Some v → vote_is_less best v ≡ false
  pub lowest : (name : ℕ) (v : Vote) → name_is_less name from ≡ true → b.votes name ≡ Some v → vote_is_less v best ≡ true
  pub view_ : best.view ≡ (image_of_log log).view
  pub top_ : best.top ≡ top_of_log log
  pub members_ : best.members ≡ members_of_image (image_of_log log)
  -- the coordinator is a member there, and nobody is waited for
  pub needed : has best.members who ≡ true
  pub nobody : nat_lt 0 (size (names_that_pass (is_waited_for who b) best.members)) ≡ false
  -- each part of the list shows less
  pub less : (number : ℕ) → log.start ≤ number → number < top_of_log log → vote_is_less (vote_at log number) best ≡ true
  pub small : (number : ℕ) → log.start ≤ number → number ≤ top_of_log log → (log_image_at log number).view.by < 256

-- A coordinator whose ballot fetches, whose list begins this one. All entries fit, it doesn't leave by them, and it isn't in the stamp's view by
-- them; it has taken all up to a base, and no entry is above the bound of that.
pub record MayFollow (log : Log) (base : ℕ) (from : ℕ) (best : Vote) (m : Node) (b : Ballot) : Type 0 where
  pub fetches : FetchesFor m b from
  pub votes : BestIs m.core.who b from best log
  pub missing : top m < top_of_log log
  pub kept : log.start ≤ top m
  pub told_ : image_of_node m ≡ log_image_at log (top m)
  pub fit : (number : ℕ) (e : Entry) → log_entry_at log number ≡ Some e
      → (fits (log_image_at log (number - 1)) e ≡ true) × (is_unfetchable_view m.core.promise true e ≡ false)
  pub differ : (number : ℕ) → log.start ≤ number → number ≤ top_of_log log → stamps_are_equal (log_image_at log number).view m.core.promise ≡ false
  pub stays : (number : ℕ) → top m ≤ number → number < top_of_log log → (row_of_name (log_image_at log number) m.core.who).left ≡ 0
  pub trimmed : base ≤ m.core.taken
  pub low : base ≤ top m
  pub room : top_of_log log - base ≤ m.core.rules.window + 15

-- it has come to this list, has learned all that its ballot needs, and has looked at its ballot then
pub record LooksAtWhole (log : Log) (b : Ballot) (n : Node) : Type 0 where
  pub whole : Node
  pub told_ : image_of_node whole ≡ image_of_log log
  pub top_ : top whole ≡ top_of_log log
  pub coordinates : Coordinates whole b
  pub learned : HasLearned whole b
  pub is : n ≡ refresh_at_end (decide whole b).node

-- ---- claims

-- a voter and such a coordinator, whose stamp the voter has promised
pub record MayFollowVoter (p m : Node) (best : Vote) (b : Ballot) : Type 0 where
  pub voter : HasPromised p m.core.promise
  pub list : MayFollow p.core.log (refresh_at_end p).core.base p.core.who best m b

-- the ballot as it is while it fetches what comes next
abbrev pub fetching_ballot : Ballot → ℕ → ℕ → Ballot
fetching_ballot b from want = ballot_with_answer b (said.Fetching from want)

-- it has eight entries more, and may go on so
pub record FollowsFurther (old : Node) (t : TwoNodes) (best : Vote) (b : Ballot) : Type 0 where
  pub more : top old + 8 ≤ top t.member_
  pub goes_on : MayFollowVoter t.sequencer t.member_ best (fetching_ballot b t.sequencer.core.who (top t.member_ + 1))

-- an exchange with the voter brings the coordinator eight entries, or the whole list
abbrev pub ExchangesFollow : Type 0
ExchangesFollow = (t : TwoNodes) (best : Vote) (b : Ballot) → MayFollowVoter t.sequencer t.member_ best b
    → LooksAtWhole t.sequencer.core.log (fetching_ballot b t.sequencer.core.who (top t.sequencer)) (exchange t).member_ ⊎ FollowsFurther t.member_ (exchange t) best b

-- in as many exchanges as bring all it comes to the whole list, and looks at its ballot there
abbrev pub ExchangesReachWhole : Type 0
ExchangesReachWhole = (t : TwoNodes) (many : ℕ) (best : Vote) (b : Ballot) → MayFollowVoter t.sequencer t.member_ best b → top t.sequencer ≤ top t.member_ + 8 * many
    → (n : ℕ) × (n ≤ many) × LooksAtWhole t.sequencer.core.log (fetching_ballot b t.sequencer.core.who (top t.sequencer)) (exchanges n t).member_

-- such a look ends the ballot
abbrev pub LearnedBallotsEnd : Type 0
LearnedBallotsEnd = (m : Node) (b : Ballot) → HasLearned m b → is_unfinished_ballot (decide m b).node.ballot ≡ false

-- and it decides the view, where enough names are left and the View fits
abbrev pub LearnedBallotsDecide : Type 0
LearnedBallotsDecide = (m : Node) (b : Ballot) → MayDecide m b
    → decide m b ≡ verdict_ending (restart_reports (decided_view_node m b)) b (said.Decided (top m + 1) (need_set_without_given_up b (need_set_of m b)))
