-- A ballot that was taken out, with a vote more or a name given up, and one that begins.
use Rattle.am_resetting.proofs.VotingWords.{◌≡◌, ◌≢◌, ℕ, ◌+◌, ◌<◌, min, nat_lt, List, Bool, true, false, not, ◌==◌, Option, None, refl, ap, ◌∙◌, arith, greatest_number}
use Rattle.am_resetting.proofs.VotingWords.{names_without, stamp_is_less, NamedVote, best_vote, split_on_bool_of_log, Node, Ballot, names_that_pass, top, view, has_log_by_status, ballot_with_vote, ballot_without_voter, next_stamp}
use Rattle.am_resetting.proofs.VotingWords.{new_ballot, keep_vote_in_ballot, give_up_in_ballot, decide, best_vote_for_ballot, own_vote, has_voted, newly_needed_names, CoreFrontsAreInOrder, Vote, IsTakenOut, nat_tests}
use Rattle.am_resetting.proofs.VotingWords.{NodeKeeps, stamp_lt_next_round}

-- ---- a ballot that was taken out, with a vote more or a name given up

other_place : (name who : ℕ) → name ≢ who → (who == name) ≡ false
other_place name who h = split_on_bool_of_log (who == name) (λ t. absurd (h (grind (arith, nat_tests)))) (λ f. f)

-- with other votes and other names given up, but not at the node itself
taken_with : (m : Node) (b : Ballot) (votes : ℕ → Option Vote) (given_up : ℕ → Bool) → votes m.core.who ≡ b.votes m.core.who
    → given_up m.core.who ≡ b.given_up m.core.who → IsTakenOut m b → IsTakenOut m (record b { votes = votes; given_up = given_up })
taken_with m b votes given_up same_vote same_given is =
    let own = is.own in
    record {
      order = is.order;
      out = is.out;
      own = record {
        stamp = own.stamp;
        by = own.by;
        ahead = own.ahead;
        logged = own.logged;
        itself = λ open_. same_given ∙ own.itself open_;
        unvoted = λ open_. same_vote ∙ own.unvoted open_;
        resilience = own.resilience;
      };
      is_open = is.is_open;
      number = is.number;
    }

pub taken_out_ballot_with_vote : (m : Node) (b : Ballot) (name : ℕ) (vote : Vote) → name ≢ m.core.who → IsTakenOut m b → IsTakenOut m (ballot_with_vote b name vote)
taken_out_ballot_with_vote m b name vote other is =
    let apart = other_place name m.core.who other in
    taken_with m b (ballot_with_vote b name vote).votes b.given_up (rw apart refl) refl is

pub taken_out_ballot_without_voter : (m : Node) (b : Ballot) (name : ℕ) → name ≢ m.core.who → IsTakenOut m b → IsTakenOut m (ballot_without_voter b name)
taken_out_ballot_without_voter m b name other is =
    let apart = other_place name m.core.who other in
    taken_with m b (ballot_without_voter b name).votes (ballot_without_voter b name).given_up (rw apart refl) (rw apart refl) is

-- ---- a ballot that begins

pub next_stamp_above_promise : (m : Node) → stamp_is_less (next_stamp m) m.core.promise ≡ false
next_stamp_above_promise m =
    let t : nat_lt (m.core.promise.round + 1) m.core.promise.round ≡ false = grind (arith, nat_tests) in
    let e : (m.core.promise.round + 1 == m.core.promise.round) ≡ false = grind (arith, nat_tests) in
    rw (t, e) refl

-- with the promise of the next round and without a ballot
abbrev pub node_with_next_stamp : Node → Node
node_with_next_stamp m = record m { core = record (m.core) { promise = next_stamp m }; ballot = None }

pub new_ballot_is_taken_out : (m : Node) (least resilience : ℕ) → CoreFrontsAreInOrder m.core → NodeKeeps m → has_log_by_status m.status ≡ true → top m < greatest_number
    → IsTakenOut (node_with_next_stamp m) (new_ballot (next_stamp m) least (min resilience 15))
new_ballot_is_taken_out m least resilience order keeps logged number = record {
  order = record { kept = order.kept; let_go = order.let_go; given = order.given; accepted = order.accepted };
  out = refl;
  own = record {
    stamp = λ open_. refl;
    by = λ open_. refl;
    ahead = λ open_. stamp_lt_next_round m.core.promise (view m) m.core.who keeps.promised;
    logged = λ open_. logged;
    itself = λ open_. refl;
    unvoted = λ open_. refl;
    resilience = omega arith;
  };
  is_open = refl;
  number = number;
}

-- ---- the ballot of the node itself isn't looked at

pub keep_vote_without_own_ballot : (m : Node) (o : Option Ballot) (b : Ballot) (name : ℕ) (vote : Vote) → keep_vote_in_ballot (record m { ballot = o }) b name vote ≡ keep_vote_in_ballot m b name vote
unfolding keep_vote_in_ballot decide best_vote_for_ballot
keep_vote_without_own_ballot m o b name vote = refl

pub give_up_without_own_ballot : (m : Node) (o : Option Ballot) (b : Ballot) (name : ℕ) → give_up_in_ballot (record m { ballot = o }) b name ≡ give_up_in_ballot m b name
unfolding give_up_in_ballot decide best_vote_for_ballot
give_up_without_own_ballot m o b name = refl

-- who is newly needed, by the two best votes
pub minus_is_newly_needed : (m : Node) (old new kept : Ballot) (who : ℕ) (own : Vote) (before needed : NamedVote) (set less more : List ℕ) → kept ≡ new
    → who ≡ m.core.who → own ≡ own_vote m → before ≡ best_vote old.votes who own → needed ≡ best_vote kept.votes who own → less ≡ before.vote.members
    → more ≡ needed.vote.members → set ≡ names_that_pass (λ name. not (has_voted who kept name)) (names_without more less) → set ≡ newly_needed_names m old new
unfolding best_vote_for_ballot
minus_is_newly_needed m old new kept who own before needed set less more k w o b n l r is =
    let bo : before ≡ best_vote old.votes m.core.who (own_vote m) = b ∙ (λ i. best_vote old.votes (w i) (o i)) in
    let bn : needed ≡ best_vote new.votes m.core.who (own_vote m) = n ∙ (λ i. best_vote (k i).votes (w i) (o i)) in
    is ∙ (λ i. names_that_pass (λ name. not (has_voted (w i) (k i) name))
    (names_without ((r ∙ ap (λ (x : NamedVote). x.vote.members) bn) i) ((l ∙ ap (λ (x : NamedVote). x.vote.members) bo) i)))
