-- What a look at a ballot goes by, told by the values that are read one after the other.
use Rattle.am_resetting.proofs.DecidingWords.{◌≡◌, ℕ, ◌<◌, ◌≤◌, List, Bool, true, false, not, nat_lt, ◌==◌, sym, ◌∙◌, ap, arith, nat_tests, Vote, has, size, NamedVote}
use Rattle.am_resetting.proofs.DecidingWords.{best_vote, Node, Ballot, names_that_pass, own_vote, is_waited_for, need_set_without_given_up}

-- the node's name, the best vote, and who is needed
pub record BallotIsLookedAt (m : Node) (b : Ballot) (best : NamedVote) (who : ℕ) (needed : List ℕ) : Type 0 where
  pub who_is : who ≡ m.core.who
  pub best_is : best ≡ best_vote b.votes m.core.who (own_vote m)
  pub needed_is : needed ≡ best.vote.members

pub looked_at_ballot_by_values : (m : Node) (b : Ballot) (best : NamedVote) {who : ℕ} {own : Vote} {needed : List ℕ} → who ≡ m.core.who → own ≡ own_vote m
    → best ≡ best_vote b.votes who own → needed ≡ best.vote.members → BallotIsLookedAt m b best who needed
looked_at_ballot_by_values m b best {who} {own} {needed} who_is own_is best_is needed_is = record {
  who_is = who_is;
  best_is = best_is ∙ ap (λ w. best_vote b.votes w own) who_is ∙ ap (best_vote b.votes m.core.who) own_is;
  needed_is = needed_is;
}

-- whether the node itself is needed
pub best_vote_has_own_name : {m : Node} {b : Ballot} {best : NamedVote} {who : ℕ} {needed : List ℕ} {inside answer : Bool} → BallotIsLookedAt m b best who needed
    → inside ≡ has needed who → inside ≡ answer → has best.vote.members m.core.who ≡ answer
best_vote_has_own_name {m} {b} {best} {who} {needed} seen has_is is =
    sym (has_is ∙ ap (λ set. has set who) seen.needed_is ∙ ap (has best.vote.members) seen.who_is) ∙ is

-- it is, and so many are waited for
pub record BallotWaitsForNames (m : Node) (b : Ballot) (best : NamedVote) (who : ℕ) (needed waited : List ℕ) (count : ℕ) : Type 0 where
  pub looked : BallotIsLookedAt m b best who needed
  pub inside : has best.vote.members m.core.who ≡ true
  pub waited_is : waited ≡ names_that_pass (is_waited_for m.core.who b) best.vote.members
  pub count_is : count ≡ size (names_that_pass (is_waited_for m.core.who b) best.vote.members)

pub ballot_waits_for_names : {m : Node} {b : Ballot} {best : NamedVote} {who : ℕ} {needed names : List ℕ} {count : ℕ} {inside : Bool} → BallotIsLookedAt m b best who needed
    → inside ≡ has needed who → inside ≡ true → names ≡ names_that_pass (is_waited_for who b) needed → count ≡ size names → BallotWaitsForNames m b best who needed names count
ballot_waits_for_names {m} {b} {best} {who} {needed} {names} seen has_is inside names_are count_is =
    let are : names ≡ names_that_pass (is_waited_for m.core.who b) best.vote.members =
    names_are ∙ ap (λ set. names_that_pass (is_waited_for who b) set) seen.needed_is ∙ ap (λ w. names_that_pass (is_waited_for w b) best.vote.members) seen.who_is in
    record { looked = seen; inside = best_vote_has_own_name seen has_is inside; waited_is = are; count_is = count_is ∙ ap size are }

pub waited_names_are_some : {m : Node} {b : Ballot} {best : NamedVote} {who : ℕ} {needed names : List ℕ} {count : ℕ} → BallotWaitsForNames m b best who needed names count → 0 < count
    → nat_lt 0 (size (names_that_pass (is_waited_for m.core.who b) best.vote.members)) ≡ true
waited_names_are_some waits some = ap (nat_lt 0) (sym waits.count_is) ∙ (grind (arith, nat_tests))

-- it is, and nobody is waited for
pub record BallotWaitsForNobody (m : Node) (b : Ballot) (best : NamedVote) (who : ℕ) (needed : List ℕ) : Type 0 where
  pub looked : BallotIsLookedAt m b best who needed
  pub inside : has best.vote.members m.core.who ≡ true
  pub none : nat_lt 0 (size (names_that_pass (is_waited_for m.core.who b) best.vote.members)) ≡ false

pub ballot_waits_for_nobody : {m : Node} {b : Ballot} {best : NamedVote} {who : ℕ} {needed names : List ℕ} {count : ℕ} → BallotWaitsForNames m b best who needed names count → count ≤ 0
    → BallotWaitsForNobody m b best who needed
ballot_waits_for_nobody waits none = record {
  looked = waits.looked;
  inside = waits.inside;
  none = ap (nat_lt 0) (sym waits.count_is) ∙ (grind (arith, nat_tests));
}

-- what a test is whose opposite is known
not_is : (b differs answer : Bool) → differs ≡ not b → differs ≡ answer → b ≡ not answer
not_is true differs answer is at = ap not (sym is ∙ at)
not_is false differs answer is at = ap not (sym is ∙ at)

-- whether the best vote isn't its own
pub best_vote_is_own : {m : Node} {b : Ballot} {best : NamedVote} {who from : ℕ} {needed : List ℕ} {differs answer : Bool} → BallotIsLookedAt m b best who needed → from ≡ best.by
    → differs ≡ not (from == who) → differs ≡ answer → (best.by == m.core.who) ≡ not answer
best_vote_is_own {m} {b} {best} {who} {from} {needed} {differs} {answer} seen from_is ne at =
    (λ k. (sym from_is k == sym seen.who_is k)) ∙ not_is (from == who) differs answer ne at

-- who is left, how many, and how many are wanted
pub record VotersOfBallotAreCounted (b : Ballot) (best : NamedVote) (left : List ℕ) (got least : ℕ) : Type 0 where
  pub left_is : left ≡ need_set_without_given_up b best.vote.members
  pub got_is : got ≡ size (need_set_without_given_up b best.vote.members)
  pub least_is : least ≡ b.least

pub voters_of_ballot_are_counted : {m : Node} {b : Ballot} {best : NamedVote} {who : ℕ} {needed left : List ℕ} {got least : ℕ} → BallotIsLookedAt m b best who needed → left ≡ need_set_without_given_up b needed
    → got ≡ size left → least ≡ b.least → VotersOfBallotAreCounted b best left got least
voters_of_ballot_are_counted {m} {b} {best} {who} {needed} seen left_is got_is least_is =
    let are = left_is ∙ ap (need_set_without_given_up b) seen.needed_is in
    record { left_is = are; got_is = got_is ∙ ap size are; least_is = least_is }

pub voters_fewer_than_least : {b : Ballot} {best : NamedVote} {left : List ℕ} {got least : ℕ} → VotersOfBallotAreCounted b best left got least → got < least
    → nat_lt (size (need_set_without_given_up b best.vote.members)) b.least ≡ true
voters_fewer_than_least count below = (λ k. nat_lt (sym count.got_is k) (sym count.least_is k)) ∙ (grind (arith, nat_tests))

pub voters_enough_for_least : {b : Ballot} {best : NamedVote} {left : List ℕ} {got least : ℕ} → VotersOfBallotAreCounted b best left got least → least ≤ got
    → nat_lt (size (need_set_without_given_up b best.vote.members)) b.least ≡ false
voters_enough_for_least count above = (λ k. nat_lt (sym count.got_is k) (sym count.least_is k)) ∙ (grind (arith, nat_tests))
