-- What a look at a ballot comes to, from the end of a list as from all of it.
use Rattle.am_resetting.proofs.DecidingWords.{◌≡◌, ℕ, ◌+◌, ◌-◌, ◌<◌, ◌≤◌, max, List, [], ◌∷◌, true, false, not, ◌==◌, nat_lt, if◌then◌else◌, Option, Some, None}
use Rattle.am_resetting.proofs.DecidingWords.{unwrap_or, refl, sym, ap, subst, ◌∙◌, arith, IfSome, Image, Vote, Entry, View, Outcome, has, size, names_of}
use Rattle.am_resetting.proofs.DecidingWords.{NamedVote, better_vote_of, best_vote_from, best_vote, all_names, vote_is_less, Log, top_of_log, CoreKeepsEndOf, split_on_bool_of_log, least_of_names, Node, Ballot}
use Rattle.am_resetting.proofs.DecidingWords.{top, names_that_pass, push_entry, trim_node_up_to, BallotVerdict, own_vote, best_vote_for_ballot, is_waited_for, need_set_without_given_up, taken_number_of_voter, ballot_with_answer}
use Rattle.am_resetting.proofs.DecidingWords.{ballot_with_end, verdict_going_on, verdict_ending, decided_view, decide_view, trim_to_least_taken_by, decide, IsEndOf, node_with_log, told_by_standing_log, top_of_standing_log}
use Rattle.am_resetting.proofs.DecidingWords.{own_vote_on_whole_log, VerdictComesTo, BallotIsAnswered, IsOwnBallot, ended_ballot_counts_as_own}
use Rattle.am_base.specs.declared.outcome.Outcome.TheVariants as said
use Rattle.am_node_defs.specs.Reports as reports
use Rattle.am_resetting.proofs.Looked.{BallotIsLookedAt, BallotWaitsForNames, BallotWaitsForNobody, VotersOfBallotAreCounted, waited_names_are_some, voters_fewer_than_least, voters_enough_for_least}

-- it is enough to look at the same node with another list
comes : (f : Node → BallotVerdict) (m n : Node) (o : Outcome) → ((all : Log) → CoreKeepsEndOf all m.core → VerdictComesTo (f (node_with_log m all)) o n) → (all : Node)
    → IsEndOf all m → VerdictComesTo (f all) o n
comes f m n o from = λ all e. subst (λ (x : Node). VerdictComesTo (f x) o n) e.same (from all.core.log e.stands)

-- with the same ballot and the same reports they stay ends
end_with : (all m n : Node) (b : Option Ballot) → IsEndOf all m → n ≡ record m { ballot = b } → IsEndOf (record all { ballot = b }) n
end_with all m n b e is = subst (λ (x : Node). IsEndOf (record all { ballot = b }) x) (sym is)
    (record { stands = e.stands; same = ap (λ (x : Node). record x { ballot = b }) e.same })

end_reports : (all m n : Node) (base : ℕ) (b : Option Ballot) → IsEndOf all m → all.core.base ≡ base
    → n ≡ record m { reports = reports.reports_beginning_at base; ballot = b } → IsEndOf (record all { reports = reports.reports_beginning_at all.core.base; ballot = b }) n
end_reports all m n base b e at is =
    subst (λ (x : Node). IsEndOf (record all { reports = reports.reports_beginning_at all.core.base; ballot = b }) x)
    (sym (is ∙ ap (λ k. record m { reports = reports.reports_beginning_at k; ballot = b }) (sym at)))
    (record { stands = e.stands; same = ap (λ (x : Node). record x { reports = reports.reports_beginning_at all.core.base; ballot = b }) e.same })

-- an answer that ends the ballot, or lets it go on
ends_comes : (all m n : Node) (b : Ballot) (o p : Outcome) → IsEndOf all m → o ≡ p → n ≡ record m { ballot = Some (ballot_with_end b o) }
    → VerdictComesTo (verdict_ending all b p) o n
ends_comes all m n b o p e same is = record {
  node = end_with all m n (Some (ballot_with_end b p)) e (is ∙ ap (λ (x : Outcome). record m { ballot = Some (ballot_with_end b x) }) same);
  answer = sym same;
}

goes_comes : (all m n : Node) (b : Ballot) (o p : Outcome) → IsEndOf all m → o ≡ p → n ≡ record m { ballot = Some (ballot_with_answer b o) }
    → VerdictComesTo (verdict_going_on all b p) o n
goes_comes all m n b o p e same is = record {
  node = end_with all m n (Some (ballot_with_answer b p)) e (is ∙ ap (λ (x : Outcome). record m { ballot = Some (ballot_with_answer b x) }) same);
  answer = sym same;
}

end_here : (m : Node) (all : Log) → CoreKeepsEndOf all m.core → IsEndOf (node_with_log m all) m
end_here m all s = record { stands = s; same = refl }

-- ---- the view

pub decide_without_room_comes : (m n : Node) (b : Ballot) (names : List ℕ) (o : Outcome) → nat_lt (m.core.rules.window + 16 - size names) (top m + 1 - m.core.base) ≡ true
    → o ≡ said.Crowded m.core.base (top m) → n ≡ record m { ballot = Some (ballot_with_end b o) } → (all : Node) → IsEndOf all m
    → VerdictComesTo (decide_view all b names) o n
decide_without_room_comes m n b names o test answer is = comes (λ x. decide_view x b names) m n o (λ all s.
    let t = top_of_standing_log m all s in
    let there : nat_lt (m.core.rules.window + 16 - size names) (top_of_log all + 1 - m.core.base) ≡ true =
    ap (λ k. nat_lt (m.core.rules.window + 16 - size names) (k + 1 - m.core.base)) t ∙ test in
    rw there (ends_comes (node_with_log m all) m n b o (said.Crowded m.core.base (top_of_log all)) (end_here m all s) (answer
    ∙ ap (said.Crowded m.core.base) (sym t)) is))

pub decide_with_room_comes : (m mid n : Node) (b : Ballot) (names : List ℕ) (o : Outcome)
    → nat_lt (m.core.rules.window + 16 - size names) (top m + 1 - m.core.base) ≡ false
    → ((all : Node) → IsEndOf all m → IsEndOf (push_entry all (View (decided_view m b names))) mid)
    → o ≡ said.Decided (top m + 1) names → n ≡ record mid { reports = reports.reports_beginning_at m.core.base; ballot = Some (ballot_with_end b o) }
    → (all : Node) → IsEndOf all m → VerdictComesTo (decide_view all b names) o n
decide_with_room_comes m mid n b names o test pushes answer is = comes (λ x. decide_view x b names) m n o (λ all s.
    let t = top_of_standing_log m all s in
    let w = node_with_log m all in
    let there : nat_lt (m.core.rules.window + 16 - size names) (top_of_log all + 1 - m.core.base) ≡ false =
    ap (λ k. nat_lt (m.core.rules.window + 16 - size names) (k + 1 - m.core.base)) t ∙ test in
    let same : o ≡ said.Decided (top_of_log all + 1) names = answer ∙ ap (λ k. said.Decided (k + 1) names) (sym t) in
    let e : Entry = View (decided_view w b names) in
    let e_is : View (decided_view m b names) ≡ e =
    ap (λ (i : Image). View (record { stamp = b.stamp; members = names; resilience = max b.resilience i.resilience })) (sym (told_by_standing_log m all s)) in
    let p : IsEndOf (push_entry w e) mid = subst (λ (x : Entry). IsEndOf (push_entry w x) mid) e_is (pushes w (end_here m all s)) in
    rw there (record {
      node = end_reports (push_entry w e) mid n m.core.base (Some (ballot_with_end b (said.Decided (top_of_log all + 1) names))) p refl (is
          ∙ ap (λ (x : Outcome). record mid { reports = reports.reports_beginning_at m.core.base; ballot = Some (ballot_with_end b x) }) same);
      answer = sym same;
    }))

-- ---- the ballot

-- the same from a best vote
abbrev by_best : Node → Ballot → NamedVote → BallotVerdict
by_best m b best =
    if not (has best.vote.members m.core.who) then verdict_ending m b (said.NotIn best.vote.view)
    else if nat_lt 0 (size (names_that_pass (is_waited_for m.core.who b) best.vote.members)) then verdict_going_on m b
    (said.Waiting (names_that_pass (is_waited_for m.core.who b) best.vote.members))
    else if not (best.by == m.core.who) then verdict_going_on m b (said.Fetching best.by (top m + 1))
    else if nat_lt (size (need_set_without_given_up b best.vote.members)) b.least then verdict_ending m b (said.TooFew (size (need_set_without_given_up b best.vote.members)) b.least)
    else decide_view (trim_to_least_taken_by m b (need_set_without_given_up b best.vote.members)) b (need_set_without_given_up b best.vote.members)

decide_by : (m : Node) (b : Ballot) → decide m b ≡ by_best m b (best_vote_for_ballot m b)
unfolding decide
decide_by m b = refl

decide_best : (m : Node) (b : Ballot) (best : NamedVote) (all : Log) → CoreKeepsEndOf all m.core → best ≡ best_vote b.votes m.core.who (own_vote m)
    → decide (node_with_log m all) b ≡ by_best (node_with_log m all) b best
unfolding best_vote_for_ballot
decide_best m b best all s is = decide_by (node_with_log m all) b
    ∙ ap (by_best (node_with_log m all) b) (ap (best_vote b.votes m.core.who) (own_vote_on_whole_log m all s) ∙ sym is)

-- a verdict by this best vote is the ballot's
comes_best : (m n : Node) (b : Ballot) (best : NamedVote) (o : Outcome) → best ≡ best_vote b.votes m.core.who (own_vote m)
    → ((all : Log) → CoreKeepsEndOf all m.core → VerdictComesTo (by_best (node_with_log m all) b best) o n) → (all : Node) → IsEndOf all m → VerdictComesTo (decide all b) o n
comes_best m n b best o is by = comes (λ x. decide x b) m n o (λ all s. subst (λ (v : BallotVerdict). VerdictComesTo v o n) (sym (decide_best m b best all s is)) (by all s))

-- an answer is the one that the ballot was given
pub node_with_equal_ballot_end : (m n : Node) (b : Ballot) {o p : Outcome} → o ≡ p → n ≡ record m { ballot = Some (ballot_with_end b p) } → n ≡ record m { ballot = Some (ballot_with_end b o) }
node_with_equal_ballot_end m n b answer is = is ∙ ap (λ (x : Outcome). record m { ballot = Some (ballot_with_end b x) }) (sym answer)

pub node_with_equal_ballot_answer : (m n : Node) (b : Ballot) {o p : Outcome} → o ≡ p → n ≡ record m { ballot = Some (ballot_with_answer b p) }
    → n ≡ record m { ballot = Some (ballot_with_answer b o) }
node_with_equal_ballot_answer m n b answer is = is ∙ ap (λ (x : Outcome). record m { ballot = Some (ballot_with_answer b x) }) (sym answer)

-- the ballot that was given an answer is the node's own, as it was
pub ended_ballot_is_own : (m : Node) (b : Ballot) {new : Ballot} {given result : Outcome} → BallotIsAnswered (ballot_with_end b given) given result new → b.resilience ≤ 15
    → IsOwnBallot m new
ended_ballot_is_own m b {new} {given} is few = subst (λ (x : Ballot). IsOwnBallot m x) (sym is.ballot) (ended_ballot_counts_as_own m (ballot_with_end b given) refl few)

pub answered_ballot_is_own : (m : Node) (b : Ballot) {new : Ballot} {given result : Outcome} → BallotIsAnswered (ballot_with_answer b given) given result new → IsOwnBallot m b
    → b.is_over ≡ false → IsOwnBallot m new
answered_ballot_is_own m b {new} {given} is own is_open = subst (λ (x : Ballot). IsOwnBallot m x) (sym is.ballot) (record {
  stamp = λ open_. own.stamp is_open;
  by = λ open_. own.by is_open;
  ahead = λ open_. own.ahead is_open;
  logged = λ open_. own.logged is_open;
  itself = λ open_. own.itself is_open;
  unvoted = λ open_. own.unvoted is_open;
  resilience = own.resilience;
})

pub decide_without_own_name_comes : {m : Node} {b : Ballot} {best : NamedVote} {who : ℕ} {needed : List ℕ} (n : Node) (o : Outcome) → BallotIsLookedAt m b best who needed
    → has best.vote.members m.core.who ≡ false → o ≡ said.NotIn best.vote.view → n ≡ record m { ballot = Some (ballot_with_end b o) } → (all : Node) → IsEndOf all m
    → VerdictComesTo (decide all b) o n
decide_without_own_name_comes {m} {b} {best} n o seen out answer is = comes_best m n b best o seen.best_is
    (λ all s. rw out (ends_comes (node_with_log m all) m n b o (said.NotIn best.vote.view) (end_here m all s) answer is))

pub decide_waiting_comes : {m : Node} {b : Ballot} {best : NamedVote} {who count : ℕ} {needed waited : List ℕ} (n : Node) (o : Outcome)
    → BallotWaitsForNames m b best who needed waited count → 0 < count → o ≡ said.Waiting waited → n ≡ record m { ballot = Some (ballot_with_answer b o) } → (all : Node)
    → IsEndOf all m → VerdictComesTo (decide all b) o n
decide_waiting_comes {m} {b} {best} n o waits some answer is = comes_best m n b best o waits.looked.best_is
    (λ all s. rw (waits.inside, waited_names_are_some waits some)
    (goes_comes (node_with_log m all) m n b o (said.Waiting (names_that_pass (is_waited_for m.core.who b) best.vote.members)) (end_here m all s)
    (answer ∙ ap said.Waiting waits.waited_is) is))

pub decide_fetching_comes : {m : Node} {b : Ballot} {best : NamedVote} {who : ℕ} {needed : List ℕ} (n : Node) (o : Outcome) → BallotWaitsForNobody m b best who needed
    → (best.by == m.core.who) ≡ false → o ≡ said.Fetching best.by (top m + 1) → n ≡ record m { ballot = Some (ballot_with_answer b o) } → (all : Node)
    → IsEndOf all m → VerdictComesTo (decide all b) o n
decide_fetching_comes {m} {b} {best} n o idle other answer is =
    comes_best m n b best o idle.looked.best_is (λ all s. rw (
      idle.inside,
      idle.none,
      other,
    ) (goes_comes (node_with_log m all) m n b o (said.Fetching best.by (top_of_log all + 1)) (end_here m all s) (answer
    ∙ ap (λ k. said.Fetching best.by (k + 1)) (sym (top_of_standing_log m all s))) is))

pub decide_with_too_few_comes : {m : Node} {b : Ballot} {best : NamedVote} {who got least : ℕ} {needed left : List ℕ} (n : Node) (o : Outcome) → BallotWaitsForNobody m b best who needed
    → (best.by == m.core.who) ≡ true → VotersOfBallotAreCounted b best left got least → got < least → o ≡ said.TooFew got least
    → n ≡ record m { ballot = Some (ballot_with_end b o) } → (all : Node) → IsEndOf all m → VerdictComesTo (decide all b) o n
decide_with_too_few_comes {m} {b} {best} n o idle own count below answer is =
    comes_best m n b best o idle.looked.best_is (λ all s. rw (
      idle.inside,
      idle.none,
      own,
      voters_fewer_than_least count below,
    ) (ends_comes (node_with_log m all) m n b o (said.TooFew (size (need_set_without_given_up b best.vote.members)) b.least) (end_here m all s)
    (answer ∙ (λ k. said.TooFew (count.got_is k) (count.least_is k))) is))

pub decide_with_enough_comes : {m : Node} {b : Ballot} {best : NamedVote} {who got least : ℕ} {needed left : List ℕ} (n : Node) (o : Outcome) → BallotWaitsForNobody m b best who needed
    → (best.by == m.core.who) ≡ true → VotersOfBallotAreCounted b best left got least → least ≤ got
    → ((all : Node) → IsEndOf all m → VerdictComesTo (decide_view (trim_to_least_taken_by all b left) b left) o n)
    → (all : Node) → IsEndOf all m → VerdictComesTo (decide all b) o n
decide_with_enough_comes {m} {b} {best} n o idle own count above then_ = comes_best m n b best o idle.looked.best_is
    (λ all s. rw (idle.inside, idle.none, own, voters_enough_for_least count above)
    (subst (λ (names : List ℕ). VerdictComesTo (decide_view (trim_to_least_taken_by (node_with_log m all) b names) b names) o n) count.left_is
    (then_ (node_with_log m all) (end_here m all s))))

-- ---- the coordinator's own vote

better_own : (who : ℕ) (own : Vote) (best : NamedVote) (name : ℕ) (o : Option Vote) → (name ≡ who → o ≡ None) → (best.by ≡ who → best.vote ≡ own)
    → (better_vote_of best name o).by ≡ who → (better_vote_of best name o).vote ≡ own
better_own who own best name None none is = is
better_own who own best name (Some vote) none is = split_on_bool_of_log (vote_is_less best.vote vote)
    (λ t. rw t (λ h. absurd (let x = none h in cc)))
    (λ f. rw f is)

best_own_from : (votes : ℕ → Option Vote) (who : ℕ) (own : Vote) (best : NamedVote) (names : List ℕ) → votes who ≡ None → (best.by ≡ who → best.vote ≡ own)
    → (best_vote_from votes best names).by ≡ who → (best_vote_from votes best names).vote ≡ own
unfolding best_vote_from
best_own_from votes who own best [] none is = is
best_own_from votes who own best (name ∷ names) none is =
    best_own_from votes who own (better_vote_of best name (votes name)) names none (better_own who own best name (votes name) (λ e. ap votes e ∙ none) is)

-- who holds the best vote and kept none of its own shows its list as it is
pub own_best_vote_is_own : (votes : ℕ → Option Vote) (who : ℕ) (own : Vote) (best : NamedVote) → votes who ≡ None → best ≡ best_vote votes who own → best.by ≡ who
    → best.vote ≡ own
own_best_vote_is_own votes who own best none is by =
    ap (λ (x : NamedVote). x.vote) is ∙ best_own_from votes who own (record { by = who; vote = own }) all_names none (λ h. refl) (ap (λ (x : NamedVote). x.by) (sym is)
    ∙ by)

-- ---- the trim

pub least_or_zero_le_taken : (o : Option ℕ) (taken : ℕ) → IfSome o (λ least. least ≤ taken) → unwrap_or o 0 ≤ taken
least_or_zero_le_taken None taken h = omega arith
least_or_zero_le_taken (Some x) taken h = h

pub decide_after_trim_comes : (m mid n : Node) (b : Ballot) (names : List ℕ) (o : Outcome) (least : ℕ)
    → least ≡ unwrap_or (least_of_names (taken_number_of_voter m.core.who m.core.taken b) (names_of names)) 0
    → ((all : Node) → IsEndOf all m → IsEndOf (trim_node_up_to all least) mid) → ((all : Node) → IsEndOf all mid → VerdictComesTo (decide_view all b names) o n)
    → (all : Node) → IsEndOf all m → VerdictComesTo (decide_view (trim_to_least_taken_by all b names) b names) o n
decide_after_trim_comes m mid n b names o least is trims then_ = comes (λ x. decide_view (trim_to_least_taken_by x b names) b names) m n o (λ all s.
    let w = node_with_log m all in
    subst (λ (k : ℕ). VerdictComesTo (decide_view (trim_node_up_to w k) b names) o n) is (then_ (trim_node_up_to w least) (trims w (end_here m all s))))
