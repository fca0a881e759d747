-- What ballots add to the numbers that grow: one round where one begins, one entry where one is decided.
use Rattle.am_step_laws.proofs.Words.{◌≡◌, ℕ, ◌+◌, ◌≤◌, ◌==◌, nat_lt, min, Bool, true, false, if◌then◌else◌, List, Option, Some, None, option_map, unwrap_or, refl}
use Rattle.am_step_laws.proofs.Words.{ap, arith, Vote, View, Outcome, names_of, least_of_names, Node, Ballot, top, push_entry, BallotVerdict, node_with_promise, taken_number_of_voter, verdict_going_on}
use Rattle.am_step_laws.proofs.Words.{ended, decide_view, trim_to_least_taken_by, restart_reports, decide, next_stamp, new_ballot, begin_ballot, ballot_with_vote, keep_vote_in_ballot, ballot_without_voter}
use Rattle.am_step_laws.proofs.Words.{give_up_in_ballot, give_up_in_open_ballot, split_on_bool, Bounds, bounds_one_higher, decided_view}
use Rattle.am_base.specs.declared.outcome.Outcome.TheVariants as said
use Rattle.am_step_laws.proofs.Numbers.Counts.{NumbersAreLow, AcceptedIsWithinGroup, VotesAreWithinAccepted, higher_bounds_keep_numbers_low, entry_below_bound_is_low, trim_keeps_numbers_low, promise_keeps_numbers_low, least_of_names_is_within, PlanNumbersAreLow, higher_node_gives_low_plan, ends as plans}

-- a verdict whose node has at most one more
record Comes (most : Bounds) (g : ℕ) (v : BallotVerdict) : Type 0 where
  node : NumbersAreLow (bounds_one_higher most) g v.node

comes_if : (most : Bounds) (g : ℕ) (t : Bool) (v w : BallotVerdict) → Comes most g v → Comes most g w → Comes most g (if t then v else w)
comes_if most g true v w f k = f
comes_if most g false v w f k = k

comes_at : (most : Bounds) (g : ℕ) (v : BallotVerdict) → NumbersAreLow (bounds_one_higher most) g v.node → Comes most g v
comes_at most g v h = record { node = h }

-- a ballot whose votes are known, and reports that begin anew
with_ballot : (most : Bounds) (g : ℕ) (m : Node) (b : Ballot) → VotesAreWithinAccepted g (Some b) → NumbersAreLow most g m → NumbersAreLow most g (record m { ballot = Some b })
with_ballot most g m b votes h = record {
  counts = h.counts;
  order = h.order;
  within = h.within;
  quits = h.quits;
  tells = record { reported = h.reported; votes = votes; known = h.known };
}

with_restart : (most : Bounds) (g : ℕ) (m : Node) → NumbersAreLow most g m → NumbersAreLow most g (restart_reports m)
with_restart most g m h = record {
  counts = h.counts;
  order = h.order;
  within = h.within;
  quits = h.quits;
  tells = record { reported = λ name. split_on_bool (nat_lt name 256) (λ t. rw t h.trims) (λ f. rw f (omega arith)); votes = h.votes; known = h.known };
}

comes_on : (most : Bounds) (g : ℕ) (m : Node) (b : Ballot) (o : Outcome) → VotesAreWithinAccepted g (Some b) → NumbersAreLow (bounds_one_higher most) g m → Comes most g (verdict_going_on m b o)
comes_on most g m b o votes h = comes_at most g _ (with_ballot (bounds_one_higher most) g m (record b { answer = o; is_over = false }) votes h)

comes_over : (most : Bounds) (g : ℕ) (m : Node) (b : Ballot) (o : Outcome) → VotesAreWithinAccepted g (Some b) → NumbersAreLow (bounds_one_higher most) g m → Comes most g (ended m b o)
comes_over most g m b o votes h = comes_at most g _ (with_ballot (bounds_one_higher most) g m (record b { answer = o; is_over = true }) votes h)

-- how far those who voted have taken the list
vote_low : (g : ℕ) (vote : Option Vote) → ((v : Vote) → vote ≡ Some v → v.taken ≤ g) → unwrap_or (option_map (λ (v : Vote). v.taken) vote) 0 ≤ g
vote_low g None h = omega arith
vote_low g (Some v) h = h v refl

taken_low : (g : ℕ) (m : Node) (b : Ballot) → m.core.taken ≤ g → VotesAreWithinAccepted g (Some b) → (name : ℕ) → taken_number_of_voter m.core.who m.core.taken b name ≤ g
taken_low g m b took votes name = split_on_bool (name == m.core.who) (λ t. rw t took) (λ f. rw f (vote_low g (b.votes name) (votes name)))

or_nought : (g : ℕ) (least : Option ℕ) → ((y : ℕ) → least ≡ Some y → y ≤ g) → unwrap_or least 0 ≤ g
or_nought g None h = omega arith
or_nought g (Some x) h = h x refl

-- a View, where nothing is accepted that the group hasn't
comes_view : (most : Bounds) (g : ℕ) (m : Node) (b : Ballot) (names : List ℕ) → top m ≤ most.lists → VotesAreWithinAccepted g (Some b) → AcceptedIsWithinGroup g m → NumbersAreLow (bounds_one_higher most) g m
    → Comes most g (decide_view m b names)
comes_view most g m b names low votes k h =
    let e = View (decided_view m b names) in
    let n = entry_below_bound_is_low (bounds_one_higher most) g m e (omega arith) k h in
    let over : Comes most g (ended m b (said.Crowded m.core.base (top m))) = comes_over most g m b (said.Crowded m.core.base (top m)) votes h in
    let done : Comes most g (ended (restart_reports (push_entry m e)) b (said.Decided (top m + 1) names)) =
    comes_over most g (restart_reports (push_entry m e)) b (said.Decided (top m + 1) names) votes (with_restart (bounds_one_higher most) g (push_entry m e) n) in
    search (comes_if, over, done)

comes_trimmed : (most : Bounds) (g : ℕ) (m : Node) (b : Ballot) (names : List ℕ) → top m ≤ most.lists → VotesAreWithinAccepted g (Some b) → AcceptedIsWithinGroup g m → NumbersAreLow (bounds_one_higher most) g m
    → Comes most g (decide_view (trim_to_least_taken_by m b names) b names)
comes_trimmed most g m b names low votes k h =
    let to = unwrap_or (least_of_names (taken_number_of_voter m.core.who m.core.taken b) (names_of names)) 0 in
    let taken : to ≤ g = or_nought g (least_of_names (taken_number_of_voter m.core.who m.core.taken b) (names_of names))
    (λ y is. least_of_names_is_within g (taken_number_of_voter m.core.who m.core.taken b) (names_of names) (taken_low g m b h.took votes) y is) in
    comes_view most g (trim_to_least_taken_by m b names) b names low votes (record { told = k.told; acc = k.acc }) (trim_keeps_numbers_low (bounds_one_higher most) g m to taken h)

comes_decide : (most : Bounds) (g : ℕ) (m : Node) (b : Ballot) → top m ≤ most.lists → VotesAreWithinAccepted g (Some b) → AcceptedIsWithinGroup g m → NumbersAreLow (bounds_one_higher most) g m
    → Comes most g (decide m b)
unfolding decide
comes_decide most g m b low votes k h = search (comes_if, comes_on, comes_over, comes_trimmed)

low_decide : (most : Bounds) (g : ℕ) (m : Node) (b : Ballot) → top m ≤ most.lists → VotesAreWithinAccepted g (Some b) → AcceptedIsWithinGroup g m → NumbersAreLow (bounds_one_higher most) g m
    → NumbersAreLow (bounds_one_higher most) g (decide m b).node
low_decide most g m b low votes k h = (comes_decide most g m b low votes k h).node

-- of a node that has no more yet
pub decide_keeps_numbers_low : (most : Bounds) (g : ℕ) (m : Node) (b : Ballot) → VotesAreWithinAccepted g (Some b) → AcceptedIsWithinGroup g m → NumbersAreLow most g m → NumbersAreLow (bounds_one_higher most) g (decide m b).node
decide_keeps_numbers_low most g m b votes k h = low_decide most g m b h.entries votes k (higher_bounds_keep_numbers_low most g m h)

-- ---- the rows of ballots

pub begin_ballot_keeps_numbers_low : (most : Bounds) (g : ℕ) (m : Node) (least resilience : ℕ) → AcceptedIsWithinGroup g m → NumbersAreLow most g m → PlanNumbersAreLow most g (begin_ballot m least resilience)
unfolding begin_ballot
begin_ballot_keeps_numbers_low most g m least resilience k h =
    let stamp = next_stamp m in
    let n = promise_keeps_numbers_low (bounds_one_higher most) g m stamp (omega arith) (higher_bounds_keep_numbers_low most g m h) in
    let votes : VotesAreWithinAccepted g (Some (new_ballot stamp least (min resilience 15))) = λ name vote is. absurd (cc) in
    higher_node_gives_low_plan most g _ (low_decide most g (node_with_promise m stamp) (new_ballot stamp least (min resilience 15)) h.entries votes
    (record { told = k.told; acc = k.acc }) n)

-- the votes with one more, or without one
votes_more : (g : ℕ) (b : Ballot) (name : ℕ) (vote : Vote) → vote.taken ≤ g → VotesAreWithinAccepted g (Some b) → VotesAreWithinAccepted g (Some (ballot_with_vote b name vote))
votes_more g b name vote low h other x is = split_on_bool (other == name)
    (λ t. let now = rw t at is in let same : vote ≡ x = cc in let e = ap (λ (v : Vote). v.taken) same in omega arith)
    (λ f. h other x (rw f at is))

votes_less : (g : ℕ) (b : Ballot) (name : ℕ) → VotesAreWithinAccepted g (Some b) → VotesAreWithinAccepted g (Some (ballot_without_voter b name))
votes_less g b name h other x is = split_on_bool (other == name)
    (λ t. let now = rw t at is in absurd (cc))
    (λ f. h other x (rw f at is))

pub keep_vote_keeps_numbers_low : (most : Bounds) (g : ℕ) (m : Node) (b : Ballot) (name : ℕ) (vote : Vote) → vote.taken ≤ g → VotesAreWithinAccepted g (Some b) → AcceptedIsWithinGroup g m
    → NumbersAreLow most g m → PlanNumbersAreLow most g (keep_vote_in_ballot m b name vote)
unfolding keep_vote_in_ballot
keep_vote_keeps_numbers_low most g m b name vote low votes k h = higher_node_gives_low_plan most g _ (decide_keeps_numbers_low most g m (ballot_with_vote b name vote) (votes_more g b name vote low votes) k h)

ends_give_up : (most : Bounds) (g : ℕ) (m : Node) (b : Ballot) (name : ℕ) → VotesAreWithinAccepted g (Some b) → AcceptedIsWithinGroup g m → NumbersAreLow most g m → PlanNumbersAreLow most g (give_up_in_ballot m b name)
unfolding give_up_in_ballot
ends_give_up most g m b name votes k h = higher_node_gives_low_plan most g _ (decide_keeps_numbers_low most g m (ballot_without_voter b name) (votes_less g b name votes) k h)

pub give_up_keeps_numbers_low : (most : Bounds) (g : ℕ) (m : Node) (name : ℕ) (b : Option Ballot) → VotesAreWithinAccepted g b → AcceptedIsWithinGroup g m → NumbersAreLow most g m
    → PlanNumbersAreLow most g (give_up_in_open_ballot m name b)
give_up_keeps_numbers_low most g m name None votes k h = search plans
give_up_keeps_numbers_low most g m name (Some b) votes k h =
    let l = ends_give_up most g m b name votes k h in
    search (plans, l)
