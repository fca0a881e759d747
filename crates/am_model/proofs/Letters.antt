-- How many letters a step sends.
use Rattle.am_model.proofs.EndWords.{[], ◌≡◌, ℕ, ◌+◌, ◌-◌, ◌<◌, ◌≤◌, min, Bool, true, false, ◌==◌, not, if◌then◌else◌, nat_lt, List, ◌∷◌, length, Option, Some}
use Rattle.am_model.proofs.EndWords.{None, refl, ap, arith, length-take, length-insert, Vote, Entry, Outcome, size, without_name, log_entry_at, Status, Packet}
use Rattle.am_model.proofs.EndWords.{Letter, kind_of, letter_to, place_for, with_letter, OwnSend, Node, Ballot, image_of_node, other_members, set_of_one_name, lowest_name_or_zero}
use Rattle.am_model.proofs.EndWords.{waiting_send_of, is_sequencer, has_room, Plan, plan_without_letters, plan_with_letter, with_one_more_letter, with_letter_where, plan_numbering_entry, plan_with_poll, leave_ask_packet_of}
use Rattle.am_model.proofs.EndWords.{hand_over_packet_of, invite_packet_of, fetch_packet_of, result_packet_of, letters_of_entries, BallotVerdict, node_with_promise, next_stamp, new_ballot, decide, plan_of_verdict}
use Rattle.am_model.proofs.EndWords.{letters_with_result, letters_with_fetch, begin_ballot, ballot_with_vote, newly_needed_names, keep_vote_in_ballot, ballot_without_voter, give_up_in_ballot, tick_of_coordinator, tick_of_follower}
use Rattle.am_model.proofs.EndWords.{tick_outcome_of_waiting_send, members_behind_view, members_of_view_entry, with_result_told_again, tick_of_sequencer, tick_by_ballot, tick_by_status, emit_waiting_send, give_out_entry, plan_of_leaving, begin_leaving, leave_by_status}
use Rattle.am_model.proofs.EndWords.{answer_ask_of_ballot, give_up_in_open_ballot}
use Rattle.am_base.specs.declared.outcome.Outcome.TheVariants as said
use Rattle.am_model.specs.declared.status.Status.TheVariants as status
use Rattle.am_base.proofs.Greatest.{split_on_bool}

-- one more at most
pub with_letter_adds_one : (to : List ℕ) (p : Packet) (letters : List Letter) → length (with_letter to p letters) ≤ length letters + 1
with_letter_adds_one to p letters = split_on_bool (size to == 0)
    (λ t. rw t (omega arith))
    (λ f. rw f (let e = length-insert letters (place_for (kind_of p) letters) (letter_to to p) (simp length-take (omega arith)) in omega arith))

pub put_all_adds_entries : (f : ℕ → Entry → Packet) (to : List ℕ) (number : ℕ) (es : List Entry) (letters : List Letter)
    → length (letters_of_entries f to number es letters) ≤ length letters + length es
unfolding letters_of_entries
put_all_adds_entries f to number [] letters = omega arith
put_all_adds_entries f to number (e ∷ es) letters =
    let h = put_all_adds_entries f to (number + 1) es (with_letter to (f number e) letters) in
    let k = with_letter_adds_one to (f number e) letters in omega arith

-- a plan with at most so many letters before the Accept
pub record SendsAtMost (most : ℕ) (p : Plan) : Type 0 where
  pub each : (n : Node) → length (p.letters n) ≤ most

pub sends_at_most_in_branches : (most : ℕ) (b : Bool) (p q : Plan) → SendsAtMost most p → SendsAtMost most q → SendsAtMost most (if b then p else q)
sends_at_most_in_branches most true p q f g = f
sends_at_most_in_branches most false p q f g = g

pub quiet_sends_at_most : (most : ℕ) (m : Node) (o : Outcome) → SendsAtMost most (plan_without_letters m o)
quiet_sends_at_most most m o = record { each = λ n. omega arith }

pub telling_sends_at_most : (most : ℕ) (m : Node) (o : Outcome) (to : List ℕ) (f : Node → Packet) → 1 ≤ most → SendsAtMost most (plan_with_letter m o to f)
telling_sends_at_most most m o to f l = record { each = λ n. (let h = with_letter_adds_one to (f n) [] in omega arith) }

pub numbering_sends_at_most : (most : ℕ) (m : Node) (e : Entry) (o : Outcome) (f : Node → Packet) → 1 ≤ most → SendsAtMost most (plan_numbering_entry m e o f)
numbering_sends_at_most most m e o f l = record { each = λ n. (let h = with_letter_adds_one (other_members m) (f n) [] in omega arith) }

pub polling_sends_at_most : (most : ℕ) (m : Node) (o : Outcome) → SendsAtMost most (plan_with_poll m o)
polling_sends_at_most most m o = record { each = λ n. omega arith }

pub and_telling_sends_one_more : (most less : ℕ) (p : Plan) (to : List ℕ) (f : Node → Packet) → less < most → SendsAtMost less p → SendsAtMost most (with_one_more_letter p to f)
and_telling_sends_one_more most less p to f low h = record { each = λ n. (let k = with_letter_adds_one to (f n) (p.letters n) in let l = h.each n in omega arith) }

pub and_where_sends_one_more : (most less : ℕ) (test : Node → Bool) (p : Plan) (to : List ℕ) (f : Node → Packet) → less < most → SendsAtMost less p → SendsAtMost most (with_letter_where test p to f)
and_where_sends_one_more most less test p to f low h = record {
  each = λ n. (let k = with_letter_adds_one to (f n) (p.letters n) in let l = h.each n in
      split_on_bool (test n) (λ t. rw t (omega arith)) (λ u. rw u (omega arith)));
}

pub ruleset plan_letter_rules = (sends_at_most_in_branches, quiet_sends_at_most, telling_sends_at_most, numbering_sends_at_most, polling_sends_at_most, arith)

-- ---- the calls

pub emit_sends_at_most : (most : ℕ) (m : Node) (w : Option OwnSend) (o : Outcome) → 1 ≤ most → SendsAtMost most (emit_waiting_send m w o)
emit_sends_at_most most m None o l = quiet_sends_at_most most m o
emit_sends_at_most most m (Some s) o l = search plan_letter_rules

pub give_out_sends_few : (m : Node) (e : Option Entry) → SendsAtMost 8 (give_out_entry m e)
give_out_sends_few m None = search plan_letter_rules
give_out_sends_few m (Some e) = search plan_letter_rules

-- leaving adds one letter
few_same : (most less : ℕ) (p q : Plan) → less ≤ most → p.letters ≡ q.letters → SendsAtMost less p → SendsAtMost most q
few_same most less p q low e h = record { each = λ n. (let l = h.each n in let k = ap (λ (f : Node → List Letter). length (f n)) e in omega arith) }

few_go : (most less : ℕ) (p : Plan) → less < most → SendsAtMost less p → SendsAtMost most (plan_of_leaving p)
few_go most less p low h =
    split_on_bool (not (is_sequencer p.node)) (λ t. rw t (and_telling_sends_one_more most less p (other_members p.node) leave_ask_packet_of low h))
    (λ f. rw f (split_on_bool (nat_lt 0 (size (other_members p.node))) (λ t. rw t (and_telling_sends_one_more most less p (set_of_one_name (lowest_name_or_zero (other_members p.node))) hand_over_packet_of low h))
    (λ g. rw g (split_on_bool (has_room p.node) (λ t. rw t (few_same most less p _ (omega arith) refl h)) (λ k. rw k (few_same most less p _ (omega arith) refl h))))))

few_leave_now : (m : Node) → SendsAtMost 8 (begin_leaving m)
few_leave_now m =
    let h = few_go 8 7 (plan_without_letters (record m { leaving = true }) said.Asked) (omega arith) (quiet_sends_at_most 7 (record m { leaving = true }) said.Asked) in
    search (plan_letter_rules, h)

pub leave_by_sends_at_most : (m : Node) (s : Status) → SendsAtMost 8 (leave_by_status m s)
leave_by_sends_at_most m status.Member = few_leave_now m
leave_by_sends_at_most m _ = search plan_letter_rules

-- ---- ballots

with_result_more : (o : Outcome) (n : Node) (letters : List Letter) → length (letters_with_result o n letters) ≤ length letters + 1
with_result_more (said.Decided number names) n letters = with_letter_adds_one (without_name names n.core.who) (result_packet_of n number names (image_of_node n).resilience) letters
with_result_more _ n letters = omega arith

with_fetch_more : (o : Outcome) (n : Node) (letters : List Letter) → length (letters_with_fetch o n letters) ≤ length letters + 1
with_fetch_more (said.Fetching from want) n letters = with_letter_adds_one (set_of_one_name from) (fetch_packet_of n) letters
with_fetch_more _ n letters = omega arith

pub verdict_plan_sends_one_more : (most less : ℕ) (v : BallotVerdict) (letters : Node → List Letter) → less < most → ((n : Node) → length (letters n) ≤ less)
    → SendsAtMost most (plan_of_verdict v letters)
verdict_plan_sends_one_more most less v letters low h = record { each = λ n. (let k = h n in let l = with_result_more v.outcome n (letters n) in omega arith) }

pub begin_sends_at_most : (m : Node) (least resilience : ℕ) → SendsAtMost 8 (begin_ballot m least resilience)
unfolding begin_ballot
begin_sends_at_most m least resilience = verdict_plan_sends_one_more 8 1 (decide (node_with_promise m (next_stamp m)) (new_ballot (next_stamp m) least (min resilience 15)))
    (λ n. with_letter (other_members m) (invite_packet_of n) []) (omega arith) (λ n. with_letter_adds_one (other_members m) (invite_packet_of n) [])

pub keep_vote_sends_at_most : (m : Node) (b : Ballot) (name : ℕ) (vote : Vote) → SendsAtMost 8 (keep_vote_in_ballot m b name vote)
unfolding keep_vote_in_ballot
keep_vote_sends_at_most m b name vote =
    let new = ballot_with_vote b name vote in
    let verdict = decide m new in
    verdict_plan_sends_one_more 8 2 verdict (λ n. letters_with_fetch verdict.outcome n (with_letter (newly_needed_names m b new) (invite_packet_of n) [])) (omega arith)
    (λ n. (let k = with_letter_adds_one (newly_needed_names m b new) (invite_packet_of n) [] in
    let l = with_fetch_more verdict.outcome n (with_letter (newly_needed_names m b new) (invite_packet_of n) []) in omega arith))

few_give_up : (m : Node) (b : Ballot) (name : ℕ) → SendsAtMost 8 (give_up_in_ballot m b name)
unfolding give_up_in_ballot
few_give_up m b name =
    let verdict = decide m (ballot_without_voter b name) in
    verdict_plan_sends_one_more 8 1 verdict (λ n. letters_with_fetch verdict.outcome n []) (omega arith) (λ n. with_fetch_more verdict.outcome n [])

pub ask_of_sends_at_most : (m : Node) (round : ℕ) (b : Option Ballot) → SendsAtMost 8 (answer_ask_of_ballot m round b)
ask_of_sends_at_most m round None = search plan_letter_rules
ask_of_sends_at_most m round (Some b) = search plan_letter_rules

pub give_up_of_sends_few : (m : Node) (name : ℕ) (b : Option Ballot) → SendsAtMost 8 (give_up_in_open_ballot m name b)
give_up_of_sends_few m name None = search plan_letter_rules
give_up_of_sends_few m name (Some b) = search (plan_letter_rules, few_give_up)

-- ---- the tick

few_tick_ballot : (m : Node) (o : Outcome) → SendsAtMost 8 (tick_of_coordinator m o)
few_tick_ballot m (said.Waiting names) = search plan_letter_rules
few_tick_ballot m (said.Fetching from want) = search plan_letter_rules
few_tick_ballot m _ = search plan_letter_rules

few_tick_member : (m : Node) → SendsAtMost 8 (tick_of_follower m)
few_tick_member m = let h = few_go 8 7 (plan_without_letters m said.Ticked) (omega arith) (quiet_sends_at_most 7 m said.Ticked) in search (plan_letter_rules, emit_sends_at_most, h)

few_result : (most less : ℕ) (p : Plan) → less < most → SendsAtMost less p → SendsAtMost most (with_result_told_again p)
few_result most less p low h = record {
  each = λ n. (let k = h.each n in
      let l = with_letter_adds_one (members_behind_view n) (result_packet_of n (image_of_node n).view_number (members_of_view_entry (log_entry_at n.core.log (image_of_node n).view_number)) (image_of_node n).resilience)
      (p.letters n) in omega arith);
}

few_tick_sequencer : (m : Node) → SendsAtMost 8 (tick_of_sequencer m)
few_tick_sequencer m =
    let p = record (emit_waiting_send m (waiting_send_of m) (tick_outcome_of_waiting_send m (waiting_send_of m))) { polls = true } in
    let h = few_result 7 6 p (omega arith) (few_same 6 6 (emit_waiting_send m (waiting_send_of m) (tick_outcome_of_waiting_send m (waiting_send_of m))) p (omega arith) refl
    (emit_sends_at_most 6 m (waiting_send_of m) (tick_outcome_of_waiting_send m (waiting_send_of m)) (omega arith))) in
    sends_at_most_in_branches 8 m.leaving (plan_of_leaving (with_result_told_again p)) (with_result_told_again p) (few_go 8 7 (with_result_told_again p) (omega arith) h)
    (few_same 8 7 (with_result_told_again p) (with_result_told_again p) (omega arith) refl h)

few_tick_with : (m : Node) (b : Option Ballot) → SendsAtMost 8 (tick_by_ballot m b)
few_tick_with m None = search (plan_letter_rules, few_tick_sequencer, few_tick_member)
few_tick_with m (Some b) = search (plan_letter_rules, few_tick_sequencer, few_tick_member, few_tick_ballot)

pub tick_by_sends_at_most : (m : Node) (s : Status) → SendsAtMost 8 (tick_by_status m s)
tick_by_sends_at_most m status.Member = few_tick_with m m.ballot
tick_by_sends_at_most m _ = search plan_letter_rules
