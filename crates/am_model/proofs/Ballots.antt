-- Ballots, on the kept end of a list as on all of it.
use Rattle.am_model.proofs.EndWords.{[], Entry, ◌≡◌, ℕ, ◌+◌, ◌-◌, max, min, Bool, true, false, not, ◌&&◌, ◌==◌, nat_lt, if◌then◌else◌, List, Option, Some, None}
use Rattle.am_model.proofs.EndWords.{unwrap_or, refl, ◌∙◌, ap, Vote, Stamp, View, Outcome, has, size, names_without, without_name, names_of, NamedVote, best_vote, Log}
use Rattle.am_model.proofs.EndWords.{members_of_image, log_with_entry, least_of_names, Letter, with_letter, Node, Ballot, top, image_of_node, names_that_pass, is_member, push_entry}
use Rattle.am_model.proofs.EndWords.{set_of_one_name, invite_packet_of, result_packet_of, BallotVerdict, node_with_promise, best_vote_for_ballot, has_voted, is_waited_for, need_set_without_given_up, taken_number_of_voter, verdict_ending}
use Rattle.am_model.proofs.EndWords.{restart_reports, decide_view, trim_to_least_taken_by, decide, letters_with_result, letters_with_fetch, plan_of_verdict, next_stamp, new_ballot, begin_ballot}
use Rattle.am_model.proofs.EndWords.{ballot_with_vote, newly_needed_names, keep_vote_in_ballot, ballot_without_voter, give_up_in_ballot, reset_row, give_up_in_open_ballot, give_up_row, look_at_ballot_anew, node_with_log}
use Rattle.am_base.specs.declared.outcome.Outcome.TheVariants as said
use Rattle.am_model.proofs.Plans.{SayTheSame, PlansAreAlike, others_on_whole_log, fetch_says_the_same, plan_alike_rules, same_test_branches_are_alike, both_branches_are_alike, quiet_is_alike}
use Rattle.am_model.proofs.Nodes.{KeepsEndOfLog, IsNodeWithWholeLog, reading_on_whole_log, keeps_log_by_push, keeps_log_by_trim}

-- ---- verdicts

-- the first comes to the node of the second with all of a list, and both have one answer
record Agrees (v w : BallotVerdict) : Type 0 where
  pub whole : IsNodeWithWholeLog v.node w.node
  pub open whole use *
  pub outcome : v.outcome ≡ w.outcome

agrees_if : (b c : Bool) (u v w x : BallotVerdict) → b ≡ c → Agrees u v → Agrees w x → Agrees (if b then u else w) (if c then v else x)
agrees_if true true u v w x e f g = f
agrees_if true false u v w x e f g = absurd (cc)
agrees_if false true u v w x e f g = absurd (cc)
agrees_if false false u v w x e f g = g

-- the ballot has this answer, and is over or goes on
abbrev answers : Bool → Node → Ballot → Outcome → BallotVerdict
answers over m b o = record { node = record m { ballot = Some (record b { answer = o; is_over = over }) }; outcome = o }

agrees_answer : (over : Bool) (all : Log) (m : Node) (b : Ballot) (o w : Outcome) → KeepsEndOfLog all m → o ≡ w
    → Agrees (answers over (node_with_log m all) b o) (answers over m b w)
agrees_answer over all m b o w h e = record {
  whole = record {
    log = all;
    keeps = record { kept = h.kept; order = h.order };
    node = λ i. record (node_with_log m all) { ballot = Some (record b { answer = e i; is_over = over }) };
  };
  outcome = e;
}

-- ---- what a ballot comes to

same_best : (all : Log) (m : Node) (b : Ballot) → KeepsEndOfLog all m → best_vote_for_ballot (node_with_log m all) b ≡ best_vote_for_ballot m b
unfolding best_vote_for_ballot
same_best all m b h = reading_on_whole_log all m (λ i t. best_vote b.votes m.core.who (record { view = i.view; top = t; taken = m.core.taken; members = members_of_image i })) h

-- the view is pushed on both sides
agrees_pushed : (all : Log) (m : Node) (b : Ballot) (d e : Entry) (o w : Outcome) → KeepsEndOfLog all m → d ≡ e → o ≡ w
    → Agrees (verdict_ending (restart_reports (push_entry (node_with_log m all) d)) b o) (verdict_ending (restart_reports (push_entry m e)) b w)
agrees_pushed all m b d e o w h same f =
    let k = keeps_log_by_push all m e h in
    let n = restart_reports (push_entry m e) in
    let kn : KeepsEndOfLog (log_with_entry all e) n = record { kept = k.kept; order = k.order } in
    let a = agrees_answer true (log_with_entry all e) n b o w kn f in
    record {
      whole = record {
        log = a.log;
        keeps = a.keeps;
        node = ap (λ (x : Entry). (verdict_ending (restart_reports (push_entry (node_with_log m all) x)) b o).node) same ∙ a.node;
      };
      outcome = f;
    }

agrees_view : (all : Log) (m : Node) (b : Ballot) (names : List ℕ) → KeepsEndOfLog all m → Agrees (decide_view (node_with_log m all) b names) (decide_view m b names)
agrees_view all m b names h =
    let full = reading_on_whole_log all m (λ i t. nat_lt (m.core.rules.window + 16 - size names) (t + 1 - m.core.base)) h in
    let crowded = reading_on_whole_log all m (λ i t. said.Crowded m.core.base t) h in
    let view = reading_on_whole_log all m (λ i t. View (record { stamp = b.stamp; members = names; resilience = max b.resilience i.resilience })) h in
    let decided = reading_on_whole_log all m (λ i t. said.Decided (t + 1) names) h in
    agrees_if _ _ _ _ _ _ full (agrees_answer true all m b _ _ h crowded) (agrees_pushed all m b _ _ _ _ h view decided)

-- what is asked of the best vote alone
best_reads : {X : Type 0} (all : Log) (m : Node) (b : Ballot) (f : NamedVote → ℕ → X) → KeepsEndOfLog all m
    → f (best_vote_for_ballot (node_with_log m all) b) (top (node_with_log m all)) ≡ f (best_vote_for_ballot m b) (top m)
best_reads all m b f h = ap (λ s. f s (top (node_with_log m all))) (same_best all m b h) ∙ reading_on_whole_log all m (λ i t. f (best_vote_for_ballot m b) t) h

-- the names of the best vote's members that are left
agrees_left : (all : Log) (m : Node) (b : Ballot) (names some : List ℕ) → KeepsEndOfLog all m → names ≡ some
    → Agrees (decide_view (trim_to_least_taken_by (node_with_log m all) b names) b names) (decide_view (trim_to_least_taken_by m b some) b some)
agrees_left all m b names some h e =
    let to = unwrap_or (least_of_names (taken_number_of_voter m.core.who m.core.taken b) (names_of some)) 0 in
    let k = keeps_log_by_trim all m to h in
    let a = agrees_view all (trim_to_least_taken_by m b some) b some k in
    let v = ap (λ set. decide_view (trim_to_least_taken_by (node_with_log m all) b set) b set) e in
    record {
      whole = record { log = a.log; keeps = a.keeps; node = ap (λ (x : BallotVerdict). x.node) v ∙ a.node };
      outcome = ap (λ (x : BallotVerdict). x.outcome) v ∙ a.outcome;
    }

agrees_decide : (all : Log) (m : Node) (b : Ballot) → KeepsEndOfLog all m → Agrees (decide (node_with_log m all) b) (decide m b)
unfolding decide
agrees_decide all m b h =
    let not_in = best_reads all m b (λ s t. said.NotIn s.vote.view) h in
    let waiting = best_reads all m b (λ s t. said.Waiting (names_that_pass (is_waited_for m.core.who b) s.vote.members)) h in
    let fetching = best_reads all m b (λ s t. said.Fetching s.by (t + 1)) h in
    let few = best_reads all m b (λ s t. said.TooFew (size (need_set_without_given_up b s.vote.members)) b.least) h in
    agrees_if _ _ _ _ _ _ (best_reads all m b (λ s t. not (has s.vote.members m.core.who)) h) (agrees_answer true all m b _ _ h not_in)
    (agrees_if _ _ _ _ _ _ (best_reads all m b (λ s t. nat_lt 0 (size (names_that_pass (is_waited_for m.core.who b) s.vote.members))) h)
    (agrees_answer false all m b _ _ h waiting)
    (agrees_if _ _ _ _ _ _ (best_reads all m b (λ s t. not (s.by == m.core.who)) h) (agrees_answer false all m b _ _ h fetching)
    (agrees_if _ _ _ _ _ _ (best_reads all m b (λ s t. nat_lt (size (need_set_without_given_up b s.vote.members)) b.least) h) (agrees_answer true all m b _ _ h few)
    (agrees_left all m b _ _ h (best_reads all m b (λ s t. need_set_without_given_up b s.vote.members) h)))))

-- ---- what a verdict sends

with_result_same : (all : Log) (n : Node) (o : Outcome) (ls ks : List Letter) → KeepsEndOfLog all n → ls ≡ ks → letters_with_result o (node_with_log n all) ls ≡ letters_with_result o n ks
with_result_same all n (said.Decided number names) ls ks h e =
    reading_on_whole_log all n (λ i t. with_letter (without_name names n.core.who) (result_packet_of n number names i.resilience) ls) h ∙ ap
    (with_letter (without_name names n.core.who) (result_packet_of n number names (image_of_node n).resilience)) e
with_result_same all n _ ls ks h e = e

with_fetch_same : (all : Log) (n : Node) (o : Outcome) (ls ks : List Letter) → KeepsEndOfLog all n → ls ≡ ks → letters_with_fetch o (node_with_log n all) ls ≡ letters_with_fetch o n ks
with_fetch_same all n (said.Fetching from want) ls ks h e = λ i. with_letter (set_of_one_name from) (fetch_says_the_same all n h i) (e i)
with_fetch_same all n _ ls ks h e = e

alike_answered : (v w : BallotVerdict) (f g : Node → List Letter) → Agrees v w → SayTheSame f g → PlansAreAlike (plan_of_verdict v f) (plan_of_verdict w g)
alike_answered v w f g a says = record {
  whole = a.whole;
  outcome = λ all n k. a.outcome;
  letters = λ all n k. ap (λ o. letters_with_result o (node_with_log n all) (f (node_with_log n all))) a.outcome ∙ with_result_same all n w.outcome
      (f (node_with_log n all)) (g n) k (says all n k);
  polls = refl;
  numbers = refl;
  departs = refl;
}

-- ---- the rows of ballots

pub keeps_log_by_promise : (all : Log) (m : Node) (v : Stamp) → KeepsEndOfLog all m → KeepsEndOfLog all (node_with_promise m v)
keeps_log_by_promise all m v h =
    let o = h.order in
    record { kept = h.kept; order = record { base = o.base; taken = o.taken; given = o.given; accepted = o.accepted } }

alike_begin : (all : Log) (m : Node) (least resilience : ℕ) → KeepsEndOfLog all m → PlansAreAlike (begin_ballot (node_with_log m all) least resilience) (begin_ballot m least resilience)
unfolding begin_ballot
alike_begin all m least resilience h =
    let stamp = next_stamp m in
    alike_answered _ _ _ _ (agrees_decide all (node_with_promise m stamp) (new_ballot stamp least (min resilience 15)) (keeps_log_by_promise all m stamp h))
    (λ a n k. ap (λ to. with_letter to (invite_packet_of n) []) (others_on_whole_log all m h))

pub keep_vote_is_alike : (all : Log) (m : Node) (b : Ballot) (name : ℕ) (vote : Vote) → KeepsEndOfLog all m
    → PlansAreAlike (keep_vote_in_ballot (node_with_log m all) b name vote) (keep_vote_in_ballot m b name vote)
unfolding keep_vote_in_ballot
keep_vote_is_alike all m b name vote h =
    let new = ballot_with_vote b name vote in
    let a = agrees_decide all m new h in
    let needed : newly_needed_names (node_with_log m all) b new ≡ newly_needed_names m b new = λ i. names_that_pass (λ other. not (has_voted m.core.who new other))
    (names_without (same_best all m new h i).vote.members (same_best all m b h i).vote.members) in
    alike_answered _ _ _ _ a (λ l n k. ap
    (λ o. letters_with_fetch o (node_with_log n l) (with_letter (newly_needed_names (node_with_log m all) b new) (invite_packet_of n) [])) a.outcome ∙ with_fetch_same l n
    (decide m new).outcome _ _ k (ap (λ to. with_letter to (invite_packet_of n) []) needed))

alike_give_up : (all : Log) (m : Node) (b : Ballot) (name : ℕ) → KeepsEndOfLog all m → PlansAreAlike (give_up_in_ballot (node_with_log m all) b name) (give_up_in_ballot m b name)
unfolding give_up_in_ballot
alike_give_up all m b name h =
    let a = agrees_decide all m (ballot_without_voter b name) h in
    alike_answered _ _ _ _ a (λ l n k. ap (λ o. letters_with_fetch o (node_with_log n l) []) a.outcome ∙ with_fetch_same l n
    (decide m (ballot_without_voter b name)).outcome [] [] k refl)

pub decide_anew_is_alike : (all : Log) (m : Node) (b : Ballot) → KeepsEndOfLog all m → PlansAreAlike (look_at_ballot_anew b (node_with_log m all)) (look_at_ballot_anew b m)
decide_anew_is_alike all m b h = alike_answered _ _ _ _ (agrees_decide all m b h) (λ l n k. refl)

pub reset_is_alike : (all : Log) (m : Node) (least resilience : ℕ) → KeepsEndOfLog all m
    → PlansAreAlike (reset_row (node_with_log m all) least resilience) (reset_row m least resilience)
unfolding reset_row
reset_is_alike all m least resilience h =
    same_test_branches_are_alike _ _ _ _ _ _ (reading_on_whole_log all m (λ i t. not (is_member m.status && has (members_of_image i) m.core.who)) h) (λ t. quiet_is_alike all m _ _ h refl)
    (λ f. both_branches_are_alike m.leaving _ _ _ _ (λ t. quiet_is_alike all m _ _ h refl)
    (λ g. alike_begin all m least resilience h))

alike_give_up_of : (all : Log) (m : Node) (name : ℕ) (b : Option Ballot) → KeepsEndOfLog all m → PlansAreAlike (give_up_in_open_ballot (node_with_log m all) name b) (give_up_in_open_ballot m name b)
alike_give_up_of all m name None h = quiet_is_alike all m _ _ h refl
alike_give_up_of all m name (Some b) h = search (plan_alike_rules, alike_give_up)

pub give_up_row_is_alike : (all : Log) (m : Node) (name : ℕ) → KeepsEndOfLog all m → PlansAreAlike (give_up_row (node_with_log m all) name) (give_up_row m name)
unfolding give_up_row
give_up_row_is_alike all m name h = alike_give_up_of all m name m.ballot h
