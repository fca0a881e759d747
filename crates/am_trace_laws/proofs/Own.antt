-- What comes of the own act of a call that goes on: a send is queued, and a reset asks others for their votes.
use Rattle.am_trace_laws.proofs.ScriptWords.{◌≡◌, ℕ, zero, suc, ◌+◌, ◌-◌, ◌==◌, ◌&&◌, not, min, nat_lt, nat_le, Bool, true, false, if◌then◌else◌, List, [], ◌∷◌}
use Rattle.am_trace_laws.proofs.ScriptWords.{◌++◌, length, take, drop, slice_index, slice_set, Option, Some, None, is_some, refl, sym, ap, ◌∙◌, subst, arith}
use Rattle.am_trace_laws.proofs.ScriptWords.{get_or-set_other, true≢false, nat_tests, split_on_bool, Vote, Stamp, View, Outcome, place_of_name, life_of_name, name_of_place_and_life, has, size}
use Rattle.am_trace_laws.proofs.ScriptWords.{list_by_place, without_name, Letter, place_for, with_letter, letter_to, kind_of, OwnSend, Node, Ballot, top}
use Rattle.am_trace_laws.proofs.ScriptWords.{members, other_members, life_where_name_passes, names_that_pass, push_entry, is_member, is_sequencer, has_room, waiting_send_of, Plan, plan_without_letters, invite_packet_of}
use Rattle.am_trace_laws.proofs.ScriptWords.{accept_packet_of, sends_accept, letters_with_accept, finish, refresh_at_end, row, step, selection_of_nobody_is_nobody, end_refresh_rests_with_list, send_answer}
use Rattle.am_trace_laws.proofs.ScriptWords.{ballot_answer, sent_request, invite_round, or_else_round, round_in}
use Rattle.am_base.specs.Votes.{NamedVote, best_vote_from, best_vote, all_names}
use Rattle.am_model.specs.Ballots.{node_with_promise, next_stamp, new_ballot, own_vote, best_vote_for_ballot, need_set_of, need_set_without_given_up, is_waited_for, BallotVerdict, verdict_going_on, verdict_ending}
use Rattle.am_model.specs.Ballots.{trim_to_least_taken_by, restart_reports, decide, plan_of_verdict, begin_ballot, decided_view}
use Rattle.am_model.specs.{Calls.would_emit_send, Calls.emit_waiting_send, Calls.node_with_queued_send, Calls.queue, Calls.send_row, Calls.reset_row}
use Rattle.am_base.specs.declared.outcome.Outcome.TheVariants as said
use Rattle.am_base.specs.declared.event.NodeEvent.TheVariants as does

-- ---- a send

says_if : (b : Bool) (p q : Plan) (n : Node) (o : Outcome) → p.outcome n ≡ o → q.outcome n ≡ o → (if b then p else q).outcome n ≡ o
says_if true p q n o f g = f
says_if false p q n o f g = g

emit_says : (m : Node) (w : Option OwnSend) (o : Outcome) (n : Node) → (emit_waiting_send m w o).outcome n ≡ o
emit_says m None o n = refl
emit_says m (Some s) o n =
    says_if (not (would_emit_send m (Some s))) _ _ n o refl (says_if (not (is_sequencer m)) _ _ n o
    (says_if (nat_le (length s.body) m.core.rules.pb_up_to) _ _ n o refl refl) (says_if (has_room m) _ _ n o refl refl))

queue_says : (m : Node) (body : List ℕ) (n : Node) → (queue m body).outcome n ≡ said.Queued (m.sends.last + 1)
queue_says m body n = says_if (is_some (waiting_send_of m)) _ _ n _ refl (emit_says (node_with_queued_send m body) (waiting_send_of (node_with_queued_send m body)) _ n)

-- a send that isn't answered has the request after the last
pub unanswered_send_has_next_request : (m : Node) (body : List ℕ) → is_some (send_answer (step m (does.Send body)).outcome) ≡ false
    → sent_request (step m (does.Send body)).outcome ≡ m.sends.last + 1
unfolding step finish row send_row
unanswered_send_has_next_request m body unanswered = by_tests (is_member m.status) m.leaving (nat_le 4 (length m.sends.queue)) unanswered
  where
    n : Node
    n = refresh_at_end (send_row m body).node

    plan : Bool → Bool → Bool → Plan
    plan member leaving full =
        if not member then plan_without_letters m said.NotMember else if leaving then plan_without_letters m said.Leaving else if full then plan_without_letters m (said.Busy 4) else queue m body

    by_tests : (member leaving full : Bool) → is_some (send_answer ((plan member leaving full).outcome n)) ≡ false
        → sent_request ((plan member leaving full).outcome n) ≡ m.sends.last + 1
    by_tests false leaving full h = absurd (true≢false h)
    by_tests true true full h = absurd (true≢false h)
    by_tests true false true h = absurd (true≢false h)
    by_tests true false false h = ap sent_request (queue_says m body n)

-- ---- sets

-- those that pass a test are the same without a name that doesn't
those_without : (test : ℕ → Bool) (set : List ℕ) (who : ℕ) → test who ≡ false → names_that_pass test (without_name set who) ≡ names_that_pass test set
unfolding names_that_pass
those_without test set who fails = split_on_bool (has set who)
    (λ t. rw t (ap list_by_place (λ i place. at t place i)))
    (λ f. rw f refl)
  where
    none_there : (xs : List ℕ) (k : ℕ) → slice_index (slice_set xs k 0) k ≡ 0
    none_there [] k = refl
    none_there (x ∷ xs) zero = refl
    none_there (x ∷ xs) (suc k) = none_there xs k

    fails_there : (life : ℕ) → life ≡ life_of_name who → life_where_name_passes test (place_of_name who) life ≡ 0
    fails_there life is =
        let some : (life == 0) ≡ false = grind (arith, nat_tests) in
        let same : name_of_place_and_life (place_of_name who) life ≡ who = omega arith in
        let no : test (name_of_place_and_life (place_of_name who) life) ≡ false = ap test same ∙ fails in
        rw (some, no) refl

    at : has set who ≡ true → (place : ℕ) → life_where_name_passes test place (slice_index (slice_set set (place_of_name who) 0) place)
        ≡ life_where_name_passes test place (slice_index set place)
    at t place = split_on_bool (place == place_of_name who)
        (λ here.
        let same : place ≡ place_of_name who = grind (arith, nat_tests) in
        let there : slice_index set (place_of_name who) ≡ life_of_name who = grind (arith, nat_tests) in
        subst (λ (k : ℕ). life_where_name_passes test k (slice_index (slice_set set (place_of_name who) 0) k) ≡ life_where_name_passes test k (slice_index set k)) (sym same)
        (ap (life_where_name_passes test (place_of_name who)) (none_there set (place_of_name who)) ∙ sym (fails_there (slice_index set (place_of_name who)) there)))
        (λ away. ap (life_where_name_passes test place)
        (get_or-set_other set (place_of_name who) place 0 0 (λ same. (let t : (place == place_of_name who) ≡ true = grind (arith, nat_tests) in cc))))

-- ---- votes

-- where nobody voted, what stands is the best
none_better : (best : NamedVote) (names : List ℕ) → best_vote_from (λ name. None) best names ≡ best
unfolding best_vote_from
none_better best [] = refl
none_better best (name ∷ names) = none_better best names

own_best : (m : Node) (b : Ballot) → b.votes ≡ (λ name. None) → best_vote_for_ballot m b ≡ record { by = m.core.who; vote = own_vote m }
unfolding best_vote_for_ballot
own_best m b none = ap (λ (votes : ℕ → Option Vote). best_vote votes m.core.who (own_vote m)) none ∙ none_better _ all_names

-- ---- a reset

-- a verdict that isn't answered is the one that waits, where nothing is to be fetched
only_waits : (out waits fetches few full : Bool) (a b c d e f : BallotVerdict)
    → is_some (ballot_answer (if out then a else if waits then b else if fetches then c else if few then d else if full then e else f).outcome) ≡ false
    → is_some (ballot_answer a.outcome) ≡ true → fetches ≡ false → is_some (ballot_answer d.outcome) ≡ true → is_some (ballot_answer e.outcome) ≡ true
    → is_some (ballot_answer f.outcome) ≡ true
    → (waits ≡ true) × ((if out then a else if waits then b else if fetches then c else if few then d else if full then e else f) ≡ b)
only_waits true waits fetches few full a b c d e f h one own two three four = absurd (true≢false (sym one ∙ h))
only_waits false true fetches few full a b c d e f h one own two three four = (refl, refl)
only_waits false false true few full a b c d e f h one own two three four = absurd (true≢false own)
only_waits false false false true full a b c d e f h one own two three four = absurd (true≢false (sym two ∙ h))
only_waits false false false false true a b c d e f h one own two three four = absurd (true≢false (sym three ∙ h))
only_waits false false false false false a b c d e f h one own two three four = absurd (true≢false (sym four ∙ h))

-- an Accept tells of no ballot
skips : (letters : List Letter) (place : ℕ) (letter : Letter) → invite_round letter.packet ≡ None
    → round_in (take place letters ++ letter ∷ drop place letters) ≡ round_in letters
skips letters zero letter none = ap (λ o. or_else_round o (round_in letters)) none
skips [] (suc place) letter none = ap (λ o. or_else_round o 0) none
skips (l ∷ letters) (suc place) letter none = ap (or_else_round (invite_round l.packet)) (skips letters place letter none)

accept_skips : (m : Node) (p : Plan) (n : Node) (letters : List Letter) → round_in (letters_with_accept m p n letters) ≡ round_in letters
accept_skips m p n letters = split_on_bool (sends_accept m p n)
    (λ t. rw t (split_on_bool (size (other_members n) == 0)
    (λ none. rw none refl)
    (λ some. rw some (skips letters (place_for (kind_of (accept_packet_of n p.polls)) letters) (letter_to (other_members n) (accept_packet_of n p.polls)) refl))))
    (λ f. rw f refl)

-- the Invite tells the next round
invited : (m n : Node) → (size (other_members m) == 0) ≡ false → n.core.promise ≡ next_stamp m
    → round_in (with_letter (other_members m) (invite_packet_of n) []) ≡ m.core.promise.round + 1
invited m n some promised = rw some (ap (λ (v : Stamp). v.round) promised)

begins : (m : Node) (least resilience : ℕ) → is_some (ballot_answer (finish m (begin_ballot m least resilience)).outcome) ≡ false
    → round_in (finish m (begin_ballot m least resilience)).letters ≡ m.core.promise.round + 1
unfolding finish begin_ballot decide
begins m least resilience unanswered =
    let p = node_with_promise m (next_stamp m) in
    let b = new_ballot (next_stamp m) least (min resilience 15) in
    let w = waits_then unanswered in
    let f : Node → List Letter = λ n. with_letter (other_members m) (invite_packet_of n) [] in
    let plan : Plan = plan_of_verdict (verdict_going_on p b (said.Waiting (names_that_pass (is_waited_for p.core.who b) (need_set_of p b)))) f in
    let n = refresh_at_end plan.node in
    ap (λ (v : BallotVerdict). round_in (finish m (plan_of_verdict v f)).letters) w.1
    ∙ accept_skips m plan n (f n)
    ∙ invited m n (some_others w.0) (end_refresh_rests_with_list plan.node).rests.same.promise
  where
    p : Node
    p = node_with_promise m (next_stamp m)

    b : Ballot
    b = new_ballot (next_stamp m) least (min resilience 15)

    best : best_vote_for_ballot p b ≡ record { by = m.core.who; vote = own_vote p }
    best = own_best p b refl

    own : (not ((best_vote_for_ballot p b).by == p.core.who)) ≡ false
    own = ap (λ (s : NamedVote). not (s.by == m.core.who)) best ∙ (let same : (m.core.who == m.core.who) ≡ true = grind (arith, nat_tests) in ap not same)

    waits_then : is_some (ballot_answer (decide p b).outcome) ≡ false
        → (nat_lt 0 (size (names_that_pass (is_waited_for p.core.who b) (need_set_of p b))) ≡ true)
        × (decide p b ≡ verdict_going_on p b (said.Waiting (names_that_pass (is_waited_for p.core.who b) (need_set_of p b))))
    waits_then h =
        let names = need_set_without_given_up b (need_set_of p b) in
        let q = trim_to_least_taken_by p b names in
        only_waits (not (has (need_set_of p b) p.core.who)) (nat_lt 0 (size (names_that_pass (is_waited_for p.core.who b) (need_set_of p b))))
        (not ((best_vote_for_ballot p b).by == p.core.who)) (nat_lt (size names) b.least) (nat_lt (q.core.rules.window + 16 - size names) (top q + 1 - q.core.base))
        (verdict_ending p b (said.NotIn (best_vote_for_ballot p b).vote.view)) (verdict_going_on p b (said.Waiting (names_that_pass (is_waited_for p.core.who b) (need_set_of p b))))
        (verdict_going_on p b (said.Fetching (best_vote_for_ballot p b).by (top p + 1))) (verdict_ending p b (said.TooFew (size names) b.least)) (verdict_ending q b (said.Crowded q.core.base (top q)))
        (verdict_ending (restart_reports (push_entry q (View (decided_view q b names)))) b (said.Decided (top q + 1) names))
        h refl own refl refl refl

    self : is_waited_for m.core.who b m.core.who ≡ false
    self = let same : (m.core.who == m.core.who) ≡ true = grind (arith, nat_tests) in rw same refl

    some_others : nat_lt 0 (size (names_that_pass (is_waited_for p.core.who b) (need_set_of p b))) ≡ true → (size (other_members m) == 0) ≡ false
    some_others waits = split_on_bool (size (other_members m) == 0)
        (λ none.
        let zero_ : size (other_members m) ≡ 0 = grind (arith, nat_tests) in
        let need : need_set_of p b ≡ members m = ap (λ (s : NamedVote). s.vote.members) best in
        let nobody : size (names_that_pass (is_waited_for m.core.who b) (need_set_of p b)) ≡ 0 =
        ap (λ set. size (names_that_pass (is_waited_for m.core.who b) set)) need
        ∙ ap size (sym (those_without (is_waited_for m.core.who b) (members m) m.core.who self))
        ∙ selection_of_nobody_is_nobody (is_waited_for m.core.who b) (other_members m) zero_
        in
        absurd (true≢false (sym waits ∙ ap (nat_lt 0) nobody)))
        (λ f. f)

-- a reset that isn't answered asks with the next round
pub unanswered_reset_has_next_round : (m : Node) (least resilience : ℕ) → is_some (ballot_answer (step m (does.Reset least resilience)).outcome) ≡ false
    → round_in (step m (does.Reset least resilience)).letters ≡ m.core.promise.round + 1
unfolding step finish row reset_row
unanswered_reset_has_next_round m least resilience unanswered = by_tests (is_member m.status && has (members m) m.core.who) m.leaving unanswered
  where
    plan : Bool → Bool → Plan
    plan member leaving = if not member then plan_without_letters m said.NotMember else if leaving then plan_without_letters m said.Leaving else begin_ballot m least resilience

    by_tests : (member leaving : Bool) → is_some (ballot_answer (finish m (plan member leaving)).outcome) ≡ false
        → round_in (finish m (plan member leaving)).letters ≡ m.core.promise.round + 1
    by_tests false leaving h = absurd (true≢false h)
    by_tests true true h = absurd (true≢false h)
    by_tests true false h = begins m least resilience h
