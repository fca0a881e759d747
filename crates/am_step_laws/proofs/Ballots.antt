-- The effects of ballots.
use Rattle.am_step_laws.proofs.EffectWords.{[], decided_view, GroupView, not-true, not-false, ◌≡◌, ℕ, zero, suc, ◌+◌, ◌-◌, ◌==◌, ◌&&◌, min, nat_lt, nat_le, not, Bool}
use Rattle.am_step_laws.proofs.EffectWords.{true, false, if◌then◌else◌, List, length, Option, Some, None, slice_get, refl, sym, ap, subst, ◌∙◌, arith, nat_tests}
use Rattle.am_step_laws.proofs.EffectWords.{Vote, Image, View, has, size, without_name, Log, log_entry_at, after, Letter, with_letter, Node, Ballot, top, image_of_node, view}
use Rattle.am_step_laws.proofs.EffectWords.{members, other_members, set_of_one_name, names_that_pass, is_member, push_entry, invite_packet_of, fetch_packet_of, result_packet_of, node_with_promise, BallotVerdict, need_set_of}
use Rattle.am_step_laws.proofs.EffectWords.{best_vote_for_ballot, is_waited_for, need_set_without_given_up, trim_to_least_taken_by, decide, letters_with_result, letters_with_fetch, plan_of_verdict, next_stamp, new_ballot, begin_ballot}
use Rattle.am_step_laws.proofs.EffectWords.{ballot_with_vote, newly_needed_names, keep_vote_in_ballot, ballot_without_voter, give_up_in_ballot, members_of_view_entry, reset_row, give_up_in_open_ballot, both_of_and, Cause, calls}
use Rattle.am_step_laws.proofs.EffectWords.{HasLearned, LooksAtBallot, finds_itself_out, waits, fetches_from_best, finds_too_few, finds_no_room, decides, MayBegin, BeginsBy}
use Rattle.am_step_laws.proofs.EffectWords.{by_reset, MayLookAtBallot, was_reset, HasOpenBallot, BallotIsLookedAt, as_it_is, without_one, by_hand_over, was_handed, opens, nothing_yet}
use Rattle.am_step_laws.proofs.EffectWords.{and_then, looked, invite, fetch, result, has_begun, for_ballot, decided, OutcomeTells}
use Rattle.am_base.specs.declared.outcome.Outcome.TheVariants as said
use Rattle.am_base.specs.declared.event.NodeEvent.TheVariants as does
use Rattle.am_step_laws.specs.Letters as letters
use Rattle.am_step_laws.proofs.Plans.{AllLettersSay, nothing_said_without_letters, letters_say_with_one_more, ComesWhateverTheAnswer, PlanHasEffect, either_plan_has_effect, deeds_give_plan_effect, rows}
use Rattle.am_step_laws.proofs.{Items.slice_get_of_pushed, Rests.RestsWithWholeList, Says.image_of_pushed_entry}

-- ---- a look

looks_if : (m : Node) (b : Ballot) (t : Bool) (v w : BallotVerdict) → (t ≡ true → LooksAtBallot m b v) → (t ≡ false → LooksAtBallot m b w) → LooksAtBallot m b (if t then v else w)
looks_if m b true v w f g = f refl
looks_if m b false v w f g = g refl

looks_at : (m : Node) (b : Ballot) → LooksAtBallot m b (decide m b)
unfolding decide
looks_at m b =
    let need = need_set_of m b in
    let names = need_set_without_given_up b need in
    let waited = nat_lt 0 (size (names_that_pass (is_waited_for m.core.who b) need)) in
    looks_if m b (not (has need m.core.who)) _ _ (λ t. finds_itself_out (not-true _ t))
    (λ f. let there = not-false _ f in
    looks_if m b waited _ _ (λ t. waits there t)
    (λ all. looks_if m b (not ((best_vote_for_ballot m b).by == m.core.who)) _ _ (λ t. fetches_from_best there all (not-true _ t))
    (λ g. let learned : HasLearned m b = record { needed = there; all = all; own = not-false _ g } in
    looks_if m b (nat_lt (size names) b.least) _ _ (λ t. finds_too_few learned t)
    (λ enough. looks_if m b (nat_lt (m.core.rules.window + 16 - size names) (top m + 1 - (trim_to_least_taken_by m b names).core.base)) _ _ (λ t. finds_no_room learned)
    (λ room. decides (record { learned = learned; enough = enough; room = room }))))))

-- what is answered tells no more
answers_look : (m : Node) (c : Cause) (n p : Node) (b : Ballot) (v : BallotVerdict) → LooksAtBallot p b v → OutcomeTells m c n v.outcome
answers_look m c n p b v (finds_itself_out x) = tt
answers_look m c n p b v _ = tt

promise_look : (p : Node) (b : Ballot) (v : BallotVerdict) → LooksAtBallot p b v → v.node.core.promise ≡ p.core.promise
promise_look p b v (finds_itself_out x) = refl
promise_look p b v _ = refl

ballot_look : (p : Node) (b : Ballot) (v : BallotVerdict) → LooksAtBallot p b v → (new : Ballot) × (v.node.ballot ≡ Some new)
ballot_look p b v (finds_itself_out x) = (_, refl)
ballot_look p b v _ = (_, refl)

-- ---- what a verdict sends

-- an entry by its place in the list
pub entry_at_number_of_log : (log : Log) (number index : ℕ) → number ≡ log.start + index + 1 → log_entry_at log number ≡ slice_get log.entries index
entry_at_number_of_log log zero index e = absurd (omega arith)
entry_at_number_of_log log (suc before) index e =
    let t : nat_le log.start before ≡ true = grind (arith, nat_tests) in
    let k : before - log.start ≡ index = omega arith in
    rw t (ap (slice_get log.entries) k)

pub image_after_view_names_it : (image : Image) (number : ℕ) (v : GroupView)
    → ((after image number (View v)).view_number ≡ number) × ((after image number (View v)).view ≡ v.stamp)
unfolding after
image_after_view_names_it image number v = (refl, refl)

says_result : (m : Node) (c : Cause) (n p : Node) (b : Ballot) (v : BallotVerdict) (letters : List Letter) → LooksAtBallot p b v → RestsWithWholeList v.node n → AllLettersSay m c n letters
    → AllLettersSay m c n (letters_with_result v.outcome n letters)
says_result m c n p b v letters (decides x) r h =
    let names = need_set_without_given_up b (need_set_of p b) in
    let before = trim_to_least_taken_by p b names in
    let e = View (decided_view p b names) in
    let number = top p + 1 in
    let image : image_of_node n ≡ after (image_of_node p) number e = ap Rattle.am_base.specs.Lists.image_of_log r.log ∙ image_of_pushed_entry before e in
    let is = image_after_view_names_it (image_of_node p) number (decided_view p b names) in
    let high : number ≡ (image_of_node n).view_number = sym (ap (λ (i : Image). i.view_number) image ∙ is.0) in
    let there : log_entry_at n.core.log number ≡ Some e = ap (λ l. log_entry_at l number) r.log
    ∙ (entry_at_number_of_log (push_entry before e).core.log number (length p.core.log.entries) (omega arith) ∙ slice_get_of_pushed p.core.log.entries e) in
    let stamp : view n ≡ b.stamp = ap (λ (i : Image). i.view) image ∙ is.1 in
    let o = said.Decided number names in
    letters_say_with_one_more m c n (without_name names n.core.who) (result_packet_of n number names (image_of_node n).resilience) letters
    (result (without_name names n.core.who) number names high (ap members_of_view_entry there)
    (decided (record b { answer = o; is_over = true }) number names r.rests.ballot refl stamp)) h
says_result m c n p b v letters _ r h = h

says_fetch : (m : Node) (c : Cause) (n p : Node) (b : Ballot) (v : BallotVerdict) (letters : List Letter) → LooksAtBallot p b v → RestsWithWholeList v.node n → AllLettersSay m c n letters
    → AllLettersSay m c n (letters_with_fetch v.outcome n letters)
says_fetch m c n p b v letters (fetches_from_best x y z) r h =
    let from = (best_vote_for_ballot p b).by in
    let o = said.Fetching from (top p + 1) in
    letters_say_with_one_more m c n (set_of_one_name from) (fetch_packet_of n) letters
    (fetch (set_of_one_name from) (for_ballot (record b { answer = o; is_over = false }) (record { last = r.rests.ballot; open_ = refl }) from (top p + 1) refl refl))
    h
says_fetch m c n p b v letters _ r h = h

-- ---- a look at the end of a row

pub verdict_plan_has_effect : (m : Node) (c : Cause) (p : Node) (b : Ballot) (f : Node → List Letter) → ComesWhateverTheAnswer m c p → b.is_over ≡ false → BallotIsLookedAt c p b
    → ((n : Node) → RestsWithWholeList (decide p b).node n → AllLettersSay m c n (f n)) → PlanHasEffect m c (plan_of_verdict (decide p b) f)
verdict_plan_has_effect m c p b f comes over why says =
    let v = decide p b in
    let l = looks_at p b in
    deeds_give_plan_effect m c _ refl (λ n. looked {n = p} b v (comes v.outcome) over why l refl) (λ n r. answers_look m c n p b v l)
    (λ n r. says_result m c n p b v (f n) l r (says n r))

-- the ballot is there once it was opened
abbrev opened : Node → ℕ → ℕ → Node
opened m least resilience = record (node_with_promise m (next_stamp m)) { ballot = Some (new_ballot (next_stamp m) least (min resilience 15)) }

looks_on : (m : Node) (c : Cause) (p : Node) → BeginsBy m c → MayLookAtBallot c p
looks_on m c p (by_reset least resilience) = was_reset least resilience refl
looks_on m c p (by_hand_over s v heard) = was_handed s v refl

row_begin : (m : Node) (c : Cause) (least resilience : ℕ) → BeginsBy m c → MayBegin m → PlanHasEffect m c (begin_ballot m least resilience)
unfolding begin_ballot decide best_vote_for_ballot
row_begin m c least resilience by may =
    let p = opened m least resilience in
    let b = new_ballot (next_stamp m) least (min resilience 15) in
    let f : Node → List Letter = λ n. with_letter (other_members m) (invite_packet_of n) [] in
    let h : PlanHasEffect m c (plan_of_verdict (decide p b) f) = verdict_plan_has_effect m c p b f (λ o. and_then nothing_yet (opens {m = m} least resilience by may) tt) refl
    (as_it_is b (record { last = refl; open_ = refl }) (looks_on m c p by))
    (λ n r. letters_say_with_one_more m c n (other_members m) (invite_packet_of n) [] (let new = ballot_look p b (decide p b) (looks_at p b) in
    invite (other_members m) (has_begun new.0 (r.rests.ballot ∙ new.1) (r.rests.promise ∙ promise_look p b (decide p b) (looks_at p b)))) (nothing_said_without_letters m c n)) in
    subst (λ v. PlanHasEffect m c (plan_of_verdict v f)) (sym (refl)) h

pub reset_row_has_effect : (m : Node) (c : Cause) (least resilience : ℕ) → BeginsBy m c → PlanHasEffect m c (reset_row m least resilience)
unfolding reset_row
reset_row_has_effect m c least resilience by =
    either_plan_has_effect m c (not (is_member m.status && has (members m) m.core.who)) _ _ (λ t. search rows)
    (λ f. let both = both_of_and (is_member m.status) (has (members m) m.core.who) (not-false _ f) in
    either_plan_has_effect m c m.leaving _ _ (λ t. search rows) (λ g. row_begin m c least resilience by (record { member = both.0; listed = both.1; stays = g })))

-- a vote is kept
pub keep_vote_has_effect : (m : Node) (c : Cause) (b : Ballot) (name : ℕ) (vote : Vote) → HasOpenBallot m b → BallotIsLookedAt c m (ballot_with_vote b name vote)
    → PlanHasEffect m c (keep_vote_in_ballot m b name vote)
unfolding keep_vote_in_ballot
keep_vote_has_effect m c b name vote open_ why =
    let new = ballot_with_vote b name vote in
    let v = decide m new in
    verdict_plan_has_effect m c m new (λ n. letters_with_fetch v.outcome n (with_letter (newly_needed_names m b new) (invite_packet_of n) [])) (λ o. nothing_yet) open_.open_ why
    (λ n r. says_fetch m c n m new v _ (looks_at m new) r (letters_say_with_one_more m c n (newly_needed_names m b new) (invite_packet_of n) []
    (invite (newly_needed_names m b new) (letters.goes_on b open_)) (nothing_said_without_letters m c n)))

row_give_up : (m : Node) (b : Ballot) (name : ℕ) → HasOpenBallot m b → (name == m.core.who) ≡ false → PlanHasEffect m (calls (does.GiveUp name)) (give_up_in_ballot m b name)
unfolding give_up_in_ballot
row_give_up m b name open_ other =
    let c = calls (does.GiveUp name) in
    let new = ballot_without_voter b name in
    let v = decide m new in
    verdict_plan_has_effect m c m new (λ n. letters_with_fetch v.outcome n []) (λ o. nothing_yet) open_.open_ (without_one b name refl open_ other)
    (λ n r. says_fetch m c n m new v [] (looks_at m new) r (nothing_said_without_letters m c n))

pub give_up_has_effect : (m : Node) (name : ℕ) (b : Option Ballot) → m.ballot ≡ b → PlanHasEffect m (calls (does.GiveUp name)) (give_up_in_open_ballot m name b)
give_up_has_effect m name None is = search rows
give_up_has_effect m name (Some b) is =
    let c = calls (does.GiveUp name) in
    either_plan_has_effect m c b.is_over _ _ (λ t. search rows)
    (λ f. either_plan_has_effect m c (name == m.core.who) _ _ (λ t. search rows) (λ g. row_give_up m b name (record { last = is; open_ = f }) g))
