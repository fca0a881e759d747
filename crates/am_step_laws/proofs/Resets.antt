-- The effects of what belongs to ballots.
use Rattle.am_base.specs.declared.entry.GroupView.{GroupView}
use Rattle.am_step_laws.proofs.EffectWords.{not-true, not-false, ◌≡◌, ℕ, ◌+◌, ◌≤◌, max, ◌==◌, ◌&&◌, ◌||◌, nat_lt, nat_le, not, Bool, true, false, [], Option, Some}
use Rattle.am_step_laws.proofs.EffectWords.{None, refl, sym, ap, ◌∙◌, arith, nat_tests, Vote, Image, Stamp, Entry, View, Outcome, stamp_is_less, stamps_are_equal, fits, Node}
use Rattle.am_step_laws.proofs.EffectWords.{Ballot, top, image_of_node, view, set_of_one_name, is_member, has_own_leave, number_is_within_bound, push_entry, trim_node_up_to, Plan, plan_without_letters}
use Rattle.am_step_laws.proofs.EffectWords.{ack_packet_of, fetch_packet_of, piece_packet_of, is_unfinished_ballot, node_with_promise, vote_packet_of, invite_row, is_open_ballot, take_vote, vote_row, may_fetch}
use Rattle.am_step_laws.proofs.EffectWords.{fetch_row, is_unfetchable_view, push_fetched, catch_up, look_at_ballot_anew, fetches_from, piece_promised, piece_for, piece_row}
use Rattle.am_step_laws.proofs.EffectWords.{row_of_promised_result, result_row, member_hears_other, member_or_asker_hears_other, both_of_and, Cause, hears, HasOpenBallot, with_more, as_it_is, was_fetched}
use Rattle.am_step_laws.proofs.EffectWords.{MayStore, without_ballot, invited, overtaken, told_result, promises, fetches, stores_view, PlainChangesInTurn, nothing_yet, and_then}
use Rattle.am_step_laws.proofs.EffectWords.{vote, piece, ack, fetch, of_promise}
use Rattle.am_step_laws.specs.Changes.{for_ballot}
use Rattle.am_base.specs.declared.outcome.Outcome.TheVariants as said
use Rattle.am_packet.specs.declared.packet.Packet.TheVariants as packet
use Rattle.am_step_laws.proofs.Plans.{nothing_said_without_letters, ComesWhateverTheAnswer, PlanHasEffect, either_plan_has_effect, doing_plan_has_effect, quiet_plan_does, telling_plan_does, plan_with_tested_letter_does, rows}
use Rattle.am_step_laws.proofs.{Receiving.stamp_eq_is_symmetric, Receiving.next_fitting_entry_is_storable, Tests.or_false_first_is_false, Tests.or_false_second_is_false, Rests.RestsWithWholeList, Says.image_of_pushed_entry, Says.served_entries_say}
use Rattle.am_step_laws.proofs.{Says.ack_tells_after_step, Ballots.image_after_view_names_it, Ballots.verdict_plan_has_effect, Ballots.keep_vote_has_effect, Calls.AnswersWhateverTheNode}

-- ---- stamps

pub stamp_eq_gives_equality : (a b : Stamp) → stamps_are_equal a b ≡ true → a ≡ b
stamp_eq_gives_equality a b t =
    let r : a.round ≡ b.round = grind (arith, nat_tests) in
    let n : a.by ≡ b.by = grind (arith, nat_tests) in
    λ i. record { round = r i; by = n i }

pub stamp_eq_of_itself : (a : Stamp) → stamps_are_equal a a ≡ true
stamp_eq_of_itself a = grind (arith, nat_tests)

-- ---- votes

pub invite_row_has_effect : (m : Node) (s : ℕ) (v : Stamp) → member_or_asker_hears_other m s ≡ true → (v.by == s) ≡ true → PlanHasEffect m (hears (packet.Invite s v)) (invite_row m s v)
unfolding invite_row
invite_row_has_effect m s v heard own =
    let c = hears (packet.Invite s v) in
    either_plan_has_effect m c (stamp_is_less v m.core.promise) _ _
    (λ t. doing_plan_has_effect m c _ (telling_plan_does RestsWithWholeList m c m (said.Newer m.core.promise) (set_of_one_name s) vote_packet_of nothing_yet (λ n r. tt) (λ n r. vote s v refl)))
    (λ f. doing_plan_has_effect m c _ (telling_plan_does RestsWithWholeList m c (node_with_promise m v) said.Voted
    (set_of_one_name s) vote_packet_of (and_then nothing_yet (promises {m = m} v f (invited s v refl heard own)) tt) (λ n r. tt) (λ n r. vote s v refl)))

row_voted_for : (m : Node) (s : ℕ) (v : Stamp) (show : Vote) (b : Option Ballot) → m.ballot ≡ b → member_hears_other m s ≡ true → stamp_is_less m.core.promise v ≡ false
    → PlanHasEffect m (hears (packet.Vote s v show)) (take_vote m s v show b)
row_voted_for m s v show None is heard high = search rows
row_voted_for m s v show (Some b) is heard high =
    let c = hears (packet.Vote s v show) in
    either_plan_has_effect m c (stamp_is_less v m.core.promise || not (is_open_ballot v b)) _ _ (λ t. search rows)
    (λ f.
    let low = or_false_first_is_false (stamp_is_less v m.core.promise) (not (is_open_ballot v b)) f in
    let open_ = both_of_and (not b.is_over) (stamps_are_equal b.stamp v) (not-false _ (or_false_second_is_false (stamp_is_less v m.core.promise) (not (is_open_ballot v b)) f)) in
    let has_open : HasOpenBallot m b = record { last = is; open_ = not-true _ open_.0 } in
    either_plan_has_effect m c (b.given_up s) _ _ (λ t. search rows)
    (λ g. keep_vote_has_effect m c b s show has_open (with_more b s v show refl heard low high has_open (stamp_eq_gives_equality b.stamp v open_.1) g)))

pub vote_row_has_effect : (m : Node) (s : ℕ) (v : Stamp) (show : Vote) → member_hears_other m s ≡ true → PlanHasEffect m (hears (packet.Vote s v show)) (vote_row m s v show)
unfolding vote_row
vote_row_has_effect m s v show heard =
    let c = hears (packet.Vote s v show) in
    either_plan_has_effect m c (stamp_is_less m.core.promise v) _ _
    (λ t.
    let f : stamp_is_less v m.core.promise ≡ false = grind (arith, nat_tests) in
    doing_plan_has_effect m c _ (quiet_plan_does RestsWithWholeList m c (node_with_promise m v) (said.Overtaken v)
    (and_then nothing_yet (promises {m = m} v f (overtaken s v show refl heard t)) tt) (λ n r. tt)))
    (λ f. row_voted_for m s v show m.ballot refl heard f)

-- ---- fetching

pub fetch_row_has_effect : (m : Node) (s : ℕ) (v : Stamp) (low : ℕ) → PlanHasEffect m (hears (packet.Fetch s v low)) (fetch_row m s v low)
unfolding fetch_row
fetch_row_has_effect m s v low =
    let c = hears (packet.Fetch s v low) in
    either_plan_has_effect m c (not (may_fetch m s v)) _ _ (λ t. search rows)
    (λ may. either_plan_has_effect m c (nat_lt low m.core.base || nat_lt (top m) low) _ _ (λ t. search rows)
    (λ f.
    let g = or_false_first_is_false (nat_lt low m.core.base) (nat_lt (top m) low) f in
    let above : m.core.base ≤ low = grind (arith, nat_tests) in
    doing_plan_has_effect m c _ (record {
      stays = refl;
      changes = λ n. nothing_yet;
      answer = λ n r. tt;
      letters = λ n r. served_entries_say m c m n (piece_packet_of n) (set_of_one_name s) low above r.rests
          (λ number e stands. piece s v low number e refl ((λ i. stamps_are_equal v (r.rests.promise i)
          && ((v.by == s) || ((v.by == r.rests.who i) && stamps_are_equal (r.rests.view i) v))) ∙ not-false _ may) stands);
    })))

row_fetched : (m : Node) (c : Cause) (v : Stamp) (base number : ℕ) (e : Entry) (in_ballot : Bool) (then_ : Node → Plan)
    → (MayStore m (max m.core.base base) base number e → is_unfetchable_view v in_ballot e ≡ false → PlanHasEffect m c (then_ (push_entry (trim_node_up_to m base) e)))
    → PlanHasEffect m c (push_fetched m v base number e in_ballot then_)
row_fetched m c v base number e in_ballot then_ goes =
    let within = number_is_within_bound m (max m.core.base base) number in
    either_plan_has_effect m c (nat_le number (top m)) _ _ (λ t. search rows)
    (λ new. either_plan_has_effect m c (has_own_leave m) _ _ (λ t. search rows)
    (λ stays. either_plan_has_effect m c (nat_lt (top m + 1) number) _ _ (λ t. search rows)
    (λ near. either_plan_has_effect m c (nat_lt m.core.taken base) _ _ (λ t. search rows)
    (λ low. either_plan_has_effect m c (not (fits (image_of_node m) e) || (is_unfetchable_view v in_ballot e || not within)) _ _ (λ t. search rows)
    (λ f.
    let rest = or_false_second_is_false (not (fits (image_of_node m) e)) (is_unfetchable_view v in_ballot e || not within) f in
    let next : number ≡ top m + 1 = grind (arith, nat_tests) in
    let taken : base ≤ m.core.taken = grind (arith, nat_tests) in
    goes (next_fitting_entry_is_storable m (max m.core.base base) base number e next taken stays
    (or_false_first_is_false (not (fits (image_of_node m) e)) (is_unfetchable_view v in_ballot e || not within) f) (or_false_second_is_false (is_unfetchable_view v in_ballot e) (not within) rest))
    (or_false_first_is_false (is_unfetchable_view v in_ballot e) (not within) rest))))))

-- a Piece of a promise, or of a ballot
record OfPromise (m : Node) (s : ℕ) (v : Stamp) : Type 0 where
  heard : member_hears_other m s ≡ true
  promise : stamps_are_equal v m.core.promise ≡ true
  below : stamps_are_equal (view m) v ≡ false

pub hearing_member_is_member : (m : Node) (s : ℕ) → member_hears_other m s ≡ true → is_member m.status ≡ true
hearing_member_is_member m s t = (both_of_and (not (s == m.core.who)) (is_member m.status) t).1

row_piece_promised : (m : Node) (s : ℕ) (v : Stamp) (base number : ℕ) (e : Entry) → OfPromise m s v → is_unfinished_ballot m.ballot ≡ false
    → PlanHasEffect m (hears (packet.Piece s v base number e)) (piece_promised m s v base number e)
row_piece_promised m s v base number e h none =
    let c = hears (packet.Piece s v base number e) in
    let p = push_entry (trim_node_up_to m base) e in
    either_plan_has_effect m c (not (v.by == s)) _ _ (λ t. search rows)
    (λ own. row_fetched m c v base number e false (catch_up s v number)
    (λ may past.
    let change : PlainChangesInTurn c (said.Stored number) m p = and_then nothing_yet
    (fetches {m = m} s v base number e refl h.heard h.promise h.below (without_ballot none (not-false _ own) past) may) tt in
    doing_plan_has_effect m c _ (plan_with_tested_letter_does RestsWithWholeList m c (λ n. stamps_are_equal (view n) v) (plan_without_letters p (said.Stored number))
    (set_of_one_name s) ack_packet_of (quiet_plan_does RestsWithWholeList m c p (said.Stored number) change (λ n r. tt))
    (λ n r t.
    let member : is_member n.status ≡ true = ap is_member r.rests.status ∙ hearing_member_is_member m s h.heard in
    let same : stamps_are_equal n.core.promise (view n) ≡ true = ap (λ x. stamps_are_equal x (view n)) r.rests.promise ∙ (grind (arith, nat_tests)) in
    ack (set_of_one_name s) (rw (member, same) refl)))))

row_piece_for : (m : Node) (s : ℕ) (v : Stamp) (base number : ℕ) (e : Entry) (b : Option Ballot) → m.ballot ≡ b → OfPromise m s v
    → PlanHasEffect m (hears (packet.Piece s v base number e)) (piece_for m s v base number e b)
row_piece_for m s v base number e None is h = row_piece_promised m s v base number e h (ap is_unfinished_ballot is)
row_piece_for m s v base number e (Some b) is h =
    let c = hears (packet.Piece s v base number e) in
    let p = push_entry (trim_node_up_to m base) e in
    either_plan_has_effect m c b.is_over _ _ (λ t. row_piece_promised m s v base number e h (ap is_unfinished_ballot is ∙ ap not t))
    (λ f.
    let has_open : HasOpenBallot m b = record { last = is; open_ = f } in
    either_plan_has_effect m c (not (fetches_from b.answer s)) _ _ (λ t. search rows)
    (λ from. row_fetched m c v base number e true (look_at_ballot_anew b)
    (λ may past.
    let comes : ComesWhateverTheAnswer m c p = λ o. and_then nothing_yet (fetches {m =
    m} s v base number e refl h.heard h.promise h.below (for_ballot b has_open (not-false _ from) past) may) tt in
    verdict_plan_has_effect m c p b (λ n. []) comes f (as_it_is b (record { last = is; open_ = f }) (was_fetched s v base number e refl h.promise))
    (λ n r. nothing_said_without_letters m c n))))

pub piece_row_has_effect : (m : Node) (s : ℕ) (v : Stamp) (base number : ℕ) (e : Entry) → member_hears_other m s ≡ true
    → PlanHasEffect m (hears (packet.Piece s v base number e)) (piece_row m s v base number e)
unfolding piece_row
piece_row_has_effect m s v base number e heard =
    let c = hears (packet.Piece s v base number e) in
    either_plan_has_effect m c (not (stamps_are_equal v m.core.promise) || stamps_are_equal (view m) v) _ _ (λ t. search rows)
    (λ f. row_piece_for m s v base number e m.ballot refl
    (record {
      heard = heard;
      promise = not-false _ (or_false_first_is_false (not (stamps_are_equal v m.core.promise)) (stamps_are_equal (view m) v) f);
      below = or_false_second_is_false (not (stamps_are_equal v m.core.promise)) (stamps_are_equal (view m) v) f;
    }))

-- ---- a decided view

row_hears_result : (m : Node) (s : ℕ) (base number : ℕ) (v : GroupView) → member_hears_other m s ≡ true → (v.stamp.by == s) ≡ true
    → (v.stamp.by == m.core.who) ≡ false → stamp_is_less v.stamp m.core.promise ≡ false
    → PlanHasEffect m (hears (packet.Result s base number v)) (row_of_promised_result (node_with_promise m v.stamp) s base number v)
row_hears_result m s base number v heard own other low =
    let c = hears (packet.Result s base number v) in
    let p = node_with_promise m v.stamp in
    let e = View v in
    let member = hearing_member_is_member m s heard in
    let comes : ComesWhateverTheAnswer m c p = λ o. and_then nothing_yet (promises {m = m} v.stamp low (told_result s base number v refl heard own other)) tt in
    let quietly : (o : Outcome) → AnswersWhateverTheNode m c o → PlanHasEffect m c (plan_without_letters p o) = λ o b. doing_plan_has_effect m c _ (quiet_plan_does RestsWithWholeList m c p o (comes o) (λ n r. b n)) in
    let within = number_is_within_bound p (max p.core.base base) number in
    either_plan_has_effect m c (stamps_are_equal (view p) v.stamp) _ _
    (λ t.
    let back = stamp_eq_is_symmetric (view p) v.stamp t in
    doing_plan_has_effect m c _ (telling_plan_does RestsWithWholeList m c p said.Known (set_of_one_name s) ack_packet_of (comes _) (λ n r. tt)
    (ack_tells_after_step m c p (set_of_one_name s) (rw (member, back) refl))))
    (λ below. either_plan_has_effect m c (nat_le number (top p)) _ _ (λ t. quietly said.Unfit (λ n. tt))
    (λ new. either_plan_has_effect m c (has_own_leave p) _ _ (λ t. quietly said.Behind (λ n. tt))
    (λ stays. either_plan_has_effect m c (nat_lt (top p + 1) number) _ _
    (λ t.
    let by : v.stamp.by ≡ s = grind (arith, nat_tests) in
    doing_plan_has_effect m c _ (telling_plan_does RestsWithWholeList m c p (said.Catching (top p + 1)) (set_of_one_name s) fetch_packet_of (comes _) (λ n r. tt)
    (λ n r. fetch (set_of_one_name s) (of_promise ((λ i. (r.rests.promise i).by == r.rests.who i) ∙ other) (ap set_of_one_name (sym by)
    ∙ ap (λ (x : Stamp). set_of_one_name x.by) (sym r.rests.promise))))))
    (λ near. either_plan_has_effect m c (nat_lt p.core.taken base) _ _ (λ t. quietly said.Behind (λ n. tt))
    (λ up. either_plan_has_effect m c (not (fits (image_of_node p) e) || not within) _ _ (λ t. quietly said.Unfit (λ n. tt))
    (λ f.
    let next : number ≡ top p + 1 = grind (arith, nat_tests) in
    let taken : base ≤ p.core.taken = grind (arith, nat_tests) in
    let n = push_entry (trim_node_up_to p base) e in
    let may : MayStore p (max p.core.base base) base number e = next_fitting_entry_is_storable p (max p.core.base base) base number e next taken stays
    (or_false_first_is_false (not (fits (image_of_node p) e)) (not within) f) (or_false_second_is_false (not (fits (image_of_node p) e)) (not within) f) in
    let stamp : view n ≡ v.stamp = ap (λ (i : Image). i.view) (image_of_pushed_entry (trim_node_up_to p base) e) ∙ (image_after_view_names_it (image_of_node p) (top p + 1) v).1 in
    let same : stamps_are_equal v.stamp (view n) ≡ true = ap (stamps_are_equal v.stamp) stamp ∙ stamp_eq_of_itself v.stamp in
    doing_plan_has_effect m c _ (telling_plan_does RestsWithWholeList m c n (said.Stored number)
    (set_of_one_name s) ack_packet_of (and_then (comes _) (stores_view {m = p} s base number v refl heard own other refl below may) tt) (λ k r. tt)
    (ack_tells_after_step m c n (set_of_one_name s) (rw (member, same) refl)))))))))

pub result_row_has_effect : (m : Node) (s : ℕ) (base number : ℕ) (v : GroupView) → member_hears_other m s ≡ true → (v.stamp.by == s) ≡ true
    → PlanHasEffect m (hears (packet.Result s base number v)) (result_row m s base number v)
unfolding result_row
result_row_has_effect m s base number v heard own =
    let c = hears (packet.Result s base number v) in
    either_plan_has_effect m c ((v.stamp.by == m.core.who) || stamp_is_less v.stamp m.core.promise) _ _ (λ t. search rows)
    (λ f. row_hears_result m s base number v heard own (or_false_first_is_false (v.stamp.by == m.core.who) (stamp_is_less v.stamp m.core.promise) f)
    (or_false_second_is_false (v.stamp.by == m.core.who) (stamp_is_less v.stamp m.core.promise) f))
