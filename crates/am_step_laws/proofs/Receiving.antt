-- The effects of what a member hears of its sequencer, of bodies that are spread, and of a joiner's Welcome.
use Rattle.am_step_laws.proofs.EffectWords.{not-false, same_Some, ◌≡◌, ℕ, ◌+◌, ◌<◌, ◌≤◌, ◌==◌, ◌&&◌, ◌||◌, nat_lt, nat_le, not, Bool, true, false, List, Option}
use Rattle.am_step_laws.proofs.EffectWords.{Some, None, refl, sym, ap, subst, ◌∙◌, arith, list_any, nat_tests, Report, Image, Stamp, Entry, Data, Outcome, stamp_is_less}
use Rattle.am_step_laws.proofs.EffectWords.{stamps_are_equal, fits, row_of_name, OwnSend, is_body_of_send, keep_body, Node, top, image_of_node, view, set_of_one_name, acts_in_its_view, is_member, is_asking_status}
use Rattle.am_step_laws.proofs.EffectWords.{has_own_leave, number_is_within_bound, push_entry, plan_without_letters, ack_packet_of, nack_packet_of, fetch_packet_of, row_of_name_in_list, outcome_where_accepted_rose, spread_row, is_view}
use Rattle.am_step_laws.proofs.EffectWords.{node_with_noted_fronts, acknowledges, bodies_after_stored_entry, body_of_spread_send, store_fitting_entry, store_numbered_entry, receive_entry, bcast_row, data_entry_of, order_row}
use Rattle.am_step_laws.proofs.EffectWords.{accept_row, answer_hold, node_of_welcomed, ask_for_next_entries, welcome_row, gone_row, member_hears_other, member_or_asker_hears_other, hears_packet_of_its_view}
use Rattle.am_step_laws.proofs.EffectWords.{hears_packet_of_sequencer, split_on_bool, both_of_and, Cause, hears, CauseHasFronts, with_entry, with_number, alone, MayStore, CarriesEntry}
use Rattle.am_step_laws.proofs.EffectWords.{whole_entry, by_number, MayBeWelcomed, keeps_body, notes, stores, begins_list, PlainChangesInTurn, nothing_yet, and_then, fetch}
use Rattle.am_step_laws.proofs.EffectWords.{of_promise, OutcomeTells}
use Rattle.am_base.specs.declared.outcome.Outcome.TheVariants as said
use Rattle.am_packet.specs.declared.packet.Packet.TheVariants as packet
use Rattle.am_step_laws.proofs.Plans.{ComesWhateverTheAnswer, PlanHasEffect, either_plan_has_effect, doing_plan_has_effect, quiet_plan_does, plan_with_told_answer_does, telling_plan_does, plan_with_tested_letter_does, let_go_row_has_effect, rows}
use Rattle.am_step_laws.proofs.Says.{acts_after_pushed_entry, ack_tells_after_step, nack_tells_after_step}
use Rattle.am_step_laws.proofs.{Tests.or_false_first_is_false, Tests.or_false_second_is_false, Rests.RestsWithWholeList, Calls.AnswersWhateverTheNode}

-- ---- bodies

pub spread_row_has_effect : (m : Node) (s : ℕ) (v : Stamp) (report : Report) (req : ℕ) (body : List ℕ) → hears_packet_of_its_view m s v ≡ true
    → PlanHasEffect m (hears (packet.Spread s v report req body)) (spread_row m s req body)
unfolding spread_row
spread_row_has_effect m s v report req body heard =
    let c = hears (packet.Spread s v report req body) in
    either_plan_has_effect m c (nat_le req (row_of_name_in_list m s).last || list_any (is_body_of_send s req) m.bodies) _ _
    (λ t. doing_plan_has_effect m c _ (quiet_plan_does RestsWithWholeList m c m said.Known nothing_yet (λ n r. tt)))
    (λ f. doing_plan_has_effect m c _ (quiet_plan_does RestsWithWholeList m c (record m { bodies = keep_body s req body m.bodies }) said.Kept
    (and_then nothing_yet (keeps_body {m = m} s v report req body refl heard) tt) (λ n r. tt)))

-- ---- entries

pub hearing_sequencer_acts : (m : Node) (s : ℕ) (v : Stamp) → hears_packet_of_sequencer m s v ≡ true → acts_in_its_view m ≡ true
hearing_sequencer_acts m s v t =
    let a = (both_of_and (hears_packet_of_its_view m s v) (v.by == s) t).0 in
    let b = (both_of_and (member_hears_other m s) (acts_in_its_view m && stamps_are_equal v (view m)) a).1 in
    (both_of_and (acts_in_its_view m) (stamps_are_equal v (view m)) b).0

-- what comes next and passes the tests may be stored
pub next_fitting_entry_is_storable : (m : Node) (above base number : ℕ) (e : Entry) → number ≡ top m + 1 → base ≤ m.core.taken → has_own_leave m ≡ false
    → not (fits (image_of_node m) e) ≡ false → not (number_is_within_bound m above number) ≡ false → MayStore m above base number e
next_fitting_entry_is_storable m above base number e next taken stays f w =
    record { next = next; taken = taken; stays = stays; fits = not-false _ f; within = not-false _ w }

-- it comes next, and fits
row_stored : (m : Node) (c : Cause) (p : Node) (s : ℕ) (v : Stamp) (base acc number : ℕ) (e : Entry) → ComesWhateverTheAnswer m c p → CarriesEntry c p s v base acc number e
    → hears_packet_of_sequencer p s v ≡ true → is_view e ≡ false → MayStore p p.core.base base number e → PlanHasEffect m c (store_fitting_entry p s number e)
row_stored m c p s v base acc number e comes carries heard plain may =
    let n = record (push_entry p e) { bodies = bodies_after_stored_entry p.bodies e } in
    let o = said.Stored number in
    let acting : acts_in_its_view n ≡ true = acts_after_pushed_entry p e plain ∙ hearing_sequencer_acts p s v heard in
    doing_plan_has_effect m c _ (plan_with_tested_letter_does RestsWithWholeList m c (acknowledges (push_entry p e) s) (plan_without_letters n o) (set_of_one_name s) ack_packet_of
    (quiet_plan_does RestsWithWholeList m c n o (and_then (comes o) (stores {m = p} s v base acc number e carries heard plain may) tt) (λ k r. tt))
    (λ k r t. ack_tells_after_step m c n (set_of_one_name s) acting k r))

row_store : (m : Node) (c : Cause) (p : Node) (s : ℕ) (v : Stamp) (base acc number : ℕ) (e : Option Entry) (missing : Outcome) → ComesWhateverTheAnswer m c p
    → ((x : Entry) → e ≡ Some x → CarriesEntry c p s v base acc number x) → AnswersWhateverTheNode m c missing → hears_packet_of_sequencer p s v ≡ true → number ≡ top p + 1
    → base ≤ p.core.taken → has_own_leave p ≡ false → PlanHasEffect m c (store_numbered_entry p s number e missing)
row_store m c p s v base acc number None missing comes carries a heard next taken stays =
    doing_plan_has_effect m c _ (telling_plan_does RestsWithWholeList m c p missing (set_of_one_name s) nack_packet_of (comes missing) (λ n r. a n)
    (nack_tells_after_step m c p (set_of_one_name s) (hearing_sequencer_acts p s v heard)))
row_store m c p s v base acc number (Some e) missing comes carries a heard next taken stays =
    let within = number_is_within_bound p p.core.base number in
    either_plan_has_effect m c (is_view e || (not (fits (image_of_node p) e) || not within)) _ _
    (λ t. doing_plan_has_effect m c _ (quiet_plan_does RestsWithWholeList m c p said.Unfit (comes said.Unfit) (λ n r. tt)))
    (λ f.
    let rest = or_false_second_is_false (is_view e) (not (fits (image_of_node p) e) || not within) f in
    row_stored m c p s v base acc number e comes (carries e refl) heard (or_false_first_is_false (is_view e) (not (fits (image_of_node p) e) || not within) f)
    (next_fitting_entry_is_storable p p.core.base base number e next taken stays (or_false_first_is_false (not (fits (image_of_node p) e)) (not within) rest)
    (or_false_second_is_false (not (fits (image_of_node p) e)) (not within) rest)))

row_received : (m : Node) (c : Cause) (p : Node) (s : ℕ) (v : Stamp) (base acc number : ℕ) (e : Option Entry) (missing : Outcome) → ComesWhateverTheAnswer m c p
    → ((x : Entry) → e ≡ Some x → CarriesEntry c p s v base acc number x) → AnswersWhateverTheNode m c missing → hears_packet_of_sequencer p s v ≡ true
    → PlanHasEffect m c (receive_entry p s base number e missing)
row_received m c p s v base acc number e missing comes carries a heard =
    let quietly : (o : Outcome) → AnswersWhateverTheNode m c o → PlanHasEffect m c (plan_without_letters p o) = λ o b. doing_plan_has_effect m c _ (quiet_plan_does RestsWithWholeList m c p o (comes o) (λ n r. b n)) in
    either_plan_has_effect m c (nat_le number (top p)) _ _ (λ t. quietly said.Known (λ n. tt))
    (λ new. either_plan_has_effect m c (has_own_leave p) _ _ (λ t. quietly said.Behind (λ n. tt))
    (λ stays. either_plan_has_effect m c (nat_lt (top p + 1) number) _ _
    (λ t. doing_plan_has_effect m c _ (telling_plan_does RestsWithWholeList m c p (said.Gap (top p + 1)) (set_of_one_name s) nack_packet_of (comes _) (λ n r. tt)
    (nack_tells_after_step m c p (set_of_one_name s) (hearing_sequencer_acts p s v heard))))
    (λ near. either_plan_has_effect m c (nat_lt p.core.taken base) _ _ (λ t. quietly said.Behind (λ n. tt))
    (λ low.
    let next : number ≡ top p + 1 = grind (arith, nat_tests) in
    let taken : base ≤ p.core.taken = grind (arith, nat_tests) in
    row_store m c p s v base acc number e missing comes carries a heard next taken stays))))

comes_noted : (m : Node) (c : Cause) (s : ℕ) (v : Stamp) (base acc : ℕ) → CauseHasFronts c s v base acc → hears_packet_of_sequencer m s v ≡ true
    → ComesWhateverTheAnswer m c (node_with_noted_fronts m base acc)
comes_noted m c s v base acc by heard o = and_then nothing_yet (notes {m = m} s v base acc by heard) tt

pub bcast_row_has_effect : (m : Node) (s : ℕ) (v : Stamp) (base acc number : ℕ) (e : Entry) → hears_packet_of_sequencer m s v ≡ true
    → PlanHasEffect m (hears (packet.Bcast s v base acc number e)) (bcast_row m s base acc number e)
unfolding bcast_row
bcast_row_has_effect m s v base acc number e heard =
    let c = hears (packet.Bcast s v base acc number e) in
    row_received m c (node_with_noted_fronts m base acc) s v base acc number (Some e) said.Known (comes_noted m c s v base acc (with_entry s v base acc number e) heard)
    (λ x is. whole_entry x (ap (λ y. hears (packet.Bcast s v base acc number y)) (same_Some e x is))) (λ n. tt) heard

pub order_row_has_effect : (m : Node) (s : ℕ) (v : Stamp) (base acc number from req : ℕ) → hears_packet_of_sequencer m s v ≡ true
    → PlanHasEffect m (hears (packet.Order s v base acc number from req)) (order_row m s base acc number from req)
unfolding order_row
order_row_has_effect m s v base acc number from req heard =
    let c = hears (packet.Order s v base acc number from req) in
    let p = node_with_noted_fronts m base acc in
    row_received m c p s v base acc number (data_entry_of from req (body_of_spread_send m from req)) (said.NoBody from req)
    (comes_noted m c s v base acc (with_number s v base acc number from req) heard)
    (λ x is. carries p (body_of_spread_send m from req) x refl is) (λ n. tt) heard
  where
    carries : (p : Node) (body : Option (List ℕ)) (x : Entry) → body_of_spread_send p from req ≡ body → data_entry_of from req body ≡ Some x
        → CarriesEntry (hears (packet.Order s v base acc number from req)) p s v base acc number x
    carries p None x at is = absurd (cc)
    carries p (Some body) x at is = subst (λ y. CarriesEntry (hears (packet.Order s v base acc number from req)) p s v base acc number y)
        (same_Some (Data from req body) x is) (by_number from req body refl at)

-- ---- how far it is accepted

pub accept_row_has_effect : (m : Node) (s : ℕ) (v : Stamp) (base acc high : ℕ) (poll : Bool) → hears_packet_of_sequencer m s v ≡ true
    → PlanHasEffect m (hears (packet.Accept s v base acc high poll)) (accept_row m s base acc high poll)
unfolding accept_row
accept_row_has_effect m s v base acc high poll heard =
    let c = hears (packet.Accept s v base acc high poll) in
    let p = node_with_noted_fronts m base acc in
    let comes = comes_noted m c s v base acc (alone s v base acc high poll) heard in
    let acting : acts_in_its_view p ≡ true = hearing_sequencer_acts m s v heard in
    either_plan_has_effect m c (nat_lt (top m) high && not (has_own_leave m)) _ _
    (λ t. doing_plan_has_effect m c _ (telling_plan_does RestsWithWholeList m c p (said.Gap (top m + 1)) (set_of_one_name s) nack_packet_of (comes _) (λ n r. tt)
    (nack_tells_after_step m c p (set_of_one_name s) acting)))
    (λ f. doing_plan_has_effect m c _ (plan_with_tested_letter_does RestsWithWholeList m c (λ n. poll)
    (record (plan_without_letters p said.Known) { outcome = outcome_where_accepted_rose m said.Known (λ n. said.Advanced n.core.acc) })
    (set_of_one_name s) ack_packet_of
    (plan_with_told_answer_does RestsWithWholeList m c p said.Known (outcome_where_accepted_rose m said.Known (λ n. said.Advanced n.core.acc)) (λ n. comes _)
    (λ n r. split_on_bool (nat_lt m.core.acc n.core.acc) (λ t. rw t tt) (λ g. rw g tt)))
    (λ n r t. ack_tells_after_step m c p (set_of_one_name s) acting n r)))

pub hold_row_has_effect : (m : Node) (s : ℕ) (v : Stamp) (base high req : ℕ) (w : Option OwnSend)
    → PlanHasEffect m (hears (packet.Hold s v base high req)) (answer_hold m base high req w)
hold_row_has_effect m s v base high req None = search rows
hold_row_has_effect m s v base high req (Some x) = search rows

-- ---- joining and leaving

pub stamp_eq_is_symmetric : (a b : Stamp) → stamps_are_equal a b ≡ true → stamps_are_equal b a ≡ true
stamp_eq_is_symmetric a b t = grind (arith, nat_tests)

-- the view's name is another
other_name : (a s who : ℕ) → (a == s) ≡ true → (s == who) ≡ false → (a == who) ≡ false
other_name a s who t f = grind (arith, nat_tests)

-- a joiner asks
pub welcomed_node_is_asking : (m : Node) (s : ℕ) (v : Stamp) (base join : ℕ) (image : Image) → MayBeWelcomed m s v base join image → is_asking_status m.status ≡ true
welcomed_node_is_asking m s v base join image h =
    let a = (both_of_and (not (s == m.core.who)) (is_member m.status || is_asking_status m.status) h.asks).1 in
    grind arith

row_welcomed : (m : Node) (s : ℕ) (v : Stamp) (base join : ℕ) (image : Image) → MayBeWelcomed m s v base join image → (s == m.core.who) ≡ false
    → PlanHasEffect m (hears (packet.Welcome s v base join image)) (ask_for_next_entries (node_of_welcomed m v base join image) s v join)
row_welcomed m s v base join image may other =
    let c = hears (packet.Welcome s v base join image) in
    let p = node_of_welcomed m v base join image in
    let o = said.Welcomed join in
    let h : PlainChangesInTurn c o m p = and_then nothing_yet (begins_list {m = m} s v base join image refl refl may) tt in
    let a : (n : Node) → RestsWithWholeList p n → OutcomeTells m c n o = λ n r. record {
      before = may.no_member;
      asked = welcomed_node_is_asking m s v base join image may;
      member = r.rests.status;
      start = r.begins;
    } in
    either_plan_has_effect m c (stamps_are_equal (view p) v) _ _
    (λ t. doing_plan_has_effect m c _ (telling_plan_does RestsWithWholeList m c p o (set_of_one_name s) nack_packet_of h a (nack_tells_after_step m c p (set_of_one_name s) (stamp_eq_is_symmetric (view p) v t))))
    (λ f.
    let by : v.by ≡ s = (let t = may.own in grind (arith, nat_tests)) in
    doing_plan_has_effect m c _ (telling_plan_does RestsWithWholeList m c p o (set_of_one_name s) fetch_packet_of h a
    (λ n r. fetch (set_of_one_name s) (of_promise ((λ i. (r.rests.promise i).by == r.rests.who i) ∙ other_name v.by s m.core.who may.own other) (ap set_of_one_name (sym by)
    ∙ ap (λ (x : Stamp). set_of_one_name x.by) (sym r.rests.promise))))))

pub welcome_row_has_effect : (m : Node) (s : ℕ) (v : Stamp) (base join : ℕ) (image : Image) → member_or_asker_hears_other m s ≡ true → (v.by == s) ≡ true
    → PlanHasEffect m (hears (packet.Welcome s v base join image)) (welcome_row m s v base join image)
unfolding welcome_row
welcome_row_has_effect m s v base join image heard own =
    let c = hears (packet.Welcome s v base join image) in
    let quietly : (o : Outcome) → AnswersWhateverTheNode m c o → PlanHasEffect m c (plan_without_letters m o) = λ o b. doing_plan_has_effect m c _ (quiet_plan_does RestsWithWholeList m c m o nothing_yet (λ n r. b n)) in
    let other = not_false_test (both_of_and (not (s == m.core.who)) _ heard).0 in
    either_plan_has_effect m c (is_member m.status) _ _ (λ t. quietly said.Known (λ n. tt))
    (λ none. either_plan_has_effect m c (stamp_is_less v m.core.promise) _ _ (λ t. quietly said.Elsewhere (λ n. tt))
    (λ promise. either_plan_has_effect m c (nat_le join base || (not (number_is_within_bound m base join) || (stamp_is_less v image.view || nat_lt 0 (row_of_name image m.core.who).joined)))
    _ _ (λ t. quietly said.Unfit (λ n. tt))
    (λ f.
    let a = or_false_first_is_false (nat_le join base) _ f in
    let g = or_false_second_is_false (nat_le join base) _ f in
    let b = not-false _ (or_false_first_is_false (not (number_is_within_bound m base join)) _ g) in
    let h = or_false_second_is_false (not (number_is_within_bound m base join)) _ g in
    let above : base < join = grind (arith, nat_tests) in
    let view = or_false_first_is_false (stamp_is_less v image.view) _ h in
    let new = or_false_second_is_false (stamp_is_less v image.view) _ h in
    row_welcomed m s v base join image (assumption (heard, own, none, promise, above, b, view, new)) other)))
  where
    not_false_test : {b : Bool} → not b ≡ true → b ≡ false
    not_false_test {b} t = grind arith

pub gone_row_has_effect : (m : Node) (s : ℕ) (v : Stamp) (number : ℕ) → member_hears_other m s ≡ true → PlanHasEffect m (hears (packet.Gone s v number)) (gone_row m)
unfolding gone_row
gone_row_has_effect m s v number heard =
    let c = hears (packet.Gone s v number) in
    either_plan_has_effect m c m.leaving _ _
    (λ t. let_go_row_has_effect m c s v number refl heard t)
    (λ f. doing_plan_has_effect m c _ (quiet_plan_does RestsWithWholeList m c m said.Known nothing_yet (λ n r. tt)))
