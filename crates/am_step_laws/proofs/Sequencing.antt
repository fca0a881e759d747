-- The effects of what the sequencer hears.
use Rattle.am_step_laws.proofs.EffectWords.{[], not-false, ◌≡◌, ◌≢◌, ℕ, ◌+◌, ◌<◌, ◌≤◌, ◌==◌, ◌&&◌, ◌||◌, nat_lt, nat_le, not, Bool, true, false, List, ◌∷◌, refl, sym}
use Rattle.am_step_laws.proofs.EffectWords.{ap, ◌∙◌, length-append, arith, nat_tests, Report, Row, Stamp, Data, Join, Leave, Outcome, life_of_name, stamps_are_equal, Log, top_of_log}
use Rattle.am_step_laws.proofs.EffectWords.{fits, row_at_place, row_of_name, image_of_log, Node, top, image_of_node, view, other_members, set_of_one_name, is_sequencer, has_room, report_fits}
use Rattle.am_step_laws.proofs.EffectWords.{node_with_report, push_entry, Plan, plan_without_letters, plan_with_poll, plan_numbering_entry, bcast_packet_of, hold_packet_of, welcome_packet_of, gone_packet_of, row_of_name_in_list, has_no_join}
use Rattle.am_step_laws.proofs.EffectWords.{take_report, answer_request, request_row, outcome_where_accepted_rose, ack_row, serve_again, nack_row, node_with_joiner_reports, number_join_and_welcome, leaver_may_go}
use Rattle.am_step_laws.proofs.EffectWords.{with_gone_where_it_may_go, report_counts, leave_ask_row, split_on_bool, both_of_and, Cause, hears, CauseHasSend, CauseHasReport, with_send, by_ack}
use Rattle.am_step_laws.proofs.EffectWords.{by_nack, by_leave_ask, MayReport, takes_report, admits, numbers, asked_send, asked_join, asked_leave, PlainChangesInTurn}
use Rattle.am_step_laws.proofs.EffectWords.{nothing_yet, used_report, and_then, EntryStands, bcast, order, hold, welcome, gone, just_joined, asks_again, OutcomeTells}
use Rattle.am_base.specs.declared.outcome.Outcome.TheVariants as said
use Rattle.am_packet.specs.declared.packet.Packet.TheVariants as packet
use Rattle.am_model.specs.Joining.{answer_join_ask, outcome_of_letting_go, answer_leave_ask}
use Rattle.am_step_laws.proofs.Plans.{ComesWhateverTheAnswer, PlanDoes, PlanHasEffect, either_plan_has_effect, doing_plan_has_effect, quiet_plan_does, plan_with_told_answer_does, polling_plan_does, telling_plan_does, plan_with_letter_does, plan_with_tested_letter_does}
use Rattle.am_step_laws.proofs.Plans.{numbering_plan_does, rows}
use Rattle.am_step_laws.proofs.Tests.{or_false_first_is_false, or_false_second_is_false, and_not_false_then_other}
use Rattle.am_step_laws.proofs.Rests.{RestsWithWholeList, refresh_rests_with_list, is_sequencer_after_rest, entry_stands_after_rest}
use Rattle.am_step_laws.proofs.Says.{is_sequencer_after_pushed_entry, pushed_entry_stands_at_top, served_entries_say}

-- ---- reports

-- a report that may be taken, but for whether its sender is known and it fits
pub record ReportIsFromOtherMember (m : Node) (s : ℕ) (v : Stamp) : Type 0 where
  pub leads : is_sequencer m ≡ true
  pub other : (s == m.core.who) ≡ false
  pub view : stamps_are_equal v (view m) ≡ true

may_report : (m : Node) (s : ℕ) (v : Stamp) (report : Report) → ReportIsFromOtherMember m s v → has_no_join m s ≡ false → report_fits m report ≡ true → MayReport m s v report
may_report m s v report h known fits = record { leads = h.leads; other = h.other; view = h.view; known = known; fits = fits }

-- the report is taken, and what follows from it
comes_reported : (m : Node) (c : Cause) (s : ℕ) (v : Stamp) (report : Report) → CauseHasReport c s v report → MayReport m s v report
    → ComesWhateverTheAnswer m c (take_report m s report)
comes_reported m c s v report by may o = used_report s v report by may

rests_reported : (m : Node) (s : ℕ) (report : Report) → RestsWithWholeList (node_with_report m s report) (take_report m s report)
rests_reported m s report = refresh_rests_with_list (node_with_report m s report)

leads_reported : (m : Node) (s : ℕ) (report : Report) → is_sequencer m ≡ true → is_sequencer (take_report m s report) ≡ true
leads_reported m s report t = is_sequencer_after_rest (rests_reported m s report).rests ∙ t

unknown_reported : (m : Node) (s : ℕ) (report : Report) → has_no_join m s ≡ false → has_no_join (take_report m s report) s ≡ false
unknown_reported m s report f = ap (λ (r : Row). r.joined == 0) (ap (λ l. row_of_name (image_of_log l) s) (rests_reported m s report).log) ∙ f

-- ---- sends

row_requested : (m : Node) (c : Cause) (p : Node) (s : ℕ) (v : Stamp) (report : Report) (req : ℕ) (body : List ℕ) (by_order : Bool) → ComesWhateverTheAnswer m c p
    → is_sequencer p ≡ true → has_no_join p s ≡ false → CauseHasSend c s v report req body → (by_order ≡ true → c ≡ hears (packet.Spread s v report req body))
    → PlanHasEffect m c (answer_request p s req body by_order)
row_requested m c p s v report req body by_order comes leads known by spread =
    let r = row_of_name_in_list p s in
    let quietly : (o : Outcome) → ((n : Node) → OutcomeTells m c n o)
    → PlanHasEffect m c (plan_without_letters p o) = λ o a. doing_plan_has_effect m c _ (quiet_plan_does RestsWithWholeList m c p o (comes o) (λ n k. a n)) in
    either_plan_has_effect m c (nat_lt 0 r.left) _ _ (λ t. quietly said.Stranger (λ n. tt))
    (λ left. either_plan_has_effect m c (nat_le req r.last) _ _ (λ t. quietly said.Again (λ n. tt))
    (λ above. either_plan_has_effect m c (nat_lt (r.last + 1) req) _ _ (λ t. quietly (said.Early r.last) (λ n. tt))
    (λ below. either_plan_has_effect m c (not (has_room p)) _ _
    (λ t. doing_plan_has_effect m c _ (plan_with_letter_does RestsWithWholeList m c (plan_with_poll p (said.Held p.core.base (top p))) (set_of_one_name s) (λ n. hold_packet_of n req)
    (polling_plan_does RestsWithWholeList m c p _ (comes _) (λ n k. tt)) (λ n k. hold (set_of_one_name s) s v report req body by (is_sequencer_after_rest k.rests ∙ leads))))
    (λ room.
    let e = Data s req body in
    let next : req ≡ r.last + 1 = grind (arith, nat_tests) in
    doing_plan_has_effect m c _ (numbering_plan_does RestsWithWholeList m c p e (said.Numbered (top p + 1)) _
    (and_then (comes _) (numbers {m = p} e leads (not-false _ room) (asked_send s v report req body by known left next)) tt) (λ n k. tt)
    (λ n k.
    let lead = is_sequencer_after_rest k.rests ∙ is_sequencer_after_pushed_entry p e refl ∙ leads in
    let stands = entry_stands_after_rest m.core.base (top p + 1) e k.rests (pushed_entry_stands_at_top p m.core.base e) in
    split_on_bool by_order (λ t. rw t (order (other_members p) (top p + 1) s req v report body (spread t) lead stands))
    (λ f. rw f (bcast (other_members p) (top p + 1) e lead stands))))))))

pub request_row_has_effect : (m : Node) (c : Cause) (s : ℕ) (v : Stamp) (report : Report) (req : ℕ) (body : List ℕ) (by_order : Bool) → ReportIsFromOtherMember m s v
    → CauseHasSend c s v report req body → (by_order ≡ true → c ≡ hears (packet.Spread s v report req body))
    → PlanHasEffect m c (request_row m s report req body by_order)
unfolding request_row
request_row_has_effect m c s v report req body by_order from by spread =
    let k : has_no_join m s ≡ false → not (report_fits m report) ≡ false
    → PlanHasEffect m c (answer_request (take_report m s report) s req body by_order) = λ known f.
    row_requested m c (take_report m s report) s v report req body by_order
    (comes_reported m c s v report (with_send s v report req body by) (may_report m s v report from known (not-false _ f)))
    (leads_reported m s report from.leads) (unknown_reported m s report known) by spread in
    search (rows, k) depth 9

pub ack_row_has_effect : (m : Node) (s : ℕ) (v : Stamp) (report : Report) → ReportIsFromOtherMember m s v → PlanHasEffect m (hears (packet.Ack s v report)) (ack_row m s report)
unfolding ack_row
ack_row_has_effect m s v report from =
    let c = hears (packet.Ack s v report) in
    let k : has_no_join m s ≡ false → not (report_fits m report) ≡ false
    → PlanHasEffect m c (record (plan_without_letters (node_with_report m s report) said.Noted) { outcome = outcome_where_accepted_rose m said.Noted (λ n. said.Accepted n.core.acc) }) = λ known f.
    doing_plan_has_effect m c _ (plan_with_told_answer_does RestsWithWholeList m c (node_with_report m s report) said.Noted (outcome_where_accepted_rose m said.Noted (λ n. said.Accepted n.core.acc))
    (λ n. and_then nothing_yet (takes_report {m = m} s v report (by_ack s v report) (may_report m s v report from known (not-false _ f))) tt)
    (λ n r. split_on_bool (nat_lt m.core.acc n.core.acc) (λ t. rw t tt) (λ g. rw g tt))) in
    search (rows, k) depth 9

-- ---- entries sent again

pub nack_row_has_effect : (m : Node) (s : ℕ) (v : Stamp) (report : Report) → ReportIsFromOtherMember m s v → PlanHasEffect m (hears (packet.Nack s v report)) (nack_row m s report)
unfolding nack_row
nack_row_has_effect m s v report from =
    let c = hears (packet.Nack s v report) in
    let p = take_report m s report in
    let k : has_no_join m s ≡ false → not (report_fits m report) ≡ false → PlanHasEffect m c (serve_again p s report.stored) = λ known f.
    (let comes = comes_reported m c s v report (by_nack s v report) (may_report m s v report from known (not-false _ f)) in
    let up = (rests_reported m s report).rests.base in
    either_plan_has_effect m c (nat_lt report.stored p.core.base) _ _ (λ t. doing_plan_has_effect m c _ (quiet_plan_does RestsWithWholeList m c p said.Behind (comes said.Behind) (λ n r. tt)))
    (λ g.
    let above : m.core.base ≤ report.stored = grind (arith, nat_tests) in
    doing_plan_has_effect m c _ (record {
      stays = refl;
      changes = λ n. comes _;
      answer = λ n r. tt;
      letters = λ n r. served_entries_say m c p n (bcast_packet_of n) (set_of_one_name s) report.stored above r.rests
          (λ number e stands. bcast (set_of_one_name s) number e (is_sequencer_after_rest r.rests ∙ leads_reported m s report from.leads) stands);
    }))) in
    search (rows, k) depth 9

-- ---- joining

does_number_join : (m : Node) (s : ℕ) (v : Stamp) → is_sequencer m ≡ true → (s == m.core.who) ≡ false → fits (image_of_node m) (Join s) ≡ true → has_room m ≡ true
    → PlanDoes RestsWithWholeList m (hears (packet.JoinAsk s v)) (number_join_and_welcome m s)
does_number_join m s v leads other fit room =
    let c = hears (packet.JoinAsk s v) in
    let p = node_with_joiner_reports m s in
    let e = Join s in
    let o = said.Numbered (top m + 1) in
    let h : PlainChangesInTurn c o m (push_entry p e) = and_then (and_then nothing_yet (admits {m = m} s v refl leads fit) tt)
    (numbers {m = p} e leads room (asked_join s v refl other fit)) tt in
    let lead : (n : Node) → RestsWithWholeList (push_entry p e) n → is_sequencer n ≡ true = λ n r. is_sequencer_after_rest r.rests ∙ is_sequencer_after_pushed_entry p e refl ∙ leads in
    let stands : (n : Node) → RestsWithWholeList (push_entry p e) n → EntryStands n.core.log m.core.base (top m + 1) e =
    λ n r. entry_stands_after_rest m.core.base (top m + 1) e r.rests (pushed_entry_stands_at_top p m.core.base e) in
    let long = length-append m.core.log.entries (e ∷ []) in
    let high : (n : Node) → RestsWithWholeList (push_entry p e) n → top n ≡ top m + 1 = λ n r. ap (λ (l : Log). top_of_log l) r.log ∙ omega arith in
    plan_with_tested_letter_does RestsWithWholeList m c (λ n. nat_le (top m + 1) n.core.acc) (plan_numbering_entry p e o (λ n. bcast_packet_of n (top m + 1) e)) (set_of_one_name s) (λ n. welcome_packet_of n s)
    (numbering_plan_does RestsWithWholeList m c p e o (λ n. bcast_packet_of n (top m + 1) e) h (λ n r. tt) (λ n r. bcast (other_members p) (top m + 1) e (lead n r) (stands n r)))
    (λ n r t. let low : top m + 1 ≤ n.core.acc = grind (arith, nat_tests) in welcome s (lead n r) (just_joined (top m + 1) refl (high n r) low (stands n r)))

-- where its Join stands, a name is a member there
known_join : (life joined left mine acc : ℕ) → nat_lt mine life ≡ false → ((life == mine) && nat_lt 0 left) ≡ false
    → (nat_lt life mine && (nat_lt 0 life && ((left == 0) || nat_lt acc left))) ≡ false → ((joined == 0) || (nat_lt 0 left && nat_lt life mine)) ≡ false
    → (life ≢ 0 → life ≡ mine) × (0 < joined) × (left ≡ 0)
known_join life joined left mine acc low here occupied no_fit =
    (λ lives. grind (arith, nat_tests), grind (arith, nat_tests), grind (arith, nat_tests))

pub join_ask_row_has_effect : (m : Node) (s : ℕ) (v : Stamp) (q : Row) → row_at_place (image_of_node m) s ≡ q → is_sequencer m ≡ true → (s == m.core.who) ≡ false
    → PlanHasEffect m (hears (packet.JoinAsk s v)) (answer_join_ask m s q)
unfolding fits
join_ask_row_has_effect m s v q is leads other =
    let c = hears (packet.JoinAsk s v) in
    let fit = fits (image_of_node m) (Join s) in
    let quietly : (o : Outcome) → ((n : Node) → OutcomeTells m c n o)
    → PlanHasEffect m c (plan_without_letters m o) = λ o a. doing_plan_has_effect m c _ (quiet_plan_does RestsWithWholeList m c m o nothing_yet (λ n r. a n)) in
    either_plan_has_effect m c (nat_lt (life_of_name s) q.life) _ _ (λ t. quietly said.Stranger (λ n. tt))
    (λ low. either_plan_has_effect m c ((q.life == life_of_name s) && nat_lt 0 q.left) _ _ (λ t. quietly said.Stranger (λ n. tt))
    (λ here. either_plan_has_effect m c (nat_lt q.life (life_of_name s) && (nat_lt 0 q.life && ((q.left == 0) || nat_lt m.core.acc q.left))) _ _
    (λ t. quietly (said.Occupied _) (λ n. tt))
    (λ occupied. either_plan_has_effect m c (fit && not (has_room m)) _ _ (λ t. doing_plan_has_effect m c _ (polling_plan_does RestsWithWholeList m c m _ nothing_yet (λ n r. tt)))
    (λ room. either_plan_has_effect m c fit _ _ (λ t. doing_plan_has_effect m c _ (does_number_join m s v leads other t (and_not_false_then_other fit (has_room m) room t)))
    (λ none. either_plan_has_effect m c (nat_le q.joined (m.reports s).stored || nat_lt m.core.acc q.joined) _ _ (λ t. quietly said.Again (λ n. tt))
    (λ f.
    let a = or_false_first_is_false (nat_le q.joined (m.reports s).stored) (nat_lt m.core.acc q.joined) f in
    let b = or_false_second_is_false (nat_le q.joined (m.reports s).stored) (nat_lt m.core.acc q.joined) f in
    let no_fit : ((q.joined == 0) || (nat_lt 0 q.left && nat_lt q.life (life_of_name s))) ≡ false =
    ap (λ (r : Row). (r.joined == 0) || (nat_lt 0 r.left && nat_lt r.life (life_of_name s))) (sym is) ∙ none in
    let k = known_join q.life q.joined q.left (life_of_name s) m.core.acc low here occupied no_fit in
    let accepted : q.joined ≤ m.core.acc = grind (arith, nat_tests) in
    let behind : (m.reports s).stored < q.joined = grind (arith, nat_tests) in
    doing_plan_has_effect m c _ (telling_plan_does RestsWithWholeList m c m (said.Welcomed q.joined) (set_of_one_name s) (λ n. welcome_packet_of n s) nothing_yet (λ n r. tt)
    (λ n r. welcome s (is_sequencer_after_rest r.rests ∙ leads) (asks_again r.log (rw is (k.0)) (rw is (k.1)) (rw is (k.2)) (rw is accepted) (rw is behind))))))))))

-- ---- leaving

-- a leaver that may go is told so
does_gone : (m : Node) (c : Cause) (p : Plan) (s : ℕ) → is_sequencer p.node ≡ true → PlanDoes RestsWithWholeList m c p → PlanDoes RestsWithWholeList m c (with_gone_where_it_may_go p s)
does_gone m c p s leads h = plan_with_tested_letter_does RestsWithWholeList m c (λ n. leaver_may_go n s) p (set_of_one_name s) (λ n. gone_packet_of n (row_of_name_in_list n s).left) h
    (λ n r t. gone s (is_sequencer_after_rest r.rests ∙ leads) t)

row_asks_to_leave : (m p : Node) (s : ℕ) (v : Stamp) (report : Report) → ComesWhateverTheAnswer m (hears (packet.LeaveAsk s v report)) p → is_sequencer p ≡ true
    → (s == p.core.who) ≡ false → has_no_join p s ≡ false → PlanHasEffect m (hears (packet.LeaveAsk s v report)) (answer_leave_ask p s)
row_asks_to_leave m p s v report comes leads other known =
    let c = hears (packet.LeaveAsk s v report) in
    let stays = (row_of_name_in_list p s).left == 0 in
    let e = Leave s in
    either_plan_has_effect m c (stays && not (has_room p)) _ _ (λ t. doing_plan_has_effect m c _ (polling_plan_does RestsWithWholeList m c p _ (comes _) (λ n r. tt)))
    (λ room. either_plan_has_effect m c stays _ _
    (λ t. doing_plan_has_effect m c _ (does_gone m c (plan_numbering_entry p e (said.Numbered (top p + 1)) (λ n. bcast_packet_of n (top p + 1) e)) s (is_sequencer_after_pushed_entry p e refl ∙ leads)
    (numbering_plan_does RestsWithWholeList m c p e (said.Numbered (top p + 1)) (λ n. bcast_packet_of n (top p + 1) e)
    (and_then (comes _) (numbers {m = p} e leads (and_not_false_then_other stays (has_room p) room t) (asked_leave s v report refl other known t)) tt) (λ n r. tt)
    (λ n r. bcast (other_members p) (top p + 1) e (is_sequencer_after_rest r.rests ∙ is_sequencer_after_pushed_entry p e refl
    ∙ leads) (entry_stands_after_rest m.core.base (top p + 1) e r.rests (pushed_entry_stands_at_top p m.core.base e))))))
    (λ f. doing_plan_has_effect m c _ (does_gone m c (record (plan_without_letters p said.Again) { outcome = outcome_of_letting_go p s }) s leads
    (plan_with_told_answer_does RestsWithWholeList m c p said.Again (outcome_of_letting_go p s) (λ n. comes _) (λ n r. split_on_bool (leaver_may_go n s) (λ t. rw t tt) (λ g. rw g tt))))))

pub leave_ask_row_has_effect : (m : Node) (s : ℕ) (v : Stamp) (report : Report) → is_sequencer m ≡ true → (s == m.core.who) ≡ false
    → PlanHasEffect m (hears (packet.LeaveAsk s v report)) (leave_ask_row m s v report)
unfolding leave_ask_row
leave_ask_row_has_effect m s v report leads other =
    let c = hears (packet.LeaveAsk s v report) in
    let p = take_report m s report in
    let who = (rests_reported m s report).rests.who in
    either_plan_has_effect m c (has_no_join m s) _ _ (λ t. doing_plan_has_effect m c _ (quiet_plan_does RestsWithWholeList m c m said.Stranger nothing_yet (λ n r. tt)))
    (λ known. either_plan_has_effect m c (report_counts m v report) _ _
    (λ t.
    let both = both_of_and (stamps_are_equal v (view m)) (report_fits m report) t in
    let from : ReportIsFromOtherMember m s v = record { leads = leads; other = other; view = both.0 } in
    row_asks_to_leave m p s v report (comes_reported m c s v report (by_leave_ask s v report) (may_report m s v report from known both.1))
    (leads_reported m s report leads) (ap (λ n. s == n) who ∙ other) (unknown_reported m s report known))
    (λ f. row_asks_to_leave m m s v report (λ o. nothing_yet) leads other known))
