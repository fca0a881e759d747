-- The effects of the calls.
use Rattle.am_step_laws.proofs.EffectWords.{[], not-true, not-false, ◌≡◌, ℕ, ◌+◌, ◌||◌, ◌==◌, nat_lt, nat_le, not, Bool, true, false, if◌then◌else◌, List, length}
use Rattle.am_step_laws.proofs.EffectWords.{Option, Some, None, find, is_some, inl, inr, refl, ap, ◌∙◌, arith, nat_tests, Entry, Data, Outcome, NodeEvent, size}
use Rattle.am_step_laws.proofs.EffectWords.{log_entry_at, OwnSend, Status, Node, Ballot, top, view, own_row, other_members, set_of_one_name, lowest_name_or_zero, acts_in_its_view, has_room}
use Rattle.am_step_laws.proofs.EffectWords.{is_member, is_asking_status, is_sequencer, waiting_send_of, node_unsettled_count, push_entry, Plan, plan_without_letters, join_ask_packet_of, leave_ask_packet_of}
use Rattle.am_step_laws.proofs.EffectWords.{request_packet_of, spread_packet_of, bcast_packet_of, first_lives_of_other_places, would_emit_send, hand_in_send, number_send, emit_waiting_send, node_with_queued_send, queue, give_out_entry}
use Rattle.am_step_laws.proofs.EffectWords.{ask_to_join, join_by_status, state_by_status, plan_of_leaving, begin_leaving, leave_by_status, is_unfinished_ballot, answer_ask_of_ballot, both_of_and, Cause, calls, numbers}
use Rattle.am_step_laws.proofs.EffectWords.{own_send, queues, takes, asks_to_join, asks_to_leave, PlainChangesInTurn, nothing_yet, and_then, HasOwnSend, join_ask, leave_ask}
use Rattle.am_step_laws.proofs.EffectWords.{OutcomeTells, found_passes_test, hand_over_packet_of, hand_over}
use Rattle.am_base.specs.declared.outcome.Outcome.TheVariants as said
use Rattle.am_base.specs.declared.event.NodeEvent.TheVariants as does
use Rattle.am_node_defs.specs.Sends as own
use Rattle.am_model.specs.declared.status.Status.TheVariants as status
use Rattle.am_step_laws.proofs.Plans.{ComesWhateverTheAnswer, PlanDoes, PlanHasEffect, either_plan_has_effect, doing_plan_has_effect, last_leave_has_effect, either_plan_does, quiet_plan_does, telling_plan_does, plan_with_letter_does, numbering_plan_does}
use Rattle.am_step_laws.proofs.Plans.{plan_does_with_whole_list, rows}
use Rattle.am_step_laws.proofs.Rests.{RestsButForOwnLeave, RestsWithWholeList, is_sequencer_after_rest}
use Rattle.am_step_laws.proofs.Alone.{IsAloneInView, node_after_own_leave, own_leave_keeps_node_alone}
use Rattle.am_step_laws.proofs.Says.{waiting_send_is_in_queue, request_tells_after_step, spread_tells_after_step, bcast_tells_after_step}
use Rattle.am_step_laws.proofs.{Items.found_item_has_index}

-- ---- sends

-- an answer that is right, whatever node comes of it
abbrev pub AnswersWhateverTheNode : Node → Cause → Outcome → Type 0
AnswersWhateverTheNode m c o = (n : Node) → OutcomeTells m c n o

-- or whatever node comes of this one, which has so many sends
abbrev AllowsAfter : Node → Cause → Outcome → ℕ → Type 0
AllowsAfter m c o last = (n : Node) → n.sends.last ≡ last → OutcomeTells m c n o

does_hand_in : (m : Node) (c : Cause) (p : Node) (s : OwnSend) (o : Outcome) → PlainChangesInTurn c o m p → AllowsAfter m c o p.sends.last → acts_in_its_view p ≡ true
    → is_sequencer p ≡ false → HasOwnSend p s.req s.body → PlanDoes RestsButForOwnLeave m c (hand_in_send p s o)
does_hand_in m c p s o h a acting f sent = either_plan_does RestsButForOwnLeave m c (nat_le (length s.body) p.core.rules.pb_up_to) _ _
    (λ t. telling_plan_does RestsButForOwnLeave m c p o (set_of_one_name (view p).by) (λ n. request_packet_of n s.req s.body) h (λ n r. a n r.asked)
    (request_tells_after_step m c p (set_of_one_name (view p).by) s.req s.body acting f sent))
    (λ g. telling_plan_does RestsButForOwnLeave m c p o (other_members p) (λ n. spread_packet_of n s.req s.body) h (λ n r. a n r.asked)
    (spread_tells_after_step m c p (other_members p) s.req s.body acting f sent))

-- the sequencer numbers its own send
numbers_own : (m : Node) (c : Cause) (p : Node) (s : OwnSend) (o : Outcome) → PlainChangesInTurn c o m p → waiting_send_of p ≡ Some s → nat_lt (own_row p).last s.req ≡ true
    → is_sequencer p ≡ true → has_room p ≡ true → PlainChangesInTurn c o m (push_entry p (Data p.core.who s.req s.body))
numbers_own m c p s o h is last leads room = and_then h (numbers {m = p} (Data p.core.who s.req s.body) leads room (own_send s is last)) tt

does_number_send : (m : Node) (c : Cause) (p : Node) (s : OwnSend) (o : Outcome) → PlainChangesInTurn c o m p → AllowsAfter m c o p.sends.last → waiting_send_of p ≡ Some s
    → nat_lt (own_row p).last s.req ≡ true → is_sequencer p ≡ true → has_room p ≡ true → PlanDoes RestsButForOwnLeave m c (number_send p s o)
does_number_send m c p s o h a is last leads room =
    let e = Data p.core.who s.req s.body in
    numbering_plan_does RestsButForOwnLeave m c p e o (λ n. bcast_packet_of n (top p + 1) e) (numbers_own m c p s o h is last leads room) (λ n r. a n r.asked)
    (bcast_tells_after_step m c p (other_members p) e leads refl)

pub emit_plan_does : (m : Node) (c : Cause) (p : Node) (w : Option OwnSend) (o : Outcome) → PlainChangesInTurn c o m p → AllowsAfter m c o p.sends.last → waiting_send_of p ≡ w
    → PlanDoes RestsButForOwnLeave m c (emit_waiting_send p w o)
emit_plan_does m c p None o h a is = quiet_plan_does RestsButForOwnLeave m c p o h (λ n r. a n r.asked)
emit_plan_does m c p (Some s) o h a is =
    let quietly = quiet_plan_does RestsButForOwnLeave m c p o h (λ n r. a n r.asked) in
    either_plan_does RestsButForOwnLeave m c (not (would_emit_send p (Some s))) _ _ (λ t. quietly)
    (λ f. let both = both_of_and (acts_in_its_view p) (nat_lt (own_row p).last s.req) (not-false _ f) in
    either_plan_does RestsButForOwnLeave m c (not (is_sequencer p)) _ _ (λ t. does_hand_in m c p s o h a both.0 (not-true _ t) (waiting_send_is_in_queue p s is))
    (λ g. either_plan_does RestsButForOwnLeave m c (has_room p) _ _ (λ t. does_number_send m c p s o h a is both.1 (not-false _ g) t) (λ k. quietly)))

pub node_of_either_plan : (C : Node → Type 0) (b : Bool) (p q : Plan) → (b ≡ true → C p.node) → (b ≡ false → C q.node) → C (if b then p else q).node
node_of_either_plan C true p q f g = f refl
node_of_either_plan C false p q f g = g refl

-- the node is the same, whatever is answered
pub emitted_node_comes_by_changes : (m : Node) (c : Cause) (p : Node) (w : Option OwnSend) (said_ : Outcome) → ComesWhateverTheAnswer m c p → waiting_send_of p ≡ w → ComesWhateverTheAnswer m c (emit_waiting_send p w said_).node
emitted_node_comes_by_changes m c p None said_ h is o = h o
emitted_node_comes_by_changes m c p (Some s) said_ h is o =
    let C : Node → Type 0 = λ n. PlainChangesInTurn c o m n in
    node_of_either_plan C (not (would_emit_send p (Some s))) _ _ (λ t. h o)
    (λ f. let both = both_of_and (acts_in_its_view p) (nat_lt (own_row p).last s.req) (not-false _ f) in
    node_of_either_plan C (not (is_sequencer p)) _ _ (λ t. node_of_either_plan C (nat_le (length s.body) p.core.rules.pb_up_to) _ _ (λ u. h o) (λ u. h o))
    (λ g. node_of_either_plan C (has_room p) _ _ (λ t. numbers_own m c p s o (h o) is both.1 (not-false _ g) t) (λ k. h o)))

-- what is answered as queued was queued
pub queue_has_effect : (m : Node) (body : List ℕ) → is_member m.status ≡ true → m.leaving ≡ false → nat_le 4 (length m.sends.queue) ≡ false
    → PlanHasEffect m (calls (does.Send body)) (queue m body)
queue_has_effect m body member stays few =
    let c = calls (does.Send body) in
    let o = said.Queued (m.sends.last + 1) in
    let h : PlainChangesInTurn c o m (node_with_queued_send m body) = and_then nothing_yet (queues {m = m} body refl refl member stays few) tt in
    either_plan_has_effect m c (is_some (waiting_send_of m)) _ _ (λ t. doing_plan_has_effect m c _
    (quiet_plan_does RestsWithWholeList m c (node_with_queued_send m body) o h (λ n r. inl (record { next = refl; more = r.rests.asked }))))
    (λ f. doing_plan_has_effect m c _ (plan_does_with_whole_list m c _ (emit_plan_does m c (node_with_queued_send m body) (waiting_send_of (node_with_queued_send m body)) o h
    (λ n same. inl (record { next = refl; more = same })) refl)))

-- ---- what came of a send

pub collected_send_is_answered : (m : Node) (n : Node) (req : ℕ) (found : Option OwnSend) → find (own.send_has_request req) m.sends.queue ≡ found
    → OutcomeTells m (calls (does.Done req)) n (own.outcome_of_done req found)
collected_send_is_answered m n req None is = tt
collected_send_is_answered m n req (Some s) is = by_number s.number refl
  where
    by_number : (number : Option ℕ) → s.number ≡ number → OutcomeTells m (calls (does.Done req)) n (own.outcome_of_collecting req number)
    by_number None e = tt
    by_number (Some number) e =
        let f = found_item_has_index (own.send_has_request req) m.sends.queue s is in
        let t = found_passes_test (own.send_has_request req) m.sends.queue s is in
        let same : s.req ≡ req = grind (arith, nat_tests) in
        inl (record { asked = refl; index = f.0; send = s; there = f.1; request = same; settled = e })

-- ---- what is accepted

pub give_out_has_effect : (m : Node) (e : Option Entry) → is_member m.status ≡ true → (m.core.taken == m.core.acc) ≡ false → log_entry_at m.core.log (m.core.taken + 1) ≡ e
    → PlanHasEffect m (calls does.Take) (give_out_entry m e)
give_out_has_effect m None member some is = search rows
give_out_has_effect m (Some e) member some is =
    let c = calls does.Take in
    let o = said.Took (m.core.taken + 1) e in
    let p = record m { core = record (m.core) { taken = m.core.taken + 1 } } in
    doing_plan_has_effect m c _ (quiet_plan_does RestsWithWholeList m c p o (and_then nothing_yet (takes {m = m} e refl refl member some is) tt)
    (λ n r. inl (record { asked = refl; next = refl; there = is; gone_on = r.rests.taken; some = some })))

-- ---- joining and leaving

pub ask_to_join_has_effect : (m : Node) (c : Cause) (p : Node) (o : Outcome) → PlainChangesInTurn c o m p → AnswersWhateverTheNode m c o → is_asking_status p.status ≡ true
    → PlanHasEffect m c (ask_to_join p o)
ask_to_join_has_effect m c p o h a t = doing_plan_has_effect m c _ (telling_plan_does RestsWithWholeList m c p o (first_lives_of_other_places p) join_ask_packet_of h (λ n r. a n)
    (λ n r. join_ask (first_lives_of_other_places p) (ap is_asking_status r.rests.status ∙ t)))

pub join_row_has_effect : (m : Node) (s : Status) → m.status ≡ s → PlanHasEffect m (calls does.Join) (join_by_status m s)
join_row_has_effect m status.Stranger is = ask_to_join_has_effect m (calls does.Join) (record m { status = status.Asking }) said.Asked
    (and_then nothing_yet (asks_to_join {m = m} refl is) tt) (λ n. tt) refl
join_row_has_effect m _ is = search rows

pub state_row_has_effect : (m : Node) (s : Status) → PlanHasEffect m (calls does.State) (state_by_status m s)
state_row_has_effect m status.Member = search rows
state_row_has_effect m _ = search rows

-- a leaving node goes on, whatever the plan before does
pub leaving_plan_has_effect : (m : Node) (c : Cause) (p : Plan) (event : NodeEvent) → c ≡ calls event → PlanDoes RestsButForOwnLeave m c p → ComesWhateverTheAnswer m c p.node
    → ((base high : ℕ) → AnswersWhateverTheNode m c (said.Held base high)) → (IsAloneInView p.node → p.letters (node_after_own_leave p.node) ≡ []) → view p.node ≡ view m
    → is_member p.node.status ≡ true → p.node.leaving ≡ true → PlanHasEffect m c (plan_of_leaving p)
leaving_plan_has_effect m c p event called h comes a quietly viewed member leaves =
    either_plan_has_effect m c (not (is_sequencer p.node)) _ _
    (λ t. doing_plan_has_effect m c _ (plan_does_with_whole_list m c _ (plan_with_letter_does RestsButForOwnLeave m c p (other_members p.node) leave_ask_packet_of h
    (λ n r. leave_ask _ (ap is_member r.status ∙ member) (r.leaving ∙ leaves)))))
    (λ f. let leads = not-false _ f in
    either_plan_has_effect m c (nat_lt 0 (size (other_members p.node))) _ _
    (λ t. doing_plan_has_effect m c _ (plan_does_with_whole_list m c _ (plan_with_letter_does RestsButForOwnLeave m c p (set_of_one_name (lowest_name_or_zero (other_members p.node))) hand_over_packet_of h
    (λ n r. hand_over _ (is_sequencer_after_rest r ∙ leads) (r.leaving ∙ leaves)))))
    (λ alone. either_plan_has_effect m c (has_room p.node) _ _
    (λ room. last_leave_has_effect m c p event called (comes said.Departed) leads leaves alone room viewed (own_leave_keeps_node_alone p.node alone) (quietly alone))
    (λ none. doing_plan_has_effect m c _ (record {
      stays = h.stays;
      changes = λ n. comes (said.Held p.node.core.base (top p.node));
      answer = λ n r. a p.node.core.base (top p.node) n;
      letters = λ n r. h.letters n r.rests;
    }))))

row_leave_now : (m : Node) → m.status ≡ status.Member → PlanHasEffect m (calls does.Leave) (begin_leaving m)
row_leave_now m is =
    let c = calls does.Leave in
    let n = record m { leaving = true } in
    let k : m.leaving ≡ false → (nat_lt 0 (node_unsettled_count m) || is_unfinished_ballot m.ballot) ≡ false → PlanHasEffect m c (plan_of_leaving (plan_without_letters n said.Asked)) = λ a b.
    (let comes : ComesWhateverTheAnswer m c n = λ o. and_then nothing_yet (asks_to_leave {m = m} refl is a b) tt in
    leaving_plan_has_effect m c (plan_without_letters n said.Asked) does.Leave refl (quiet_plan_does RestsButForOwnLeave m c n said.Asked (comes said.Asked) (λ x r. tt)) comes (λ x y z. tt) (λ alone. refl) refl
    (ap is_member is) refl) in
    search (rows, k) depth 9

pub leave_row_has_effect : (m : Node) (s : Status) → m.status ≡ s → PlanHasEffect m (calls does.Leave) (leave_by_status m s)
leave_row_has_effect m status.Member is = row_leave_now m is
leave_row_has_effect m _ is = search rows

-- ---- what a ballot was answered with

answers_ask : (m n : Node) (round : ℕ) (b : Ballot) (o : Outcome) → m.ballot ≡ Some b → o ≡ b.answer → OutcomeTells m (calls (does.Ask round)) n o
answers_ask m n round b (said.Queued req) is same = inr (record { round = round; asked = refl; ballot = b; last = is; same = same })
answers_ask m n round b (said.Took number e) is same = inr (record { round = round; asked = refl; ballot = b; last = is; same = same })
answers_ask m n round b (said.Sent req number) is same = inr (record { round = round; asked = refl; ballot = b; last = is; same = same })
answers_ask m n round b (said.Welcomed join) is same = record { round = round; asked = refl; ballot = b; last = is; same = same }
answers_ask m n round b _ is same = tt

pub ask_row_has_effect : (m : Node) (round : ℕ) (b : Option Ballot) → m.ballot ≡ b → PlanHasEffect m (calls (does.Ask round)) (answer_ask_of_ballot m round b)
ask_row_has_effect m round None is = search rows
ask_row_has_effect m round (Some b) is =
    let c = calls (does.Ask round) in
    let k : PlanHasEffect m c (plan_without_letters m b.answer) = doing_plan_has_effect m c _
    (quiet_plan_does RestsWithWholeList m c m b.answer nothing_yet (λ n r. answers_ask m n round b b.answer is refl)) in
    search (rows, k) depth 9
