-- The effect of the tick.
use Rattle.am_step_laws.proofs.EffectWords.{[], not-false, ◌≡◌, ◌==◌, ◌&&◌, nat_lt, nat_le, length, not, true, false, Option, Some, None, refl, sym, ap, ◌∙◌, arith}
use Rattle.am_step_laws.proofs.EffectWords.{nat_tests, Stamp, Outcome, Data, size, log_entry_at, OwnSend, Status, Node, Ballot, image_of_node, view, other_members, set_of_one_name, acts_in_its_view}
use Rattle.am_step_laws.proofs.EffectWords.{has_room, is_asking_status, is_member, is_sequencer, waiting_send_of, plan_without_letters, ack_packet_of, invite_packet_of, fetch_packet_of, result_packet_of, would_emit_send, emit_waiting_send}
use Rattle.am_step_laws.proofs.EffectWords.{plan_of_leaving, tick_of_coordinator, tick_of_non_acting_member, tick_of_follower, tick_outcome_of_waiting_send, members_behind_view, members_of_view_entry, with_result_told_again, tick_of_sequencer, tick_of_acting_member}
use Rattle.am_step_laws.proofs.EffectWords.{tick_by_ballot, tick_by_status, split_on_bool, Cause, calls, nothing_yet, HasOpenBallot, Says, invite, fetch, result, goes_on, for_ballot}
use Rattle.am_step_laws.proofs.EffectWords.{of_promise, leads, OutcomeTells}
use Rattle.am_base.specs.declared.outcome.Outcome.TheVariants as said
use Rattle.am_base.specs.declared.event.NodeEvent.TheVariants as does
use Rattle.am_model.specs.declared.status.Status.TheVariants as status
use Rattle.am_step_laws.proofs.Plans.{PlanDoes, letters_say_with_one_more, PlanHasEffect, either_plan_has_effect, doing_plan_has_effect, quiet_plan_does, telling_plan_does, plan_does_with_whole_list, rows}
use Rattle.am_step_laws.proofs.Rests.{RestsButForOwnLeave, RestsWithWholeList, is_sequencer_after_rest}
use Rattle.am_step_laws.proofs.Alone.{IsAloneInView, node_after_own_leave, own_leave_keeps_node_alone, pushed_send_keeps_others, selection_of_nobody_is_nobody}
use Rattle.am_step_laws.proofs.Says.{is_sequencer_after_pushed_entry, view_of_pushed_plain_entry, ack_tells_after_step}
use Rattle.am_step_laws.proofs.Calls.{emit_plan_does, emitted_node_comes_by_changes, node_of_either_plan, ask_to_join_has_effect, leaving_plan_has_effect}

abbrev pub cause_of_tick : Cause
cause_of_tick = calls does.Tick

-- ---- a coordinator

-- a ballot that is open stays so to the end of the step
open_rests : {p n : Node} {b : Ballot} → RestsWithWholeList p n → HasOpenBallot p b → HasOpenBallot n b
open_rests r h = record { last = r.rests.ballot ∙ h.last; open_ = h.open_ }

row_tick_ballot : (m : Node) (b : Ballot) (o : Outcome) → HasOpenBallot m b → b.answer ≡ o → PlanHasEffect m cause_of_tick (tick_of_coordinator m o)
row_tick_ballot m b (said.Waiting names) h is = doing_plan_has_effect m cause_of_tick _
    (telling_plan_does RestsWithWholeList m cause_of_tick m said.Ticked names invite_packet_of nothing_yet (λ n r. tt) (λ n r. invite names (goes_on b h)))
row_tick_ballot m b (said.Fetching from want) h is = doing_plan_has_effect m cause_of_tick _
    (telling_plan_does RestsWithWholeList m cause_of_tick m said.Ticked (set_of_one_name from) fetch_packet_of nothing_yet (λ n r. tt)
    (λ n r. fetch (set_of_one_name from) (for_ballot b (open_rests r h) from want is refl)))
row_tick_ballot m b _ h is = search rows

-- ---- who acts, or doesn't

row_tick_promised : (m : Node) → PlanHasEffect m cause_of_tick (tick_of_non_acting_member m)
row_tick_promised m = either_plan_has_effect m cause_of_tick (m.core.promise.by == m.core.who) _ _ (λ t. search rows)
    (λ f. doing_plan_has_effect m cause_of_tick _ (telling_plan_does RestsWithWholeList m cause_of_tick m said.Ticked (set_of_one_name m.core.promise.by) fetch_packet_of nothing_yet (λ n r. tt)
    (λ n r. fetches n r f)))
  where
    fetches : (n : Node) → RestsWithWholeList m n → (m.core.promise.by == m.core.who) ≡ false → Says m cause_of_tick n (set_of_one_name m.core.promise.by) (fetch_packet_of n)
    fetches n r f = fetch (set_of_one_name m.core.promise.by) (of_promise ((λ i. (r.rests.promise i).by == r.rests.who i)
        ∙ f) (ap (λ (v : Stamp). set_of_one_name v.by) (sym r.rests.promise)))

row_tick_member : (m : Node) → is_member m.status ≡ true → acts_in_its_view m ≡ true → PlanHasEffect m cause_of_tick (tick_of_follower m)
row_tick_member m member acting =
    either_plan_has_effect m cause_of_tick m.leaving _ _
    (λ t. leaving_plan_has_effect m cause_of_tick (plan_without_letters m said.Ticked) does.Tick refl (quiet_plan_does RestsButForOwnLeave m cause_of_tick m said.Ticked nothing_yet (λ n r. tt)) (λ o. nothing_yet) (λ x y z. tt)
    (λ alone. refl) refl member t)
    (λ f. either_plan_has_effect m cause_of_tick (would_emit_send m (waiting_send_of m)) _ _
    (λ t. doing_plan_has_effect m cause_of_tick _ (plan_does_with_whole_list m cause_of_tick _ (emit_plan_does m cause_of_tick m (waiting_send_of m) said.Ticked nothing_yet (λ n same. tt) refl)))
    (λ g. doing_plan_has_effect m cause_of_tick _ (telling_plan_does RestsWithWholeList m cause_of_tick m said.Ticked (set_of_one_name (view m).by) ack_packet_of nothing_yet (λ n r. tt)
    (ack_tells_after_step m cause_of_tick m (set_of_one_name (view m).by) acting))))

-- ---- the sequencer

plain_put_off : (m : Node) (w : Option OwnSend) (n : Node) → OutcomeTells m cause_of_tick n (tick_outcome_of_waiting_send m w)
plain_put_off m None n = tt
plain_put_off m (Some s) n = split_on_bool (would_emit_send m (Some s) && not (has_room m)) (λ t. rw t tt) (λ f. rw f tt)

-- a node that emits stays a sequencer, and a member, and goes on leaving, in its view
abbrev Same : Node → Node → Type 0
Same m p = (is_sequencer p ≡ is_sequencer m) × (p.status ≡ m.status) × (p.leaving ≡ m.leaving) × (view p ≡ view m)

same_emit : (m : Node) (w : Option OwnSend) (o : Outcome) → Same m (emit_waiting_send m w o).node
same_emit m None o = (refl, refl, refl, refl)
same_emit m (Some s) o =
    node_of_either_plan (Same m) (not (would_emit_send m (Some s))) _ _ (λ t. (refl, refl, refl, refl))
    (λ f. node_of_either_plan (Same m) (not (is_sequencer m)) _ _ (λ t. node_of_either_plan (Same m) (nat_le (length s.body) m.core.rules.pb_up_to) _ _ (λ u. (refl, refl, refl, refl))
    (λ u. (refl, refl, refl, refl)))
    (λ g. node_of_either_plan (Same m) (has_room m) _ _ (λ t. (
      is_sequencer_after_pushed_entry m (Data m.core.who s.req s.body) refl,
      refl,
      refl,
      view_of_pushed_plain_entry m (Data m.core.who s.req s.body) refl,
    )) (λ k. (refl, refl, refl, refl))))

-- who is alone tells nobody of its send, nor of the last View
quiet_emit : (m : Node) (w : Option OwnSend) (o : Outcome) (n : Node) → IsAloneInView (emit_waiting_send m w o).node → is_sequencer m ≡ true → (emit_waiting_send m w o).letters n ≡ []
quiet_emit m None o n alone lead = refl
quiet_emit m (Some s) o n alone lead = split_on_bool (would_emit_send m (Some s))
    (λ t. split_on_bool (has_room m)
    (λ u. let all = rw (t, lead, u) at alone in
    let none : nat_lt 0 (size (other_members m)) ≡ false = ap (λ set. nat_lt 0 (size set)) (sym (pushed_send_keeps_others m m.core.who s.req s.body)) ∙ all in
    let nobody_ : (size (other_members m) == 0) ≡ true = grind (arith, nat_tests) in
    rw (t, lead, u, nobody_) refl)
    (λ g. rw (t, lead, g) refl))
    (λ f. rw f refl)

quiet_view : (n : Node) → size (other_members n) ≡ 0 → size (members_behind_view n) ≡ 0
quiet_view n none = split_on_bool (nat_lt n.core.base (image_of_node n).view_number)
    (λ t. rw t (selection_of_nobody_is_nobody (λ name. nat_lt (n.reports name).stored (image_of_node n).view_number) (other_members n) none))
    (λ f. rw f refl)

quiet_last : (m : Node) (o : Outcome) → is_sequencer m ≡ true → IsAloneInView (emit_waiting_send m (waiting_send_of m) o).node
    → (with_result_told_again (record (emit_waiting_send m (waiting_send_of m) o) { polls = true })).letters (node_after_own_leave (emit_waiting_send m (waiting_send_of m) o).node) ≡ []
quiet_last m o lead alone =
    let n = node_after_own_leave (emit_waiting_send m (waiting_send_of m) o).node in
    let none = quiet_view n (own_leave_keeps_node_alone (emit_waiting_send m (waiting_send_of m) o).node alone) in
    let nobody_ : (size (members_behind_view n) == 0) ≡ true = grind (arith, nat_tests) in
    rw nobody_ (quiet_emit m (waiting_send_of m) o n alone lead)

row_tick_sequencer : (m : Node) → is_member m.status ≡ true → is_sequencer m ≡ true → PlanHasEffect m cause_of_tick (tick_of_sequencer m)
row_tick_sequencer m member lead =
    let o = tick_outcome_of_waiting_send m (waiting_send_of m) in
    let e = emit_waiting_send m (waiting_send_of m) o in
    let p = with_result_told_again (record e { polls = true }) in
    let d = emit_plan_does m cause_of_tick m (waiting_send_of m) o nothing_yet (λ n same. plain_put_off m (waiting_send_of m) n) refl in
    let same = same_emit m (waiting_send_of m) o in
    let h : PlanDoes RestsButForOwnLeave m cause_of_tick p = record {
      stays = d.stays;
      changes = d.changes;
      answer = d.answer;
      letters = λ n r. letters_say_with_one_more m cause_of_tick n (members_behind_view n) (result_packet_of n (image_of_node n).view_number (members_of_view_entry (log_entry_at n.core.log (image_of_node n).view_number))
          (image_of_node n).resilience) (e.letters n)
          (result (members_behind_view n) (image_of_node n).view_number (members_of_view_entry (log_entry_at n.core.log (image_of_node n).view_number)) refl refl
          (leads (is_sequencer_after_rest r ∙ same.0 ∙ lead))) (d.letters n r);
    } in
    either_plan_has_effect m cause_of_tick m.leaving (plan_of_leaving p) p
    (λ t. leaving_plan_has_effect m cause_of_tick p does.Tick refl h (emitted_node_comes_by_changes m cause_of_tick m (waiting_send_of m) o (λ k. nothing_yet) refl) (λ x y z. tt) (quiet_last m o lead) same.3
    (ap is_member same.1 ∙ member) (same.2 ∙ t))
    (λ f. doing_plan_has_effect m cause_of_tick p (plan_does_with_whole_list m cause_of_tick p h))

-- ---- the row

row_tick_acting : (m : Node) → is_member m.status ≡ true → PlanHasEffect m cause_of_tick (tick_of_acting_member m)
row_tick_acting m member =
    either_plan_has_effect m cause_of_tick (not (acts_in_its_view m)) _ _ (λ t. row_tick_promised m)
    (λ f. either_plan_has_effect m cause_of_tick (is_sequencer m) _ _ (λ t. row_tick_sequencer m member t) (λ g. row_tick_member m member (not-false _ f)))

row_tick_with : (m : Node) (b : Option Ballot) → m.ballot ≡ b → is_member m.status ≡ true → PlanHasEffect m cause_of_tick (tick_by_ballot m b)
row_tick_with m None is member = row_tick_acting m member
row_tick_with m (Some b) is member =
    either_plan_has_effect m cause_of_tick b.is_over _ _ (λ t. row_tick_acting m member)
    (λ f. row_tick_ballot m b b.answer (record { last = is; open_ = f }) refl)

pub tick_row_has_effect : (m : Node) (s : Status) → m.status ≡ s → PlanHasEffect m cause_of_tick (tick_by_status m s)
tick_row_has_effect m status.Stranger is = search rows
tick_row_has_effect m status.Asking is = ask_to_join_has_effect m cause_of_tick m said.Ticked nothing_yet (λ n. tt) (ap is_asking_status is)
tick_row_has_effect m status.Member is = row_tick_with m m.ballot refl (ap is_member is)
tick_row_has_effect m status.Departed is = search rows
