-- Each row has its effect.
use Rattle.am_step_laws.proofs.EffectWords.{not-true, ◌≡◌, ℕ, ◌==◌, ◌&&◌, Bool, true, false, not, if◌then◌else◌, List, Ok, Err, refl, Stamp, Report, NodeEvent}
use Rattle.am_step_laws.proofs.EffectWords.{stamps_are_equal, Packet, Read, reading, Node, image_of_node, view, acts_in_its_view, is_sequencer, Plan, request_row, spread_row, member_hears_other}
use Rattle.am_step_laws.proofs.EffectWords.{member_or_asker_hears_other, hears_packet_of_its_view, plan_where_heard, hear_row, row_of_read_bytes, row, step, hear_packet, refuse_bytes, hear_refused_bytes, both_of_and, Cause}
use Rattle.am_step_laws.proofs.EffectWords.{hears, refuses, by_request, by_spread, cause_of_read, cause_of, by_reset, StepsHaveEffects, HearingHasEffects}
use Rattle.am_step_laws.proofs.EffectWords.{RefusingHasEffects, by_hand_over, send_row, done_row, take_row, join_row, state_row, leave_row, ask_row, give_up_row}
use Rattle.am_step_laws.proofs.EffectWords.{tick_row, queue, give_out_entry, log_entry_at, hold_row, join_ask_row, waiting_send_of, row_at_place, is_member, length, nat_le, ◌+◌, find}
use Rattle.am_step_laws.proofs.EffectWords.{calls, collects, nothing_yet, and_then, not-false}
use Rattle.am_base.specs.declared.event.NodeEvent.TheVariants as does
use Rattle.am_packet.specs.declared.packet.Packet.TheVariants as packet
use Rattle.am_node_defs.specs.Sends as own
use Rattle.am_step_laws.proofs.Sequencing.{ReportIsFromOtherMember, request_row_has_effect, ack_row_has_effect, nack_row_has_effect, join_ask_row_has_effect, leave_ask_row_has_effect}
use Rattle.am_step_laws.proofs.Receiving.{spread_row_has_effect, bcast_row_has_effect, order_row_has_effect, accept_row_has_effect, hold_row_has_effect, welcome_row_has_effect, gone_row_has_effect}
use Rattle.am_step_laws.proofs.Plans.{PlanHasEffect, either_plan_has_effect, doing_plan_has_effect, quiet_plan_does, rows}
use Rattle.am_step_laws.proofs.Calls.{queue_has_effect, collected_send_is_answered, give_out_has_effect, join_row_has_effect, state_row_has_effect, leave_row_has_effect, ask_row_has_effect}
use Rattle.am_step_laws.proofs.Resets.{invite_row_has_effect, vote_row_has_effect, fetch_row_has_effect, piece_row_has_effect, result_row_has_effect}
use Rattle.am_step_laws.proofs.{Ticks.tick_row_has_effect, Ballots.reset_row_has_effect, Ballots.give_up_has_effect, Rests.RestsWithWholeList}

-- ---- who is heard

-- a name that is heard isn't the node's own
pub heard_member_is_other : (m : Node) (s : ℕ) → member_hears_other m s ≡ true → (s == m.core.who) ≡ false
heard_member_is_other m s t = not-true _ (both_of_and (not (s == m.core.who)) _ t).0

from_member : (m : Node) (s : ℕ) (v : Stamp) → hears_packet_of_its_view m s v ≡ true → is_sequencer m ≡ true → ReportIsFromOtherMember m s v
from_member m s v t leads =
    let a = both_of_and (member_hears_other m s) (acts_in_its_view m && stamps_are_equal v (view m)) t in
    record { leads = leads; other = heard_member_is_other m s a.0; view = (both_of_and (acts_in_its_view m) (stamps_are_equal v (view m)) a.1).1 }

where_it_is_heard : (m : Node) (c : Cause) (heard : Bool) (p : Plan) → (heard ≡ true → PlanHasEffect m c p) → PlanHasEffect m c (plan_where_heard heard m p)
where_it_is_heard m c heard p f = either_plan_has_effect m c heard _ _ f (λ t. search rows)

row_heard_spread : (m : Node) (s : ℕ) (v : Stamp) (report : Report) (req : ℕ) (body : List ℕ) → hears_packet_of_its_view m s v ≡ true
    → PlanHasEffect m (hears (packet.Spread s v report req body)) (if is_sequencer m then request_row m s report req body true else spread_row m s req body)
row_heard_spread m s v report req body t =
    let c = hears (packet.Spread s v report req body) in
    either_plan_has_effect m c (is_sequencer m) _ _ (λ l. request_row_has_effect m c s v report req body true (from_member m s v t l) (by_spread s v report req body) (λ e. refl))
    (λ f. spread_row_has_effect m s v report req body t)

row_hear : (m : Node) (p : Packet) → PlanHasEffect m (hears p) (hear_row m p)
unfolding hear_row hold_row join_ask_row
row_hear m (packet.Request s v report req body) = where_it_is_heard m _ _ _
    (λ t. let both = both_of_and (hears_packet_of_its_view m s v) (is_sequencer m) t in
    request_row_has_effect m _ s v report req body false (from_member m s v both.0 both.1) (by_request s v report req body) (λ e. absurd (cc)))
row_hear m (packet.Spread s v report req body) = where_it_is_heard m _ _ _ (λ t. row_heard_spread m s v report req body t)
row_hear m (packet.Bcast s v base acc number e) = where_it_is_heard m _ _ _ (λ t. bcast_row_has_effect m s v base acc number e t)
row_hear m (packet.Order s v base acc number from req) = where_it_is_heard m _ _ _ (λ t. order_row_has_effect m s v base acc number from req t)
row_hear m (packet.Accept s v base acc high poll) = where_it_is_heard m _ _ _ (λ t. accept_row_has_effect m s v base acc high poll t)
row_hear m (packet.Ack s v report) = where_it_is_heard m _ _ _ (λ t. let both = both_of_and (hears_packet_of_its_view m s v) (is_sequencer m) t in
    ack_row_has_effect m s v report (from_member m s v both.0 both.1))
row_hear m (packet.Nack s v report) = where_it_is_heard m _ _ _ (λ t. let both = both_of_and (hears_packet_of_its_view m s v) (is_sequencer m) t in
    nack_row_has_effect m s v report (from_member m s v both.0 both.1))
row_hear m (packet.Hold s v base high req) = where_it_is_heard m _ _ _ (λ t. hold_row_has_effect m s v base high req (waiting_send_of m))
row_hear m (packet.JoinAsk s v) = where_it_is_heard m _ _ _ (λ t. let both = both_of_and (member_hears_other m s) (is_sequencer m) t in
    join_ask_row_has_effect m s v (row_at_place (image_of_node m) s) refl both.1 (heard_member_is_other m s both.0))
row_hear m (packet.Welcome s v base join image) = where_it_is_heard m _ _ _ (λ t. let both = both_of_and (member_or_asker_hears_other m s) (v.by == s) t in
    welcome_row_has_effect m s v base join image both.0 both.1)
row_hear m (packet.LeaveAsk s v report) = where_it_is_heard m _ _ _ (λ t. let both = both_of_and (member_hears_other m s) (is_sequencer m) t in
    leave_ask_row_has_effect m s v report both.1 (heard_member_is_other m s both.0))
row_hear m (packet.Gone s v number) = where_it_is_heard m _ _ _ (λ t. gone_row_has_effect m s v number t)
row_hear m (packet.Invite s v) = where_it_is_heard m _ _ _ (λ t. let both = both_of_and (member_or_asker_hears_other m s) (v.by == s) t in invite_row_has_effect m s v both.0 both.1)
row_hear m (packet.Vote s v show) = where_it_is_heard m _ _ _ (λ t. vote_row_has_effect m s v show t)
row_hear m (packet.Fetch s v low) = where_it_is_heard m _ _ _ (λ t. fetch_row_has_effect m s v low)
row_hear m (packet.Piece s v base number e) = where_it_is_heard m _ _ _ (λ t. piece_row_has_effect m s v base number e t)
row_hear m (packet.Result s base number v) =
    where_it_is_heard m _ _ _ (λ t. let both = both_of_and (member_hears_other m s) (v.stamp.by == s) t in result_row_has_effect m s base number v both.0 both.1)
row_hear m (packet.HandOver s v) = where_it_is_heard m _ _ _ (λ t. reset_row_has_effect m _ 1 (image_of_node m).resilience (by_hand_over s v t))

-- ---- steps

row_read : (m : Node) (read : Read Packet) → PlanHasEffect m (cause_of_read read) (row_of_read_bytes m read)
row_read m (Ok p) = row_hear m p
row_read m (Err refusal) = search rows

row_does : (m : Node) (event : NodeEvent) → PlanHasEffect m (cause_of event) (row m event)
unfolding row send_row done_row take_row join_row state_row leave_row ask_row give_up_row tick_row
row_does m (does.Send body) =
    let k : not (is_member m.status) ≡ false → m.leaving ≡ false → nat_le 4 (length m.sends.queue) ≡ false
    → PlanHasEffect m (calls (does.Send body)) (queue m body) = λ a b d. queue_has_effect m body (not-false _ a) b d in
    search (rows, k) depth 9
row_does m (does.Done req) =
    let c = calls (does.Done req) in
    let o = own.collect_outcome req m.sends in
    doing_plan_has_effect m c _ (quiet_plan_does RestsWithWholeList m c _ o (and_then nothing_yet (collects {m = m} req refl) tt)
    (λ n r. collected_send_is_answered m n req (find (own.send_has_request req) m.sends.queue) refl))
row_does m does.Take =
    let k : not (is_member m.status) ≡ false → (m.core.taken == m.core.acc) ≡ false
    → PlanHasEffect m (calls does.Take) (give_out_entry m (log_entry_at m.core.log (m.core.taken + 1))) = λ a b. give_out_has_effect m _ (not-false _ a) b refl in
    search (rows, k) depth 9
row_does m does.Join = join_row_has_effect m m.status refl
row_does m does.State = state_row_has_effect m m.status
row_does m does.Leave = leave_row_has_effect m m.status refl
row_does m (does.Reset least resilience) = reset_row_has_effect m _ least resilience (by_reset least resilience)
row_does m (does.Ask round) = ask_row_has_effect m round m.ballot refl
row_does m (does.GiveUp name) = give_up_has_effect m name m.ballot refl
row_does m does.Tick = tick_row_has_effect m m.status refl
row_does m (does.Hear bytes) = row_read m (reading bytes)

pub steps_have_effects : StepsHaveEffects
unfolding step
steps_have_effects m event = (row_does m event).effect

pub hearing_has_effects : HearingHasEffects
unfolding hear_packet
hearing_has_effects m p = (row_hear m p).effect

pub refusing_has_effects : RefusingHasEffects
unfolding hear_refused_bytes
refusing_has_effects m cause = let h : PlanHasEffect m refuses (refuse_bytes m cause) = search rows in h.effect
