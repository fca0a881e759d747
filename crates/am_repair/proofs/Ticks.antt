-- What a tick sends in a group that stands in one view.
use Rattle.am_repair.proofs.RepairWords.{not-false, ◌≡◌, ℕ, ◌==◌, not, nat_le, Bool, true, false, if◌then◌else◌, List, length, Option, Some, None, refl, sym, ap}
use Rattle.am_repair.proofs.RepairWords.{◌∙◌, subst, arith, Contains, Data, Outcome, has, Packet, Letter, letter_to, OwnSend, Status, Node, Ballot, view, members}
use Rattle.am_repair.proofs.RepairWords.{other_members, set_of_one_name, acts_in_its_view, is_member, is_sequencer, has_room, waiting_send_of, own_report_of, refresh_at_end, Plan, plan_with_letter, ack_packet_of}
use Rattle.am_repair.proofs.RepairWords.{accept_packet_of, request_packet_of, spread_packet_of, finish, step, row, is_unfinished_ballot, would_emit_send, hand_in_send, emit_waiting_send, tick_row, tick_by_status}
use Rattle.am_repair.proofs.RepairWords.{tick_by_ballot, tick_of_acting_member, tick_of_follower, tick_of_sequencer, with_result_told_again, tick_outcome_of_waiting_send, go_on_where_leaving, both_of_and, end_refresh_rests_with_list, is_sequencer_after_rest}
use Rattle.am_repair.proofs.RepairWords.{is_sequencer_after_pushed_entry, IsAtRest, Polls, SequencersPoll, PacketIsReport, ack, request, spread, Reports, MembersReport}
use Rattle.am_base.specs.declared.outcome.Outcome.TheVariants as said
use Rattle.am_repair.proofs.Sets.{set_with_name_not_empty, only_name_has_name, without_name_has_others}
use Rattle.am_repair.proofs.Letters.{with_letter_contains_letter}
use Rattle.am_repair.proofs.Ends.{telling_step_sends_one_letter}

-- ---- which row it is

member_status : (s : Status) → is_member s ≡ true → s ≡ Status.Member
member_status Status.Member h = refl
member_status _ h = absurd (cc)

pub tick_with_finished_ballot : (m : Node) (o : Option Ballot) → is_unfinished_ballot o ≡ false → tick_by_ballot m o ≡ tick_of_acting_member m
tick_with_finished_ballot m None h = refl
tick_with_finished_ballot m (Some b) h = let over = not-false b.is_over h in rw over refl

pub tick_row_of_acting_node : (m : Node) → acts_in_its_view m ≡ true → IsAtRest m → tick_row m ≡ tick_of_acting_member m
unfolding tick_row
tick_row_of_acting_node m a r =
    let member = member_status m.status (both_of_and (is_member m.status) _ a).0 in
    ap (tick_by_status m) member ∙ tick_with_finished_ballot m m.ballot r.no_ballot

-- ---- the sequencer polls

polls_done : (m : Node) (p : Plan) → p.departs ≡ false → p.polls ≡ true → is_sequencer p.node ≡ true → Polls (finish m p)
unfolding finish
polls_done m p stays polls leads =
    let n = refresh_at_end p.node in
    let lead : is_sequencer n ≡ true = is_sequencer_after_rest (end_refresh_rests_with_list p.node).rests ∙ leads in
    record { there = rw (stays, polls, lead) (λ some. with_letter_contains_letter (other_members n) (accept_packet_of n true) (p.letters n) some) }

-- what it sends of its own leaves it a sequencer
pub record EmittedPlanLeads (p : Plan) : Type 0 where
  pub stays : p.departs ≡ false
  pub leads : is_sequencer p.node ≡ true

emitted_if : (b : Bool) (p q : Plan) → (b ≡ true → EmittedPlanLeads p) → (b ≡ false → EmittedPlanLeads q) → EmittedPlanLeads (if b then p else q)
emitted_if true p q f g = f refl
emitted_if false p q f g = g refl

pub emitted_plan_leads : (m : Node) (w : Option OwnSend) (o : Outcome) → is_sequencer m ≡ true → EmittedPlanLeads (emit_waiting_send m w o)
emitted_plan_leads m None o leads = record { stays = refl; leads = leads }
emitted_plan_leads m (Some s) o leads =
    emitted_if (not (would_emit_send m (Some s))) _ _ (λ t. record { stays = refl; leads = leads })
    (λ f. emitted_if (not (is_sequencer m)) _ _ (λ t. absurd (let u = rw leads at t in cc))
    (λ g. emitted_if (has_room m) _ _ (λ t. record { stays = refl; leads = is_sequencer_after_pushed_entry m (Data m.core.who s.req s.body) refl ∙ leads })
    (λ k. record { stays = refl; leads = leads })))

pub tick_acting_of_sequencer : (m : Node) → acts_in_its_view m ≡ true → ((view m).by == m.core.who) ≡ true → tick_of_acting_member m ≡ tick_of_sequencer m
tick_acting_of_sequencer m acting own = rw (acting, own) refl

pub going_of_node_that_stays : (m : Node) (p : Plan) → m.leaving ≡ false → go_on_where_leaving m p ≡ p
going_of_node_that_stays m p stays = rw stays refl

pub sequencers_poll : SequencersPoll
unfolding step row
sequencers_poll m leads rest =
    let both = both_of_and (acts_in_its_view m) ((view m).by == m.core.who) leads in
    let acting = both.0 in
    let own = both.1 in
    let p = with_result_told_again (record (emit_waiting_send m (waiting_send_of m) (tick_outcome_of_waiting_send m (waiting_send_of m))) { polls = true }) in
    let e = emitted_plan_leads m (waiting_send_of m) (tick_outcome_of_waiting_send m (waiting_send_of m)) leads in
    let is : tick_row m ≡ p = tick_row_of_acting_node m acting rest ∙ tick_acting_of_sequencer m acting own ∙ going_of_node_that_stays m p rest.stays in
    subst (λ (q : Plan). Polls (finish m q)) (sym is) (polls_done m p e.stays refl e.leads)

-- ---- a member reports

reports_telling : (m : Node) (to : List ℕ) (packet : Node → Packet) → is_sequencer m ≡ false → has to (view m).by ≡ true
    → ((n : Node) → ((letter_to to (packet n)).any ≡ false) × PacketIsReport (packet n) n.core.who n.core.promise (own_report_of n))
    → Reports m (finish m (plan_with_letter m said.Ticked to packet))
unfolding finish
reports_telling m to packet follows there says =
    let n = refresh_at_end m in
    let l = letter_to to (packet n) in
    let one = telling_step_sends_one_letter m m said.Ticked to packet follows (set_with_name_not_empty to (view m).by there) in
    record {
      letter = l;
      there = subst (λ (ls : List Letter). Contains ls l) (sym one) (0, omega arith, refl);
      any = (says n).0;
      to = there;
      says = (says n).1;
    }

reports_if : (m : Node) (b : Bool) (p q : Plan) → (b ≡ true → Reports m (finish m p)) → (b ≡ false → Reports m (finish m q))
    → Reports m (finish m (if b then p else q))
reports_if m true p q f g = f refl
reports_if m false p q f g = g refl

hands_in : (m : Node) (w : Option OwnSend) → acts_in_its_view m ≡ true → is_sequencer m ≡ false → has (members m) (view m).by ≡ true → would_emit_send m w ≡ true
    → Reports m (finish m (emit_waiting_send m w said.Ticked))
hands_in m None acting follows there would = absurd (cc)
hands_in m (Some s) acting follows there would =
    let own : ((view m).by == m.core.who) ≡ false = rw acting at follows in
    let handed : Reports m (finish m (hand_in_send m s said.Ticked)) = reports_if m (nat_le (length s.body) m.core.rules.pb_up_to) _ _
    (λ t. reports_telling m (set_of_one_name (view m).by) (λ n. request_packet_of n s.req s.body) follows (only_name_has_name (view m).by)
    (λ n. (refl, request n.core.who n.core.promise (own_report_of n) s.req s.body)))
    (λ f. reports_telling m (other_members m) (λ n. spread_packet_of n s.req s.body) follows (without_name_has_others (members m) m.core.who (view m).by there own)
    (λ n. (refl, spread n.core.who n.core.promise (own_report_of n) s.req s.body))) in
    reports_if m (not (would_emit_send m (Some s))) _ _ (λ t. absurd (let u = rw would at t in cc))
    (λ f. reports_if m (not (is_sequencer m)) _ _ (λ t. handed) (λ g. absurd (let u = rw follows at g in cc)))

member_reports : (m : Node) → acts_in_its_view m ≡ true → is_sequencer m ≡ false → m.leaving ≡ false → has (members m) (view m).by ≡ true
    → Reports m (finish m (tick_of_follower m))
member_reports m acting follows stays there =
    reports_if m m.leaving _ _ (λ t. absurd (let u = rw stays at t in cc))
    (λ f. reports_if m (would_emit_send m (waiting_send_of m)) _ _ (λ t. hands_in m (waiting_send_of m) acting follows there t)
    (λ g. reports_telling m (set_of_one_name (view m).by) ack_packet_of follows (only_name_has_name (view m).by) (λ n. (refl, ack n.core.who n.core.promise (own_report_of n)))))

pub members_report : MembersReport
unfolding step row
members_report m acting follows rest there =
    let own : ((view m).by == m.core.who) ≡ false = rw acting at follows in
    let is : tick_row m ≡ tick_of_follower m = tick_row_of_acting_node m acting rest ∙ rw (acting, own) refl in
    subst (λ (q : Plan). Reports m (finish m q)) (sym is) (member_reports m acting follows rest.stays there)
