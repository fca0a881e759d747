-- A member's tick hands its waiting send in, and the sequencer numbers what comes next, where it has room.
use Rattle.am_repair.proofs.RepairWords.{◌≡◌, ℕ, ◌+◌, ◌==◌, not, nat_lt, nat_le, Bool, true, false, if◌then◌else◌, List, length, Option, Some, refl, sym, ap, ◌∙◌, subst, arith}
use Rattle.am_repair.proofs.RepairWords.{Contains, nat_tests, length-append, Report, Log, top_of_log, Data, Outcome, has, Packet, letter_to, Letter, OwnSend, Node, top, view, members, other_members}
use Rattle.am_repair.proofs.RepairWords.{set_of_one_name, acts_in_its_view, is_sequencer, has_room, waiting_send_of, push_entry, own_report_of, report_fits, node_with_report, refresh_at_end, Plan, plan_with_letter, request_packet_of, spread_packet_of}
use Rattle.am_repair.proofs.RepairWords.{finish, step, row, would_emit_send, hand_in_send, emit_waiting_send, tick_row, tick_of_follower, with_result_told_again, tick_outcome_of_waiting_send, both_of_and, hear_packet, hears_packet_of_its_view, hear_row, has_no_join, take_report}
use Rattle.am_repair.proofs.RepairWords.{answer_request, request_row, refresh_rests_with_list, end_refresh_rests_with_list}
use Rattle.am_base.specs.declared.outcome.Outcome.TheVariants as said
use Rattle.am_base.specs.Lists.{row_of_name, image_of_log}
use Rattle.am_model.specs.Sequencing.{row_of_name_in_list}
use Rattle.am_step_laws.proofs.Words.{refresh_changes_only_fronts}
use Rattle.am_repair.proofs.Sets.{set_with_name_not_empty, only_name_has_name, without_name_has_others}
use Rattle.am_repair.proofs.Ends.{telling_step_sends_one_letter}
use Rattle.am_repair.proofs.Ticks.{emitted_plan_leads, tick_row_of_acting_node, tick_acting_of_sequencer, going_of_node_that_stays}
use Rattle.am_repair_takes.specs.Numbering.{PacketIsSend, request, spread, HandsIn, MembersHandIn, NextSendsAreNumbered, OwnSendsAreNumbered}
use Rattle.am_repair_takes.proofs.Quiet.{base_refreshed}

-- ---- a member hands in

telling_hands_in : (m : Node) (send : OwnSend) (to : List ℕ) (packet : Node → Packet) → is_sequencer m ≡ false → has to (view m).by ≡ true
    → ((n : Node) → ((letter_to to (packet n)).any ≡ false) × PacketIsSend (packet n) n.core.who n.core.promise (own_report_of n) send.req send.body)
    → HandsIn m send (finish m (plan_with_letter m said.Ticked to packet))
unfolding finish
telling_hands_in m send to packet follows there says =
    let n = refresh_at_end m in
    let l = letter_to to (packet n) in
    let one = telling_step_sends_one_letter m m said.Ticked to packet follows (set_with_name_not_empty to (view m).by there) in
    record {
      letter = l;
      there = subst (λ (ls : List Letter). Contains ls l) (sym one) (0, omega arith, refl);
      any = (says n).0;
      to = there;
      says = (says n).1;
    }

hands_in_if : (m : Node) (send : OwnSend) (b : Bool) (p q : Plan) → (b ≡ true → HandsIn m send (finish m p)) → (b ≡ false → HandsIn m send (finish m q))
    → HandsIn m send (finish m (if b then p else q))
hands_in_if m send true p q f g = f refl
hands_in_if m send false p q f g = g refl

emitted_in : (m : Node) (send : OwnSend) → acts_in_its_view m ≡ true → is_sequencer m ≡ false → has (members m) (view m).by ≡ true → would_emit_send m (Some send) ≡ true
    → HandsIn m send (finish m (emit_waiting_send m (Some send) said.Ticked))
emitted_in m send acting follows there would =
    let own : ((view m).by == m.core.who) ≡ false = rw acting at follows in
    let handed : HandsIn m send (finish m (hand_in_send m send said.Ticked)) = hands_in_if m send (nat_le (length send.body) m.core.rules.pb_up_to) _ _
    (λ t. telling_hands_in m send (set_of_one_name (view m).by) (λ n. request_packet_of n send.req send.body) follows (only_name_has_name (view m).by)
    (λ n. (refl, request n.core.who n.core.promise (own_report_of n) send.req send.body)))
    (λ f. telling_hands_in m send (other_members m) (λ n. spread_packet_of n send.req send.body) follows (without_name_has_others (members m) m.core.who (view m).by there own)
    (λ n. (refl, spread n.core.who n.core.promise (own_report_of n) send.req send.body))) in
    hands_in_if m send (not (would_emit_send m (Some send))) _ _ (λ t. absurd (let u = rw would at t in cc))
    (λ f. hands_in_if m send (not (is_sequencer m)) _ _ (λ t. handed) (λ g. absurd (let u = rw follows at g in cc)))

ticked_in : (m : Node) (send : OwnSend) → acts_in_its_view m ≡ true → is_sequencer m ≡ false → m.leaving ≡ false → has (members m) (view m).by ≡ true
    → would_emit_send m (Some send) ≡ true → waiting_send_of m ≡ Some send → HandsIn m send (finish m (tick_of_follower m))
ticked_in m send acting follows stays there would same =
    hands_in_if m send m.leaving _ _ (λ t. absurd (let u = rw stays at t in cc))
    (λ f. hands_in_if m send (would_emit_send m (waiting_send_of m)) _ _
    (λ t. subst (λ (o : Option OwnSend). HandsIn m send (finish m (emit_waiting_send m o said.Ticked))) (sym same) (emitted_in m send acting follows there would))
    (λ g. absurd (let u = ap (would_emit_send m) same ∙ would in cc)))

pub members_hand_in : MembersHandIn
unfolding step row
members_hand_in m send acting follows rest there waits would =
    let own : ((view m).by == m.core.who) ≡ false = rw acting at follows in
    let is : tick_row m ≡ tick_of_follower m = tick_row_of_acting_node m acting rest ∙ rw (acting, own) refl in
    subst (λ (q : Plan). HandsIn m send (finish m q)) (sym is) (ticked_in m send acting follows rest.stays there would waits)

-- ---- the sequencer numbers

-- a plan whose node's list goes to this number
abbrev Reaches : ℕ → Plan → Type 0
Reaches number p = (top p.node ≡ number) × (p.departs ≡ false)

reaches_if_not : (number : ℕ) (b : Bool) (p q : Plan) → b ≡ false → Reaches number q → Reaches number (if b then p else q)
reaches_if_not number true p q f h = absurd (cc)
reaches_if_not number false p q f h = h

reaches_done : (m : Node) (number : ℕ) (p : Plan) → Reaches number p → top (finish m p).node ≡ number
unfolding finish
reaches_done m number p h = rw h.1 (ap top_of_log ((end_refresh_rests_with_list p.node).log) ∙ h.0)

pushed_top : (m : Node) (s req : ℕ) (body : List ℕ) → top (push_entry m (Data s req body)) ≡ top m + 1
pushed_top m s req body = simp length-append (omega arith)

answer_reaches : (m : Node) (s req : ℕ) (body : List ℕ) (by_order : Bool) → (row_of_name_in_list m s).left ≡ 0 → req ≡ (row_of_name_in_list m s).last + 1 → has_room m ≡ true
    → Reaches (top m + 1) (answer_request m s req body by_order)
answer_reaches m s req body by_order left next room =
    let full : not (has_room m) ≡ false = ap not room in
    reaches_if_not (top m + 1) (nat_lt 0 (row_of_name_in_list m s).left) _ _ (grind (arith, nat_tests))
    (reaches_if_not (top m + 1) (nat_le req (row_of_name_in_list m s).last) _ _ (grind (arith, nat_tests))
    (reaches_if_not (top m + 1) (nat_lt ((row_of_name_in_list m s).last + 1) req) _ _ (grind (arith, nat_tests))
    (reaches_if_not (top m + 1) (not (has_room m)) _ _ full (pushed_top m s req body, refl))))

-- once the report is taken there is no less room
room_stays : (m : Node) (s : ℕ) (report : Report) → has_room m ≡ true → has_room (take_report m s report) ≡ true
room_stays m s report room =
    let n = take_report m s report in
    let up = base_refreshed (node_with_report m s report) in
    let log = (refresh_rests_with_list (node_with_report m s report)).log in
    let same : top n ≡ top m = ap top_of_log log in
    let rules_ : n.core.rules.window ≡ m.core.rules.window = ap (λ (x : Node). x.core.rules.window) (refresh_changes_only_fronts (node_with_report m s report)) in
    grind (arith, nat_tests)

request_reaches : (m : Node) (s : ℕ) (report : Report) (req : ℕ) (body : List ℕ) (by_order : Bool) → has_no_join m s ≡ false → report_fits m report ≡ true
    → (row_of_name_in_list m s).left ≡ 0 → req ≡ (row_of_name_in_list m s).last + 1 → has_room m ≡ true → Reaches (top m + 1) (request_row m s report req body by_order)
unfolding request_row
request_reaches m s report req body by_order known fits left next room =
    let n = take_report m s report in
    let log = (refresh_rests_with_list (node_with_report m s report)).log in
    let same : top n ≡ top m = ap top_of_log log in
    let number : top n + 1 ≡ top m + 1 = omega arith in
    let left_ : (row_of_name_in_list n s).left ≡ (row_of_name_in_list m s).left = ap (λ (l : Log). (row_of_name (image_of_log l) s).left) log in
    let last_ : (row_of_name_in_list n s).last ≡ (row_of_name_in_list m s).last = ap (λ (l : Log). (row_of_name (image_of_log l) s).last) log in
    let next_ : req ≡ (row_of_name_in_list n s).last + 1 = omega arith in
    rw (known, fits) (subst (λ k. Reaches k (answer_request n s req body by_order)) number
    (answer_reaches n s req body by_order (left_ ∙ left) next_ (room_stays m s report room)))

pub next_sends_are_numbered : NextSendsAreNumbered
unfolding hear_packet hear_row
next_sends_are_numbered m p s v report req body (request s_ v_ report_ req_ body_) heard known fits left next room = rw heard
    (reaches_done m (top m + 1) _ (request_reaches m s report req body false known fits left next room))
next_sends_are_numbered m p s v report req body (spread s_ v_ report_ req_ body_) heard known fits left next room =
    let both = both_of_and (hears_packet_of_its_view m s v) (is_sequencer m) heard in
    rw (both.0, both.1) (reaches_done m (top m + 1) _ (request_reaches m s report req body true known fits left next room))

-- ---- its own

emit_reaches : (m : Node) (send : OwnSend) (o : Outcome) → is_sequencer m ≡ true → would_emit_send m (Some send) ≡ true → has_room m ≡ true
    → top (emit_waiting_send m (Some send) o).node ≡ top m + 1
emit_reaches m send o leads would room = by_tests (not (would_emit_send m (Some send))) (not (is_sequencer m)) (has_room m) _ _ _ _ (ap not would) (ap not leads) room
    (pushed_top m m.core.who send.req send.body)
  where
    by_tests : (a b c : Bool) (p q r s : Plan) → a ≡ false → b ≡ false → c ≡ true → top r.node ≡ top m + 1
        → top (if a then p else if b then q else if c then r else s).node ≡ top m + 1
    by_tests true b c p q r s f g h is = absurd (cc)
    by_tests false true c p q r s f g h is = absurd (cc)
    by_tests false false false p q r s f g h is = absurd (cc)
    by_tests false false true p q r s f g h is = is

pub own_sends_are_numbered : OwnSendsAreNumbered
unfolding step row
own_sends_are_numbered m send leads rest waits would room =
    let both = both_of_and (acts_in_its_view m) ((view m).by == m.core.who) leads in
    let o = tick_outcome_of_waiting_send m (waiting_send_of m) in
    let p = with_result_told_again (record (emit_waiting_send m (waiting_send_of m) o) { polls = true }) in
    let e = emitted_plan_leads m (waiting_send_of m) o leads in
    let is : tick_row m ≡ p = tick_row_of_acting_node m both.0 rest ∙ tick_acting_of_sequencer m both.0 both.1 ∙ going_of_node_that_stays m p rest.stays in
    let reached : top (emit_waiting_send m (waiting_send_of m) o).node ≡ top m + 1 = ap (λ (w : Option OwnSend). top (emit_waiting_send m w o).node) waits ∙ emit_reaches m send o leads would room in
    subst (λ (q : Plan). top (finish m q).node ≡ top m + 1) (sym is) (reaches_done m (top m + 1) p (reached, e.stays))
