-- What ticks send is no next entry of a member that has less than the sequencer's list began with.
use Rattle.am_repair.proofs.RepairWords.{eqb-true, not-false, ◌≡◌, ◌⊎◌, inl, either, ℕ, ◌+◌, ◌<◌, ◌==◌, not, nat_le, Bool, true, false, if◌then◌else◌, List}
use Rattle.am_repair.proofs.RepairWords.{[], length, Option, Some, None, slice_get, refl, sym, ap, ◌∙◌, subst, arith, All, All-nil, Stamp, Data, Outcome, Act}
use Rattle.am_repair.proofs.RepairWords.{Rules, has, log_entry_at, Packet, Letter, letter_at, OwnSend, Status, Node, top, image_of_node, view, acts_in_its_view, other_members}
use Rattle.am_repair.proofs.RepairWords.{set_of_one_name, is_sequencer, has_room, waiting_send_of, has_departed, Plan, plan_without_letters, plan_with_letter, bcast_packet_of, ack_packet_of, fetch_packet_of}
use Rattle.am_repair.proofs.RepairWords.{request_packet_of, spread_packet_of, join_ask_packet_of, accept_packet_of, result_packet_of, sends_accept, letters_with_accept, finish, step, row}
use Rattle.am_repair.proofs.RepairWords.{is_unfinished_ballot, would_emit_send, emit_waiting_send, first_lives_of_other_places, tick_row, tick_by_status, tick_of_acting_member, with_result_told_again, tick_outcome_of_waiting_send, members_behind_view}
use Rattle.am_repair.proofs.RepairWords.{members_of_view_entry, event_at, running_places, ticks_of_places, World, is_stopped, world_with_record, world_with_step, happens, world_after_events, split_on_bool, Cause}
use Rattle.am_repair.proofs.RepairWords.{hears, acting_name, IsCause, all_letters_with_one_more, item_of_index_has_property, inr, Repair, our_ticks}
use Rattle.am_model.specs.Emit.{leave_ask_packet_of}
use Rattle.am_base.specs.declared.event.NodeEvent.TheVariants as does
use Rattle.am_base.specs.declared.outcome.Outcome.TheVariants as said
use Rattle.am_repair.proofs.Schedules.{letter_number_le_length, property_stays_through_acts}
use Rattle.am_repair.proofs.Nodes.{acting_member_promised_its_view, sequencer_acts_by_own_view, other_name_is_not_sequencer}
use Rattle.am_repair.proofs.Following.{CauseSkipsNumber}
use Rattle.am_repair.proofs.Leaving.{leaver_is_not_sequencer as leads_not_left}
use Rattle.am_repair.proofs.Departed.{departed_node_ticks_still}
use Rattle.am_repair.proofs.Ticks.{tick_with_finished_ballot, going_of_node_that_stays}
use Rattle.am_repair.proofs.Steps.{letter_at_of_appended_letters, skipped_cause_keeps_top}
use Rattle.am_repair.proofs.Fine.{WorldKeepsLawsAndCalm, laws_and_calm_stay}

-- ---- letters that are no next entry

abbrev SkipsLetter : ℕ → Letter → Type 0
SkipsLetter high l = CauseSkipsNumber high (hears l.packet)

record PlanSkips (high : ℕ) (p : Plan) : Type 0 where
  each : (n : Node) → All (SkipsLetter high) (p.letters n)

skips_if : (high : ℕ) (b : Bool) (p q : Plan) → (b ≡ true → PlanSkips high p) → (b ≡ false → PlanSkips high q) → PlanSkips high (if b then p else q)
skips_if high true p q f g = f refl
skips_if high false p q f g = g refl

skips_quiet : (high : ℕ) (m : Node) (o : Outcome) → PlanSkips high (plan_without_letters m o)
skips_quiet high m o = record { each = λ n. All-nil (SkipsLetter high) }

skips_telling : (high : ℕ) (m : Node) (o : Outcome) (to : List ℕ) (packet : Node → Packet) → ((n : Node) → CauseSkipsNumber high (hears (packet n)))
    → PlanSkips high (plan_with_letter m o to packet)
skips_telling high m o to packet h = record { each = λ n. all_letters_with_one_more (SkipsLetter high) to (packet n) [] (h n) (All-nil (SkipsLetter high)) }

finish_skips : (high : ℕ) (m : Node) (p : Plan) → PlanSkips high p → All (SkipsLetter high) (finish m p).letters
unfolding finish
finish_skips high m p h = accept_skips _
  where
    accept_skips : (n : Node) → All (SkipsLetter high) (letters_with_accept m p n (p.letters n))
    accept_skips n = split_on_bool (sends_accept m p n)
        (λ t. rw t (all_letters_with_one_more (SkipsLetter high) (other_members n) (accept_packet_of n p.polls) (p.letters n) tt (h.each n)))
        (λ f. rw f (h.each n))

-- ---- a tick

emit_skips : (high : ℕ) (m : Node) (w : Option OwnSend) (o : Outcome) → (is_sequencer m ≡ true → high < top m) → PlanSkips high (emit_waiting_send m w o)
emit_skips high m None o far = skips_quiet high m o
emit_skips high m (Some s) o far =
    skips_if high (not (would_emit_send m (Some s))) _ _ (λ t. skips_quiet high m o)
    (λ f. skips_if high (not (is_sequencer m)) _ _
    (λ t. skips_if high (nat_le (length s.body) m.core.rules.pb_up_to) _ _
    (λ u. skips_telling high m o (set_of_one_name (view m).by) (λ n. request_packet_of n s.req s.body) (λ n. tt))
    (λ u. skips_telling high m o (other_members m) (λ n. spread_packet_of n s.req s.body) (λ n. tt)))
    (λ g. skips_if high (has_room m) _ _
    (λ t. record {
      each = λ n. all_letters_with_one_more (SkipsLetter high) (other_members m) (bcast_packet_of n (top m + 1) (Data m.core.who s.req s.body)) []
          (λ same. (let low = far (not-false _ g) in absurd (omega arith))) (All-nil (SkipsLetter high));
    })
    (λ t. skips_quiet high m o)))

acting_skips : (high : ℕ) (m : Node) → (is_sequencer m ≡ true → m.leaving ≡ false) → (is_sequencer m ≡ true → high < top m) → PlanSkips high (tick_of_acting_member m)
acting_skips high m stays far =
    skips_if high (not (acts_in_its_view m)) _ _
    (λ t. skips_if high (m.core.promise.by == m.core.who) _ _ (λ u. skips_quiet high m said.Ticked)
    (λ u. skips_telling high m said.Ticked (set_of_one_name m.core.promise.by) fetch_packet_of (λ n. tt)))
    (λ f. skips_if high (is_sequencer m) _ _
    (λ t.
    let e = emit_waiting_send m (waiting_send_of m) (tick_outcome_of_waiting_send m (waiting_send_of m)) in
    let p = with_result_told_again (record e { polls = true }) in
    let skips : PlanSkips high p = record {
      each = λ n. all_letters_with_one_more (SkipsLetter high) (members_behind_view n) (result_packet_of n (image_of_node n).view_number (members_of_view_entry (log_entry_at n.core.log (image_of_node n).view_number))
          (image_of_node n).resilience) (e.letters n) tt
          ((emit_skips high m (waiting_send_of m) (tick_outcome_of_waiting_send m (waiting_send_of m)) far).each n);
    } in
    subst (PlanSkips high) (sym (going_of_node_that_stays m p (stays t))) skips)
    (λ g. skips_if high m.leaving _ _
    (λ t. skips_if high (not (is_sequencer m)) _ _
    (λ u. record { each = λ n. all_letters_with_one_more (SkipsLetter high) (other_members m) (leave_ask_packet_of n) [] tt (All-nil (SkipsLetter high)) })
    (λ u. absurd (cc)))
    (λ t. skips_if high (would_emit_send m (waiting_send_of m)) _ _ (λ u. emit_skips high m (waiting_send_of m) said.Ticked far)
    (λ u. skips_telling high m said.Ticked (set_of_one_name (view m).by) ack_packet_of (λ n. tt)))))

row_skips : (high : ℕ) (m : Node) (s : Status) → is_unfinished_ballot m.ballot ≡ false → (is_sequencer m ≡ true → m.leaving ≡ false) → (is_sequencer m ≡ true → high < top m) → PlanSkips high (tick_by_status m s)
row_skips high m Status.Asking none stays far = skips_telling high m said.Ticked (first_lives_of_other_places m) join_ask_packet_of (λ n. tt)
row_skips high m Status.Member none stays far = subst (PlanSkips high) (sym (tick_with_finished_ballot m m.ballot none)) (acting_skips high m stays far)
row_skips high m _ none stays far = skips_quiet high m said.Idle

tick_skips : (high : ℕ) (m : Node) → is_unfinished_ballot m.ballot ≡ false → (is_sequencer m ≡ true → m.leaving ≡ false) → (is_sequencer m ≡ true → high < top m) → All (SkipsLetter high) (step m does.Tick).letters
unfolding step row tick_row
tick_skips high m none stays far = finish_skips high m (tick_by_status m m.status) (row_skips high m m.status none stays far)

-- ---- in a world

-- of what was sent since a number
abbrev pub AllLettersSkipNumber : ℕ → ℕ → World → Type 0
AllLettersSkipNumber high after w = (k : ℕ) (l : Letter) → after < k → letter_at w.letters k ≡ Some l → SkipsLetter high l

tick_either : (w : World) (place k : ℕ) (l : Letter) → (let e = event_at place Act.Tick in letter_at (happens w e).letters k ≡ Some l
    → (letter_at w.letters k ≡ Some l) ⊎ ((is_stopped w (acting_name w e) ≡ false) × ((j : ℕ) × (slice_get (step (w.nodes (acting_name w e)) does.Tick).letters j ≡ Some l))))
unfolding happens world_with_record world_with_step
tick_either w place k l there =
    let e = event_at place Act.Tick in
    split_on_bool (is_stopped w (acting_name w e)) (λ t. inl (rw t at there)) (λ f. either
    (letter_at_of_appended_letters w.letters (step (w.nodes (acting_name w e)) does.Tick).letters k l (rw f at there))
    (λ old. inl old)
    (λ new. inr (f, new)))

-- who ticks has no open ballot, and only one leads
tick_letters : (rules : Rules) (r : Repair) (w : World) (name high : ℕ) → WorldKeepsLawsAndCalm rules r w → high < r.high → is_stopped w name ≡ false
    → All (SkipsLetter high) (step (w.nodes name) does.Tick).letters
tick_letters rules r w name high h low goes = split_on_bool (has_departed m.status)
    (λ t. subst (All (SkipsLetter high)) (sym (departed_node_ticks_still m t).letters) (All-nil (SkipsLetter high)))
    (λ f. split_on_bool (name == r.by)
    (λ t. let same = eqb-true name r.by t in
    let l = h.calm.leads in
    subst (λ i. All (SkipsLetter high) (step (w.nodes i) does.Tick).letters) (sym same) (tick_skips high (w.nodes r.by) l.rest.no_ballot (λ u. l.rest.stays) (λ u. omega arith)))
    (λ g. let own : (m.core.who == r.by) ≡ false = ap (λ i. i == r.by) (h.calm.who name) ∙ g in
    split_on_bool (has r.members name)
    (λ there. let x = h.calm.follows name there g in
    tick_skips high m x.rest.no_ballot (λ u. x.rest.stays) (λ u. absurd (other_name_is_not_sequencer m r.by (ap (λ (v : Stamp). v.by) x.view_ ∙ h.calm.own) own u)))
    (λ none. either (h.calm.apart name none goes f)
    (λ x. tick_skips high m (ap is_unfinished_ballot x.no_ballot) (λ u. x.stays)
    (λ u. absurd (let is = acting_member_promised_its_view m (sequencer_acts_by_own_view m u).0 in other_name_is_not_sequencer m r.by (ap (λ (v : Stamp). v.by) (sym is.1 ∙ x.promised is.0) ∙ h.calm.own) own u)))
    (λ x. tick_skips high m x.no_ballot (λ u. absurd (leads_not_left r m x u)) (λ u. absurd (leads_not_left r m x u))))))
  where
    m : Node
    m = w.nodes name

-- what the ticks of a round leave of a member that has less
pub record MemberWaitsForNumber (rules : Rules) (r : Repair) (i after high : ℕ) (u : World) : Type 0 where
  pub fine : WorldKeepsLawsAndCalm rules r u
  pub stored : top (u.nodes i) ≡ high
  pub skips : AllLettersSkipNumber high after u

tick_cause : (u : World) (name high : ℕ) (c : Cause) → IsCause u name Act.Tick c → CauseSkipsNumber high c
tick_cause u name high (hears p) is = absurd (let x = is.there in cc)
tick_cause u name high _ is = tt

tick_waits : (rules : Rules) (r : Repair) (i after high : ℕ) (u : World) (place : ℕ) → has r.members i ≡ true → (i == r.by) ≡ false → high < r.high
    → MemberWaitsForNumber rules r i after high u → MemberWaitsForNumber rules r i after high (happens u (event_at place Act.Tick))
tick_waits rules r i after high u place there other low h =
    let e = event_at place Act.Tick in
    record {
      fine = laws_and_calm_stay rules r u e (our_ticks place) h.fine;
      stored = skipped_cause_keeps_top r u e i (our_ticks place) h.fine.calm there other (tick_cause u _ (top (u.nodes i))) ∙ h.stored;
      skips = λ k l late at. either (tick_either u place k l at)
          (λ old. h.skips k l late old)
          (λ new. item_of_index_has_property (SkipsLetter high) _ new.1.0 l (tick_letters rules r u (acting_name u e) high h.fine low new.0) new.1.1);
    }

pub member_waits_after_ticks : (rules : Rules) (r : Repair) (i : ℕ) (w : World) → WorldKeepsLawsAndCalm rules r w → has r.members i ≡ true → (i == r.by) ≡ false
    → top (w.nodes i) < r.high → MemberWaitsForNumber rules r i (length w.letters) (top (w.nodes i)) (world_after_events w (ticks_of_places w))
member_waits_after_ticks rules r i w h there other low =
    property_stays_through_acts (MemberWaitsForNumber rules r i (length w.letters) (top (w.nodes i))) Act.Tick
    (λ p u k. tick_waits rules r i (length w.letters) (top (w.nodes i)) u p there other low k) (running_places w) w
    (record { fine = h; stored = refl; skips = λ k l late at. absurd (let within = letter_number_le_length w.letters k l at in omega arith) })
