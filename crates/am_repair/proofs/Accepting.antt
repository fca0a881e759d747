-- The last two rounds: the sequencer accepts what all have reported, and all learn of it.
use Rattle.am_repair.proofs.RepairWords.{◌≡◌, inl, inr, ℕ, ◌+◌, ◌≤◌, ◌==◌, not, true, false, List, length, Option, Some, None, refl, sym, ap, ◌∙◌, subst, arith}
use Rattle.am_repair.proofs.RepairWords.{length-append, All, nat_tests, All-weaker, Data, Image, Outcome, Rules, place_of_name, has, names_of, counting_names_at, Event}
use Rattle.am_repair.proofs.RepairWords.{OwnSend, Node, top, image_of_node, view, acts_in_its_view, is_sequencer, has_room, waiting_send_of, push_entry, Plan, finish, step, row, would_emit_send}
use Rattle.am_repair.proofs.RepairWords.{emit_waiting_send, tick_row, with_result_told_again, tick_outcome_of_waiting_send, event_at, running_places, World, happens, split_on_bool, both_of_and, node_of_either_plan, image_of_pushed_entry, plain_entry_keeps_image_view}
use Rattle.am_repair.proofs.RepairWords.{IsAtRest, HasReported, HasReports, Repair, LeadsCalmly, IsOurs, our_ticks, Act}
use Rattle.am_base.specs.declared.event.NodeEvent.TheVariants as does
use Rattle.am_repair.proofs.FirstWave.{ReachesHighNumber, SequencerKnowsStored, first_wave_reports, MemberAcceptsHigh, first_wave_accepts}
use Rattle.am_repair.proofs.Rounds.{property_stays_through_wave, world_after_ticks, world_after_waves, StaysThroughSchedule, stored_entries_stay_in_schedule, property_stays_through_later_waves, property_stays_through_ticks}
use Rattle.am_repair.proofs.Ends.{fronts_rise}
use Rattle.am_repair.proofs.RepairLists.{log_grows_by_push, counted_at_in_grown_log}
use Rattle.am_repair.proofs.Ticks.{emitted_plan_leads, tick_row_of_acting_node, tick_acting_of_sequencer, going_of_node_that_stays}
use Rattle.am_repair.proofs.Schedules.{ActBringsProperty, acts_bring_property}
use Rattle.am_repair.proofs.Fine.{WorldKeepsLawsAndCalm, laws_and_calm_stay, world_grows_by_own_event, member_of_repair_runs_now, tick_of_running_name_steps}
use Rattle.am_repair.proofs.Ticking.{running_name_is_in_running, TickAcceptsAtLeast, node_after_step_of_event, ticks_of_round_poll, ticks_of_round_report}
use Rattle.am_repair.proofs.ThirdWave.{MemberHasStored}

-- ---- the sequencer's tick

reports_pushed : (m : Node) (high req : ℕ) (body : List ℕ) → HasReports m high → HasReports (push_entry m (Data m.core.who req body)) high
reports_pushed m high req body h =
    let e = Data m.core.who req body in
    let stored = h.stored in
    let more : top (push_entry m e) ≡ top m + 1 = simp length-append (omega arith) in
    let number : (image_of_node (push_entry m e)).view_number ≡ (image_of_node m).view_number = ap (λ (i : Image). i.view_number) (image_of_pushed_entry m e)
    ∙ (plain_entry_keeps_image_view (image_of_node m) (top m + 1) e refl).number in
    record {
      stored = omega arith;
      view = omega arith;
      each = λ k above within low. subst (λ set. All (HasReported m high) (names_of set))
          (sym (counted_at_in_grown_log m.core.log (push_entry m e).core.log k (log_grows_by_push m.core.log e) (omega arith))) (h.each k above within (omega arith));
    }

emit_reports : (m : Node) (w : Option OwnSend) (o : Outcome) (high : ℕ) → HasReports m high → HasReports (emit_waiting_send m w o).node high
emit_reports m None o high h = h
emit_reports m (Some s) o high h =
    node_of_either_plan (λ n. HasReports n high) (not (would_emit_send m (Some s))) _ _ (λ t. h)
    (λ f. node_of_either_plan (λ n. HasReports n high) (not (is_sequencer m)) _ _ (λ t. node_of_either_plan (λ n. HasReports n high) _ _ _ (λ u. h) (λ u. h))
    (λ g. node_of_either_plan (λ n. HasReports n high) (has_room m) _ _ (λ t. reports_pushed m high s.req s.body h) (λ t. h)))

accepts_done : (m : Node) (p : Plan) (high : ℕ) → p.departs ≡ false → is_sequencer p.node ≡ true → HasReports p.node high
    → high ≤ (finish m p).node.core.acc
unfolding finish
accepts_done m p high stays leads h = rw stays (fronts_rise p.node high leads h)

tick_accepts : (m : Node) (high : ℕ) → is_sequencer m ≡ true → IsAtRest m → HasReports m high → high ≤ (step m does.Tick).node.core.acc
unfolding step row
tick_accepts m high leads rest h =
    let both = both_of_and (acts_in_its_view m) ((view m).by == m.core.who) leads in
    let o = tick_outcome_of_waiting_send m (waiting_send_of m) in
    let p = with_result_told_again (record (emit_waiting_send m (waiting_send_of m) o) { polls = true }) in
    let e = emitted_plan_leads m (waiting_send_of m) o leads in
    let is : tick_row m ≡ p = tick_row_of_acting_node m both.0 rest ∙ tick_acting_of_sequencer m both.0 both.1 ∙ going_of_node_that_stays m p rest.stays in
    subst (λ (q : Plan). high ≤ (finish m q).node.core.acc) (sym is) (accepts_done m p high e.stays e.leads (emit_reports m (waiting_send_of m) o high h))

-- ---- all have reported

abbrev pub AllMembersAreKnown : Repair → World → Type 0
AllMembersAreKnown r w = (i : ℕ) → has r.members i ≡ true → (i == r.by) ≡ false → r.high ≤ ((w.nodes r.by).reports i).stored

leads_reports : (r : Repair) (q : Node) → LeadsCalmly r q → q.core.who ≡ r.by
    → ((i : ℕ) → has r.members i ≡ true → (i == r.by) ≡ false → r.high ≤ (q.reports i).stored) → HasReports q r.high
leads_reports r q l who known =
    record {
      stored = l.high;
      view = omega arith;
      each = λ k above within low. All-weaker (λ name. has r.members name ≡ true) (HasReported q r.high) (λ name there. split_on_bool (name == r.by)
          (λ t. let same : name ≡ r.by = grind (arith, nat_tests) in inl (same ∙ sym who))
          (λ f. inr (known name there f))) (names_of (counting_names_at q.core.log k)) (l.counted k above within (omega arith));
    }

known_bound : (rules : Rules) (r : Repair) → TickAcceptsAtLeast rules r (AllMembersAreKnown r) r.high
known_bound rules r = record {
  keeps = λ w e is h x i there other. (let a = (world_grows_by_own_event rules r w e is h).kept i there in let b = x i there other in omega arith);
  gives = λ w h x.
      (let e = event_at (place_of_name r.by) Act.Tick in
      let q = w.nodes r.by in
      let is = tick_of_running_name_steps w r.by (member_of_repair_runs_now rules r w r.by h h.calm.listed) in
      let node = node_after_step_of_event w e r.by (step q does.Tick) is in
      let accepts = tick_accepts q r.high h.calm.leads.leads h.calm.leads.rest (leads_reports r q h.calm.leads (h.calm.who r.by) x) in
      let same = ap (λ (n : Node). n.core.acc) node in
      omega arith);
}

-- a number that the schedule's events raise
reaches_stable : (rules : Rules) (r : Repair) (number : World → ℕ)
    → ((w : World) (e : Event) → IsOurs r e → WorldKeepsLawsAndCalm rules r w → number w ≤ number (happens w e)) → StaysThroughSchedule r (ReachesHighNumber rules r number)
reaches_stable rules r number up = record {
  keeps = λ w e is h. (let a = up w e is h.fine in let b = h.high in record { fine = laws_and_calm_stay rules r w e is h.fine; high = omega arith });
}

-- ---- the round in which all report

knows_stable : (rules : Rules) (r : Repair) (i : ℕ) → has r.members i ≡ true → StaysThroughSchedule r (SequencerKnowsStored rules r i)
knows_stable rules r i there = reaches_stable rules r (λ u. ((u.nodes r.by).reports i).stored) (λ w e is h. (world_grows_by_own_event rules r w e is h).kept i there)

pub round_makes_storage_known : (rules : Rules) (r : Repair) (i : ℕ) (w : World) → r.sent ≤ length w.letters → has r.members i ≡ true → (i == r.by) ≡ false
    → MemberHasStored rules r i r.high w → SequencerKnowsStored rules r i (world_after_waves w)
round_makes_storage_known rules r i w low there other h =
    let a = world_after_ticks w in
    let report = ticks_of_round_report rules r i w h.fine there other h.stored_ in
    let fine = (property_stays_through_ticks r (MemberHasStored rules r i r.high) (stored_entries_stay_in_schedule rules r i r.high there) w h).fine in
    property_stays_through_later_waves r (SequencerKnowsStored rules r i) (knows_stable rules r i there) w low (first_wave_reports rules r i (length w.letters) a low fine report there other)

-- ---- the round in which all accept

accepts_stable : (rules : Rules) (r : Repair) (i : ℕ) → has r.members i ≡ true → StaysThroughSchedule r (MemberAcceptsHigh rules r i)
accepts_stable rules r i there = reaches_stable rules r (λ u. (u.nodes i).core.acc) (λ w e is h. (world_grows_by_own_event rules r w e is h).acc i there)

pub round_accepts_what_is_known : (rules : Rules) (r : Repair) (i : ℕ) (w : World) → r.sent ≤ length w.letters → has r.members i ≡ true → (i == r.by) ≡ false
    → MemberHasStored rules r i r.high w → AllMembersAreKnown r w → MemberAcceptsHigh rules r i (world_after_waves w)
round_accepts_what_is_known rules r i w low there other h known =
    let a = world_after_ticks w in
    let poll = ticks_of_round_poll rules r (AllMembersAreKnown r) i r.high w (known_bound rules r) h.fine known there other in
    let kept = property_stays_through_ticks r (MemberHasStored rules r i r.high) (stored_entries_stay_in_schedule rules r i r.high there) w h in
    property_stays_through_later_waves r (MemberAcceptsHigh rules r i) (accepts_stable rules r i there) w low
    (first_wave_accepts rules r i (length w.letters) a low kept.fine poll there other kept.stored_)

-- and the sequencer itself
leader_ticks : (rules : Rules) (r : Repair) (w : World) → WorldKeepsLawsAndCalm rules r w → AllMembersAreKnown r w → MemberAcceptsHigh rules r r.by (world_after_ticks w)
leader_ticks rules r w h known =
    let z = acts_bring_property P Q Act.Tick (place_of_name r.by) hits (running_places w) w (running_name_is_in_running w r.by (member_of_repair_runs_now rules r w r.by h h.calm.listed)) (h, known) in
    record { fine = z.0.0; high = z.1 }
  where
    P : World → Type 0
    P u = WorldKeepsLawsAndCalm rules r u × AllMembersAreKnown r u

    Q : World → Type 0
    Q u = r.high ≤ (u.nodes r.by).core.acc

    hits : ActBringsProperty P Q Act.Tick (place_of_name r.by)
    hits = record {
      keeps = λ p u k. (
        laws_and_calm_stay rules r u (event_at p Act.Tick) (our_ticks p) k.0,
        (known_bound rules r).keeps u (event_at p Act.Tick)
            (our_ticks p) k.0 k.1,
      );
      hits = λ u k. (known_bound rules r).gives u k.0 k.1;
      stays = λ p u k q. (let a = (world_grows_by_own_event rules r u (event_at p Act.Tick) (our_ticks p) k.0).acc r.by k.0.calm.listed in omega arith);
    }

pub sequencer_accepts_after_waves : (rules : Rules) (r : Repair) (w : World) → r.sent ≤ length w.letters → WorldKeepsLawsAndCalm rules r w → AllMembersAreKnown r w
    → MemberAcceptsHigh rules r r.by (world_after_waves w)
sequencer_accepts_after_waves rules r w low h known =
    let s = accepts_stable rules r r.by h.calm.listed in
    let a = leader_ticks rules r w h known in
    property_stays_through_later_waves r (MemberAcceptsHigh rules r r.by) s w low (property_stays_through_wave r (MemberAcceptsHigh rules r r.by) s (length w.letters) low (world_after_ticks w) a)
