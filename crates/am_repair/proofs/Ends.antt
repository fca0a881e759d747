-- The end of a step, for who follows and for who leads.
use Rattle.am_repair.proofs.RepairWords.{core_of_refresh_at_end, not-true, stamp_eq_gives_equality, ◌≡◌, inl, inr, either, ℕ, ◌<◌, ◌≤◌, ◌==◌, not, max, min, nat_le, true, false, List, []}
use Rattle.am_repair.proofs.RepairWords.{◌∷◌, refl, sym, ap, ◌∙◌, subst, arith, cases_lt, nat_tests, All-weaker, Stamp, Report, Outcome, size, names_of, counting_names_at}
use Rattle.am_repair.proofs.RepairWords.{is_held, accept_front, Packet, letter_to, CoreState, raise_accepted_to_told, pass_over_below_join, raise_own_report, tell_accept_front, advance_with_reports, trim_to_least_taken, Node, top}
use Rattle.am_repair.proofs.RepairWords.{image_of_node, view, acts_in_its_view, is_member, is_sequencer, own_report_of, refresh_as_sequencer, refresh, refresh_at_end, plan_with_letter, finish, member_hears_other}
use Rattle.am_repair.proofs.RepairWords.{hears_packet_of_its_view, hears_packet_of_sequencer, AllSatisfied, split_on_bool, both_of_and, accept_front_is_greatest, is_satisfied_above_view, is_satisfied_below_view, settle_changes_only_sends}
use Rattle.am_repair.proofs.RepairWords.{end_refresh_rests_with_list, is_sequencer_after_rest, HasReported, HasReports, FrontsRise}
use Rattle.am_node_defs.specs.Reports as reports
use Rattle.am_repair.proofs.Sets.{count_by_all_is_size}

-- ---- who follows

-- who hears its sequencer isn't one
pub hearer_of_sequencer_leads_not : (m : Node) (s : ℕ) (v : Stamp) → hears_packet_of_sequencer m s v ≡ true → is_sequencer m ≡ false
hearer_of_sequencer_leads_not m s v heard =
    let a = both_of_and (hears_packet_of_its_view m s v) (v.by == s) heard in
    let b = both_of_and (member_hears_other m s) _ a.0 in
    let acting = both_of_and (acts_in_its_view m) _ b.1 in
    let same = stamp_eq_gives_equality v (view m) acting.1 in
    let other : (s == m.core.who) ≡ false = not-true _ (both_of_and (not (s == m.core.who)) (is_member m.status) b.0).0 in
    let by : v.by ≡ s = grind (arith, nat_tests) in
    let own : ((view m).by == m.core.who) ≡ false = ap (λ (x : Stamp). x.by == m.core.who) (sym same) ∙ ap (λ k. k == m.core.who) by ∙ other in
    rw (acting.0, own) refl

-- ---- the end of a step

end_reports : (m : Node) → (refresh_at_end m).reports ≡ (refresh m).reports
unfolding refresh_at_end
end_reports m = ap (λ (n : Node). n.reports) (settle_changes_only_sends (refresh m))

pub follower_accepts : (m : Node) → is_sequencer m ≡ false → (refresh_at_end m).core.acc ≡ max m.core.acc (min m.core.told (top m))
unfolding refresh raise_accepted_to_told pass_over_below_join
follower_accepts m f = ap (λ (c : CoreState). c.acc) (core_of_refresh_at_end m) ∙ rw f refl

-- one letter of who follows
pub telling_step_sends_one_letter : (m p : Node) (o : Outcome) (to : List ℕ) (packet : Node → Packet) → is_sequencer p ≡ false → (size to == 0) ≡ false
    → (finish m (plan_with_letter p o to packet)).letters ≡ letter_to to (packet (refresh_at_end p)) ∷ []
unfolding finish
telling_step_sends_one_letter m p o to packet f some =
    let n = refresh_at_end p in
    let g : is_sequencer n ≡ false = is_sequencer_after_rest (end_refresh_rests_with_list p).rests ∙ f in
    rw (g, some) refl

-- ---- reports

pub record ReportIsNoLess (old new : Report) : Type 0 where
  pub stored : old.stored ≤ new.stored
  pub taken : old.taken ≤ new.taken

pub after_report_is_no_less : (kept : ℕ → Report) (who : ℕ) (r : Report) (name : ℕ) → ReportIsNoLess (kept name) (reports.reports_after_report kept who r name)
after_report_is_no_less kept who r name = split_on_bool (name == who)
    (λ t. let e : name ≡ who = grind (arith, nat_tests) in rw (t, e) (record { stored = omega arith; taken = omega arith }))
    (λ f. rw f (record { stored = omega arith; taken = omega arith }))

pub reports_after_lead_no_less : (m : Node) (name : ℕ) → ReportIsNoLess (m.reports name) ((refresh_as_sequencer m).reports name)
unfolding refresh_as_sequencer raise_own_report tell_accept_front advance_with_reports trim_to_least_taken raise_accepted_to_told pass_over_below_join
reports_after_lead_no_less m name =
    let first = reports.reports_after_report m.reports m.core.who (own_report_of m) in
    let a = after_report_is_no_less m.reports m.core.who (own_report_of m) name in
    let b = after_report_is_no_less first m.core.who (record { stored = top m; taken = (refresh_as_sequencer m).core.taken }) name in
    record { stored = omega arith; taken = omega arith }

-- no report is lowered
pub stored_reports_after_refresh : (m : Node) (name : ℕ) → (m.reports name).stored ≤ ((refresh m).reports name).stored
unfolding refresh
stored_reports_after_refresh m name = split_on_bool (is_sequencer m) (λ t. rw t (reports_after_lead_no_less m name).stored) (λ f. rw f (omega arith))

pub stored_reports_after_end : (m : Node) (name : ℕ) → (m.reports name).stored ≤ ((refresh_at_end m).reports name).stored
stored_reports_after_end m name = subst (λ (f : ℕ → Report). (m.reports name).stored ≤ (f name).stored) (sym (end_reports m)) (stored_reports_after_refresh m name)

-- ---- how far the sequencer accepts

own_reports : Node → ℕ → Report
own_reports m = reports.reports_after_report m.reports m.core.who (own_report_of m)

lead_front : (m : Node) → (refresh_as_sequencer m).core.acc ≡ max m.core.acc (min (accept_front (own_reports m) m.core.log m.core.acc) (top m))
unfolding refresh_as_sequencer raise_own_report tell_accept_front advance_with_reports trim_to_least_taken raise_accepted_to_told pass_over_below_join own_reports
lead_front m = refl

has_stored : (m : Node) (high number name : ℕ) → high ≤ top m → number ≤ high → HasReported m high name → nat_le number (own_reports m name).stored ≡ true
unfolding own_reports
has_stored m high number name stored within h = either h
    (λ own. let t : (name == m.core.who) ≡ true = grind (arith, nat_tests) in rw t
    (let z : number ≤ max (m.reports name).stored (top m) = omega arith in grind (arith, nat_tests)))
    (λ told_. let up = (after_report_is_no_less m.reports m.core.who (own_report_of m) name).stored in grind (arith, nat_tests))

all_hold : (m : Node) (high number : ℕ) → HasReports m high → m.core.acc < number → number ≤ high → (image_of_node m).view_number ≤ number
    → is_held (own_reports m) m.core.log number ≡ true
all_hold m high number h low within view =
    let set = counting_names_at m.core.log number in
    let count = count_by_all_is_size (λ name. nat_le number (own_reports m name).stored) set 0
    (All-weaker (HasReported m high) (λ name. nat_le number (own_reports m name).stored ≡ true) (λ name x. has_stored m high number name h.stored within x)
    (names_of set) (h.each number low within view)) in
    grind (arith, nat_tests)

all_satisfied : (m : Node) (high : ℕ) → HasReports m high → AllSatisfied (own_reports m) m.core.log m.core.acc high
all_satisfied m high h n low within = either (elim (cases_lt n (image_of_node m).view_number) [ inl a ↦ inr a | inr b ↦ inl b ])
    (λ above. is_satisfied_above_view (own_reports m) m.core.log high n above ∙ all_hold m high n h low within above)
    (λ below. let reached = h.view in
    let v : nat_le (image_of_node m).view_number high ≡ true = grind (arith, nat_tests) in
    let held = all_hold m high (image_of_node m).view_number h (omega arith) reached (omega arith) in
    is_satisfied_below_view (own_reports m) m.core.log high n below ∙ rw (v, held) refl)

pub fronts_rise : FrontsRise
unfolding refresh
fronts_rise m high leads h =
    let front = accept_front_is_greatest (own_reports m) m.core.log m.core.acc in
    let stored = h.stored in
    let is : (refresh_at_end m).core.acc ≡ max m.core.acc (min (accept_front (own_reports m) m.core.log m.core.acc) (top m)) =
    ap (λ (c : CoreState). c.acc) (core_of_refresh_at_end m) ∙ rw leads (lead_front m) in
    elim (cases_lt m.core.acc high) [
      | inl above ↦ (let reached = front.greatest high (omega arith) stored (all_satisfied m high h) in omega arith)
      | inr within ↦ omega arith
    ]
