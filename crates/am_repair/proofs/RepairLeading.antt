-- What the sequencer's changes keep while a schedule runs.
use Rattle.am_repair.proofs.RepairWords.{with_send, by_ack, by_nack, by_request, by_spread, by_leave_ask, base_after_is_within, stamp_eq_of_itself, stamp_eq_gives_equality, has_member_is_in_row, inl}
use Rattle.am_repair.proofs.RepairWords.{inr, ◌-◌, ◌≡◌, ℕ, ◌+◌, ◌≤◌, ◌==◌, true, false, Some, refl, sym, ap, ◌∙◌, subst, arith, length-append, length, All}
use Rattle.am_repair.proofs.RepairWords.{cases_lt, Join, nat_tests, Stamp, Image, Report, Entry, Outcome, has, names_of, stamps_are_equal, Log, top_of_log, image_of_log}
use Rattle.am_repair.proofs.RepairWords.{members_of_image, log_members_at, log_entry_at, fits, log_image_at, counting_names_at, CoreState, raise_accepted_to_told, pass_over_below_join, members_since_accepted}
use Rattle.am_repair.proofs.RepairWords.{image_at_top_is_told, UnusedPlacesHaveNoLife, unused_places_after_entries, member_has_life_of_row, least_taken_of_names, raise_own_report, tell_accept_front, advance_with_reports, trim_to_least_taken, Node, Ballot, top, image_of_node}
use Rattle.am_repair.proofs.RepairWords.{view, members, acts_in_its_view, push_entry, node_with_report, refresh_as_sequencer, refresh, settle_waiting_send, node_with_joiner_reports, World, split_on_bool}
use Rattle.am_repair.proofs.RepairWords.{Cause, CauseHasReport, HasOpenBallot, BeginsBy, by_reset, BallotIsLookedAt, with_more, without_one, as_it_is}
use Rattle.am_repair.proofs.RepairWords.{invited, overtaken, told_result, IsNumberedBy, asked_send, own_send, asked_join, asked_leave, Change, refreshes, settles}
use Rattle.am_repair.proofs.RepairWords.{takes_report, admits, numbers, keeps_body, notes, stores, begins_list, departs, promises, opens, looks, fetches}
use Rattle.am_repair.proofs.RepairWords.{stores_view, queues, collects, takes, asks_to_join, asks_to_leave, closes, settle_changes_only_sends, image_of_pushed_entry, view_of_pushed_plain_entry}
use Rattle.am_repair.proofs.RepairWords.{is_sequencer_after_pushed_entry, JoinsAreNextLives, least_taken_le_own_taken, NodeTrimFronts, told_image_is_used, plain_entry_keeps_image_view, eqb-true, Repair, LeadsCalmly, ReportIs, is_past}
use Rattle.am_repair.proofs.RepairLists.{LogGrows, log_grows_through_both, log_grows_by_push, counted_at_in_grown_log, IsJoinOrData, is_data, is_join, join_or_data_not_view, member_stays_without_view, past_name_stays_past}
use Rattle.am_repair.proofs.RepairLists.{past_name_has_left}
use Rattle.am_repair.proofs.Nodes.{CalmCause, acting_member_promised_its_view, sequencer_acts_by_own_view, finished_ballot_is_not_open, NodesStandAlike, nodes_stand_alike_by_parts, refreshed_node_stands_alike, settled_node_stands_alike, views_of_alike_nodes, is_sequencer_of_alike_nodes, alike_node_is_at_rest}
use Rattle.am_repair.proofs.Ends.{hearer_of_sequencer_leads_not, stored_reports_after_refresh, after_report_is_no_less}

-- ---- what is kept

-- it trims no more than each other member has taken, and knows no more of it
pub record TrustsReportsTaken (r : Repair) (taken : ℕ → ℕ) (m : Node) : Type 0 where
  pub base : (name : ℕ) → has r.members name ≡ true → (name == r.by) ≡ false → m.core.base ≤ taken name
  pub reported : (name : ℕ) → has r.members name ≡ true → (name == r.by) ≡ false → (m.reports name).taken ≤ taken name

-- a sequencer that was another node before
pub record SequencerGoesOn (r : Repair) (taken : ℕ → ℕ) (q m : Node) : Type 0 where
  pub own : m.core.who ≡ r.by
  pub leads : LeadsCalmly r m
  pub trusts : TrustsReportsTaken r taken m
  pub grows : LogGrows q.core.log m.core.log
  pub up : q.core.taken ≤ m.core.taken
  pub acc : q.core.acc ≤ m.core.acc
  -- no report of a member is lowered
  pub kept : (name : ℕ) → has r.members name ≡ true → (q.reports name).stored ≤ (m.reports name).stored

-- ---- the same list

pub alike_node_leads_repair : (r : Repair) (m n : Node) → NodesStandAlike m n → LeadsCalmly r m → LeadsCalmly r n
alike_node_leads_repair r m n a h =
    let same = ap (λ (l : Log). top_of_log l) a.log in
    let high = h.high in
    record {
      leads = is_sequencer_of_alike_nodes a ∙ h.leads;
      view_ = views_of_alike_nodes a ∙ h.view_;
      number = ap (λ (l : Log). (image_of_log l).view_number) a.log ∙ h.number;
      rest = alike_node_is_at_rest a h.rest;
      high = omega arith;
      reached = h.reached;
      fit = subst (λ (l : Log). (k : ℕ) (e : Entry) → k ≤ r.high → log_entry_at l k ≡ Some e → fits (log_image_at l (k - 1)) e ≡ true) (sym a.log) h.fit;
      members_ = subst (λ (l : Log). (name k : ℕ) → has r.members name ≡ true → r.high ≤ k → k ≤ top_of_log l → has (log_members_at l k) name ≡ true)
          (sym a.log) h.members_;
      gone = subst (λ (l : Log). (name : ℕ) → r.gone name ≡ true → is_past (image_of_log l) name ≡ true) (sym a.log) h.gone;
      counted = λ k above within view. subst (λ (l : Log). All (λ name. has r.members name ≡ true) (names_of (counting_names_at l k))) (sym a.log)
          (h.counted k (omega arith) within view);
    }

goes_as : (r : Repair) (taken : ℕ → ℕ) (q m n : Node) → NodesStandAlike m n → ((name : ℕ) → has r.members name ≡ true
    → (m.reports name).stored ≤ (n.reports name).stored) → TrustsReportsTaken r taken n → SequencerGoesOn r taken q m → SequencerGoesOn r taken q n
goes_as r taken q m n a kept t h =
    let up = h.up in
    let acc = h.acc in
    record {
      own = a.who ∙ h.own;
      leads = alike_node_leads_repair r m n a h.leads;
      trusts = t;
      grows = subst (λ (l : Log). LogGrows q.core.log l) (sym a.log) h.grows;
      up = omega arith;
      acc = omega arith;
      kept = λ name there. (let x = h.kept name there in let y = kept name there in omega arith);
    }

-- members are members now
pub repair_member_is_member_now : (r : Repair) (m : Node) (name : ℕ) → LeadsCalmly r m → has r.members name ≡ true → has (members m) name ≡ true
repair_member_is_member_now r m name h there = ap (λ (i : Image). has (members_of_image i) name) (sym (image_at_top_is_told m.core.log))
    ∙ h.members_ name (top m) there h.high (omega arith)

-- ---- a refresh

-- what a member has reported to have taken bounds what is let go
pub least_taken_le_each_report : (m : Node) (kept : ℕ → Report) (c : CoreState) (name to : ℕ) → NodeTrimFronts m → c.log ≡ m.core.log → c.log.start ≤ c.acc
    → c.acc ≤ top_of_log c.log → has (members m) name ≡ true → least_taken_of_names kept (members_since_accepted c) ≡ Some to → to ≤ (kept name).taken
least_taken_le_each_report m kept c name to f log low high member least =
    let d = record c { who = name; taken = (kept name).taken } in
    let used = subst (λ (l : Log). UnusedPlacesHaveNoLife l.image) (sym log) f.used in
    let joins = subst (λ (l : Log). JoinsAreNextLives l.image (l.start + 1) l.entries) (sym log) f.joins in
    let here : has (members_of_image (image_of_log c.log)) name ≡ true = ap (λ (l : Log). has (members_of_image (image_of_log l)) name) log ∙ member in
    let at : has (log_members_at c.log (top_of_log c.log)) name ≡ true = ap (λ i. has (members_of_image i) name) (image_at_top_is_told c.log) ∙ here in
    let told_is = unused_places_after_entries c.log.image (c.log.start + 1) c.log.entries (omega arith) used in
    least_taken_le_own_taken kept d (top_of_log c.log) to used joins low high (omega arith) at (member_has_life_of_row (image_of_log c.log) name told_is here) (omega arith) least

-- it raises no other's report
pub lead_keeps_reports_of_others : (m : Node) (name : ℕ) → (name == m.core.who) ≡ false → (refresh_as_sequencer m).reports name ≡ m.reports name
unfolding refresh_as_sequencer raise_own_report tell_accept_front advance_with_reports trim_to_least_taken raise_accepted_to_told pass_over_below_join
lead_keeps_reports_of_others m name other = rw other refl

lead_base : (m : Node) (name most : ℕ) → NodeTrimFronts m → has (members m) name ≡ true → (name == m.core.who) ≡ false → m.core.base ≤ most
    → (m.reports name).taken ≤ most → (refresh_as_sequencer m).core.base ≤ most
unfolding refresh_as_sequencer raise_own_report tell_accept_front advance_with_reports trim_to_least_taken raise_accepted_to_told pass_over_below_join
lead_base m name most f member other low reported =
    let c = (refresh_as_sequencer m).core in
    let base = f.base in
    base_after_is_within most m.core.base _ low (λ to is.
    (let a = least_taken_le_each_report m (refresh_as_sequencer m).reports (record c { base = m.core.base }) name to f refl (omega arith) (omega arith) member is in
    let b = ap (λ (r : Report). r.taken) (lead_keeps_reports_of_others m name other) in
    omega arith))

trusts_lead : (r : Repair) (taken : ℕ → ℕ) (m : Node) → m.core.who ≡ r.by → LeadsCalmly r m → NodeTrimFronts m → TrustsReportsTaken r taken m → TrustsReportsTaken r taken (refresh_as_sequencer m)
trusts_lead r taken m own h f t = record {
  base = λ name there other. lead_base m name (taken name) f (repair_member_is_member_now r m name h there) (not_own name other) (t.base name there other)
      (t.reported name there other);
  reported = λ name there other. subst (λ (x : Report). x.taken ≤ taken name) (sym (lead_keeps_reports_of_others m name (not_own name other)))
      (t.reported name there other);
}
  where
    not_own : (name : ℕ) → (name == r.by) ≡ false → (name == m.core.who) ≡ false
    not_own name other = ap (λ k. name == k) own ∙ other

pub trusts_reports_after_refresh : (r : Repair) (taken : ℕ → ℕ) (m : Node) → m.core.who ≡ r.by → LeadsCalmly r m → NodeTrimFronts m → TrustsReportsTaken r taken m → TrustsReportsTaken r taken (refresh m)
unfolding refresh
trusts_reports_after_refresh r taken m own h f t = rw h.leads (trusts_lead r taken m own h f t)

trusts_settle : (r : Repair) (taken : ℕ → ℕ) (m : Node) → TrustsReportsTaken r taken m → TrustsReportsTaken r taken (settle_waiting_send m)
trusts_settle r taken m t = subst (TrustsReportsTaken r taken) (sym (settle_changes_only_sends m)) (record { base = t.base; reported = t.reported })

-- ---- reports

-- what a report of the schedule tells of a member
pub told_report_is_of_sender : (r : Repair) (w : World) (c : Cause) (s : ℕ) (v : Stamp) (report : Report) → CauseHasReport c s v report → CalmCause r w c
    → ReportIs r w s report
told_report_is_of_sender r w c s v report (with_send s_ v_ report_ req body (by_request s1 v1 report1 req1 body1)) h = h
told_report_is_of_sender r w c s v report (with_send s_ v_ report_ req body (by_spread s1 v1 report1 req1 body1)) h = h
told_report_is_of_sender r w c s v report (by_ack s_ v_ report_) h = h
told_report_is_of_sender r w c s v report (by_nack s_ v_ report_) h = h
told_report_is_of_sender r w c s v report (by_leave_ask s_ v_ report_) h = h.1

pub trusts_reports_with_report : (r : Repair) (taken : ℕ → ℕ) (m : Node) (s : ℕ) (report : Report) → (has r.members s ≡ true → report.taken ≤ taken s)
    → TrustsReportsTaken r taken m → TrustsReportsTaken r taken (node_with_report m s report)
trusts_reports_with_report r taken m s report low t = record {
  base = t.base;
  reported = λ name there other. split_on_bool (name == s)
      (λ same. let e : name ≡ s = grind (arith, nat_tests) in
      let b = low (subst (λ k. has r.members k ≡ true) e there) in
      let d = ap (λ k. taken k) e in
      let g = ap (λ k. (m.reports k).taken) e in
      rw same (omega arith))
      (λ differs. rw differs (t.reported name there other));
}

trusts_admitted : (r : Repair) (taken : ℕ → ℕ) (m : Node) (s : ℕ) → TrustsReportsTaken r taken m → TrustsReportsTaken r taken (node_with_joiner_reports m s)
trusts_admitted r taken m s t = record {
  base = t.base;
  reported = λ name there other. split_on_bool (name == s) (λ same. rw same (t.base name there other)) (λ differs. rw differs (t.reported name there other));
}

settled_stay : (m : Node) (name : ℕ) → (m.reports name).stored ≤ ((settle_waiting_send m).reports name).stored
settled_stay m name = subst (λ (x : Node). (m.reports name).stored ≤ (x.reports name).stored) (sym (settle_changes_only_sends m)) (omega arith)

-- a joiner is no member
member_joins : (image : Image) (name : ℕ) → length image.rows ≡ 16 → has (members_of_image image) name ≡ true → fits image (Join name) ≡ true → ⊥
unfolding fits
member_joins image name long member fit =
    let k = has_member_is_in_row image name long member in
    let z : ⊥ = grind (arith, nat_tests) in z

admitted_stay : (r : Repair) (m : Node) (s : ℕ) → LeadsCalmly r m → NodeTrimFronts m → fits (image_of_node m) (Join s) ≡ true → (name : ℕ) → has r.members name ≡ true
    → (m.reports name).stored ≤ ((node_with_joiner_reports m s).reports name).stored
admitted_stay r m s h f fit name there = split_on_bool (name == s)
    (λ t. absurd (
    let same : name ≡ s = grind (arith, nat_tests) in
    let used = told_image_is_used m f in
    member_joins (image_of_node m) s used.places (subst (λ i. has (members m) i ≡ true) same (repair_member_is_member_now r m name h there)) fit))
    (λ t. rw t (omega arith))

-- ---- an entry more

-- no Leave: who asks to leave has left
numbered_plain : (r : Repair) (w : World) (c : Cause) (m : Node) (e : Entry) → CalmCause r w c → LeadsCalmly r m → IsNumberedBy c m e → IsJoinOrData (image_of_node m) e
numbered_plain r w c m e h l (asked_send s v report req body by known left next) = is_data s req body
numbered_plain r w c m e h l (own_send s is last) = is_data m.core.who s.req s.body
numbered_plain r w c m e h l (asked_join s v is other fit) = is_join s fit
numbered_plain r w c m e h l (asked_leave s v report is other known stays) = absurd
    (let k = subst (CalmCause r w) is h in past_name_has_left (image_of_node m) s (l.gone s k.0) known stays)

-- what a list told up to a number it tells when it goes on
fit_on : (r : Repair) (a b : Log) → r.high ≤ top_of_log a → LogGrows a b → ((k : ℕ) (e : Entry) → k ≤ r.high → log_entry_at a k ≡ Some e
    → fits (log_image_at a (k - 1)) e ≡ true)
    → (k : ℕ) (e : Entry) → k ≤ r.high → log_entry_at b k ≡ Some e → fits (log_image_at b (k - 1)) e ≡ true
fit_on r a b high grows h k e low is = ap (λ (i : Image). fits i e) (grows.image (k - 1) (omega arith))
    ∙ h k e low (sym (grows.entry k (omega arith)) ∙ is)

leads_pushed_ : (r : Repair) (m : Node) (e : Entry) → NodeTrimFronts m → IsJoinOrData (image_of_node m) e → LeadsCalmly r m → LeadsCalmly r (push_entry m e)
leads_pushed_ r m e f joins h =
    let p = join_or_data_not_view (image_of_node m) e joins in
    let high = h.high in
    let more : top (push_entry m e) ≡ top m + 1 = simp length-append (omega arith) in
    let image = image_of_pushed_entry m e in
    let grows = log_grows_by_push m.core.log e in
    let used = told_image_is_used m f in
    record {
      leads = is_sequencer_after_pushed_entry m e p ∙ h.leads;
      view_ = view_of_pushed_plain_entry m e p ∙ h.view_;
      number = ap (λ (i : Image). i.view_number) image ∙ (plain_entry_keeps_image_view (image_of_node m) (top m + 1) e p).number ∙ h.number;
      rest = record { stays = h.rest.stays; no_ballot = h.rest.no_ballot };
      high = omega arith;
      reached = h.reached;
      fit = fit_on r m.core.log (push_entry m e).core.log high grows h.fit;
      members_ = λ name k there above within. elim (cases_lt k (top m + 1)) [
        | inl old ↦ ap (λ (i : Image). has (members_of_image i) name) (grows.image k (omega arith)) ∙ h.members_ name k there above (omega arith)
        | inr new ↦ (let last : k ≡ top (push_entry m e) = omega arith in
            ap (λ (i : Image). has (members_of_image i) name) (ap (log_image_at (push_entry m e).core.log) last ∙ image_at_top_is_told (push_entry m e).core.log ∙ image)
            ∙ member_stays_without_view (image_of_node m) (top m + 1) e name used.places joins (repair_member_is_member_now r m name h there))
      ];
      gone = λ name t. subst (λ (i : Image). is_past i name ≡ true) (sym image)
          (past_name_stays_past (image_of_node m) (top m + 1) e name used.places (omega arith) joins (h.gone name t));
      counted = λ k above within view. subst (λ set. All (λ name. has r.members name ≡ true) (names_of set))
          (sym (counted_at_in_grown_log m.core.log (push_entry m e).core.log k grows (omega arith))) (h.counted k above within view);
    }

goes_pushed : (r : Repair) (taken : ℕ → ℕ) (q m : Node) (e : Entry) → NodeTrimFronts m → IsJoinOrData (image_of_node m) e → SequencerGoesOn r taken q m
    → SequencerGoesOn r taken q (push_entry m e)
goes_pushed r taken q m e f joins h = assumption (
  leads_pushed_ r m e f joins h.leads,
  log_grows_through_both q.core.log m.core.log (push_entry m e).core.log h.grows (log_grows_by_push m.core.log e),
)

-- ---- each change

pub no_ballot_begins_in_calm : (r : Repair) (w : World) (c : Cause) (m : Node) → CalmCause r w c → BeginsBy m c → ⊥
no_ballot_begins_in_calm r w c m h (by_reset least resilience) = h
no_ballot_begins_in_calm r w c m h _ = h

pub balloting_node_has_open_ballot : (c : Cause) (m : Node) (b : Ballot) → BallotIsLookedAt c m b → (old : Ballot) × HasOpenBallot m old
balloting_node_has_open_ballot c m b (with_more old s v vote is heard low high open_ same stays) = (old, open_)
balloting_node_has_open_ballot c m b (without_one old name is open_ other) = (old, open_)
balloting_node_has_open_ballot c m b (as_it_is old open_ on) = (old, open_)

-- who acts fetches nothing and stores no View: its promise is its view
pub acting_node_has_promised_view : (m : Node) (v : Stamp) → acts_in_its_view m ≡ true → v ≡ m.core.promise → stamps_are_equal (view m) v ≡ false → ⊥
acting_node_has_promised_view m v a same below =
    let is = (acting_member_promised_its_view m a).1 in
    let t : stamps_are_equal (view m) v ≡ true = ap (stamps_are_equal (view m)) (same ∙ is) ∙ stamp_eq_of_itself (view m) in
    cc

-- what a cause tells of members to have taken
abbrev pub CauseTellsTaken : Repair → (ℕ → ℕ) → Cause → Type 0
CauseTellsTaken r taken c = (s : ℕ) (v : Stamp) (report : Report) → CauseHasReport c s v report → has r.members s ≡ true → report.taken ≤ taken s

pub sequencer_goes_on_by_change : (r : Repair) (taken : ℕ → ℕ) (w : World) (q : Node) (c : Cause) (o : Outcome) (m n : Node) → r.view.by ≡ r.by → CalmCause r w c
    → CauseTellsTaken r taken c → NodeTrimFronts m → Change c o m n → SequencerGoesOn r taken q m → SequencerGoesOn r taken q n
sequencer_goes_on_by_change r taken w q c o m n by calm tells f refreshes h = goes_as r _ q m n (refreshed_node_stands_alike m) (λ name there. stored_reports_after_refresh m name)
    (trusts_reports_after_refresh r _ m h.own h.leads f h.trusts) h
sequencer_goes_on_by_change r taken w q c o m n by calm tells f settles h = goes_as r _ q m n (settled_node_stands_alike m) (λ name there. settled_stay m name)
    (trusts_settle r _ m h.trusts) h
sequencer_goes_on_by_change r taken w q c o m n by calm tells f (takes_report s v report brings may) h =
    goes_as r _ q m n (nodes_stand_alike_by_parts m n refl refl refl refl refl refl (omega arith) (omega arith)) (λ name there. (after_report_is_no_less m.reports s report name).stored)
    (trusts_reports_with_report r _ m s report (tells s v report brings) h.trusts) h
sequencer_goes_on_by_change r taken w q c o m n by calm tells f (admits s v is leads fit) h = goes_as r _ q m n
    (nodes_stand_alike_by_parts m n refl refl refl refl refl refl (omega arith) (omega arith)) (admitted_stay r m s h.leads f fit) (trusts_admitted r _ m s h.trusts) h
sequencer_goes_on_by_change r taken w q c o m n by calm tells f (numbers e leads room why) h = goes_pushed r _ q m e f (numbered_plain r w c m e calm h.leads why) h
sequencer_goes_on_by_change r taken w q c o m n by calm tells f (keeps_body s v report req body is heard) h =
    goes_as r _ q m n (nodes_stand_alike_by_parts m n refl refl refl refl refl refl (omega arith) (omega arith)) (λ name there. omega arith)
    (record { base = h.trusts.base; reported = h.trusts.reported }) h
sequencer_goes_on_by_change r taken w q c o m n by calm tells f (notes s v base acc brings heard) h = absurd (let a = hearer_of_sequencer_leads_not m s v heard in let b = h.leads.leads in cc)
sequencer_goes_on_by_change r taken w q c o m n by calm tells f (stores s v base acc number e carries heard plain_ may) h = absurd
    (let a = hearer_of_sequencer_leads_not m s v heard in let b = h.leads.leads in cc)
sequencer_goes_on_by_change r taken w q c o m n by calm tells f (begins_list s v base join image is says may) h =
    absurd (let a = (acting_member_promised_its_view m (sequencer_acts_by_own_view m h.leads.leads).0).0 in let b = may.no_member in cc)
sequencer_goes_on_by_change r taken w q c o m n by calm tells f (departs s v number is heard leaves) h = absurd (let a = h.leads.rest.stays in cc)
sequencer_goes_on_by_change r taken w q c o m n by calm tells f (promises v low why) h = absurd (elim why [
  | invited s v_ is heard own ↦ subst (CalmCause r w) is calm
  | overtaken s v_ vote is heard above ↦ subst (CalmCause r w) is calm
  | told_result s base number u is heard own other ↦
      let same : v ≡ r.view = (subst (CalmCause r w) is calm) (eqb-true v.by s own) in
      let z : ⊥ = grind (arith, nat_tests) in z
])
sequencer_goes_on_by_change r taken w q c o m n by calm tells f (opens least resilience begins may) h = absurd (no_ballot_begins_in_calm r w c m calm begins)
sequencer_goes_on_by_change r taken w q c o m n by calm tells f (looks b verdict over why look is) h = absurd
    (let k = balloting_node_has_open_ballot c m b why in finished_ballot_is_not_open m k.0 k.1 h.leads.rest.no_ballot)
sequencer_goes_on_by_change r taken w q c o m n by calm tells f (fetches s v base number e is heard promise below why may) h =
    absurd (acting_node_has_promised_view m v (sequencer_acts_by_own_view m h.leads.leads).0 (stamp_eq_gives_equality v m.core.promise promise) below)
sequencer_goes_on_by_change r taken w q c o m n by calm tells f (stores_view s base number v is heard own other promise below may) h =
    absurd (acting_node_has_promised_view m v.stamp (sequencer_acts_by_own_view m h.leads.leads).0 (sym promise) below)
sequencer_goes_on_by_change r taken w q c o m n by calm tells f (queues body is says member stays few) h = absurd (subst (CalmCause r w) is calm)
sequencer_goes_on_by_change r taken w q c o m n by calm tells f (collects req is) h = absurd (subst (CalmCause r w) is calm)
sequencer_goes_on_by_change r taken w q c o m n by calm tells f (takes e is says member some there) h = absurd (subst (CalmCause r w) is calm)
sequencer_goes_on_by_change r taken w q c o m n by calm tells f (asks_to_join is was) h = absurd (subst (CalmCause r w) is calm)
sequencer_goes_on_by_change r taken w q c o m n by calm tells f (asks_to_leave is was stays done) h = absurd (subst (CalmCause r w) is calm)
sequencer_goes_on_by_change r taken w q c o m n by calm tells f (closes leads leaves alone room) h = absurd (let a = h.leads.rest.stays in cc)
