-- What a node keeps, through a refresh: what it accepts then is accepted in the group before, and what it trims was taken by all who need it.
use Rattle.am_refinement.proofs.Words.{◌≡◌, either, ℕ, ◌+◌, ◌≤◌, ◌==◌, true, false, List, length, refl, sym, ap, ◌∙◌, subst, arith, nat_tests, Entry, Image}
use Rattle.am_refinement.proofs.Words.{Report, Rules, image_of_log, raise_accepted_to_told, pass_over_below_join, reports_after_report, raise_own_report, tell_accept_front, advance_with_reports, trim_to_least_taken, IsGoodList, image_of_list, is_member_at_end, member_has_member_row}
use Rattle.am_refinement.proofs.Words.{Group, GroupKeeps, Node, is_member, is_sequencer, lowest_name_or_zero, has_log_by_status, is_unfinished_ballot, advance_node, refresh_as_sequencer, refresh, World, split_on_bool}
use Rattle.am_refinement.proofs.Words.{Cause, refresh_rests_with_list, refresh_changes_only_fronts, is_sequencer_after_rest, TrimsOnlyTakenAlongStep, NameStands, within, Trimmed, Grows, OpensStand, ReportsFresh}
use Rattle.am_refinement.proofs.Words.{ReportsStand, JoinIsNew, Reporting, Ballots, GroupFor, NodeStandsKept, OwnTurn, RefreshesKeep, Refreshing, Stepping}
use Rattle.am_model.specs.Node as nodes
use Rattle.am_refinement.proofs.{Accepting.own_report_keeps_reports_true, Changes.image_of_whole_within_step, Changes.length_of_whole_list, Changes.running_member_is_up, ChainNames.concerned_names_are_below_256, ChainNames.named_list_has_named_front}
use Rattle.am_refinement.proofs.NodeKeeping.Keeping.{acting_name_stands_before, sequencer_is_in_its_list, acting_sequencer_is_member}
use Rattle.am_refinement.proofs.NodeKeeping.Keeps.{ballots_stand_as_group_grows, trimmed_stands_as_group_grows}
use Rattle.am_refinement.proofs.Onward.{group_run_is_kept}
use Rattle.am_refinement.proofs.{Reporting.reports_true_as_lists_grow, Reporting.reports_true_of_higher_base, Trimming.SequencerRefreshed, Trimming.refreshed_base_is_trimmed}

-- ---- what a refresh does to reports and base

-- its own report, before what is accepted goes on and after it
abbrev twice : Node → ℕ → Report
twice x = λ name. reports_after_report (reports_after_report x.reports x.core.who (nodes.own_report_of x)) x.core.who (nodes.own_report_of (refresh_as_sequencer x)) name

lead_reports : (x : Node) → (refresh_as_sequencer x).reports ≡ twice x
unfolding refresh_as_sequencer raise_own_report tell_accept_front advance_with_reports trim_to_least_taken raise_accepted_to_told pass_over_below_join
lead_reports x = refl

advance_same : (x : Node) → ((advance_node x).reports ≡ x.reports) × ((advance_node x).core.base ≡ x.core.base)
unfolding raise_accepted_to_told pass_over_below_join
advance_same x = (refl, refl)

lead_leads : (x : Node) → is_sequencer x ≡ true → refresh x ≡ refresh_as_sequencer x
unfolding refresh
lead_leads x t = rw t refl

follow_follows : (x : Node) → is_sequencer x ≡ false → refresh x ≡ advance_node x
unfolding refresh
follow_follows x f = rw f refl

-- a member could not join anew
pub member_is_not_new : (list : List Entry) (name : ℕ) → is_member_at_end list name ≡ true → JoinIsNew (image_of_list list) name → ⊥
member_is_not_new list name member new =
    let k = member_has_member_row list name member in
    either new (λ z. omega arith) (λ z. omega arith)

-- ---- a refresh, where the group has accepted what it accepts

module _ (rules : Rules) (w v : World) (name : ℕ) (c : Cause) (x : Node) (s t : Group) (h : Stepping rules w name c x s) (g : Grows s t)
    (gt : GroupFor rules t) (now : Refreshing v name x s t) (later : TrimsOnlyTakenAlongStep rules (refresh x)) where
  abbrev y : Node
  y = refresh x

  olds : NameStands (within w name x) name x (s.node name)
  olds = acting_name_stands_before rules w name c x s h

  k : NodeStandsKept w s name x
  k = h.keeps

  kept_t : GroupKeeps t
  kept_t = group_run_is_kept rules.founders (lowest_name_or_zero rules.founders) rules.resilience t gt

  log : y.core.log ≡ x.core.log
  log = (refresh_rests_with_list x).log

  who : y.core.who ≡ x.core.who
  who = (refresh_rests_with_list x).rests.who

  base_up : x.core.base ≤ y.core.base
  base_up = (refresh_rests_with_list x).rests.base

  ballots_y : Ballots w t y.ballot
  ballots_y = subst (Ballots w t) (sym (refresh_rests_with_list x).rests.ballot) (ballots_stand_as_group_grows w s t x.ballot g h.keeps.ballots)

  opens_y : OpensStand y
  opens_y open_ = (let o = k.opens (sym (ap is_unfinished_ballot (refresh_rests_with_list x).rests.ballot) ∙ open_) in
      (ap is_member (refresh_rests_with_list x).rests.status ∙ o.0, (refresh_rests_with_list x).rests.leaving ∙ o.1))

  -- reports that were true are so of the same list
  reports_grow : Reporting t.node (t.node name).list x.core.base x.reports
  reports_grow = subst (λ l. Reporting t.node l x.core.base x.reports) (sym now.list)
      (reports_true_as_lists_grow s.node t.node (s.node name).list x.core.base x.reports (λ i. (g.each i).list) k.reports)

  long : length (t.node name).list ≡ nodes.top x
  long = ap length now.list ∙ length_of_whole_list (within w name x) name x (s.node name) olds

  -- with its own report, of what its application has taken
  own_more : (taken : ℕ) (reports : ℕ → Report) → taken ≤ nodes.top x → Reporting t.node (t.node name).list x.core.base reports
      → Reporting t.node (t.node name).list x.core.base (reports_after_report reports x.core.who (record { stored = nodes.top x; taken = taken }))
  own_more taken reports low r = subst (λ z. Reporting t.node (t.node name).list x.core.base
      (reports_after_report reports x.core.who (record { stored = z; taken = taken })))
      long (own_report_keeps_reports_true t.node (t.node name).list x.core.base x.core.who taken reports (let size_ = long in omega arith) (ap (λ j. (t.node j).list) h.who) r)

  -- ---- a sequencer's

  module _ (leads : is_sequencer x ≡ true) where
    is : y ≡ refresh_as_sequencer x
    is = lead_leads x leads

    fronts_in : (y.core.taken ≤ nodes.top x) × (x.core.taken ≤ nodes.top x)
    fronts_in =
        let top_ : nodes.top y ≡ nodes.top x = ap (λ l. l.start + length l.entries) log in
        (omega arith, omega arith)

    reports_are : y.reports ≡ reports_after_report (reports_after_report x.reports x.core.who (nodes.own_report_of x)) x.core.who
        (record { stored = nodes.top x; taken = y.core.taken })
    reports_are = ap (λ (n : Node). n.reports) is ∙ lead_reports x
        ∙ ap (λ z. reports_after_report (reports_after_report x.reports x.core.who (nodes.own_report_of x)) x.core.who z)
        (ap nodes.own_report_of (sym is) ∙ ap (λ z. record { stored = z; taken = y.core.taken }) (ap (λ l. l.start + length l.entries) log))

    reports_led : Reporting t.node (t.node name).list x.core.base y.reports
    reports_led = (let low = fronts_in in subst (Reporting t.node (t.node name).list x.core.base) (sym reports_are)
        (own_more y.core.taken (reports_after_report x.reports x.core.who (nodes.own_report_of x)) low.0 (own_more x.core.taken x.reports low.1 reports_grow)))

    refreshed : SequencerRefreshed (within v name y) name x y t
    refreshed =
        let f = later.owned.fronts in
        let base = f.base in
        let up = running_member_is_up v name y (t.node name) now.runs (ap is_member (refresh_rests_with_list x).rests.status ∙ acting_sequencer_is_member rules w name c x s h leads) now.stands in
        record {
          is = is;
          speaks = record { kept = kept_t; stands = now.stands; up = up; who = who ∙ h.who };
          leads = is_sequencer_after_rest (refresh_rests_with_list x).rests ∙ leads;
          start = omega arith;
          base = omega arith;
          within = f.accepted;
          accepted = now.accepted;
          names = concerned_names_are_below_256 (within v name y) name y (t.node name) now.stands (named_list_has_named_front (t.node name).list _ ((kept_t.each name).list up) gt.named)
              (omega arith);
          reports = reports_led;
          trimmed = trimmed_stands_as_group_grows w s t x.core.base g k.trimmed;
        }

    -- who isn't new has reported what it did before, or is the sequencer
    fresh_led : ReportsFresh y
    fresh_led j new_ = split_on_bool (j == x.core.who)
        (λ u. absurd (let same : j ≡ x.core.who = grind (arith, nat_tests) in
        let told_ : nodes.image_of_node y ≡ image_of_list (s.node name).list = ap image_of_log log ∙ sym (image_of_whole_within_step w name name x (s.node name) olds) in
        member_is_not_new (s.node name).list j (subst (λ i. is_member_at_end (s.node name).list i ≡ true) (sym (same ∙ h.who)) (sequencer_is_in_its_list rules w name c x s h leads))
        (subst (λ (i : Image). JoinIsNew i j) told_ new_)))
        (λ f. let old_ = k.fresh j (subst (λ (i : Image). JoinIsNew i j) (ap image_of_log log) new_) in
        let same : (y.reports j).stored ≡ (x.reports j).stored = ap (λ r. (r j).stored) reports_are ∙ rw f refl in
        let up = base_up in
        omega arith)

  reports_y : ReportsStand t name y
  reports_y = reports_true_of_higher_base t.node (t.node name).list x.core.base y.core.base y.reports base_up (split_on_bool (is_sequencer x) reports_led
      (λ f. subst (Reporting t.node (t.node name).list x.core.base)
      (sym (ap (λ (n : Node). n.reports) (follow_follows x f) ∙ (advance_same x).0)) reports_grow))

  fresh_y : ReportsFresh y
  fresh_y = split_on_bool (is_sequencer x) fresh_led
      (λ f. λ j new_. (let old_ = k.fresh j (subst (λ (i : Image). JoinIsNew i j) (ap image_of_log log) new_) in
      let same : (y.reports j).stored ≡ (x.reports j).stored = ap (λ (n : Node). (n.reports j).stored) (follow_follows x f)
      ∙ ap (λ r. (r j).stored) (advance_same x).0 in
      let up = base_up in
      omega arith))

  trimmed_y : Trimmed t y.core.base
  trimmed_y = split_on_bool (is_sequencer x)
      (λ u. refreshed_base_is_trimmed (within v name y) name x y t (refreshed u))
      (λ f. subst (Trimmed t) (sym (ap (λ (n : Node). n.core.base) (follow_follows x f) ∙ (advance_same x).1)) (trimmed_stands_as_group_grows w s t x.core.base g k.trimmed))

  keeps_refresh : NodeStandsKept w t name (refresh x)
  keeps_refresh = record {
    good = subst IsGoodList (sym now.list) k.good;
    ballots = ballots_y;
    opens = opens_y;
    reports = reports_y;
    fresh = fresh_y;
    trimmed = trimmed_y;
    turn = subst (λ q. OwnTurn q (t.node name).list y.sends) (sym who) (subst (λ l. OwnTurn x.core.who l y.sends) (sym now.list)
        (subst (OwnTurn x.core.who (s.node name).list) (sym (ap (λ (n : Node). n.sends) (refresh_changes_only_fronts x))) k.turn));
    leaves = λ u. (ap has_log_by_status (refresh_rests_with_list x).rests.status ∙ k.leaves (sym (refresh_rests_with_list x).rests.leaving ∙ u));
  }

pub refreshes_keep_the_node : RefreshesKeep
refreshes_keep_the_node = keeps_refresh
