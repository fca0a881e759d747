-- What a node keeps, through each of its changes.
use Rattle.am_refinement.proofs.Words.{asking_node_has_no_log, or_false_second_is_false, stamp_eq_gives_equality, ◌≡◌, ◌⊎◌, inl, inr, either, ℕ, ◌+◌, ◌≤◌, ◌==◌, ◌&&◌, ◌||◌, not, max, nat_lt, nat_le}
use Rattle.am_refinement.proofs.Words.{if◌then◌else◌, Bool, true, false, List, [], ◌∷◌, ◌++◌, length, take, Option, Some, None, unwrap_or, refl, sym, ap, ◌∙◌}
use Rattle.am_refinement.proofs.Words.{subst, arith, append-nil, nat_tests, append_assoc, Entry, View, Image, Report, Vote, Stamp, Outcome, Rules, names_of}
use Rattle.am_refinement.proofs.Words.{stamp_is_less, stamps_are_equal, fits, after, image_of_log, Packet, least_of_names, reports_after_report, IsBeginningOf, IsGoodList, key_of_stamp, beginning_of_good_is_good, Group, list_with_chosen_view}
use Rattle.am_refinement.proofs.Words.{Node, Ballot, view, acts_in_its_view, node_unsettled_count, is_member, is_asking_status, is_sequencer, push_entry, lowest_name_or_zero, has_log_by_status, BallotVerdict}
use Rattle.am_refinement.proofs.Words.{need_set_of, need_set_without_given_up, taken_number_of_voter, is_unfinished_ballot, settle_waiting_send, World, is_stopped, split_on_bool, both_of_and, Cause, hears, CauseHasSend, by_request}
use Rattle.am_refinement.proofs.Words.{by_spread, CauseHasReport, with_send, by_ack, by_nack, by_leave_ask, CauseHasFronts, with_entry, with_number, alone, BallotIsLookedAt}
use Rattle.am_refinement.proofs.Words.{LooksAtBallot, finds_itself_out, waits, fetches_from_best, finds_too_few, finds_no_room, decides, HasLearned, MayReport, Change}
use Rattle.am_refinement.proofs.Words.{refreshes, settles, takes_report, admits, notes, begins_list, promises, opens, looks, stores_view, queues, collects}
use Rattle.am_refinement.proofs.Words.{asks_to_join, asks_to_leave, member_status_has_log, settle_changes_only_sends, image_of_pushed_entry, TrimsOnlyTakenAlongStep, told_image_is_used, NameStands, within, Trimmed, VoteTells}
use Rattle.am_refinement.proofs.Words.{AllShown, Grows, FetchesStand, ReportsStand, ReportsFresh, OpensStand, JoinIsNew, IsConcerned, Reporting, BallotStands, Ballots}
use Rattle.am_refinement.proofs.Words.{GroupFor, HeardSo, IsPlainOnEnd, NodeStandsKept, OwnTurn, Stepping}
use Rattle.am_model.specs.Ballots.{overtake_lower_ballot as overtaken_by}
use Rattle.am_step_laws.specs.Changes.{numbers, stores, departs, fetches, closes}
use Rattle.am_base.specs.declared.outcome.Outcome.TheVariants as said
use Rattle.am_model.specs.Node as nodes
use Rattle.am_refinement.specs.Letters as says
use Rattle.am_refinement.proofs.NodeKeeping.Keeping.{group_is_kept_at_step, acting_name_stands_before, acting_member_is_up, acting_member_has_good_list, looked_at_ballot_is_known, looked_at_ballot_stands, looked_at_ballot_is_open, acting_sequencer_is_member, numbered_entry_has_its_needs, heard_name_is_other_member}
use Rattle.am_refinement.proofs.Reporting.{reports_true_as_lists_grow, reports_true_of_higher_base, first_reports_are_true, admitted_report_is_true, one_more_report_is_true, reports_true_with_fitting_entry, fitting_join_has_new_name, new_name_was_new_before}
use Rattle.am_refinement.proofs.Reporting.{known_name_is_not_new, report_is_true_of_line, leaver_report_is_true}
use Rattle.am_refinement.proofs.{Carried.hearing_in_view_is_member, Changes.member_has_not_departed, Changes.length_of_whole_list, Onward.group_run_is_kept, Entries.stamps_of_equal_keys, Letters.all_shown_stay_shown}
use Rattle.am_refinement.proofs.{Letters.trimmed_stays_as_letters_need, Heard.own_turn_in_longer_list, Heard.own_turn_after_submit, Heard.own_turn_after_collect, Heard.own_turn_after_settle, Sent.SpeaksForItsName}
use Rattle.am_refinement.proofs.{Sent.LeadsItsLine, Sent.sequencer_leads_its_line, Shown.votes_stand_as_group_grows, Trimming.trimmed_up_to_greater_base, Trimming.TakenIsWithinGroup, Trimming.votes_least_taken_is_trimmed, Votes.best_vote_list_was_shown}

-- ---- what stays, as the group goes on

pub fetches_stand_as_group_grows : (w : World) (s t : Group) (ballot : Option Ballot) → Grows s t → FetchesStand s ballot → FetchesStand t ballot
fetches_stand_as_group_grows w s t None g h = tt
fetches_stand_as_group_grows w s t (Some b) g h = λ open_ from want is. all_shown_stay_shown w w s t g ([], sym (append-nil w.records)) b.stamp from (h open_ from want is)

pub trimmed_stands_as_group_grows : (w : World) (s t : Group) (base : ℕ) → Grows s t → Trimmed s base → Trimmed t base
trimmed_stands_as_group_grows w s t base g h = trimmed_stays_as_letters_need w w s t g ([], sym (append-nil w.records)) base h

pub ballots_stand_as_group_grows : (w : World) (s t : Group) (ballot : Option Ballot) → Grows s t → Ballots w s ballot → Ballots w t ballot
ballots_stand_as_group_grows w s t ballot g h = record { votes = votes_stand_as_group_grows s t ballot g h.votes; fetches = fetches_stand_as_group_grows w s t ballot g h.fetches; last = h.last }

-- an overtaken one is over
ballots_overtaken : (w : World) (s : Group) (v : Stamp) (ballot : Option Ballot) → Ballots w s ballot → Ballots w s (overtaken_by v ballot)
ballots_overtaken w s v None h = h
ballots_overtaken w s v (Some b) h = split_on_bool (not b.is_over && stamp_is_less b.stamp v)
    (λ t. rw t (record {
      votes = λ open_ name vote is. absurd (cc);
      fetches = λ open_ from want is. absurd (cc);
      last = (let k = h.last in record { given = k.given; names = k.names });
    }))
    (λ f. rw f h)

-- one that has ended, and one that goes on
ballots_over : (w : World) (s : Group) (b : Ballot) (o : Outcome) → BallotStands w b → Ballots w s (Some (record b { answer = o; is_over = true }))
ballots_over w s b o k = record {
  votes = λ open_ name vote is. absurd (cc);
  fetches = λ open_ from want is. absurd (cc);
  last = record { given = k.given; names = k.names };
}

ballots_open : (w : World) (s : Group) (b : Ballot) (o : Outcome) → BallotStands w b
    → ((j : ℕ) (vote : Vote) → b.votes j ≡ Some vote → VoteTells s j b.stamp vote)
    → ((from want : ℕ) → o ≡ said.Fetching from want → AllShown s b.stamp from) → Ballots w s (Some (record b { answer = o; is_over = false }))
ballots_open w s b o k votes shown = record {
  votes = λ open_ name vote is. votes name vote is;
  fetches = λ open_ from want is. shown from want is;
  last = record { given = k.given; names = k.names };
}

module _ (rules : Rules) (w : World) (name : ℕ) (c : Cause) (x : Node) (s : Group) (h : Stepping rules w name c x s) where
  -- a look
  looked : (b : Ballot) (v : BallotVerdict) → BallotIsLookedAt c x b → LooksAtBallot x b v → Ballots w s v.node.ballot
  looked b v why (waits y z) = ballots_open w s b _ (looked_at_ballot_stands rules w name c x s h b why) (looked_at_ballot_is_known rules w name c x s h b why).votes
      (λ from want is. absurd (cc))
  looked b v why (fetches_from_best y z u) =
      let k = looked_at_ballot_is_known rules w name c x s h b why in
      let all = best_vote_list_was_shown w name x b s (group_is_kept_at_step rules w name c x s h) k u z in
      ballots_open w s b _ (looked_at_ballot_stands rules w name c x s h b why) k.votes
      (λ from want is. (let same : _ ≡ from = ap fetched_from is in subst (AllShown s b.stamp) same all))
    where
      fetched_from : Outcome → ℕ
      fetched_from (said.Fetching from want) = from
      fetched_from _ = 0
  looked b v why _ = ballots_over w s b _ (looked_at_ballot_stands rules w name c x s h b why)

-- ---- each part, at the group that the moves of a change lead to

-- what stands once a change of a node has its group
record Next (rules : Rules) (w v : World) (name : ℕ) (c : Cause) (x y : Node) (s t : Group) : Type 0 where
  h : Stepping rules w name c x s
  g : Grows s t
  gt : GroupFor rules t
  runs : is_stopped v name ≡ false
  group_ : v.group ≡ w.group
  new : NameStands (within v name y) name y (t.node name)

module _ {rules : Rules} {w v : World} {name : ℕ} {c : Cause} {x y : Node} {s t : Group} (q : Next rules w v name c x y s t) where
  open q use {h, g, gt, runs, group_, new}

  olds : NameStands (within w name x) name x (s.node name)
  olds = acting_name_stands_before rules w name c x s h

  k : NodeStandsKept w s name x
  k = h.keeps

  grow : (i : ℕ) → IsBeginningOf (s.node i).list (t.node i).list
  grow i = (g.each i).list

  same_list : y.core.log ≡ x.core.log → (t.node name).list ≡ (s.node name).list
  same_list log = new.list ∙ (λ i. take (log i).start (group_ i) ++ (log i).entries) ∙ sym olds.list

  more_list : (e : Entry) → y.core.log ≡ (push_entry x e).core.log → (t.node name).list ≡ (s.node name).list ++ e ∷ []
  more_list e log = new.list ∙ (λ i. take (log i).start (group_ i) ++ (log i).entries)
      ∙ sym (append_assoc (take x.core.log.start w.group) x.core.log.entries (e ∷ [])) ∙ ap (λ l. l ++ e ∷ []) (sym olds.list)

  -- the list of a member is a good one, and so is one that is the same
  good_member : is_member y.status ≡ true → IsGoodList (t.node name).list
  good_member u =
      let k_ = group_run_is_kept rules.founders (lowest_name_or_zero rules.founders) rules.resilience t gt in
      beginning_of_good_is_good ((k_.each name).list (record {
        log = new.log_
            ∙ member_status_has_log y.status u;
        there = record { goes = new.stopped ∙ runs; stays = new.departed ∙ member_has_not_departed y.status u };
      })) k_.views.good

  good_same : y.core.log ≡ x.core.log → IsGoodList (t.node name).list
  good_same log = subst IsGoodList (sym (same_list log)) k.good

  ballots_same : y.ballot ≡ x.ballot → Ballots w t y.ballot
  ballots_same same = subst (Ballots w t) (sym same) (ballots_stand_as_group_grows w s t x.ballot g h.keeps.ballots)

  opens_same : y.ballot ≡ x.ballot → y.status ≡ x.status → y.leaving ≡ x.leaving → OpensStand y
  opens_same ballot stays leaving open_ = (let o = k.opens (sym (ap is_unfinished_ballot ballot) ∙ open_) in (ap is_member stays ∙ o.0, leaving ∙ o.1))

  reports_same : y.core.log ≡ x.core.log → y.reports ≡ x.reports → x.core.base ≤ y.core.base → ReportsStand t name y
  reports_same log reports base = subst (Reporting t.node (t.node name).list y.core.base) (sym reports)
      (subst (λ l. Reporting t.node l y.core.base x.reports) (sym (same_list log))
      (reports_true_of_higher_base t.node (s.node name).list x.core.base y.core.base x.reports base
      (reports_true_as_lists_grow s.node t.node (s.node name).list x.core.base x.reports grow k.reports)))

  fresh_same : nodes.image_of_node y ≡ nodes.image_of_node x → y.reports ≡ x.reports → x.core.base ≤ y.core.base → ReportsFresh y
  fresh_same told_ reports base j new_ = (let old_ = k.fresh j (subst (λ (i : Image). JoinIsNew i j) told_ new_) in
      let is : (y.reports j).stored ≡ (x.reports j).stored = ap (λ f. (f j).stored) reports in omega arith)

  trimmed_same : y.core.base ≡ x.core.base → Trimmed t y.core.base
  trimmed_same same = subst (Trimmed t) (sym same) (trimmed_stands_as_group_grows w s t x.core.base g k.trimmed)

  turn_same : y.core.who ≡ x.core.who → y.sends ≡ x.sends → OwnTurn y.core.who (t.node name).list y.sends
  turn_same who sends = subst (λ i. OwnTurn i (t.node name).list y.sends) (sym who) (subst (OwnTurn x.core.who (t.node name).list) (sym sends)
      (own_turn_in_longer_list x.core.who (s.node name).list (t.node name).list x.sends (grow name) k.turn))

  leaves_same : has_log_by_status y.status ≡ has_log_by_status x.status → y.leaving ≡ x.leaving → y.leaving ≡ true → has_log_by_status y.status ≡ true
  leaves_same log leaving u = log ∙ k.leaves (sym leaving ∙ u)

  keep : IsGoodList (t.node name).list → Ballots w t y.ballot → OpensStand y → ReportsStand t name y → ReportsFresh y → Trimmed t y.core.base
      → OwnTurn y.core.who (t.node name).list y.sends → (y.leaving ≡ true → has_log_by_status y.status ≡ true) → NodeStandsKept w t name y
  keep fine b o r f tr tu l = record { good = fine; ballots = b; opens = o; reports = r; fresh = f; trimmed = tr; turn = tu; leaves = l }

  -- nothing of that changes but sends, and no list
  keep_same : y.core.log ≡ x.core.log → y.core.who ≡ x.core.who → y.core.base ≡ x.core.base → y.reports ≡ x.reports → y.ballot ≡ x.ballot → y.status ≡ x.status
      → y.leaving ≡ x.leaving → OwnTurn y.core.who (t.node name).list y.sends → NodeStandsKept w t name y
  keep_same log who base reports ballot stays leaving turn =
      keep (good_same log) (ballots_same ballot) (opens_same ballot stays leaving) (reports_same log reports (let z = base in omega arith))
      (fresh_same (ap image_of_log log) reports (let z = base in omega arith)) (trimmed_same base) turn (leaves_same (ap has_log_by_status stays) leaving)

  -- an entry more, above a base that isn't lower
  keep_pushed : (e : Entry) → is_member x.status ≡ true → y.core.log ≡ (push_entry x e).core.log → fits (nodes.image_of_node x) e ≡ true → y.core.who ≡ x.core.who
      → x.core.base ≤ y.core.base → y.reports ≡ x.reports → y.ballot ≡ x.ballot → y.status ≡ x.status → y.leaving ≡ x.leaving → y.sends ≡ x.sends
      → Trimmed t y.core.base → NodeStandsKept w t name y
  keep_pushed e member log fit who base reports ballot stays leaving sends trims =
      keep (good_member (ap is_member stays ∙ member)) (ballots_same ballot) (opens_same ballot stays leaving)
      (subst (Reporting t.node (t.node name).list y.core.base) (sym reports) (subst (λ l. Reporting t.node l y.core.base x.reports) (sym (more_list e log))
      (reports_true_of_higher_base t.node ((s.node name).list ++ e ∷ []) x.core.base y.core.base x.reports base
      (reports_true_with_fitting_entry s.node t.node (s.node name).list e x.core.base x.reports k.good grow
      (λ i is. k.fresh i (fitting_join_has_new_name (nodes.image_of_node x) i (subst (λ z. fits (nodes.image_of_node x) z ≡ true) is fit))) k.reports))))
      (λ j new_. (let told_ : nodes.image_of_node y ≡ after (nodes.image_of_node x) (nodes.top x + 1) e = ap image_of_log log ∙ image_of_pushed_entry x e in
      let old_ = k.fresh j (new_name_was_new_before (nodes.image_of_node x) (nodes.top x + 1) e j (told_image_is_used x h.along.owned.fronts).places (omega arith) fit
      (subst (λ (i : Image). JoinIsNew i j) told_ new_)) in
      let is : (y.reports j).stored ≡ (x.reports j).stored = ap (λ f. (f j).stored) reports in
      omega arith))
      trims (turn_same who sends) (leaves_same (ap has_log_by_status stays) leaving)

-- ---- letters

brings_trim : (w : World) (s : Group) (name : ℕ) (c : Cause) (from : ℕ) (v : Stamp) (base acc : ℕ) → ((p : _) → c ≡ hears p → HeardSo w s name p)
    → CauseHasFronts c from v base acc → Trimmed s base
brings_trim w s name c from v base acc heard (with_entry _ _ _ _ number e) = (heard (Packet.Bcast from v base acc number e) refl).says.0
brings_trim w s name c from v base acc heard (with_number _ _ _ _ number sender req) = (heard (Packet.Order from v base acc number sender req) refl).says.0
brings_trim w s name c from v base acc heard (alone _ _ _ _ high poll) = (heard (Packet.Accept from v base acc high poll) refl).says.0

-- ---- a report that a sequencer takes

send_said : (w : World) (s : Group) (name : ℕ) (c : Cause) (from : ℕ) (v : Stamp) (report : Report) (req : ℕ) (body : List ℕ)
    → ((p : Packet) → c ≡ hears p → HeardSo w s name p) → CauseHasSend c from v report req body → says.ReportSays s from v report
send_said w s name c from v report req body heard (by_request _ _ _ _ _) = (heard (Packet.Request from v report req body) refl).says.reports
send_said w s name c from v report req body heard (by_spread _ _ _ _ _) = (heard (Packet.Spread from v report req body) refl).says.reports

reports_said : (w : World) (s : Group) (name : ℕ) (c : Cause) (from : ℕ) (v : Stamp) (report : Report) → ((p : Packet) → c ≡ hears p → HeardSo w s name p)
    → CauseHasReport c from v report → says.ReportSays s from v report ⊎ says.LeaverSays s from v report
reports_said w s name c from v report heard (with_send _ _ _ req body b) = inl (send_said w s name c from v report req body heard b)
reports_said w s name c from v report heard (by_ack _ _ _) = inl (heard (Packet.Ack from v report) refl).says
reports_said w s name c from v report heard (by_nack _ _ _) = inl (heard (Packet.Nack from v report) refl).says
reports_said w s name c from v report heard (by_leave_ask _ _ _) = inr (heard (Packet.LeaveAsk from v report) refl).says

module _ (rules : Rules) (w : World) (name : ℕ) (c : Cause) (x : Node) (s : Group) (h : Stepping rules w name c x s) (t : is_sequencer x ≡ true) where
  speaks : SpeaksForItsName (within w name x) name x s
  speaks = record {
    kept = group_is_kept_at_step rules w name c x s h;
    stands = acting_name_stands_before rules w name c x s h;
    up = acting_member_is_up rules w name c x s h
        (acting_sequencer_is_member rules w name c x s h t);
    who = h.who;
  }

  leads : LeadsItsLine name x s
  leads = sequencer_leads_its_line (within w name x) name x s speaks t

  -- its view's View
  record Viewed : Type 0 where
    stamp : (s.views.chosen (key_of_stamp x.core.promise)).stamp ≡ x.core.promise
    opens : IsBeginningOf (list_with_chosen_view (s.views.chosen (key_of_stamp x.core.promise))) (s.node name).list

  viewed : Viewed
  viewed =
      let l = leads in
      let noted_ = h.stands.views.decided (key_of_stamp x.core.promise) l.decided in
      let k = h.stands.views.noted noted_.index noted_.view noted_.there in
      let same : noted_.view.stamp ≡ x.core.promise = stamps_of_equal_keys noted_.view.stamp x.core.promise
      (h.noted noted_.index noted_.view noted_.there) h.along.names.promise_ noted_.is in
      record {
        stamp = subst (λ (u : Stamp). (s.views.chosen (key_of_stamp u)).stamp ≡ u) same k.stamp;
        opens = subst (IsBeginningOf (list_with_chosen_view (s.views.chosen (key_of_stamp x.core.promise)))) l.line_
            (subst (λ (u : Stamp). IsBeginningOf (list_with_chosen_view (s.views.chosen (key_of_stamp u))) (s.views.line (key_of_stamp u))) same k.opens);
      }

  report_so : (from : ℕ) (report : Report) → says.ReportSays s from x.core.promise report ⊎ says.LeaverSays s from x.core.promise report
      → report.stored ≤ length (s.node name).list → IsConcerned (s.node name).list from → IsBeginningOf (take report.stored (s.node name).list) (s.node from).list
  report_so from report its low concerned = either its
      (λ z. report_is_true_of_line s from x.core.promise (s.node name).list report leads.line_ low z)
      (λ z. (let q = viewed in
      leaver_report_is_true s from x.core.promise (s.node name).list report leads.decided leads.line_
      (acting_member_has_good_list rules w name c x s h (acting_sequencer_is_member rules w name c x s h t)) q.stamp leads.viewed q.opens low
      z concerned))

  taken_report : (from : ℕ) (v : Stamp) (report : Report) → CauseHasReport c from v report → MayReport x from v report
      → Reporting s.node (s.node name).list x.core.base (reports_after_report x.reports from report)
  taken_report from v report by may =
      let long = length_of_whole_list (within w name x) name x (s.node name) (acting_name_stands_before rules w name c x s h) in
      let fit = both_of_and (nat_le report.taken report.stored) (nat_le report.stored (nodes.top x)) may.fits in
      let took : report.taken ≤ report.stored = (let z = fit.0 in grind (arith, nat_tests)) in
      let low : report.stored ≤ nodes.top x = (let z = fit.1 in grind (arith, nat_tests)) in
      let acting = both_of_and (is_member x.status) (stamps_are_equal x.core.promise (view x)) (both_of_and (acts_in_its_view x) ((view x).by == x.core.who) t).0 in
      let same : v ≡ x.core.promise = stamp_eq_gives_equality v (view x) may.view ∙ sym (stamp_eq_gives_equality x.core.promise (view x) acting.1) in
      one_more_report_is_true s.node (s.node name).list x.core.base from report x.reports (omega arith) took
      (report_so from report (subst (λ u. says.ReportSays s from u report ⊎ says.LeaverSays s from u report) same
      (reports_said w s name c from v report h.heard by)) (omega arith)) h.keeps.reports

-- ---- each change

was_open : (v : Stamp) (ballot : Option Ballot) → is_unfinished_ballot (overtaken_by v ballot) ≡ true → is_unfinished_ballot ballot ≡ true
was_open v None u = u
was_open v (Some b) u = split_on_bool (not b.is_over && stamp_is_less b.stamp v) (λ t. absurd (let z = rw t at u in cc)) (λ f. rw f at u)

module _ {rules : Rules} {w v : World} {name : ℕ} {c : Cause} {x y : Node} {s t : Group} (q : Next rules w v name c x y s t) where
  -- its base stands within its list
  base_within : TrimsOnlyTakenAlongStep rules y → y.core.base ≤ length (t.node name).list
  base_within later =
      let long = length_of_whole_list (within v name y) name y (t.node name) q.new in
      omega arith

  -- a look: with the same list and base
  looked_plain : Ballots w t y.ballot → OpensStand y → y.core.log ≡ x.core.log → y.core.who ≡ x.core.who → y.core.base ≡ x.core.base → y.reports ≡ x.reports
      → y.status ≡ x.status → y.leaving ≡ x.leaving → y.sends ≡ x.sends → NodeStandsKept w t name y
  looked_plain b opens_ log who base reports stays leaving sends = keep q (good_same q log) b opens_
      (reports_same q log reports (let z = base in omega arith)) (fresh_same q (ap image_of_log log) reports (let z = base in omega arith))
      (trimmed_same q base) (turn_same q who sends) (leaves_same q (ap has_log_by_status stays) leaving)

module _ (rules : Rules) (w : World) (name : ℕ) (c : Cause) (x : Node) (s : Group) (h : Stepping rules w name c x s) (b : Ballot) (why : BallotIsLookedAt c x b) where
  open_same : (y : Node) → y.status ≡ x.status → y.leaving ≡ x.leaving → OpensStand y
  open_same y stays leaving u = (let z = h.keeps.opens (looked_at_ballot_is_open rules w name c x s h b why) in (ap is_member stays ∙ z.0, leaving ∙ z.1))

  over_none : (y : Node) (a : Outcome) → y.ballot ≡ Some (record b { answer = a; is_over = true }) → OpensStand y
  over_none y a ballot u = absurd (let z = sym (ap is_unfinished_ballot ballot) ∙ u in cc)

  taken_known : TakenIsWithinGroup x s
  taken_known =
      let f = h.along.owned.fronts in
      let size = ap length h.stands.group in
      record { taken = f.given; within = f.accepted; accepted = omega arith }

  -- its base after it trimmed by the votes
  trimmed_votes : HasLearned x b → Trimmed s
      (max x.core.base (unwrap_or (least_of_names (taken_number_of_voter x.core.who x.core.taken b) (names_of (need_set_without_given_up b (need_set_of x b)))) 0))
  trimmed_votes learned = trimmed_up_to_greater_base s x.core.base
      (unwrap_or (least_of_names (taken_number_of_voter x.core.who x.core.taken b) (names_of (need_set_without_given_up b (need_set_of x b)))) 0) h.keeps.trimmed
      (votes_least_taken_is_trimmed w name x b s (group_is_kept_at_step rules w name c x s h) (looked_at_ballot_is_known rules w name c x s h b why) learned taken_known)

keeps_look : (rules : Rules) (w v : World) (name : ℕ) (c : Cause) (x : Node) (s t : Group) (b : Ballot) (verdict : BallotVerdict)
    → Next rules w v name c x verdict.node s t → BallotIsLookedAt c x b → LooksAtBallot x b verdict → TrimsOnlyTakenAlongStep rules verdict.node → NodeStandsKept w t name verdict.node
keeps_look rules w v name c x s t b verdict q why (finds_itself_out a) later =
    looked_plain q (ballots_stand_as_group_grows w s t verdict.node.ballot q.g (looked rules w name c x s q.h b verdict why (finds_itself_out a)))
    (over_none rules w name c x s q.h b why verdict.node _ refl) refl refl refl refl refl refl refl
keeps_look rules w v name c x s t b verdict q why (finds_too_few a d) later =
    looked_plain q (ballots_stand_as_group_grows w s t verdict.node.ballot q.g (looked rules w name c x s q.h b verdict why (finds_too_few a d)))
    (over_none rules w name c x s q.h b why verdict.node _ refl) refl refl refl refl refl refl refl
keeps_look rules w v name c x s t b verdict q why (finds_no_room learned) later =
    let y = verdict.node in
    keep q (good_same q refl) (ballots_stand_as_group_grows w s t y.ballot q.g (looked rules w name c x s q.h b verdict why (finds_no_room learned)))
    (over_none rules w name c x s q.h b why y _ refl) (reports_same q refl refl (omega arith)) (fresh_same q refl refl (omega arith))
    (trimmed_stands_as_group_grows w s t y.core.base q.g (trimmed_votes rules w name c x s q.h b why learned)) (turn_same q refl refl) (leaves_same q refl refl)
keeps_look rules w v name c x s t b verdict q why (decides may) later =
    let y = verdict.node in
    keep q (good_member q (q.h.keeps.opens (looked_at_ballot_is_open rules w name c x s q.h b why)).0)
    (ballots_stand_as_group_grows w s t y.ballot q.g (looked rules w name c x s q.h b verdict why (decides may))) (over_none rules w name c x s q.h b why y _ refl)
    (first_reports_are_true t.node (t.node name).list y.core.base (base_within q later))
    (λ j new_. split_on_bool (nat_lt j 256) (λ u. rw u (omega arith)) (λ f. rw f (omega arith)))
    (trimmed_stands_as_group_grows w s t y.core.base q.g (trimmed_votes rules w name c x s q.h b why may.learned)) (turn_same q refl refl) (leaves_same q refl refl)
keeps_look rules w v name c x s t b verdict q why look later =
    looked_plain q (ballots_stand_as_group_grows w s t verdict.node.ballot q.g (looked rules w name c x s q.h b verdict why look))
    (open_same rules w name c x s q.h b why verdict.node refl refl) refl refl refl refl refl refl refl

-- its own sends, where one is settled
settled_turns : (rules : Rules) (w : World) (name : ℕ) (c : Cause) (x : Node) (s t : Group) (h : Stepping rules w name c x s) → Grows s t
    → OwnTurn x.core.who (t.node name).list (settle_waiting_send x).sends
settled_turns rules w name c x s t h g = own_turn_in_longer_list x.core.who (s.node name).list (t.node name).list (settle_waiting_send x).sends (g.each name).list
    (own_turn_after_settle (within w name x) name x (s.node name) (acting_name_stands_before rules w name c x s h) h.keeps.good h.keeps.turn)

-- ---- each change, but for a refresh and the last member's end

keeps_by : (rules : Rules) (w v : World) (name : ℕ) (c : Cause) (o : Outcome) (x y : Node) (s t : Group) (z : Change c o x y) → IsPlainOnEnd z
    → Next rules w v name c x y s t → TrimsOnlyTakenAlongStep rules y → NodeStandsKept w t name y
keeps_by rules w v name c o x y s t refreshes plain q later = absurd plain
keeps_by rules w v name c o x y s t settles plain q later =
    let is = settle_changes_only_sends x in
    keep_same q (ap (λ (n : Node). n.core.log) is) (ap (λ (n : Node). n.core.who) is) (ap (λ (n : Node). n.core.base) is)
    (ap (λ (n : Node). n.reports) is) (ap (λ (n : Node). n.ballot) is) (ap (λ (n : Node). n.status) is) (ap (λ (n : Node). n.leaving) is)
    (subst (λ k. OwnTurn k (t.node name).list y.sends) (sym (ap (λ (n : Node). n.core.who) is)) (settled_turns rules w name c x s t q.h q.g))
keeps_by rules w v name c o x y s t (takes_report from u report by may) plain q later =
    let taken_ = taken_report rules w name c x s q.h may.leads from u report by may in
    keep q (good_same q refl) (ballots_same q refl) (opens_same q refl refl refl)
    (subst (λ l. Reporting t.node l y.core.base y.reports) (sym (same_list q refl))
    (reports_true_as_lists_grow s.node t.node (s.node name).list y.core.base y.reports (λ i. (q.g.each i).list) taken_)) (λ j new_. split_on_bool (j == from)
    (λ u_. absurd (let is : j ≡ from = grind (arith, nat_tests) in known_name_is_not_new (nodes.image_of_node x) from may.known (subst (JoinIsNew (nodes.image_of_node x)) is new_)))
    (λ f. rw f (q.h.keeps.fresh j new_))) (trimmed_same q refl) (turn_same q refl refl) (leaves_same q refl refl)
keeps_by rules w v name c o x y s t (admits from u is leads_ fit) plain q later =
    let low = base_within q later in
    let size = ap length (same_list q refl) in
    keep q (good_same q refl) (ballots_same q refl) (opens_same q refl refl refl)
    (subst (λ l. Reporting t.node l y.core.base y.reports) (sym (same_list q refl))
    (admitted_report_is_true t.node (s.node name).list x.core.base from x.reports (omega arith)
    (reports_true_as_lists_grow s.node t.node (s.node name).list x.core.base x.reports (λ i. (q.g.each i).list) q.h.keeps.reports)))
    (λ j new_. split_on_bool (j == from) (λ u_. rw u_ (omega arith)) (λ f. rw f (q.h.keeps.fresh j new_))) (trimmed_same q refl) (turn_same q refl refl)
    (leaves_same q refl refl)
keeps_by rules w v name c o x y s t (numbers e leads_ room why) plain q later =
    keep_pushed q e (acting_sequencer_is_member rules w name c x s q.h leads_) refl (numbered_entry_has_its_needs rules w name c x s q.h e leads_ why).fit refl
    (omega arith) refl refl refl refl refl (trimmed_same q refl)
keeps_by rules w v name c o x y s t (notes from u base acc by heard) plain q later =
    let trim = brings_trim w s name c from u base acc q.h.heard by in
    keep q (good_same q refl) (ballots_same q refl) (opens_same q refl refl refl) (reports_same q refl refl (omega arith))
    (fresh_same q refl refl (omega arith))
    (trimmed_stands_as_group_grows w s t y.core.base q.g (trimmed_up_to_greater_base s x.core.base _ q.h.keeps.trimmed
    (either (nat_le base x.core.taken) base x.core.base trim q.h.keeps.trimmed)))
    (turn_same q refl refl) (leaves_same q refl refl)
  where
    either : (b : Bool) (p q : ℕ) → Trimmed s p → Trimmed s q → Trimmed s (if b then p else q)
    either true p q a d = a
    either false p q a d = d
keeps_by rules w v name c o x y s t (stores from u base acc number e by heard plain_ may) plain q later =
    keep_pushed q e (hearing_in_view_is_member x from u heard) refl may.fits refl (omega arith) refl refl refl refl refl (trimmed_same q refl)
keeps_by rules w v name c o x y s t (begins_list from u base join image is says_ may) plain q later =
    let none = asking_node_has_no_log x.status may.no_member (both_of_and (not (from == x.core.who)) (is_member x.status || is_asking_status x.status) may.asks).1 in
    let trim = (q.h.heard (Packet.Welcome from u base join image) is).says.0 in
    let nothing : (s.node name).list ≡ [] = ((group_is_kept_at_step rules w name c x s q.h).each name).blank ((acting_name_stands_before rules w name c x s q.h).log_ ∙ none) in
    let size = ap length nothing in
    keep q (good_member q refl) (ballots_same q refl) (λ u_. absurd (let k = (q.h.keeps.opens u_).0 in let z = may.no_member in cc))
    (record {
      within = λ j. (let low = q.h.keeps.reports.within j in omega arith);
      taken = q.h.keeps.reports.taken;
      true_ = λ j few concerned above. absurd (let low = q.h.keeps.reports.within j in omega arith);
    })
    (λ j new_. (let low = q.h.keeps.reports.within j in omega arith)) (trimmed_stands_as_group_grows w s t base q.g trim) (turn_same q refl refl) (λ u_. refl)
keeps_by rules w v name c o x y s t (departs from u number is heard leaves) plain q later =
    keep q (good_same q refl) (ballots_same q refl) (λ u_. absurd (let k = (q.h.keeps.opens u_).1 in cc)) (reports_same q refl refl (omega arith))
    (fresh_same q refl refl (omega arith)) (trimmed_same q refl) (turn_same q refl refl) (λ u_. refl)
keeps_by rules w v name c o x y s t (promises u low why) plain q later =
    keep q (good_same q refl)
    (ballots_stand_as_group_grows w s t y.ballot q.g (ballots_overtaken w s u x.ballot q.h.keeps.ballots)) (λ u_. q.h.keeps.opens (was_open u x.ballot u_))
    (reports_same q refl refl (omega arith)) (fresh_same q refl refl (omega arith)) (trimmed_same q refl) (turn_same q refl refl)
    (leaves_same q refl refl)
keeps_by rules w v name c o x y s t (opens least resilience by may) plain q later =
    keep q (good_same q refl)
    (record {
      votes = λ open_ j vote is. absurd (cc);
      fetches = λ open_ from want is. absurd (cc);
      last = record { given = λ j u_. absurd (cc); names = λ j vote is. absurd (cc) };
    })
    (λ u_. (may.member, may.stays))
    (reports_same q refl refl (omega arith)) (fresh_same q refl refl (omega arith)) (trimmed_same q refl) (turn_same q refl refl)
    (leaves_same q refl refl)
keeps_by rules w v name c o x y s t (looks b verdict over why look is) plain q later =
    keeps_look rules w v name c x s t b verdict q why look later
keeps_by rules w v name c o x y s t (fetches from u base number e is heard promise below why may) plain q later =
    keep_pushed q e (heard_name_is_other_member rules w name c x s q.h from heard).1 refl may.fits refl (omega arith) refl refl refl refl refl
    (trimmed_stands_as_group_grows w s t y.core.base q.g (trimmed_up_to_greater_base s x.core.base base q.h.keeps.trimmed (q.h.heard (Packet.Piece from u base number e) is).says.0))
keeps_by rules w v name c o x y s t (stores_view from base number u is heard own other promise below may) plain q later =
    keep_pushed q (View u) (heard_name_is_other_member rules w name c x s q.h from heard).1 refl may.fits refl
    (omega arith) refl refl refl refl refl
    (trimmed_stands_as_group_grows w s t y.core.base q.g
    (trimmed_up_to_greater_base s x.core.base base q.h.keeps.trimmed (q.h.heard (Packet.Result from base number u) is).says.0))
keeps_by rules w v name c o x y s t (queues body is says_ member stays few) plain q later =
    keep_same q refl refl refl refl refl refl refl (own_turn_after_submit x.core.who (t.node name).list body x.sends
    (own_turn_in_longer_list x.core.who (s.node name).list (t.node name).list x.sends (q.g.each name).list q.h.keeps.turn))
keeps_by rules w v name c o x y s t (collects req is) plain q later =
    keep_same q refl refl refl refl refl refl refl (own_turn_after_collect x.core.who req (t.node name).list x.sends
    (own_turn_in_longer_list x.core.who (s.node name).list (t.node name).list x.sends (q.g.each name).list q.h.keeps.turn))
keeps_by rules w v name c o x y s t (asks_to_join is was) plain q later =
    keep q (good_same q refl) (ballots_same q refl) (λ u_. absurd (let k = (q.h.keeps.opens u_).0 in let z = ap is_member was in cc))
    (reports_same q refl refl (omega arith)) (fresh_same q refl refl (omega arith)) (trimmed_same q refl) (turn_same q refl refl)
    (leaves_same q (sym (ap has_log_by_status was)) refl)
keeps_by rules w v name c o x y s t (asks_to_leave is was stays done) plain q later =
    keep q (good_same q refl) (ballots_same q refl)
    (λ u_. absurd (let k = or_false_second_is_false (nat_lt 0 (node_unsettled_count x)) (is_unfinished_ballot x.ballot) done in cc))
    (reports_same q refl refl (omega arith)) (fresh_same q refl refl (omega arith)) (trimmed_same q refl) (turn_same q refl refl)
    (λ u_. ap has_log_by_status was)
keeps_by rules w v name c o x y s t (closes leads_ leaves alone_ room) plain q later = absurd plain
keeps_by rules w v name c o x y s t _ plain q later =
    keep_same q refl refl refl refl refl refl refl (turn_same q refl refl)

pub plain_change_keeps_node : (rules : Rules) (w v : World) (name : ℕ) (c : Cause) (o : Outcome) (x y : Node) (s t : Group) (z : Change c o x y) → IsPlainOnEnd z
    → (h : Stepping rules w name c x s) (g : Grows s t) (gt : GroupFor rules t)
    → is_stopped v name ≡ false → v.group ≡ w.group → NameStands (within v name y) name y (t.node name) → TrimsOnlyTakenAlongStep rules y → NodeStandsKept w t name y
plain_change_keeps_node rules w v name c o x y s t z plain h g gt runs group_ new later =
    keeps_by rules w v name c o x y s t z plain (record { h = h; g = g; gt = gt; runs = runs; group_ = group_; new = new }) later
