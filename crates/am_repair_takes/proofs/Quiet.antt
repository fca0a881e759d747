-- What stays so while a schedule with takes runs in a group in one view in which nobody asks to join: its sequencer's list goes on by sends
-- of its members alone, each of which was waiting.
use Rattle.am_repair.proofs.RepairWords.{◌≡◌, inl, inr, either, ℕ, zero, suc, ◌+◌, ◌-◌, ◌<◌, ◌≤◌, ◌==◌, Bool, true, false, List, [], ◌∷◌, ◌++◌, length, Some}
use Rattle.am_repair.proofs.RepairWords.{slice_get, refl, sym, ap, ◌∙◌, subst, arith, split_on_bool, nat_tests, eqb-true, All, All-head, All-tail, item_of_index_has_property, cases_lt, length-append}
use Rattle.am_repair.proofs.RepairWords.{if◌then◌else◌, MayFound, Act, Rules, has, names_of, Packet, Letter, Letter, letter_to, letter_at, Event, Entry, Data, Leave}
use Rattle.am_repair.proofs.RepairWords.{Image, Log, top_of_log, image_of_log, members_of_image, log_members_at, log_entry_at, log_image_at, counting_names_of_entry, log_with_entry, fits, after}
use Rattle.am_repair.proofs.RepairWords.{image_at_top_is_told, slice_get_of_append_back, Node, Ballot, image_of_node, members, push_entry, is_sequencer, is_asking_status, has_departed, other_members, size}
use Rattle.am_repair.proofs.RepairWords.{accept_packet_of, sends_accept, Plan, plan_without_letters, finish, step, row, refresh, refresh_at_end, settle_waiting_send, refresh_as_sequencer, raise_own_report, tell_accept_front, advance_with_reports}
use Rattle.am_repair.proofs.RepairWords.{trim_to_least_taken, raise_accepted_to_told, pass_over_below_join, CoreState, Stamp, Report, Outcome, BallotVerdict, StepResult, World, is_stopped, run, start, happens, world_after_events}
use Rattle.am_repair.proofs.RepairWords.{world_with_record, world_with_step, event_at, runs_go_on, Cause, calls, LooksAtBallot, IsNumberedBy, asked_send, own_send}
use Rattle.am_repair.proofs.RepairWords.{asked_join, asked_leave, Change, refreshes, settles, takes_report, admits, numbers, keeps_body, notes, stores, begins_list}
use Rattle.am_repair.proofs.RepairWords.{departs, promises, opens, looks, fetches, stores_view, queues, collects, takes, asks_to_join, asks_to_leave, closes}
use Rattle.am_repair.proofs.RepairWords.{invited, overtaken, told_result, Changes, no_change, changed, settle_changes_only_sends, refresh_rests_with_list, end_refresh_rests_with_list, stamp_eq_gives_equality, acting_name, IsCause}
use Rattle.am_repair.proofs.RepairWords.{WasSentTo, packet_heard_by_act, Effect, LetterSays, Says, actor_is_below_256, heard_stamps_have_names, HeardStampsHaveNames, HeardWelcomeImageIsUsed, heard_welcome_image_is_used, TrimsOnlyTakenAlongStep, changes_trim_only_taken}
use Rattle.am_repair.proofs.RepairWords.{each_node_trims_only_taken, WorldTrimsOnlyTaken, run_trims_only_taken, NodeTrimFronts, told_image_is_used, UnusedPlacesHaveNoLife, Repair, LeadsCalmly, IsOurs, our_ticks, hears_}
use Rattle.am_step_laws.specs.Looks.{finds_itself_out}
use Rattle.am_step_laws.specs.Letters.{join_ask}
use Rattle.am_step_laws.specs.Causes.{CauseHasSend, by_request, by_spread}
use Rattle.am_base.specs.declared.event.NodeEvent.TheVariants as does
use Rattle.am_base.specs.declared.outcome.Outcome.TheVariants as said
use Rattle.am_node_defs.proofs.{Members.members_of_after_data, Ends.told_by_pushed_entry, Lines.waiting_request_le_last}
use Rattle.am_model_laws.proofs.Rows.{data_row_goes_on}
use Rattle.am_step_laws.proofs.Numbers.Counts.{base_after_keeps_lower_bound}
use Rattle.am_step_laws.proofs.Rests.{settle_keeps_property}
use Rattle.am_step_laws.proofs.Nodes.{heard_packet_has_property}
use Rattle.am_step_laws.proofs.Hearing.{steps_have_effects}
use Rattle.am_step_laws.proofs.Words.{refresh_changes_only_fronts, row_of_name}
use Rattle.am_repair.proofs.Nodes.{CalmCause, acting_member_promised_its_view, sequencer_acts_by_own_view, finished_ballot_is_not_open}
use Rattle.am_repair.proofs.Ends.{hearer_of_sequencer_leads_not, after_report_is_no_less}
use Rattle.am_repair.proofs.Saying.{entry_at_of_list_item}
use Rattle.am_repair.proofs.Known.Knowing.{CauseIsNoJoin}
use Rattle.am_repair.proofs.RepairLists.{log_grows_by_push, counted_at_in_grown_log, entry_at_is_within_log, past_name_has_left}
use Rattle.am_repair.proofs.RepairLeading.{SequencerGoesOn, CauseTellsTaken, sequencer_goes_on_by_change, no_ballot_begins_in_calm, balloting_node_has_open_ballot, acting_node_has_promised_view, told_report_is_of_sender}
use Rattle.am_repair.proofs.Going.{StepOfSchedule, WorldAfterScheduledEvent as Does, idles, steps, scheduled_event_steps_or_idles as does_ours}
use Rattle.am_repair.proofs.Steps.{sequencer_goes_on_from_itself, letter_at_of_appended_letters}
use Rattle.am_repair.proofs.Silent.{step_sends_nothing_or_stays, sender_of_effect_is_node}
use Rattle.am_repair.proofs.Fine.{WorldKeepsLawsAndCalm, letters_grow_by_event}
use Rattle.am_repair.proofs.Answered.Outs.{AllSendsHaveGoneOut, greatest_requests_gone_out, PacketHasGoneOut, run_sends_have_gone_out}
use Rattle.am_repair_takes.specs.Taking.{IsTaking, ours, takes_one}
use Rattle.am_repair_takes.specs.Quiet.{GoesOnBySends, NoAsk, Quiet, QuietStays}
use Rattle.am_repair_takes.specs.Resting.{NobodyAsks, count_of_unnumbered_sends}
use Rattle.am_repair_takes.proofs.Rows.{Took, nothing as none_taken, next as one_taken, take_is, take_node, take_alike}
use Rattle.am_repair_takes.proofs.Calm.{one_fine}
use Rattle.am_repair_takes.proofs.Sums.{set_falls}
use Rattle.am_repair_takes.proofs.TakenReports.{refreshed_taken}
use Rattle.am_repair_takes.proofs.Stands.{IsNumbered, last_rises, member_stays, known_member, numbers_fit, numbered_fits, numbered_refreshed, numbered_settled, run_numbered}

-- ---- the sequencer's list

-- it goes on by sends, and as many entries as it has, with the sends that it hasn't numbered, are no more than so many
pub record Ours (r : Repair) (last : ℕ → ℕ) (total : ℕ) (log : Log) : Type 0 where
  pub goes : GoesOnBySends r.members r.high log
  pub open goes use *
  pub few : top_of_log log + count_of_unnumbered_sends last (image_of_log log) (names_of r.members) ≤ total

pub members_now : (r : Repair) (last : ℕ → ℕ) (total : ℕ) (log : Log) → r.high ≤ top_of_log log → Ours r last total log → members_of_image (image_of_log log) ≡ r.members
members_now r last total log high h = ap members_of_image (sym (image_at_top_is_told log)) ∙ h.members_ (top_of_log log) high (omega arith)

entry_last : (log : Log) (e : Entry) → log_entry_at (log_with_entry log e) (top_of_log log + 1) ≡ Some e
entry_last log e = entry_at_of_list_item (log_with_entry log e) (length log.entries + 0) (top_of_log log + 1) e (slice_get_of_append_back log.entries (e ∷ []) 0) (omega arith)

-- one send fewer has no number
numbered_one : (last : ℕ → ℕ) (image : Image) (n from req : ℕ) (body : List ℕ) (set : List ℕ) → length set ≡ 16 → UnusedPlacesHaveNoLife image → members_of_image image ≡ set
    → fits image (Data from req body) ≡ true → has set from ≡ true → req ≤ last from
    → count_of_unnumbered_sends last (after image n (Data from req body)) (names_of set) + 1 ≤ count_of_unnumbered_sends last image (names_of set)
numbered_one last image n from req body set long used is fit there low =
    let e = Data from req body in
    let goes = data_row_goes_on image n from req body fit in
    let next = goes.0 in
    let now = goes.1 in
    set_falls (λ name. last name - (row_of_name (after image n e) name).last) (λ name. last name - (row_of_name image name).last) set from long there
    (λ other here. (let up = last_rises image n e other used fit
    (member_stays image other used.places (subst (λ s. has s other ≡ true) (sym is) here)) in omega arith))
    (omega arith)

ours_pushed : (r : Repair) (last : ℕ → ℕ) (total : ℕ) (log : Log) (from req : ℕ) (body : List ℕ) → length r.members ≡ 16 → UnusedPlacesHaveNoLife (image_of_log log)
    → r.high ≤ top_of_log log → fits (image_of_log log) (Data from req body) ≡ true → has r.members from ≡ true → req ≤ last from → Ours r last total log
    → Ours r last total (log_with_entry log (Data from req body))
ours_pushed r last total log from req body long used high fit there low h =
    let e = Data from req body in
    let new = log_with_entry log e in
    let more : top_of_log new ≡ top_of_log log + 1 = simp length-append (omega arith) in
    let grows = log_grows_by_push log e in
    let told_ = told_by_pushed_entry log e in
    let members_new = members_now r last total log high h in
    record {
      goes = record {
        members_ = λ k above within. elim (cases_lt k (top_of_log log + 1)) [
          | inl old ↦ ap members_of_image (grows.image k (omega arith)) ∙ h.members_ k above (omega arith)
          | inr now ↦ (let at : k ≡ top_of_log new = omega arith in
              ap (log_members_at new) at ∙ ap members_of_image (image_at_top_is_told new ∙ told_) ∙ members_of_after_data (image_of_log log) (top_of_log log + 1) from req body ∙ members_new)
        ];
        counted_ = λ k above within. elim (cases_lt k (top_of_log log + 1)) [
          | inl old ↦ counted_at_in_grown_log log new k grows (omega arith) ∙ h.counted_ k above (omega arith)
          | inr now ↦ (let at : k ≡ top_of_log log + 1 = omega arith in
              let entry : log_entry_at new k ≡ Some e = ap (log_entry_at new) at ∙ entry_last log e in
              let before : k - 1 ≡ top_of_log log = omega arith in
              ap (λ x. counting_names_of_entry x (log_members_at new (k - 1))) entry ∙ ap (log_members_at new) before
              ∙ ap members_of_image (grows.image (top_of_log log) (omega arith)) ∙ h.members_ (top_of_log log) high (omega arith))
        ];
        fit_ = λ k x is. elim (cases_lt k (top_of_log log + 1)) [
          | inl old ↦ ap (λ (i : Image). fits i x) (grows.image (k - 1) (omega arith)) ∙ h.fit_ k x (sym (grows.entry k (omega arith)) ∙ is)
          | inr now ↦ (let within = entry_at_is_within_log new k x is in
              let high_ = within.1 in
              let at : k ≡ top_of_log log + 1 = omega arith in
              let same : Some e ≡ Some x = sym (entry_last log e) ∙ ap (log_entry_at new) (sym at) ∙ is in
              let entry : e ≡ x = cc in
              let before : k - 1 ≡ top_of_log log = omega arith in
              ap (λ y. fits (log_image_at new (k - 1)) y) (sym entry) ∙ ap (λ j. fits (log_image_at new j) e) before
              ∙ ap (λ (i : Image). fits i e) (grows.image (top_of_log log) (omega arith) ∙ image_at_top_is_told log) ∙ fit)
        ];
      };
      few =
          (let less = numbered_one last (image_of_log log) (top_of_log log + 1) from req body r.members long used members_new fit there low in
          let same = ap (λ (i : Image). count_of_unnumbered_sends last i (names_of r.members)) told_ in
          let few = h.few in
          omega arith);
    }

-- ---- the sequencer's changes

-- of a cause that brings a send: that was sent
abbrev pub AsksFew : (ℕ → ℕ) → Cause → Type 0
AsksFew last c = (s : ℕ) (v : Stamp) (report : Report) (req : ℕ) (body : List ℕ) → CauseHasSend c s v report req body → req ≤ last s

-- it trims and knows no less
pub record Kept (r : Repair) (q m : Node) : Type 0 where
  pub base : q.core.base ≤ m.core.base
  pub taken : (name : ℕ) → (q.reports name).taken ≤ (m.reports name).taken

pub record Leading (r : Repair) (last : ℕ → ℕ) (total : ℕ) (q m : Node) : Type 0 where
  pub list : Ours r last total m.core.log
  pub numbered : IsNumbered m
  pub sent : m.sends.last ≡ last r.by
  pub kept : Kept r q m

pub base_refreshed : (m : Node) → m.core.base ≤ (refresh m).core.base
unfolding refresh refresh_as_sequencer raise_own_report tell_accept_front advance_with_reports trim_to_least_taken raise_accepted_to_told pass_over_below_join
base_refreshed m = split_on_bool (is_sequencer m)
    (λ t. rw t (base_after_keeps_lower_bound m.core.base m.core.base _ (omega arith)))
    (λ f. rw f (omega arith))

kept_refreshed : (r : Repair) (q m : Node) → Kept r q m → Kept r q (refresh m)
kept_refreshed r q m h =
    let up = base_refreshed m in
    let base = h.base in
    record { base = omega arith; taken = λ name. (let a = h.taken name in let b = refreshed_taken m name in omega arith) }

settled_last : (m : Node) → (settle_waiting_send m).sends.last ≡ m.sends.last
settled_last m = settle_keeps_property (λ (n : Node). n.sends.last ≡ m.sends.last) m refl (λ s k w at. refl)

leading_refreshed : (r : Repair) (last : ℕ → ℕ) (total : ℕ) (q m : Node) → Leading r last total q m → Leading r last total q (refresh m)
leading_refreshed r last total q m h =
    record {
      list = subst (Ours r last total) (sym ((refresh_rests_with_list m).log)) h.list;
      numbered = numbered_refreshed m h.numbered;
      sent = ap (λ (x : Node). x.sends.last) (refresh_changes_only_fronts m) ∙ h.sent;
      kept = kept_refreshed r q m h.kept;
    }

leading_settled : (r : Repair) (last : ℕ → ℕ) (total : ℕ) (q m : Node) → Leading r last total q m → Leading r last total q (settle_waiting_send m)
leading_settled r last total q m h =
    let same : (settle_waiting_send m).core ≡ m.core = ap (λ (x : Node). x.core) (settle_changes_only_sends m) in
    record {
      list = subst (λ (c : CoreState). Ours r last total c.log) (sym same) h.list;
      numbered = numbered_settled m h.numbered;
      sent = settled_last m ∙ h.sent;
      kept = subst (Kept r q) (sym (settle_changes_only_sends m)) (record { base = h.kept.base; taken = h.kept.taken });
    }

leading_pushed : (r : Repair) (last : ℕ → ℕ) (total : ℕ) (c : Cause) (q m : Node) (from req : ℕ) (body : List ℕ) → length r.members ≡ 16 → NodeTrimFronts m
    → has (members m) m.core.who ≡ true → LeadsCalmly r m → IsNumberedBy c m (Data from req body) → has r.members from ≡ true → req ≤ last from
    → Leading r last total q m → Leading r last total q (push_entry m (Data from req body))
leading_pushed r last total c q m from req body long f own_ l why there low h =
    let used = told_image_is_used m f in
    let fit = numbers_fit c m (Data from req body) why used.places own_ h.numbered in
    record {
      list = ours_pushed r last total m.core.log from req body long used l.high fit there low h.list;
      numbered = numbered_fits m (Data from req body) used fit (member_stays (image_of_node m) m.core.who used.places own_) h.numbered;
      sent = h.sent;
      kept = record { base = h.kept.base; taken = h.kept.taken };
    }

-- what is numbered is a send of a member, and was sent
leading_numbers : (r : Repair) (w : World) (last : ℕ → ℕ) (total : ℕ) (c : Cause) (q m : Node) (e : Entry) → CalmCause r w c → CauseIsNoJoin c → AsksFew last c
    → length r.members ≡ 16 → has r.members r.by ≡ true → m.core.who ≡ r.by → NodeTrimFronts m → has (members m) m.core.who ≡ true → LeadsCalmly r m → IsNumberedBy c m e
    → Leading r last total q m → Leading r last total q (push_entry m e)
leading_numbers r w last total c q m e calm none few long listed own f own_ l (asked_send s v report req body by known left next) h =
    let used = told_image_is_used m f in
    let member = known_member (image_of_node m) s used.places known left in
    let there = subst (λ set. has set s ≡ true) (members_now r last total m.core.log l.high h.list) member in
    leading_pushed r last total c q m s req body long f own_ l (asked_send s v report req body by known left next) there (few s v report req body by) h
leading_numbers r w last total c q m e calm none few long listed own f own_ l (own_send s is above) h =
    let there = subst (λ i. has r.members i ≡ true) (sym own) listed in
    let low = waiting_request_le_last m.sends.last m.sends.queue s h.numbered.line is in
    let sent = h.sent in
    let same = ap last own in
    leading_pushed r last total c q m m.core.who s.req s.body long f own_ l (own_send s is above) there (omega arith) h
leading_numbers r w last total c q m e calm none few long listed own f own_ l (asked_join s v is other fit) h = absurd (none s v is)
leading_numbers r w last total c q m e calm none few long listed own f own_ l (asked_leave s v report is other known stays) h = absurd
    (let k = subst (CalmCause r w) is calm in past_name_has_left (image_of_node m) s (l.gone s k.0) known stays)

leading_change : (r : Repair) (taken : ℕ → ℕ) (w : World) (last : ℕ → ℕ) (total : ℕ) (q : Node) (c : Cause) (o : Outcome) (m n : Node) → r.view.by ≡ r.by
    → CalmCause r w c → CauseIsNoJoin c → AsksFew last c → length r.members ≡ 16 → has r.members r.by ≡ true → NodeTrimFronts m
    → (is_sequencer m ≡ true → has (members m) m.core.who ≡ true) → SequencerGoesOn r taken q m → Change c o m n → Leading r last total q m → Leading r last total q n
leading_change r taken w last total q c o m n by calm none few long listed f own_ g refreshes h = leading_refreshed r last total q m h
leading_change r taken w last total q c o m n by calm none few long listed f own_ g settles h = leading_settled r last total q m h
leading_change r taken w last total q c o m n by calm none few long listed f own_ g (takes_report s v report brings may) h =
    record {
      list = h.list;
      numbered = record { line = h.numbered.line; next = h.numbered.next; low = h.numbered.low };
      sent = h.sent;
      kept = record {
        base = h.kept.base;
        taken = λ name. (let a = h.kept.taken name in let b = (after_report_is_no_less m.reports s report name).taken in omega arith);
      };
    }
leading_change r taken w last total q c o m n by calm none few long listed f own_ g (admits s v is leads fit) h = absurd (none s v is)
leading_change r taken w last total q c o m n by calm none few long listed f own_ g (numbers e leads room why) h =
    leading_numbers r w last total c q m e calm none few long listed g.own f (own_ leads) g.leads why h
leading_change r taken w last total q c o m n by calm none few long listed f own_ g (keeps_body s v report req body is heard) h =
    record {
      list = h.list;
      numbered = record { line = h.numbered.line; next = h.numbered.next; low = h.numbered.low };
      sent = h.sent;
      kept = record { base = h.kept.base; taken = h.kept.taken };
    }
leading_change r taken w last total q c o m n by calm none few long listed f own_ g (notes s v base acc brings heard) h =
    absurd (let a = hearer_of_sequencer_leads_not m s v heard in let b = g.leads.leads in cc)
leading_change r taken w last total q c o m n by calm none few long listed f own_ g (stores s v base acc number e carries heard plain_ may) h = absurd
    (let a = hearer_of_sequencer_leads_not m s v heard in let b = g.leads.leads in cc)
leading_change r taken w last total q c o m n by calm none few long listed f own_ g (begins_list s v base join image is says may) h =
    absurd (let a = (acting_member_promised_its_view m (sequencer_acts_by_own_view m g.leads.leads).0).0 in let b = may.no_member in cc)
leading_change r taken w last total q c o m n by calm none few long listed f own_ g (departs s v number is heard leaves) h =
    absurd (let a = g.leads.rest.stays in cc)
leading_change r taken w last total q c o m n by calm none few long listed f own_ g (promises v low why) h = absurd (elim why [
  | invited s v_ is heard own ↦ subst (CalmCause r w) is calm
  | overtaken s v_ vote is heard above ↦ subst (CalmCause r w) is calm
  | told_result s base number u is heard own other ↦
      let same : v ≡ r.view = (subst (CalmCause r w) is calm) (eqb-true v.by s own) in
      let mine = g.own in
      let z : ⊥ = grind (arith, nat_tests) in z
])
leading_change r taken w last total q c o m n by calm none few long listed f own_ g (opens least resilience begins may) h =
    absurd (no_ballot_begins_in_calm r w c m calm begins)
leading_change r taken w last total q c o m n by calm none few long listed f own_ g (looks b verdict over why look is) h = absurd
    (let k = balloting_node_has_open_ballot c m b why in finished_ballot_is_not_open m k.0 k.1 g.leads.rest.no_ballot)
leading_change r taken w last total q c o m n by calm none few long listed f own_ g (fetches s v base number e is heard promise below why may) h =
    absurd (acting_node_has_promised_view m v (sequencer_acts_by_own_view m g.leads.leads).0 (stamp_eq_gives_equality v m.core.promise promise) below)
leading_change r taken w last total q c o m n by calm none few long listed f own_ g (stores_view s base number v is heard own other promise below may) h =
    absurd (acting_node_has_promised_view m v.stamp (sequencer_acts_by_own_view m g.leads.leads).0 (sym promise) below)
leading_change r taken w last total q c o m n by calm none few long listed f own_ g (queues body is says member stays_ few_) h =
    absurd (subst (CalmCause r w) is calm)
leading_change r taken w last total q c o m n by calm none few long listed f own_ g (collects req is) h = absurd (subst (CalmCause r w) is calm)
leading_change r taken w last total q c o m n by calm none few long listed f own_ g (takes e is says member some there) h =
    absurd (subst (CalmCause r w) is calm)
leading_change r taken w last total q c o m n by calm none few long listed f own_ g (asks_to_join is was) h = absurd (subst (CalmCause r w) is calm)
leading_change r taken w last total q c o m n by calm none few long listed f own_ g (asks_to_leave is was stays done) h =
    absurd (subst (CalmCause r w) is calm)
leading_change r taken w last total q c o m n by calm none few long listed f own_ g (closes leads leaves alone room) h =
    absurd (let a = g.leads.rest.stays in cc)

leading_changes : (rules : Rules) (r : Repair) (taken : ℕ → ℕ) (w : World) (last : ℕ → ℕ) (total : ℕ) (q : Node) {c : Cause} {o : Outcome} (m n : Node)
    → r.view.by ≡ r.by → CalmCause r w c → CauseTellsTaken r taken c → CauseIsNoJoin c → AsksFew last c → length r.members ≡ 16 → has r.members r.by ≡ true
    → HeardStampsHaveNames c → HeardWelcomeImageIsUsed c → Changes c o m n → TrimsOnlyTakenAlongStep rules m → SequencerGoesOn r taken q m → Leading r last total q m → Leading r last total q n
leading_changes rules r taken w last total q m n by calm tells none few long listed names used no_change a g h = h
leading_changes rules r taken w last total q m n by calm tells none few long listed names used (changed {n = x} one more) a g h =
    leading_changes rules r taken w last total q x n by calm tells none few long listed names used more
    (changes_trim_only_taken rules m x names used (changed one no_change) a)
    (sequencer_goes_on_by_change r taken w q _ _ m x by calm tells a.owned.fronts one g)
    (leading_change r taken w last total q _ _ m x by calm none few long listed a.owned.fronts a.owned.leads g one h)

-- ---- who asks, and what was sent

-- a tick, a take, a reset or a giving up, or a letter
abbrev pub IsMild : Cause → Type 0
IsMild (calls does.Tick) = Unit {0}
IsMild (calls does.Take) = Unit {0}
IsMild (calls (does.Reset least resilience)) = Unit {0}
IsMild (calls (does.GiveUp name)) = Unit {0}
IsMild (calls event) = ⊥
IsMild _ = Unit {0}

calm_mild : (r : Repair) (w : World) (c : Cause) → CalmCause r w c → IsMild c
calm_mild r w (calls does.Tick) h = tt
calm_mild r w (calls event) h = absurd h
calm_mild r w _ h = tt

-- it isn't asking, and has sent no more
pub record IsSame (m n : Node) : Type 0 where
  pub asks : is_asking_status m.status ≡ false → is_asking_status n.status ≡ false
  pub last : n.sends.last ≡ m.sends.last

same_looked : (m : Node) (b : Ballot) (v : BallotVerdict) → LooksAtBallot m b v → IsSame m v.node
same_looked m b v (finds_itself_out x) = record { asks = λ f. f; last = refl }
same_looked m b v _ = record { asks = λ f. f; last = refl }

same_change : {c : Cause} {o : Outcome} (m n : Node) → IsMild c → Change c o m n → IsSame m n
same_change m n mild refreshes = let r = (refresh_rests_with_list m).rests in record { asks = λ f. ap is_asking_status r.status ∙ f; last = r.asked }
same_change m n mild settles = record { asks = λ f. ap (λ (x : Node). is_asking_status x.status) (settle_changes_only_sends m) ∙ f; last = settled_last m }
same_change m n mild (begins_list s v base join image is says may) = record { asks = λ f. refl; last = refl }
same_change m n mild (departs s v number is heard leaves) = record { asks = λ f. refl; last = refl }
same_change m n mild (looks b verdict over why look is) = same_looked m b verdict look
same_change m n mild (queues body is says member stays few) = absurd (subst IsMild is mild)
same_change m n mild (asks_to_join is was) = absurd (subst IsMild is mild)
same_change m n mild (closes leads leaves alone room) =
    let r = (end_refresh_rests_with_list (push_entry m (Leave m.core.who))).rests in record { asks = λ f. refl; last = r.asked }
same_change m n mild (collects req is) = absurd (subst IsMild is mild)
same_change m n mild _ = record { asks = λ f. f; last = refl }

pub same_changes : {c : Cause} {o : Outcome} (m n : Node) → IsMild c → Changes c o m n → IsSame m n
same_changes m n mild no_change = record { asks = λ f. f; last = refl }
same_changes m n mild (changed {n = x} one more) =
    let a = same_change m x mild one in
    let b = same_changes x n mild more in
    record { asks = λ f. b.asks (a.asks f); last = b.last ∙ a.last }

-- a packet that isn't a request to join

says_no_ask : (m n : Node) (c : Cause) (to : List ℕ) (p : Packet) → is_asking_status n.status ≡ false → Says m c n to p → NoAsk p
says_no_ask m n c to p f (join_ask _ asks) = absurd (cc)
says_no_ask m n c to p f _ = tt

pub AreNoAsks : List Letter → Type 0
AreNoAsks letters = (k : ℕ) (l : Letter) → slice_get letters k ≡ Some l → NoAsk l.packet

none_asked : (letters : List Letter) → letters ≡ [] → AreNoAsks letters
unfolding AreNoAsks
none_asked letters nothing k l there = absurd (let z = ap (λ ls. slice_get ls k) nothing in cc)

said_no_ask : (m n : Node) (c : Cause) (letters : List Letter) → is_asking_status n.status ≡ false → All (LetterSays m c n) letters → AreNoAsks letters
unfolding AreNoAsks
said_no_ask m n c letters f all k l there = says_no_ask m n c l.to l.packet f (item_of_index_has_property (LetterSays m c n) letters k l all there).says

sent_no_ask : (r : Repair) (w : World) (e : Event) (s : StepResult) → StepOfSchedule r w e s → is_asking_status (w.nodes (acting_name w e)).status ≡ false → AreNoAsks s.letters
sent_no_ask r w e s k f =
    let m = w.nodes (acting_name w e) in
    let now = (same_changes m s.node (calm_mild r w k.cause k.calm) k.effect.changes).asks f in
    split_on_bool (has_departed m.status)
    (λ t. none_asked s.letters (k.still t).letters)
    (λ here. either (step_sends_nothing_or_stays m s.letters s.node k.effect.ending here)
    (λ nothing. none_asked s.letters nothing)
    (λ there. said_no_ask m s.node k.cause s.letters now
    (subst (λ (x : Node). All (LetterSays m k.cause x) s.letters) (sender_of_effect_is_node m k.cause s k.effect there) k.effect.letters)))

-- ---- a quiet world

-- of a run
pub record QuietRun (rules : Rules) (r : Repair) (last : ℕ → ℕ) (total : ℕ) (w : World) : Type 0 where
  pub may : MayFound rules
  pub events : List Event
  pub run_ : w ≡ run rules events
  pub world_is_quiet : Quiet r last total w
  pub open world_is_quiet use *

pub ours_of : (rules : Rules) (r : Repair) (last : ℕ → ℕ) (total : ℕ) (w : World) → QuietRun rules r last total w → Ours r last total (w.nodes r.by).core.log
ours_of rules r last total w h = record { goes = h.list; few = h.few }

pub laws_of : (rules : Rules) (r : Repair) (last : ℕ → ℕ) (total : ℕ) (w : World) → QuietRun rules r last total w → WorldTrimsOnlyTaken rules w
laws_of rules r last total w h = subst (WorldTrimsOnlyTaken rules) (sym h.run_) (run_trims_only_taken rules h.events h.may)

pub fine_of : (rules : Rules) (r : Repair) (last : ℕ → ℕ) (total : ℕ) (w : World) → QuietRun rules r last total w → WorldKeepsLawsAndCalm rules r w
fine_of rules r last total w h = record { laws = laws_of rules r last total w h; calm = h.calm }

pub numbered_of : (rules : Rules) (r : Repair) (last : ℕ → ℕ) (total : ℕ) (w : World) (name : ℕ) → QuietRun rules r last total w → name < 256
    → IsNumbered (w.nodes name)
numbered_of rules r last total w name h few = subst (λ (u : World). IsNumbered (u.nodes name)) (sym h.run_) (run_numbered rules h.events h.may name few)

out_of : (rules : Rules) (r : Repair) (last : ℕ → ℕ) (total : ℕ) (w : World) → QuietRun rules r last total w → AllSendsHaveGoneOut w
out_of rules r last total w h = subst AllSendsHaveGoneOut (sym h.run_) (run_sends_have_gone_out rules h.events h.may)

-- the world after an event, and that its sequencer has no less
record Next (rules : Rules) (r : Repair) (last : ℕ → ℕ) (total : ℕ) (w v : World) : Type 0 where
  list : Ours r last total (v.nodes r.by).core.log
  kept : Kept r (w.nodes r.by) (v.nodes r.by)
  asks : NobodyAsks v
  letters : (number : ℕ) (l : Letter) → r.sent < number → letter_at v.letters number ≡ Some l → NoAsk l.packet
  lasts : (name : ℕ) → (v.nodes name).sends.last ≡ last name

kept_same : (r : Repair) (m n : Node) → n ≡ m → Kept r m n
kept_same r m n same = subst (Kept r m) (sym same) (record { base = omega arith; taken = λ name. omega arith })

next_recorded : (rules : Rules) (r : Repair) (last : ℕ → ℕ) (total : ℕ) (w : World) (e : Event) (o : Outcome) → QuietRun rules r last total w
    → Next rules r last total w (world_with_record w e o)
unfolding world_with_record
next_recorded rules r last total w e o h = record {
  list = ours_of rules r last total w h;
  kept = kept_same r (w.nodes r.by) (w.nodes r.by) refl;
  asks = h.asks;
  letters = h.letters;
  lasts = h.lasts;
}

-- a step of a name that runs, of which its node's part is known
record IsStep (rules : Rules) (r : Repair) (last : ℕ → ℕ) (total : ℕ) (w : World) (name : ℕ) (s : StepResult) : Type 0 where
  runs : is_stopped w name ≡ false
  same : IsSame (w.nodes name) s.node
  letters : AreNoAsks s.letters
  leads : name ≡ r.by → Ours r last total s.node.core.log × Kept r (w.nodes r.by) s.node

next_stepped : (rules : Rules) (r : Repair) (last : ℕ → ℕ) (total : ℕ) (w : World) (e : Event) (name : ℕ) (s : StepResult) → QuietRun rules r last total w
    → IsStep rules r last total w name s → Next rules r last total w (world_with_step w e name s)
unfolding world_with_step AreNoAsks
next_stepped rules r last total w e name s h k =
    let v = world_with_step w e name s in
    record {
      list = split_on_bool (r.by == name)
          (λ t. let same : name ≡ r.by = sym (eqb-true r.by name t) in rw t (k.leads same).0)
          (λ f. rw f (ours_of rules r last total w h));
      kept = split_on_bool (r.by == name)
          (λ t. let same : name ≡ r.by = sym (eqb-true r.by name t) in rw t (k.leads same).1)
          (λ f. kept_same r (w.nodes r.by) (v.nodes r.by) (rw f refl));
      asks = λ i runs. split_on_bool (i == name)
          (λ t. rw t (k.same.asks (h.asks name k.runs)))
          (λ f. rw f (h.asks i runs));
      letters = λ number l late there. either (letter_at_of_appended_letters w.letters s.letters number l there)
          (λ old. h.letters number l late old)
          (λ new. k.letters new.0 l new.1);
      lasts = λ i. split_on_bool (i == name)
          (λ t. rw t (k.same.last ∙ h.lasts name ∙ ap last (sym (eqb-true i name t))))
          (λ f. rw f (h.lasts i));
    }

-- ---- ticks and letters

no_join_heard : (w : World) (e : Event) (c : Cause) (name : ℕ) → IsCause w name e.act c
    → ((l : Letter) → letter_at w.letters (packet_heard_by_act e.act) ≡ Some l → NoAsk l.packet) → CauseIsNoJoin c
no_join_heard w e c name cause none s v is =
    let was : WasSentTo w name e.act (Packet.JoinAsk s v) = subst (IsCause w name e.act) is cause in
    subst NoAsk was.is (none was.letter was.there)

asks_few : (rules : Rules) (r : Repair) (last : ℕ → ℕ) (total : ℕ) (w : World) (e : Event) (c : Cause) → QuietRun rules r last total w
    → IsCause w (acting_name w e) e.act c → AsksFew last c
asks_few rules r last total w e c h cause s v report req body (by_request s_ v_ report_ req_ body_) =
    let all = out_of rules r last total w h in
    let low : req ≤ greatest_requests_gone_out w s = heard_packet_has_property (PacketHasGoneOut (greatest_requests_gone_out w)) w e c (Packet.Request s v report req body) cause refl all.letters in
    let same = h.lasts s in
    omega arith
asks_few rules r last total w e c h cause s v report req body (by_spread s_ v_ report_ req_ body_) =
    let all = out_of rules r last total w h in
    let low : req ≤ greatest_requests_gone_out w s = heard_packet_has_property (PacketHasGoneOut (greatest_requests_gone_out w)) w e c (Packet.Spread s v report req body) cause refl all.letters in
    let same = h.lasts s in
    omega arith

-- the letter that an event of a schedule hears is one of it
ours_heard : (r : Repair) (w : World) (e : Event) → IsOurs r e
    → ((number : ℕ) (l : Letter) → r.sent < number → letter_at w.letters number ≡ Some l → NoAsk l.packet)
    → (l : Letter) → letter_at w.letters (packet_heard_by_act e.act) ≡ Some l → NoAsk l.packet
ours_heard r w e (our_ticks place) h l there = absurd (cc)
ours_heard r w e (hears_ place number late) h l there = h number l late there

our_step : (rules : Rules) (r : Repair) (last : ℕ → ℕ) (total : ℕ) (w : World) (e : Event) (s : StepResult) → IsOurs r e → QuietRun rules r last total w
    → StepOfSchedule r w e s → IsStep rules r last total w (acting_name w e) s
our_step rules r last total w e s is h k =
    let name = acting_name w e in
    let laws = laws_of rules r last total w h in
    let c = k.cause in
    record {
      runs = k.runs;
      same = same_changes (w.nodes name) s.node (calm_mild r w c k.calm) k.effect.changes;
      letters = sent_no_ask r w e s k (h.asks name k.runs);
      leads = λ same.
          (let q = w.nodes r.by in
          let few = actor_is_below_256 rules w e laws.blanks.base.named in
          let effect = subst (λ i. Effect (w.nodes i) c s) same k.effect in
          let along = subst (λ i. TrimsOnlyTakenAlongStep rules (w.nodes i)) same (each_node_trims_only_taken rules w name few laws) in
          let z = leading_changes rules r (λ i. (w.nodes i).core.taken) w last total q q s.node h.calm.own k.calm
          (λ i v_ report brings. (told_report_is_of_sender r w c i v_ report brings k.calm).taken)
          (no_join_heard w e c name k.is (ours_heard r w e is h.letters)) (asks_few rules r last total w e c h k.is) h.places h.calm.listed
          (heard_stamps_have_names rules w e c laws.blanks.base k.is) (heard_welcome_image_is_used rules w e c laws k.is) effect.changes along (sequencer_goes_on_from_itself r w h.calm)
          (record {
            list = ours_of rules r last total w h;
            numbered = numbered_of rules r last total w r.by h (subst (λ i. i < 256) same few);
            sent = h.lasts r.by;
            kept = record { base = omega arith; taken = λ i. omega arith };
          }) in
          (z.list, z.kept));
    }

next_ours : (rules : Rules) (r : Repair) (last : ℕ → ℕ) (total : ℕ) (w : World) (e : Event) (v : World) → IsOurs r e → QuietRun rules r last total w
    → Does r w e v → Next rules r last total w v
next_ours rules r last total w e v is h (idles o) = next_recorded rules r last total w e o h
next_ours rules r last total w e v is h (steps s k) = next_stepped rules r last total w e (acting_name w e) s h (our_step rules r last total w e s is h k)

-- ---- takes

-- it sends a front at most
front_letters : (m x : Node) (o : Outcome) → AreNoAsks (finish m (plan_without_letters x o)).letters
unfolding finish AreNoAsks
front_letters m x o k l there = split_on_bool (sends_accept m (plan_without_letters x o) (refresh_at_end x))
    (λ t. split_on_bool (size (other_members (refresh_at_end x)) == 0)
    (λ u. absurd (let z = rw (t, u) at there in cc))
    (λ u. one k (rw (t, u) at there)))
    (λ f. absurd (let z = rw f at there in cc))
  where
    one : (k : ℕ) → slice_get (letter_to (other_members (refresh_at_end x)) (accept_packet_of (refresh_at_end x) false) ∷ []) k ≡ Some l → NoAsk l.packet
    one zero is = let same : letter_to (other_members (refresh_at_end x)) (accept_packet_of (refresh_at_end x) false) ≡ l = cc in subst (λ (y : Letter). NoAsk y.packet) same tt
    one (suc k) is = absurd (cc)

take_asks : (m : Node) → AreNoAsks (step m does.Take).letters
unfolding step row
take_asks m = subst (λ (p : Plan). AreNoAsks (finish m p).letters) (sym (take_is m).is) (front_letters m (take_is m).node (take_is m).outcome)

kept_took : (r : Repair) (m x : Node) → Took m x → Kept r m x
kept_took r m x none_taken = kept_same r m m refl
kept_took r m x (one_taken e member some there) = record { base = omega arith; taken = λ name. omega arith }

kept_end : (r : Repair) (q x : Node) → Kept r q (refresh x) → Kept r q (refresh_at_end x)
unfolding refresh_at_end
kept_end r q x h = subst (Kept r q) (sym (settle_changes_only_sends (refresh x))) (record { base = h.base; taken = h.taken })

kept_take : (r : Repair) (m : Node) → Kept r m (step m does.Take).node
kept_take r m =
    let k = take_is m in
    let a = kept_refreshed r m k.node (kept_took r m k.node k.took) in
    subst (Kept r m) (sym (take_node m)) (kept_end r m k.node a)

next_taken : (rules : Rules) (r : Repair) (last : ℕ → ℕ) (total : ℕ) (w : World) (e : Event) (name : ℕ) → is_stopped w name ≡ false
    → QuietRun rules r last total w → Next rules r last total w (world_with_step w e name (step (w.nodes name) does.Take))
next_taken rules r last total w e name runs h =
    let m = w.nodes name in
    let s = step m does.Take in
    next_stepped rules r last total w e name s h (record {
      runs = runs;
      same = same_changes m s.node tt (steps_have_effects m does.Take).changes;
      letters = take_asks m;
      leads = λ same. (
        subst (λ (l : Log). Ours r last total l) (sym (take_alike m).log) (subst (λ i. Ours r last total (w.nodes i).core.log) (sym same) (ours_of rules r last total w h)),
        subst (λ i. Kept r (w.nodes i) s.node) same (kept_take r m),
      );
    })

next_take : (rules : Rules) (r : Repair) (last : ℕ → ℕ) (total : ℕ) (w : World) (place : ℕ) → QuietRun rules r last total w
    → Next rules r last total w (happens w (event_at place Act.Take))
unfolding happens
next_take rules r last total w place h =
    let e = event_at place Act.Take in
    by_if (is_stopped w (acting_name w e)) _ _ (next_recorded rules r last total w e said.IsStopped h) (λ runs. next_taken rules r last total w e (acting_name w e) runs h)
  where
    by_if : (b : Bool) (u v : World) → Next rules r last total w u → (b ≡ false → Next rules r last total w v) → Next rules r last total w (if b then u else v)
    by_if true u v f g = f
    by_if false u v f g = g refl

-- ---- each event

next_of : (rules : Rules) (r : Repair) (last : ℕ → ℕ) (total : ℕ) (w : World) (e : Event) → IsTaking r e → QuietRun rules r last total w
    → Next rules r last total w (happens w e)
next_of rules r last total w e (ours e_ is) h = next_ours rules r last total w e (happens w e) is h (does_ours r w e is h.calm)
next_of rules r last total w e (takes_one place) h = next_take rules r last total w place h

one_more : (rules : Rules) (before : List Event) (e : Event) → happens (run rules before) e ≡ run rules (before ++ e ∷ [])
unfolding world_after_events
one_more rules before e = sym (runs_go_on (start rules) before (e ∷ []))

pub quiet_goes : (rules : Rules) (r : Repair) (last : ℕ → ℕ) (total : ℕ) (w : World) (e : Event) → IsTaking r e → QuietRun rules r last total w
    → QuietRun rules r last total (happens w e)
quiet_goes rules r last total w e is h =
    let n = next_of rules r last total w e is h in
    let more = letters_grow_by_event w e in
    let sent = h.sent in
    record {
      may = h.may;
      events = h.events ++ e ∷ [];
      run_ = ap (λ u. happens u e) h.run_ ∙ one_more rules h.events e;
      world_is_quiet = record {
        calm = (one_fine rules r w e is (fine_of rules r last total w h)).calm;
        sent = omega arith;
        places = h.places;
        list = n.list.goes;
        few = n.list.few;
        asks = n.asks;
        letters = n.letters;
        lasts = n.lasts;
      };
    }

pub kept_goes : (rules : Rules) (r : Repair) (last : ℕ → ℕ) (total : ℕ) (w : World) (e : Event) → IsTaking r e → QuietRun rules r last total w
    → Kept r (w.nodes r.by) ((happens w e).nodes r.by)
kept_goes rules r last total w e is h = (next_of rules r last total w e is h).kept

-- ---- a run that goes on

quiet_happens : (rules : Rules) (r : Repair) (last : ℕ → ℕ) (total : ℕ) (more : List Event) (w : World) → All (IsTaking r) more → QuietRun rules r last total w
    → QuietRun rules r last total (world_after_events w more)
unfolding world_after_events
quiet_happens rules r last total [] w all h = h
quiet_happens rules r last total (e ∷ more) w all h =
    quiet_happens rules r last total more (happens w e) (All-tail (IsTaking r) e more all)
    (quiet_goes rules r last total w e (All-head (IsTaking r) e more all) h)

pub quiet_stays : QuietStays
quiet_stays rules events more r last total may h all =
    let z = quiet_happens rules r last total more (run rules events) all (record { may = may; events = events; run_ = refl; world_is_quiet = h }) in
    subst (Quiet r last total) (sym (runs_go_on (start rules) events more)) z.world_is_quiet
