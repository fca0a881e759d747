-- A sequencer's step in its view keeps what is known of what was taken.
use Rattle.am_repair.proofs.Repairable.RepairedWords.{eqb-true, ◌≡◌, ◌⊎◌, inl, inr, either, ℕ, ◌<◌, ◌≤◌, ◌==◌, max, true, false, List, Some, slice_get, refl, sym, ap, ◌∙◌}
use Rattle.am_repair.proofs.Repairable.RepairedWords.{subst, arith, Join, Stamp, Rules, stamp_is_less, fits, top_of_log, Letter, Event, Group, Node, image_of_node, view, acts_in_its_view, is_sequencer}
use Rattle.am_repair.proofs.Repairable.RepairedWords.{has_log_by_status, StepResult, World, is_stopped, run, split_on_bool, Cause, hears, acting_name, WasSentTo, IsCause, item_of_index_has_property, stamp_not_below_itself, LetterGoesToItsKind}
use Rattle.am_repair.proofs.Repairable.RepairedWords.{run_letters_go_by_kind, parts_of_one_step, one_step_grows_group, CauseIsNoJoin, BaseAndTakenRise, reports_of_runs_are_true, cause_of_run_reports_taken, Packet}
use Rattle.am_repair.proofs.Repairable.Trims.{LetterHasLowBase, OtherHasTakenBase, took, joins, halts, SequencerTrimmedTaken, TrimStepWithGroup, LetterWasSentByStep, before, now}
use Rattle.am_repair.proofs.Repairable.Asked.{ReportsByJoinRequest, as_before, admitted_, join_request_event_asks}
use Rattle.am_repair.proofs.Repairable.Began.{node_rises_by_change}
use Rattle.am_repair.proofs.Repairable.Fresh.{WelcomeIsInLetters, joiner_has_no_list}
use Rattle.am_repair.proofs.Repairable.Fresh.{no_welcome_begins_joiner_list, welcome_stays_in_world}
use Rattle.am_repair.proofs.Repairable.Knew.{SequencerKnowsTaken, knew, anew, sequencer_knows_taken_by_changes}
use Rattle.am_repair.proofs.Repairable.Mailed.{said_letter_has_low_base, welcome_is_said_by_sequencer}
use Rattle.am_repair.proofs.Repairable.Trims as trims

-- ---- a request to join, or none

record JoinAsked (c : Cause) : Type 0 where
  from : ℕ
  stamp : Stamp
  is : c ≡ hears (Packet.JoinAsk from stamp)

join_or_none : (c : Cause) → JoinAsked c ⊎ CauseIsNoJoin c
join_or_none (hears (Packet.JoinAsk from stamp)) = inl (record { from = from; stamp = stamp; is = refl })
join_or_none _ = inr (λ s v is. absurd (cc))

-- ---- the step

module _ (rules : Rules) (events : List Event) (e : Event) (c : Cause) (step : StepResult) (s t : Group) (x : TrimStepWithGroup rules events e c step s t)
    (leads : is_sequencer ((run rules events).nodes (acting_name (run rules events) e)) ≡ true)
    (same : view step.node ≡ view ((run rules events).nodes (acting_name (run rules events) e))) where
  open parts_of_one_step rules events e step use {w, i, m, n, v}
  open one_step_grows_group x.goes use {few as few_i, kept_s, node_v as here, others_v as there}

  was : SequencerTrimmedTaken w i
  was = x.trims.settles i few_i leads x.runs

  rises : BaseAndTakenRise m n
  rises = node_rises_by_change rules m n (trims.cause_heard_small_names rules events e c step s t x) (trims.cause_heard_used_images rules events e c step s t x) x.effect.changes
      (trims.node_goes_along_rules rules events e c step s t x)

  same_v : view (v.nodes i) ≡ view m
  same_v = ap view here ∙ same

  -- who has no list has taken nothing
  none_taken : (j : ℕ) → j < 256 → has_log_by_status (w.nodes j).status ≡ false → (w.nodes j).core.taken ≡ 0
  none_taken j few none =
      let laws = trims.world_before_keeps_laws rules events e c step s t x in
      let blank = (laws.blanks.each j few none).blank_ in
      let size = ap top_of_log blank in
      let fronts = (laws.each j few).fronts in
      omega arith

  -- a Welcome that was sent before, or now
  welcomed : (j base low : ℕ) → low ≤ m.core.base → ((b : ℕ) → WelcomeIsInLetters w j b → low ≤ b) → WelcomeIsInLetters v j base → low ≤ base
  welcomed j base low under old h = elim (trims.letters_after_step_are_sent rules events e c step s t x h.number h.letter h.there) [
    | before k at ↦ old base (welcome_stays_in_world v w j base h k at)
    | now says ↦
        let is_ = (welcome_is_said_by_sequencer m n c h.letter h.from h.stamp base h.join h.image says h.is).base_ in
        let up = rises.base in
        omega arith
  ]

  -- what is known of a name is what was known, or was taken
  known_on : (j : ℕ) → j < 256 → (j == i) ≡ false → (n.reports j).taken ≤ max (m.reports j).taken (w.nodes j).core.taken → OtherHasTakenBase v was.low n j
  known_on j few other most = elim (was.knows j few other) [
    | took low ↦ took (let z = taken_v in omega arith)
    | joins none low welcomes ↦
        let zero_ = none_taken j few none in
        let up = rises.base in
        joins (ap (λ (y : Node). has_log_by_status y.status) (there j other) ∙ none) (omega arith)
        (λ base h. (let b = welcomed j base (m.reports j).taken low welcomes h in omega arith))
    | halts stop ↦ halts (trims.stopped_after_step_is_before rules events e c step s t x j ∙ stop)
  ]
    where
      taken_v : (v.nodes j).core.taken ≡ (w.nodes j).core.taken
      taken_v = ap (λ (y : Node). y.core.taken) (there j other)

  -- a name whose Join was numbered now
  known_joined : (j : ℕ) → j < 256 → (j == i) ≡ false → fits (image_of_node m) (Join j) ≡ true → (n.reports j).taken ≡ m.core.base → OtherHasTakenBase v was.low n j
  known_joined j few other fit base = split_on_bool (is_stopped w j)
      (λ stop. halts (trims.stopped_after_step_is_before rules events e c step s t x j ∙ stop))
      (λ goes.
      let who = trims.names_of_nodes_before rules events e c step s t x i in
      let none = joiner_has_no_list rules w s i j x.old kept_s few_i few who leads x.runs fit in
      let up = rises.base in
      joins (ap (λ (y : Node). has_log_by_status y.status) (there j other) ∙ none) (omega arith)
      (λ b h. (let z = welcomed j b m.core.base (omega arith)
      (λ b_ h_. absurd (no_welcome_begins_joiner_list rules w s i j x.old kept_s few_i few who leads x.runs fit b_ goes h_
      (item_of_index_has_property LetterGoesToItsKind w.letters h_.number h_.letter (run_letters_go_by_kind rules events) h_.there))) h in omega arith)))

  knows_n : (j : ℕ) → j < 256 → (j == i) ≡ false → OtherHasTakenBase v was.low n j
  knows_n j few other = either (join_or_none c) joined plainly
    where
      own : (j == m.core.who) ≡ false
      own = ap (λ k. j == k) (trims.names_of_nodes_before rules events e c step s t x i) ∙ other

      plainly : CauseIsNoJoin c → OtherHasTakenBase v was.low n j
      plainly none = by_know (sequencer_knows_taken_by_changes rules w.nodes m n none (cause_of_run_reports_taken w e c (reports_of_runs_are_true rules events x.may).letters x.cause)
          (trims.cause_heard_small_names rules events e c step s t x) (trims.cause_heard_used_images rules events e c step s t x) x.effect.changes (trims.node_goes_along_rules rules events e c step s t x))
        where
          by_know : SequencerKnowsTaken w.nodes m n → OtherHasTakenBase v was.low n j
          by_know (knew who h) = known_on j few other (h j own)
          by_know (anew up) = absurd (let z = sym (ap (stamp_is_less (view m)) same) ∙ up in let y = stamp_not_below_itself (view m) in cc)

      joined : JoinAsked c → OtherHasTakenBase v was.low n j
      joined a = by_ask (subst (λ y. ReportsByJoinRequest m y a.from) (ap (λ (u : World). u.nodes i) (sym x.is) ∙ here)
          (join_request_event_asks w e a.from a.stamp sent.letter sent.there sent.is))
        where
          sent : WasSentTo w i e.act (Packet.JoinAsk a.from a.stamp)
          sent = subst (IsCause w i e.act) a.is x.cause

          by_ask : ReportsByJoinRequest m n a.from → OtherHasTakenBase v was.low n j
          by_ask (as_before h) = known_on j few other (let z = h j own in let y = ap (λ r. r.taken) z in omega arith)
          by_ask (admitted_ apart leads_ fit base h) = split_on_bool (j == a.from)
              (λ u.
              let is_ = eqb-true j a.from u in
              known_joined j few other (ap (λ k. fits (image_of_node m) (Join k)) is_ ∙ fit) (ap (λ k. (n.reports k).taken) is_ ∙ base))
              (λ f. known_on j few other (let z = h j own f in let y = ap (λ r. r.taken) z in omega arith))

  acting_v : (j : ℕ) → j < 256 → acts_in_its_view (v.nodes j) ≡ true → view (v.nodes j) ≡ view (v.nodes i) → was.low ≤ (v.nodes j).core.taken
  acting_v j few act at = split_on_bool (j == i)
      (λ u.
      let is_ = eqb-true j i u in
      let own = ((trims.world_after_keeps_laws rules events e c step s t x).each j few).fronts.base in
      let base = ap (λ k. (v.nodes k).core.base) is_ ∙ ap (λ (y : Node). y.core.base) here in
      let low = was.base in
      let up = rises.base in
      omega arith)
      (λ f.
      let node = there j f in
      let old = was.acting j few (sym (ap acts_in_its_view node) ∙ act) (sym (ap view node) ∙ at ∙ same_v) in
      let taken = ap (λ (y : Node). y.core.taken) node in
      omega arith)

  letters_v : (k : ℕ) (l : Letter) → slice_get v.letters k ≡ Some l → LetterHasLowBase i (view (v.nodes i)) was.low l.packet
  letters_v k l at = elim (trims.letters_after_step_are_sent rules events e c step s t x k l at) [
    | before k_ at_ ↦ subst (λ u. LetterHasLowBase i u was.low l.packet) (sym same_v) (was.letters k_ l at_)
    | now says ↦ said_letter_has_low_base m n c i (view (v.nodes i)) was.low l.to l.packet
        (let up = rises.base in let low = was.base in omega arith) says.says
  ]

  pub step_of_sequencer_settles : SequencerTrimmedTaken v i
  step_of_sequencer_settles = record {
    low = was.low;
    base = (let up = rises.base in let low = was.base in let base = ap (λ (y : Node). y.core.base) here in omega arith);
    acting = acting_v;
    letters = letters_v;
    knows = λ j few other. subst (λ y. OtherHasTakenBase v was.low y j) (sym here) (knows_n j few other);
  }
