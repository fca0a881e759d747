-- What a step makes of a node's base, and of what it knows another name to have taken: both stay within a limit that what it hears keeps.
use Rattle.am_repair.proofs.RepairWords.{Packet, ◌≡◌, ℕ, ◌≤◌, ◌==◌, List, refl, sym, ap, ◌∙◌, subst, arith, Stamp, Report, Outcome, Rules, Node, Ballot, BallotVerdict, is_sequencer}
use Rattle.am_repair.proofs.RepairWords.{Cause, hears, Says, Change, refreshes, settles, takes_report, admits, notes, begins_list, looks, fetches, stores_view, closes, LooksAtBallot, finds_no_room, decides}
use Rattle.am_repair.proofs.RepairWords.{HeardStampsHaveNames, HeardWelcomeImageIsUsed, TrimsOnlyTakenAlongStep, changes_trim_only_taken, settle_changes_only_sends, refresh_rests_with_list, split_on_bool, eqb-true}
use Rattle.am_repair.proofs.RepairWords.{node_with_report, refresh, refresh_at_end, nat_lt, nat_le, max, true, false, CauseHasReport, Log, if◌then◌else◌, raise_accepted_to_told, pass_over_below_join, bcast}
use Rattle.std.specs.Prelude.{length, unwrap_or}
use Rattle.am_base.specs.declared.entry.Entry.{Entry}
use Rattle.am_base.specs.Names.{names_of}
use Rattle.am_node_defs.specs.Reports.{least_of_names}
use Rattle.am_model.specs.Ballots.{need_set_of, need_set_without_given_up, taken_number_of_voter}
use Rattle.am_step_laws.specs.Causes.{CauseHasFronts, with_entry, with_number, alone}
use Rattle.am_step_laws.specs.Looks.{HasLearned}
use Rattle.am_step_laws.specs.Changes.{departs}
use Rattle.am_step_laws.specs.Courses.{IsPlainChange, PlainChangesInTurn, nothing_yet, used_report, and_then}
use Rattle.am_step_laws.proofs.Plans.{course_gives_changes}
use Rattle.am_step_laws.proofs.Rests.{is_sequencer_after_rest}
use Rattle.am_repair.proofs.Known.Reported.{CauseReportsTaken, reported_taken_le_taken, refresh_keeps_reports_of_others}
use Rattle.am_refinement.proofs.WholeSteps.Courses.{cause_brings_report, reporting_cause_brings_report, reporting_change_still_leads}
use Rattle.am_trim_laws.specs.Trims.{base_of_packet}

-- ---- what letters tell

-- a letter of a step tells the node's base after it, or none
pub said_base_le_base : (m n : Node) (c : Cause) (to : List ℕ) (p : Packet) → Says m c n to p → base_of_packet p ≤ n.core.base
said_base_le_base m n c to p (bcast _ number e leads at) = omega arith
said_base_le_base m n c to p _ = omega arith

-- the base that a node hears
abbrev pub heard_base : Cause → ℕ
heard_base (hears p) = base_of_packet p
heard_base _ = 0

noted_base : (c : Cause) (s : ℕ) (v : Stamp) (base acc : ℕ) → CauseHasFronts c s v base acc → heard_base c ≡ base
noted_base c s v base acc (with_entry _ _ _ _ number e) = refl
noted_base c s v base acc (with_number _ _ _ _ number from req) = refl
noted_base c s v base acc (alone _ _ _ _ high poll) = refl

-- ---- a limit

-- the base, and what is known of a name to be taken
pub record NumbersAreWithin (low base known : ℕ) : Type 0 where
  pub base_ : base ≤ low
  pub known_ : known ≤ low

abbrev pub NodeIsWithin : ℕ → ℕ → Node → Type 0
NodeIsWithin j low x = NumbersAreWithin low x.core.base (x.reports j).taken

-- what is heard, and what the name has taken
pub record HearsWithin (nodes : ℕ → Node) (c : Cause) (j low : ℕ) : Type 0 where
  pub heard : heard_base c ≤ low
  pub reports : CauseReportsTaken nodes c
  pub taken : (nodes j).core.taken ≤ low

noted_low : (base taken old low : ℕ) → base ≤ low → old ≤ low → max old (if nat_le base taken then base else old) ≤ low
noted_low base taken old low a b = split_on_bool (nat_le base taken) (λ t. rw t (omega arith)) (λ f. rw f (omega arith))

within_report : (nodes : ℕ → Node) (c : Cause) (j low : ℕ) (x : Node) (s : ℕ) (v : Stamp) (report : Report) → HearsWithin nodes c j low → CauseHasReport c s v report
    → (x.reports j).taken ≤ low → ((node_with_report x s report).reports j).taken ≤ low
within_report nodes c j low x s v report w brings h = split_on_bool (j == s)
    (λ t.
    let is : j ≡ s = eqb-true j s t in
    let a = reported_taken_le_taken nodes c s v report brings w.reports in
    let b = ap (λ k. (nodes k).core.taken) is in
    let d = ap (λ k. (x.reports k).taken) is in
    let z = w.taken in
    rw t (omega arith))
    (λ f. rw f h)

pub plain_change_stays_within : (nodes : ℕ → Node) (c : Cause) (o : Outcome) (j low : ℕ) (x y : Node) (z : Change c o x y) → IsPlainChange z → HearsWithin nodes c j low
    → NodeIsWithin j low x → NodeIsWithin j low y
plain_change_stays_within nodes c o j low x y refreshes p w h = absurd p
plain_change_stays_within nodes c o j low x y settles p w h = subst (NodeIsWithin j low) (sym (settle_changes_only_sends x)) (record { base_ = h.base_; known_ = h.known_ })
plain_change_stays_within nodes c o j low x y (takes_report s v report brings may) p w h =
    record { base_ = h.base_; known_ = within_report nodes c j low x s v report w brings h.known_ }
plain_change_stays_within nodes c o j low x y (admits s v is leads fit) p w h =
    record { base_ = h.base_; known_ = split_on_bool (j == s) (λ t. rw t h.base_) (λ f. rw f h.known_) }
plain_change_stays_within nodes c o j low x y (notes s v base acc brings heard) p w h =
    let is = noted_base c s v base acc brings in
    let a = w.heard in
    record { base_ = noted_low base x.core.taken x.core.base low (omega arith) h.base_; known_ = h.known_ }
plain_change_stays_within nodes c o j low x y (begins_list s v base join image is says may) p w h =
    let a = w.heard in
    let b = ap heard_base is in
    record { base_ = omega arith; known_ = h.known_ }
plain_change_stays_within nodes c o j low x y (departs s v number is heard leaves) p w h = absurd p
plain_change_stays_within nodes c o j low x y (looks b verdict over why look is) p w h = absurd p
plain_change_stays_within nodes c o j low x y (fetches s v base number e is heard promise below why may) p w h =
    let a = w.heard in
    let b = ap heard_base is in
    let k = h.base_ in
    record { base_ = omega arith; known_ = h.known_ }
plain_change_stays_within nodes c o j low x y (stores_view s base number v is heard own other promise below may) p w h =
    let a = w.heard in
    let b = ap heard_base is in
    let k = h.base_ in
    record { base_ = omega arith; known_ = h.known_ }
plain_change_stays_within nodes c o j low x y (closes leads leaves alone_ room) p w h = absurd p
plain_change_stays_within nodes c o j low x y _ p w h = h

-- ---- plain changes in turn

-- both are within the limit; or a sequencer took a report, and may have trimmed by what it knows
pub data CourseIsWithin (c : Cause) (j low : ℕ) (group : List Entry) (x : Node) : Type 0 where
  both : NodeIsWithin j low x → CourseIsWithin c j low group x
  reported : cause_brings_report c ≡ true → is_sequencer x ≡ true → x.core.log.start ≤ length group → (x.reports j).taken ≤ low → CourseIsWithin c j low group x

-- the known number alone; the base doesn't count
known_alone : (nodes : ℕ → Node) (c : Cause) (o : Outcome) (j low : ℕ) (x y : Node) (z : Change c o x y) → IsPlainChange z → HearsWithin nodes c j low → cause_brings_report c ≡ true
    → (x.reports j).taken ≤ low → (y.reports j).taken ≤ low
known_alone nodes c o j low x y refreshes p w t h = absurd p
known_alone nodes c o j low x y settles p w t h = subst (λ (n : Node). (n.reports j).taken ≤ low) (sym (settle_changes_only_sends x)) h
known_alone nodes c o j low x y (takes_report s v report brings may) p w t h = within_report nodes c j low x s v report w brings h
known_alone nodes c o j low x y (admits s v is leads fit) p w t h = absurd (let z = sym t ∙ ap cause_brings_report is in cc)
known_alone nodes c o j low x y (departs s v number is heard leaves) p w t h = absurd p
known_alone nodes c o j low x y (looks b verdict over why look is) p w t h = absurd p
known_alone nodes c o j low x y (closes leads leaves alone_ room) p w t h = absurd p
known_alone nodes c o j low x y _ p w t h = h

module _ (rules : Rules) (nodes : ℕ → Node) (group : List Entry) (j low : ℕ) where
  -- what holds of the node where its step begins, and of what it hears
  pub record StepBeginsWithin (c : Cause) (m : Node) : Type 0 where
    pub names : HeardStampsHaveNames c
    pub used : HeardWelcomeImageIsUsed c
    pub along : TrimsOnlyTakenAlongStep rules m
    pub start : m.core.log.start ≤ length group
    pub hears_ : HearsWithin nodes c j low
    pub other : (j == m.core.who) ≡ false
    pub node : NodeIsWithin j low m

  pub course_stays_within : (c : Cause) (o : Outcome) (m x : Node) → StepBeginsWithin c m → PlainChangesInTurn c o m x → CourseIsWithin c j low group x
  course_stays_within c o m x h nothing_yet = both h.node
  course_stays_within c o m x h (used_report s v report brings may) =
      let told = node_with_report m s report in
      let r = refresh_rests_with_list told in
      let start = h.start in
      let same = ap (λ (l : Log). l.start) r.log in
      let known = within_report nodes c j low m s v report h.hears_ brings h.node.known_ in
      reported (reporting_cause_brings_report s v report brings) (is_sequencer_after_rest r.rests ∙ may.leads) (omega arith)
      (subst (λ (k : Report). k.taken ≤ low) (sym (refresh_keeps_reports_of_others told j h.other)) known)
  course_stays_within c o m x h (and_then {n = n} before z plain) = by_before (course_stays_within c o m n h before)
    where
      by_before : CourseIsWithin c j low group n → CourseIsWithin c j low group x
      by_before (both k) = both (plain_change_stays_within nodes c o j low n x z plain h.hears_ k)
      by_before (reported brings leads start known) =
          let along = changes_trim_only_taken rules m n h.names h.used (course_gives_changes before) h.along in
          let still = reporting_change_still_leads group n x z plain brings leads start along.owned.fronts.accepted in
          reported brings still.leads still.start (known_alone nodes c o j low n x z plain h.hears_ brings known)

-- ---- a look at a ballot

abbrev pub least_taken_by_votes : Node → Ballot → ℕ
least_taken_by_votes x b = unwrap_or (least_of_names (taken_number_of_voter x.core.who x.core.taken b) (names_of (need_set_without_given_up b (need_set_of x b)))) 0

pub look_stays_within : (j low : ℕ) (x : Node) (b : Ballot) (v : BallotVerdict) → LooksAtBallot x b v → (HasLearned x b → least_taken_by_votes x b ≤ low) → NodeIsWithin j low x
    → NodeIsWithin j low v.node
look_stays_within j low x b v (finds_no_room learned) votes h = let a = votes learned in let k = h.base_ in record { base_ = omega arith; known_ = h.known_ }
look_stays_within j low x b v (decides may) votes h =
    let a = votes may.learned in
    let k = h.base_ in
    record { base_ = omega arith; known_ = split_on_bool (nat_lt j 256) (λ t. rw t (omega arith)) (λ f. rw f (omega arith)) }
look_stays_within j low x b v _ votes h = h

-- ---- the end of a step

follower_refresh_keeps_base : (x : Node) → is_sequencer x ≡ false → (refresh x).core.base ≡ x.core.base
unfolding refresh raise_accepted_to_told pass_over_below_join
follower_refresh_keeps_base x f = rw f refl

-- who is no sequencer trims nothing then
pub follower_end_keeps_base : (x : Node) → is_sequencer x ≡ false → (refresh_at_end x).core.base ≡ x.core.base
unfolding refresh_at_end
follower_end_keeps_base x f = ap (λ (n : Node). n.core.base) (settle_changes_only_sends (refresh x)) ∙ follower_refresh_keeps_base x f
