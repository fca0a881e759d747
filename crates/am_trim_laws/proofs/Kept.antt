-- What any node has trimmed, or any letter tells to be trimmed, was taken by each name that goes on, or is below a number at which it was a member: what
-- is kept of this in a run, and that a step keeps it.
use Rattle.am_repair.proofs.Repairable.RepairedWords.{◌≡◌, either, ℕ, ◌<◌, ◌≤◌, ◌==◌, ◌-◌, max, true, false, List, [], ◌∷◌, ◌++◌, length, take, refl, sym, ap, ◌∙◌, subst, arith, eqb-true}
use Rattle.am_repair.proofs.Repairable.RepairedWords.{All, All-nil, All-append, All-weaker, Rules, Event, Letter, Group, Node, Ballot, World, StepResult, has}
use Rattle.am_repair.proofs.Repairable.RepairedWords.{is_stopped, is_sequencer, has_departed, run, split_on_bool, packet_heard_by_act, world_with_step, is_member_at_end, refresh_at_end, members, Status, NameStands, Report, Entry}
use Rattle.am_repair.proofs.Repairable.RepairedWords.{Cause, hears, acting_name, WasSentTo, IsCause, steps, LetterSays, EndOfStep, at_end, let_go, closing}
use Rattle.am_repair.proofs.Repairable.RepairedWords.{beginning_is_no_longer, take_of_longer_list, end_refresh_rests_with_list}
use Rattle.am_repair.proofs.Repairable.RepairedWords.{HeardStampsHaveNames, HeardWelcomeImageIsUsed, TrimsOnlyTakenAlongStep, WorldTrimsOnlyTaken, run_trims_only_taken, events_trim_only_taken, each_node_trims_only_taken, heard_welcome_image_is_used, heard_stamps_have_names, number_bounds_hold_in_runs}
use Rattle.am_repair.proofs.Repairable.RepairedWords.{OneStepWithGroup, parts_of_one_step, one_step_grows_group, known_is_taken, sequencers_trim_known, reports_of_runs_are_true, cause_of_run_reports_taken, end_keeps_reports_of_others, BaseAndTakenRise}
use Rattle.am_repair.proofs.Repairable.RepairedWords.{departed_nodes_are_silent, departed_step_sends_no_letters, departed_status_is_departed}
use Rattle.am_repair.proofs.Repairable.Began.{node_rises_by_change}
use Rattle.am_repair.proofs.Silent.{step_sends_nothing_or_stays, sender_of_effect_is_node}
use Rattle.am_repair.specs.Known.{TrimsKnown}
use Rattle.am_step_laws.specs.Looks.{BallotIsLookedAt, HasLearned}
use Rattle.am_step_laws.specs.Courses.{PlainChangesInTurn, ChangesWithLook, plainly, looked}
use Rattle.am_step_laws.proofs.Items.{all_gives_item_at}
use Rattle.am_step_laws.proofs.Plans.{course_gives_changes}
use Rattle.am_step_laws.proofs.Rests.{is_sequencer_after_rest}
use Rattle.am_run_laws.proofs.SentRuns.{records_after_step, cause_of_step_was_sent}
use Rattle.am_refinement.specs.Standing.{within}
use Rattle.am_refinement.specs.Accepting.{nothing}
use Rattle.am_refinement.specs.Keeping.{Stepping}
use Rattle.am_refinement.proofs.NodeKeeping.Keeping.{looked_at_ballot_is_known, group_is_kept_at_step}
use Rattle.am_refinement.proofs.WholeSteps.Starting.{with_records, run_bodies_were_sent, step_begins_with_known_group}
use Rattle.am_refinement.proofs.WholeSteps.Worlds.{with_group_list}
use Rattle.am_refinement.proofs.WholeSteps.Refreshed.{FrontsMatchTheGroup}
use Rattle.am_refinement.proofs.WholeSteps.Courses.{ballot_look_brings_no_report, bool_never_true_and_false}
use Rattle.am_refinement.proofs.WholeSteps.StepGoing.{CourseSoFar, GroupListByNow, as_before, by_reports, course_stands_as_moves}
use Rattle.am_trim_laws.specs.Trims.{base_of_packet}
use Rattle.am_trim_laws.proofs.VotesTold.{CauseVoteTellsTaken, looked_votes_tell_taken, changes_keep_votes_told, cause_of_run_votes_taken, votes_tell_taken}
use Rattle.am_trim_laws.proofs.Bases.{heard_base, said_base_le_base, CourseIsWithin, both, reported, StepBeginsWithin, course_stays_within, look_stays_within, follower_end_keeps_base, least_taken_by_votes}
use Rattle.am_trim_laws.proofs.Least.{votes_least_is_taken}
use Rattle.am_trim_laws.proofs.Listed.{GoesOn, running_sequencer_lists_member}
use Rattle.std.proofs.lemmas.Bool.{cases_lt}

-- ---- what is kept

-- the group has accepted so much; and each such name has taken it, or it is below each number at which the name is a member by what is accepted
pub record NumberIsTaken (w : World) (b : ℕ) : Type 0 where
  pub accepted : b ≤ length w.group
  pub taken : (j number : ℕ) → GoesOn w j → is_member_at_end (take number w.group) j ≡ true → b ≤ max (w.nodes j).core.taken (number - 1)

abbrev pub LetterBaseIsTaken : World → Letter → Type 0
LetterBaseIsTaken w l = NumberIsTaken w (base_of_packet l.packet)

pub record AllBasesAreTaken (w : World) : Type 0 where
  pub nodes : (i : ℕ) → i < 256 → has_departed (w.nodes i).status ≡ false → NumberIsTaken w (w.nodes i).core.base
  pub letters : All (LetterBaseIsTaken w) w.letters

pub lower_number_is_taken : (w : World) (a b : ℕ) → a ≤ b → NumberIsTaken w b → NumberIsTaken w a
lower_number_is_taken w a b low h = record {
  accepted = (let z = h.accepted in omega arith);
  taken = λ j number on member. (let z = h.taken j number on member in omega arith);
}

pub nought_is_taken : (w : World) → NumberIsTaken w 0
nought_is_taken w = record { accepted = omega arith; taken = λ j number on member. omega arith }

-- ---- a step

module _ (rules : Rules) (events : List Event) (e : Event) (c : Cause) (step : StepResult) (s t : Group) (x : OneStepWithGroup rules events e c step s t)
    (old : AllBasesAreTaken (run rules events)) where
  open parts_of_one_step rules events e step use {w, i, m, n, v}
  open one_step_grows_group x use {few, kept_t, node_v, others_v, stands_n, group_grows, runs_v, node_run}

  laws_w : WorldTrimsOnlyTaken rules w
  laws_w = run_trims_only_taken rules events x.may

  laws_v : WorldTrimsOnlyTaken rules v
  laws_v = events_trim_only_taken rules w e v (steps c step x.runs x.cause x.effect) laws_w

  names : HeardStampsHaveNames c
  names = heard_stamps_have_names rules w e c laws_w.blanks.base x.cause

  used : HeardWelcomeImageIsUsed c
  used = heard_welcome_image_is_used rules w e c laws_w x.cause

  along : TrimsOnlyTakenAlongStep rules m
  along = each_node_trims_only_taken rules w i few laws_w

  up : BaseAndTakenRise m n
  up = node_rises_by_change rules m n names used x.effect.changes along

  taken_up : (j : ℕ) → (w.nodes j).core.taken ≤ (v.nodes j).core.taken
  taken_up j = split_on_bool (j == i)
      (λ u.
      let is : j ≡ i = eqb-true j i u in
      let a = ap (λ k. (w.nodes k).core.taken) is in
      let b = ap (λ k. (v.nodes k).core.taken) is in
      let d = ap (λ (y : Node). y.core.taken) node_v in
      let z = up.taken in
      omega arith)
      (λ f. let d = ap (λ (y : Node). y.core.taken) (others_v j f) in omega arith)

  -- what ends stays ended
  here_before : (j : ℕ) → j < 256 → has_departed (v.nodes j).status ≡ false → has_departed (w.nodes j).status ≡ false
  here_before j small here = split_on_bool (has_departed (w.nodes j).status)
      (λ u. absurd (
      let z = (x.grows.each j).departed ((x.old.stands.each j small).departed ∙ u) in
      let y = (x.new.stands.each j small).departed in
      bool_never_true_and_false _ z (y ∙ here)))
      (λ f. f)

  went_on : (j : ℕ) → GoesOn v j → GoesOn w j
  went_on j on =
      let a = x.old.stands.each j on.small in
      let b = x.new.stands.each j on.small in
      let g = x.grows.each j in
      record {
        small = on.small;
        runs = split_on_bool (is_stopped w j) (λ u. absurd (bool_never_true_and_false _ (g.stopped (a.stopped ∙ u)) (b.stopped ∙ on.runs))) (λ f. f);
        here = here_before j on.small on.here;
        stays = split_on_bool (w.nodes j).leaving (λ u. absurd (bool_never_true_and_false _ (g.leaving (a.leaving ∙ u)) (b.leaving ∙ on.stays))) (λ f. f);
      }

  member_before : (j number : ℕ) → number ≤ length w.group → is_member_at_end (take number v.group) j ≡ true → is_member_at_end (take number w.group) j ≡ true
  member_before j number low member =
      subst (λ l. is_member_at_end l j ≡ true) (take_of_longer_list number w.group v.group group_grows low) member

  pub number_stays_taken : (b : ℕ) → NumberIsTaken w b → NumberIsTaken v b
  number_stays_taken b h = record {
    accepted = (let a = h.accepted in let z = beginning_is_no_longer group_grows in omega arith);
    taken = λ j number on member. either (cases_lt (length w.group) number)
        (λ above. let a = h.accepted in omega arith)
        (λ low.
        let a = h.taken j number (went_on j on) (member_before j number low member) in
        let z = taken_up j in
        omega arith);
  }

  -- ---- what is heard

  heard_is_taken : NumberIsTaken w (heard_base c)
  heard_is_taken = by_cause c x.cause
    where
      by_cause : (d : Cause) → IsCause w (acting_name w e) e.act d → NumberIsTaken w (heard_base d)
      by_cause (hears p) cause =
          let was : WasSentTo w (acting_name w e) e.act p = cause in
          subst (λ q. NumberIsTaken w (base_of_packet q)) was.is (all_gives_item_at (LetterBaseIsTaken w) w.letters (packet_heard_by_act e.act) was.letter old.letters was.there)
      by_cause _ cause = nought_is_taken w

  heard_votes : CauseVoteTellsTaken w.nodes c
  heard_votes = cause_of_run_votes_taken w e c (votes_tell_taken rules events x.may).letters x.cause

  who_m : m.core.who ≡ i
  who_m = laws_w.blanks.base.named.who i

  who_n : n.core.who ≡ i
  who_n = ap (λ (y : Node). y.core.who) (sym node_v) ∙ laws_v.blanks.base.named.who i

  -- a sequencer has each name that goes on in its list
  member_is_listed : (j number : ℕ) → GoesOn v j → is_member_at_end (take number v.group) j ≡ true → is_sequencer n ≡ true → has (members n) j ≡ true
  member_is_listed j number on member leads =
      subst (λ (y : Node). has (members y) j ≡ true) node_v
      (running_sequencer_lists_member rules v t i j number x.new kept_t few (laws_v.blanks.base.named.who i) (ap is_sequencer node_v ∙ leads) runs_v on member)

  -- and has trimmed no more than it knows it to have taken
  sequencer_trims_known : (j number : ℕ) → GoesOn v j → is_member_at_end (take number v.group) j ≡ true → is_sequencer n ≡ true → n.core.base ≤ (n.reports j).taken
  sequencer_trims_known j number on member leads =
      subst TrimsKnown node_run (sequencers_trim_known rules (events ++ e ∷ []) i x.may few) leads j on.small (member_is_listed j number on member leads)

  -- ---- another name that goes on, at a number at which it is a member

  record OtherMember (j number : ℕ) : Type 0 where
    on : GoesOn v j
    member : is_member_at_end (take number v.group) j ≡ true
    other : (j == i) ≡ false

  abbrev low_of : ℕ → ℕ → ℕ
  low_of j number = max (w.nodes j).core.taken (number - 1)

  module _ (here : has_departed step.node.status ≡ false) (j number : ℕ) (o : OtherMember j number) where
    bounded : (b : ℕ) → NumberIsTaken w b → b ≤ low_of j number
    bounded b h =
        let a = (number_stays_taken b h).taken j number o.on o.member in
        let d = ap (λ (y : Node). y.core.taken) (others_v j o.other) in
        omega arith

    here_m : has_departed m.status ≡ false
    here_m = here_before i few (ap (λ (y : Node). has_departed y.status) node_v ∙ here)

    not_own : (j == m.core.who) ≡ false
    not_own = ap (λ k. j == k) who_m ∙ o.other

    begins : StepBeginsWithin rules w.nodes w.group j (low_of j number) c m
    begins =
        let base_m = bounded m.core.base (old.nodes i few here_m) in
        let known = known_is_taken rules events i j x.may few o.on.small in
        record {
          names = names;
          used = used;
          along = along;
          start = (x.old.stands.each i few).begins.within;
          hears_ = record {
            heard = bounded (heard_base c) heard_is_taken;
            reports = cause_of_run_reports_taken w e c (reports_of_runs_are_true rules events x.may).letters x.cause;
            taken = omega arith;
          };
          other = not_own;
          node = record { base_ = base_m; known_ = omega arith };
        }

    -- ---- a look at a ballot, of the group as it is then

    known_before : Stepping rules (with_records w (records_after_step w e step)) i c m s
    known_before = step_begins_with_known_group rules events e c step s x.may x.runs x.cause x.effect x.old here_m

    fronts_before : FrontsMatchTheGroup (with_records w (records_after_step w e step)) i m s
    fronts_before =
        let k = (number_bounds_hold_in_runs rules events).each i in
        record {
          low = k.told;
          heard = 0;
          word = nothing refl;
          acc = λ d. (x.old.stands.fronts i few d).acc;
          told = λ d. (let most = (x.old.stands.fronts i few d).told in omega arith);
        }

    so_far : (y : Node) → PlainChangesInTurn c step.outcome m y → CourseSoFar rules (with_records w (records_after_step w e step)) i c y s
    so_far y course =
        course_stands_as_moves rules (with_records w (records_after_step w e step)) i c step.outcome m y s course known_before fronts_before
        (cause_of_step_was_sent w e step c (run_bodies_were_sent rules events) x.cause)

    -- no more is accepted by then
    group_by_look : (y : Node) (b : Ballot) (group : List Entry) → BallotIsLookedAt c y b → GroupListByNow c w.group group y → group ≡ w.group
    group_by_look y b group why (as_before is) = is
    group_by_look y b group why (by_reports brings leads start is) = absurd (bool_never_true_and_false _ brings (ballot_look_brings_no_report b why).brings)

    votes_within : (y : Node) (b : Ballot) → PlainChangesInTurn c step.outcome m y → BallotIsLookedAt c y b → HasLearned y b → least_taken_by_votes y b ≤ low_of j number
    votes_within y b course why learned =
        let g = so_far y course in
        let now = with_group_list (with_records w (records_after_step w e step)) g.group in
        let known = looked_at_ballot_is_known rules now i c y g.to g.goes b why in
        let same : g.to.group ≡ w.group = g.goes.stands.group ∙ group_by_look y b g.group why g.grown in
        let stands : NameStands (within now i y) j (w.nodes j) (g.to.node j) = (let z = g.goes.stands.each j o.on.small in rw o.other at z) in
        let went = went_on j o.on in
        let f = g.goes.along.owned.fronts in
        let acc = g.goes.accepted in
        let size = ap length (group_by_look y b g.group why g.grown) in
        let long = ap length same in
        let votes = looked_votes_tell_taken w.nodes c y b heard_votes why
        (changes_keep_votes_told w.nodes m y heard_votes (course_gives_changes course) ((votes_tell_taken rules events x.may).ballots i few)) in
        votes_least_is_taken now i y b g.to (group_is_kept_at_step rules now i c y g.to g.goes) known learned
        (record { taken = f.given; within = f.accepted; accepted = omega arith }) j (w.nodes j).core.taken number
        (record {
          there = record { goes = stands.stopped ∙ went.runs; stays = stands.departed ∙ went.here };
          stays = stands.leaving ∙ went.stays;
          votes_ = λ shown at. votes j shown at;
        })
        (ap (λ k. j == k) g.goes.who ∙ o.other)
        (λ low. subst (λ l. is_member_at_end (take number l) j ≡ true) (sym same) (member_before j number (omega arith) o.member))

    deeds_within : (y : Node) → ChangesWithLook c step.outcome m y → CourseIsWithin c j (low_of j number) w.group y
    deeds_within y (plainly course) = course_stays_within rules w.nodes w.group j (low_of j number) c step.outcome m y begins course
    deeds_within y (looked {n = z} b verdict course over why look is) =
        by_course (course_stays_within rules w.nodes w.group j (low_of j number) c step.outcome m z begins course)
      where
        by_course : CourseIsWithin c j (low_of j number) w.group z → CourseIsWithin c j (low_of j number) w.group y
        by_course (both k) = both (look_stays_within j (low_of j number) z b verdict look (votes_within z b course why) k)
        by_course (reported brings leads start known) = absurd (bool_never_true_and_false _ brings (ballot_look_brings_no_report b why).brings)

    -- ---- the end of the step

    end_within : (y : Node) → (refresh_at_end y).core.who ≡ i → (is_sequencer (refresh_at_end y) ≡ true → (refresh_at_end y).core.base ≤ ((refresh_at_end y).reports j).taken)
        → CourseIsWithin c j (low_of j number) w.group y → (refresh_at_end y).core.base ≤ low_of j number
    end_within y who ends h = split_on_bool (is_sequencer (refresh_at_end y))
        (λ u.
        let r = (end_refresh_rests_with_list y).rests in
        let apart : (j == y.core.who) ≡ false = ap (λ k. j == k) (sym r.who ∙ who) ∙ o.other in
        let same = ap (λ (k : Report). k.taken) (end_keeps_reports_of_others y j apart) in
        let low = ends u in
        let known = known_of h in
        omega arith)
        (λ f.
        let still = sym (is_sequencer_after_rest (end_refresh_rests_with_list y).rests) ∙ f in
        let same = follower_end_keeps_base y still in
        let base = base_of h still in
        omega arith)
      where
        known_of : CourseIsWithin c j (low_of j number) w.group y → (y.reports j).taken ≤ low_of j number
        known_of (both k) = k.known_
        known_of (reported brings leads start known) = known

        base_of : CourseIsWithin c j (low_of j number) w.group y → is_sequencer y ≡ false → y.core.base ≤ low_of j number
        base_of (both k) f = k.base_
        base_of (reported brings leads start known) f = absurd (bool_never_true_and_false _ leads f)

    by_ending : (letters : List Letter) (k : Node) → EndOfStep c step.outcome m letters k → has_departed k.status ≡ false → k.core.who ≡ i
        → (is_sequencer k ≡ true → k.core.base ≤ (k.reports j).taken) → k.core.base ≤ low_of j number
    by_ending letters k (at_end {x = y} deeds) stays who ends = end_within y who ends (deeds_within y deeds)
    by_ending letters k (let_go from u told is heard leaves) stays who ends =
        absurd (bool_never_true_and_false _ (ap has_departed (end_refresh_rests_with_list (record m { status = Status.Departed })).rests.status) stays)
    by_ending letters k (closing event called course leads leaves alone room viewed) stays who ends = absurd (cc)

    other_has_taken_base : n.core.base ≤ max (w.nodes j).core.taken (number - 1)
    other_has_taken_base = by_ending step.letters step.node x.effect.ending here who_n (sequencer_trims_known j number o.on o.member)

  -- ---- what the step leaves

  pub base_after_step_is_taken : has_departed n.status ≡ false → NumberIsTaken v n.core.base
  base_after_step_is_taken here = record {
    accepted =
        (let kept = (x.new.nodes i few (ap (λ (y : Node). has_departed y.status) node_v ∙ here)).trimmed.accepted in
        let a = ap (λ (y : Node). y.core.base) node_v in
        let b = ap length x.new.stands.group in
        omega arith);
    taken = λ j number on member. split_on_bool (j == i)
        (λ u.
        let is : j ≡ i = eqb-true j i u in
        let own = (laws_v.each i few).fronts.base in
        let a = ap (λ (y : Node). y.core.base) node_v in
        let b = ap (λ k. (v.nodes k).core.taken) is in
        omega arith)
        (λ f.
        let a = other_has_taken_base here j number (record { on = on; member = member; other = f }) in
        let d = ap (λ (y : Node). y.core.taken) (others_v j f) in
        omega arith);
  }

  letters_v : v.letters ≡ w.letters ++ step.letters
  unfolding world_with_step
  letters_v = refl

  new_letters : All (LetterBaseIsTaken v) step.letters
  new_letters = split_on_bool (has_departed n.status)
      (λ gone. subst (All (LetterBaseIsTaken v)) (sym (silent gone)) (All-nil (LetterBaseIsTaken v)))
      (λ here.
      let sender = sender_of_effect_is_node m c step x.effect here in
      let base = base_after_step_is_taken here in
      All-weaker (LetterSays m c x.effect.sender) (LetterBaseIsTaken v)
      (λ l says. lower_number_is_taken v (base_of_packet l.packet) n.core.base
      (let low = said_base_le_base m x.effect.sender c l.to l.packet says.says in let same = ap (λ (y : Node). y.core.base) sender in omega arith) base)
      step.letters x.effect.letters)
    where
      silent : has_departed n.status ≡ true → step.letters ≡ []
      silent gone = split_on_bool (has_departed m.status)
          (λ u. departed_step_sends_no_letters w e step (departed_nodes_are_silent m (departed_status_is_departed m.status u) (x.old.gone i few u)) (sym x.is))
          (λ f. either (step_sends_nothing_or_stays m step.letters step.node x.effect.ending f)
          (λ none. none)
          (λ here. absurd (bool_never_true_and_false _ gone here)))

  pub step_keeps_bases_taken : AllBasesAreTaken v
  step_keeps_bases_taken = record {
    nodes = λ k small here. split_on_bool (k == i)
        (λ u.
        let node : v.nodes k ≡ n = ap v.nodes (eqb-true k i u) ∙ node_v in
        subst (λ (y : Node). NumberIsTaken v y.core.base) (sym node) (base_after_step_is_taken (ap (λ (y : Node). has_departed y.status) (sym node) ∙ here)))
        (λ f.
        let node = others_v k f in
        subst (λ (y : Node). NumberIsTaken v y.core.base) (sym node) (number_stays_taken (w.nodes k).core.base (old.nodes k small (here_before k small here))));
    letters = subst (All (LetterBaseIsTaken v)) (sym letters_v) (All-append (LetterBaseIsTaken v) w.letters step.letters
        (All-weaker (LetterBaseIsTaken w) (LetterBaseIsTaken v) (λ l h. number_stays_taken (base_of_packet l.packet) h) w.letters old.letters) new_letters);
  }
