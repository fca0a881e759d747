-- A step up to its end, as moves of the group.
use Rattle.am_refinement.proofs.WholeSteps.StepWords.{◌≡◌, ℕ, ◌≤◌, true, List, length, refl, sym, ap, ◌∙◌, subst, arith, Entry, Outcome, Rules, Log, Group, Node, top, none}
use Rattle.am_refinement.proofs.WholeSteps.StepWords.{is_sequencer, node_with_report, refresh, World, list_after_step, Cause, Change, takes_report, IsPlainChange, PlainChangesInTurn, nothing_yet}
use Rattle.am_refinement.proofs.WholeSteps.StepWords.{used_report, and_then, refresh_rests_with_list, is_sequencer_after_rest, CauseCarriesSentBodies, after_change, Stepping, acting_name_stands_before, group_grows_to_itself, changes_keep_step_known}
use Rattle.am_refinement.proofs.WholeSteps.StepWords.{stamp_eq_gives_equality, ◌<◌, ◌==◌, ◌&&◌, nat_lt, false, nat_tests, Stamp, stamps_are_equal, Packet, key_of_stamp, Ballot, view, acts_in_its_view, is_member}
use Rattle.am_refinement.proofs.WholeSteps.StepWords.{has_departed, BallotVerdict, member_hears_other, hears_packet_of_its_view, hears_packet_of_sequencer, node_with_noted_fronts, split_on_bool, both_of_and, hears, CauseHasFronts}
use Rattle.am_refinement.proofs.WholeSteps.StepWords.{with_entry, with_number, alone, LooksAtBallot, finds_itself_out, refreshes, settles, notes, begins_list, departs, looks}
use Rattle.am_refinement.proofs.WholeSteps.StepWords.{asks_to_join, closes, settle_changes_only_sends, nothing, of_sequencer, Grows, SequencerSays, FrontsStay, FrontsAfter, HeardSo}
use Rattle.am_refinement.specs.Keeping as plainly
use Rattle.am_refinement.proofs.WholeSteps.Worlds.{with_group_list}
use Rattle.am_refinement.proofs.WholeSteps.Refreshed.{ChangedByMoves, moves_before_changed, FrontsMatchTheGroup, refresh_stands_as_moves}
use Rattle.am_refinement.proofs.WholeSteps.Courses.{cause_brings_report}
use Rattle.am_refinement.proofs.WholeSteps.Courses.{reporting_cause_brings_report, plain_change_stays_plain, plain_change_notes_no_view, reporting_change_still_leads}
use Rattle.am_refinement.proofs.WholeSteps.Refreshed.{heard_word_stays_in_growth}

-- ---- how far a name is told, and gives out, along plain changes of its step

-- ---- where they stay

same_fronts : (w : World) (name : ℕ) (x y : Node) (s t : Group) → y.core.acc ≡ x.core.acc → y.core.told ≡ x.core.told
    → (has_departed y.status ≡ false → has_departed x.status ≡ false) → FrontsStay name s t → Grows s t → FrontsMatchTheGroup w name x s → FrontsMatchTheGroup w name y t
same_fronts w name x y s t acc told here stay g f = record {
  low = (let low = f.low in omega arith);
  heard = f.heard;
  word = heard_word_stays_in_growth s t w name f.heard g f.word;
  acc = λ d. stay.acc ∙ f.acc (here d) ∙ sym acc;
  told = λ d. (let most = f.told (here d) in let same = stay.told in omega arith);
}

-- ---- where the sequencer's are noted

fronts_said : (w : World) (s : Group) (name : ℕ) (c : Cause) (from : ℕ) (v : Stamp) (base acc : ℕ) → CauseHasFronts c from v base acc
    → ((p : Packet) → c ≡ hears p → HeardSo w s name p) → SequencerSays s from v acc
fronts_said w s name c from v base acc (with_entry a b d e number x) heard = (heard (Packet.Bcast from v base acc number x) refl).says.1.sequencer
fronts_said w s name c from v base acc (with_number a b d e number sender req) heard =
    (heard (Packet.Order from v base acc number sender req) refl).says.1.entry.sequencer
fronts_said w s name c from v base acc (alone a b d e high poll) heard = (heard (Packet.Accept from v base acc high poll) refl).says.1

-- who hears its sequencer is a member, and has promised its view
heard_view : (x : Node) (from : ℕ) (v : Stamp) → hears_packet_of_sequencer x from v ≡ true → x.core.promise ≡ v
heard_view x from v t =
    let a = both_of_and (hears_packet_of_its_view x from v) (v.by == from) t in
    let b = both_of_and (member_hears_other x from) (acts_in_its_view x && stamps_are_equal v (view x)) a.0 in
    let d = both_of_and (acts_in_its_view x) (stamps_are_equal v (view x)) b.1 in
    let e = both_of_and (is_member x.status) (stamps_are_equal x.core.promise (view x)) d.0 in
    stamp_eq_gives_equality x.core.promise (view x) e.1 ∙ sym (stamp_eq_gives_equality v (view x) d.1)

noted_fronts : (rules : Rules) (w : World) (name : ℕ) (c : Cause) (x : Node) (s t : Group) (from : ℕ) (v : Stamp) (base acc : ℕ)
    → CauseHasFronts c from v base acc → hears_packet_of_sequencer x from v ≡ true → Stepping rules w name c x s → FrontsStay name s t → Grows s t → FrontsMatchTheGroup w name x s
    → FrontsMatchTheGroup w name (node_with_noted_fronts x base acc) t
noted_fronts rules w name c x s t from v base acc by heard h stay g f =
    let says = fronts_said w s name c from v base acc by h.heard in
    let size = ap length h.stands.group in
    let low = f.low in
    let promised = ap key_of_stamp ((acting_name_stands_before rules w name c x s h).promise ∙ heard_view x from v heard) in
    split_on_bool (nat_lt f.heard acc)
    (λ u. (let above : f.heard < acc = grind (arith, nat_tests) in record {
      low = omega arith;
      heard = acc;
      word = heard_word_stays_in_growth s t w name acc g (of_sequencer from v (omega arith) says);
      acc = λ d. stay.acc ∙ f.acc d;
      told = λ d. (let most_ = f.told d in let same = stay.told in omega arith);
    }))
    (λ u. (let below : acc ≤ f.heard = grind (arith, nat_tests) in record {
      low = omega arith;
      heard = f.heard;
      word = heard_word_stays_in_growth s t w name f.heard g f.word;
      acc = λ d. stay.acc ∙ f.acc d;
      told = λ d. (let most_ = f.told d in let same = stay.told in omega arith);
    }))

-- ---- each change that goes on

pub look_keeps_fronts_and_status : {m : Node} {b : Ballot} {v : BallotVerdict} (look : LooksAtBallot m b v) → (v.node.core.acc ≡ m.core.acc) × (v.node.core.told ≡ m.core.told)
    × (v.node.status ≡ m.status)
look_keeps_fronts_and_status (finds_itself_out a) = (refl, refl, refl)
look_keeps_fronts_and_status _ = (refl, refl, refl)

pub change_keeps_fronts_of_group : (rules : Rules) (w : World) (name : ℕ) (c : Cause) (o : Outcome) (x y : Node) (s t : Group) (z : Change c o x y) → plainly.IsPlainOnEnd z
    → Stepping rules w name c x s → y.core.acc ≤ length w.group → FrontsAfter z name s t → Grows s t → FrontsMatchTheGroup w name x s → FrontsMatchTheGroup w name y t
change_keeps_fronts_of_group rules w name c o x y s t refreshes p h low after g f = absurd p
change_keeps_fronts_of_group rules w name c o x y s t settles p h low after g f = same_fronts w name x y s t (ap (λ (n : Node). n.core.acc) (settle_changes_only_sends x))
    (ap (λ (n : Node). n.core.told) (settle_changes_only_sends x)) (λ d. sym (ap (λ (n : Node). has_departed n.status) (settle_changes_only_sends x)) ∙ d) after g f
change_keeps_fronts_of_group rules w name c o x y s t (notes from v base acc by heard) p h low after g f =
    noted_fronts rules w name c x s t from v base acc by heard h after g f
change_keeps_fronts_of_group rules w name c o x y s t (begins_list from v base join image is says_ may) p h low after g f = record {
  low = low;
  heard = 0;
  word = nothing refl;
  acc = λ d. after.acc;
  told = λ d. (let same = after.told in omega arith);
}
change_keeps_fronts_of_group rules w name c o x y s t (departs from v number is heard leaves) p h low after g f = record {
  low = f.low;
  heard = 0;
  word = nothing refl;
  acc = λ d. absurd (cc);
  told = λ d. absurd (cc);
}
change_keeps_fronts_of_group rules w name c o x y s t (looks b verdict over why look is) p h low after g f = (let same = look_keeps_fronts_and_status look in
    same_fronts w name x y s t same.0 same.1 (λ d. sym (ap has_departed same.2) ∙ d) after g f)
change_keeps_fronts_of_group rules w name c o x y s t (asks_to_join is was) p h low after g f = same_fronts w name x y s t refl refl (λ d. ap has_departed was) after g f
change_keeps_fronts_of_group rules w name c o x y s t (closes leads leaves alone_ room) p h low after g f = absurd p
change_keeps_fronts_of_group rules w name c o x y s t _ p h low after g f = same_fronts w name x y s t refl refl (λ d. d) after g f

-- what the group list is by now: as before the step, or a sequencer that took a report has accepted more
pub data GroupListByNow (c : Cause) (old group : List Entry) (x : Node) : Type 0 where
  as_before : group ≡ old → GroupListByNow c old group x
  by_reports : cause_brings_report c ≡ true → is_sequencer x ≡ true → x.core.log.start ≤ length old → group ≡ list_after_step old x → GroupListByNow c old group x

-- the moves so far, and the group list by then
pub record CourseSoFar (rules : Rules) (w : World) (name : ℕ) (c : Cause) (x : Node) (s : Group) : Type 0 where
  pub group : List Entry
  pub changed : ChangedByMoves rules (with_group_list w group) name c x s
  pub open changed use *
  pub grown : GroupListByNow c w.group group x

-- ---- one change more

-- by a change that goes on, and notes no view
pub change_stands_as_moves : (rules : Rules) (w : World) (name : ℕ) (c : Cause) (o : Outcome) (x y : Node) (s : Group) (z : Change c o x y) → plainly.IsPlainOnEnd z
    → after_change z w ≡ w → Stepping rules w name c x s → CauseCarriesSentBodies w.records name o c → FrontsMatchTheGroup w name x s → ChangedByMoves rules w name c y s
change_stands_as_moves rules w name c o x y s z plain same h sent f =
    let one = changes_keep_step_known rules w name c o x y s z plain h sent in
    let goes = subst (λ v. Stepping rules v name c y one.to) same one.goes in
    let fronts = change_keeps_fronts_of_group rules w name c o x y s one.to z plain h goes.accepted one.fronts one.grows f in
    search (one.to, one, goes, fronts)

-- ---- the course

pub course_stands_as_moves : (rules : Rules) (w : World) (name : ℕ) (c : Cause) (o : Outcome) (m x : Node) (s : Group) → PlainChangesInTurn c o m x → Stepping rules w name c m s
    → FrontsMatchTheGroup w name m s → CauseCarriesSentBodies w.records name o c → CourseSoFar rules w name c x s
course_stands_as_moves rules w name c o m x s nothing_yet h f sent = record {
  group = w.group;
  changed = record { to = s; path = none; grows = group_grows_to_itself s; goes = h; fronts = f };
  grown = as_before refl;
}
course_stands_as_moves rules w name c o m x s (used_report from v report by may) h f sent =
    let told = node_with_report m from report in
    let one = change_stands_as_moves rules w name c o m told s (takes_report {m = m} from v report by may) tt refl h sent f in
    let two = refresh_stands_as_moves rules w name c told one.to one.goes one.fronts in
    let start = (acting_name_stands_before rules w name c told one.to one.goes).begins.within in
    let same = ap (λ (l : Log). l.start) (refresh_rests_with_list told).log in
    record {
      group = list_after_step w.group (refresh told);
      changed = moves_before_changed one.path one.grows two.changed;
      grown = by_reports (reporting_cause_brings_report from v report by) (is_sequencer_after_rest (refresh_rests_with_list told).rests ∙ may.leads) (omega arith) refl;
    }
course_stands_as_moves rules w name c o m x s (and_then {n = n} before z plain) h f sent =
    let prior = course_stands_as_moves rules w name c o m n s before h f sent in
    let one = change_stands_as_moves rules (with_group_list w prior.group) name c o n x prior.to z (plain_change_stays_plain z plain) (plain_change_notes_no_view z plain (with_group_list w prior.group)) prior.goes sent
    prior.fronts in
    record {
      group = prior.group;
      changed = moves_before_changed prior.path prior.grows one;
      grown = elim prior.grown [
        | as_before is ↦ as_before is
        | by_reports brings leads start is ↦
            let on = reporting_change_still_leads w.group n x z plain brings leads start prior.goes.along.owned.fronts.accepted in
            by_reports brings on.leads on.start (is ∙ sym on.same)
      ];
    }
