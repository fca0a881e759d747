-- Whose storage counts after the last View, where a run may be repaired: each of them is a member still.
use Rattle.am_lawful_runs.proofs.Words.{image_at_of_whole_list, log_image_at, GroupView}
use Rattle.am_repair.proofs.Repairable.RepairedWords.{◌≡◌, ◌≢◌, ℕ, zero, suc, ◌+◌, ◌<◌, ◌≤◌, ◌==◌, true, false, List, [], ◌∷◌, ◌++◌, length, slice_index, All, sym, ap}
use Rattle.am_repair.proofs.Repairable.RepairedWords.{◌∙◌, subst, arith, nat_tests, All-nil, All-cons, Entry, Leave, View, Image, Rules, MayFound, IsSetOfNames}
use Rattle.am_repair.proofs.Repairable.RepairedWords.{has, place_of_name, name_of_place_and_life, names_from, names_of, image_after_entries, blank, members_of_image, counting_names_at, Event, view_number_only_grows, IsBeginningOf}
use Rattle.am_repair.proofs.Repairable.RepairedWords.{IsGoodList, is_member_at_end, stamp_of_list, begins_through_both, beginning_is_no_longer, length_of_pushed_list, beginning_of_good_is_good, image_after_pushed_entry, member_stays_by_push, membership_ends_between, Group}
use Rattle.am_repair.proofs.Repairable.RepairedWords.{Leads, counting_names_in, list_with_chosen_view, chain_of, current_of, GroupKeeps, Node, top, told_at, members, lowest_name_or_zero, is_sequencer, is_stopped}
use Rattle.am_repair.proofs.Repairable.RepairedWords.{has_departed, take, World, current, run, fold_append, split_on_bool, names_hold_in_runs, number_bounds_hold_in_runs, trimmed_was_taken_in_runs}
use Rattle.am_repair.proofs.Repairable.RepairedWords.{image_after_view_has_it, NameStands, NamesNamed, Following, image_of_whole_list, length_of_whole_list, counted_names_of_named_list, set_name_is_below_256, group_run_is_kept, counted_name_was_member_near}
use Rattle.am_repair.proofs.Repairable.RepairedWords.{counted_at_of_whole_list, steps_are_group_moves, LawfulUntilLastStop, group_follows_until_last_stop, eqb-true}
use Rattle.am_base.specs.Whole.{image_of_list}
use Rattle.am_repair.proofs.Repairable.Left.{AllLeaversAskedAndGone, accepted, last, leave_stands_once_in_list, leavers_of_runs_asked}
use Rattle.am_repair.proofs.Repairable.OneList.{current_name_is_below_256, sequencer_leads_in_group}
use Rattle.am_repair.proofs.Repairable.Upheld.{AcceptedIsUpheld, accepted_is_upheld_at_start, accepted_is_upheld_by_rules}
use Rattle.am_repair.specs.Claim.{IsOut}
use Rattle.am_base.proofs.Prefixes.{take_length_of_beginning}

-- ---- who counts for a number

-- ---- how a membership ends after the last View

-- a View in a list is no later than its last one
viewed_low : (list before : List Entry) (v : GroupView) → IsBeginningOf (before ++ View v ∷ []) list → length before < (image_of_list list).view_number
viewed_low list before v within =
    let a = before ++ View v ∷ [] in
    let long = length_of_pushed_list before (View v) in
    let its = image_after_view_has_it (image_of_list before) (1 + length before) v in
    let here : (image_of_list a).view_number ≡ 1 + length before = ap (λ (g : Image). g.view_number) (image_after_pushed_entry before (View v)) ∙ its.1 in
    let all : image_of_list list ≡ image_after_entries (image_of_list a) (1 + length a) within.rest = ap image_of_list (sym within.same) ∙ fold_append blank 1 a within.rest in
    let number = ap (λ (g : Image). g.view_number) all in
    let more = view_number_only_grows (image_of_list a) (1 + length a) within.rest (omega arith) in
    omega arith

-- by its own Leave, as no View stands there
leaves_last : (list before : List Entry) (name : ℕ) (e : Entry) → IsGoodList list → IsBeginningOf (before ++ e ∷ []) list → (image_of_list list).view_number ≤ length before
    → is_member_at_end before name ≡ true → is_member_at_end (before ++ e ∷ []) name ≡ false → e ≡ Leave name
leaves_last list before name (Leave leaver) good within view_ is none = split_on_bool (leaver == name)
    (λ t. ap (λ k. Leave k) (eqb-true leaver name t))
    (λ f. absurd (let z = member_stays_by_push before (Leave leaver) name (beginning_of_good_is_good within good) (other leaver name f) is in cc))
  where
    other : (a b : ℕ) → (a == b) ≡ false → a ≢ b
    other a b f = λ u. grind (arith, nat_tests)
leaves_last list before name (View v) good within view_ is none = absurd (let high = viewed_low list before v within in omega arith)
leaves_last list before name e good within view_ is none = absurd (let z = member_stays_by_push before e name (beginning_of_good_is_good within good) tt is in cc)

-- ---- of a group

-- who counts for a number that the sequencer hasn't accepted, after the last View, is a member at the list's end
stays_member : (s : Group) (q : ℕ) (list : List Entry) (n name : ℕ) → GroupKeeps s → AllLeaversAskedAndGone s → Leads q (s.node q) → list ≡ chain_of s.views
    → length s.group < n → n ≤ length list → (image_of_list list).view_number ≤ n
    → ((at : ℕ) → n ≤ at + 1 → (image_of_list list).view_number ≤ at → at ≤ length list → is_member_at_end (take at list) name ≡ true → (s.node name).leaving ≡ true → (s.node name).departed ≡ true)
    → has (counting_names_in list n) name ≡ true → is_member_at_end list name ≡ true
stays_member s q list n name k left leads is low high view_ leaves h = split_on_bool (is_member_at_end list name)
    (λ t. t)
    (λ f. absurd (
    let good : IsGoodList list = subst IsGoodList (sym is) k.views.good in
    let at = counted_name_was_member_near list n name good (omega arith) high view_ h in
    let e = membership_ends_between name at.begins_ at.member f in
    let reach = beginning_is_no_longer e.above in
    let by = leaves_last list e.before name e.last good e.within (omega arith) e.member e.ended in
    let there : IsBeginningOf (e.before ++ Leave name ∷ []) list = subst (λ x. IsBeginningOf (e.before ++ x ∷ []) list) by e.within in
    let asked = left.asked e.before name (subst (IsBeginningOf (e.before ++ Leave name ∷ [])) is there) in
    let size = beginning_is_no_longer at.begins_ in
    let part = subst (λ l. is_member_at_end l name ≡ true) (sym (take_length_of_beginning at.begins_)) at.member in
    elim (left.gone name (leaves (length at.upto) (omega arith) at.from (omega arith) part asked)) [
      | accepted earlier begins_ ↦
          let size = beginning_is_no_longer begins_ in
          let long = length_of_pushed_list earlier (Leave name) in
          let on : IsBeginningOf (earlier ++ Leave name ∷ []) list = subst (IsBeginningOf (earlier ++ Leave name ∷ [])) (sym is) (begins_through_both begins_ k.group) in
          leave_stands_once_in_list list earlier e.before name good on there (omega arith)
      | last earlier chain none ↦ none q ((k.each q).leads leads).member
    ]))

-- ---- all the names of a set

all_from : (P : ℕ → Type 0) (from : ℕ) (lives : List ℕ) → ((k : ℕ) → k < length lives → 0 < slice_index lives k → P (name_of_place_and_life (from + k) (slice_index lives k)))
    → All P (names_from from lives)
all_from P from [] h = All-nil P
all_from P from (zero ∷ lives) h = all_from P (from + 1) lives (λ k low some.
    let at : from + suc k ≡ from + 1 + k = omega arith in
    subst (λ i. P (name_of_place_and_life i (slice_index lives k))) at (h (suc k) (omega arith) some))
all_from P from (suc b ∷ lives) h = All-cons P (name_of_place_and_life from (suc b)) (names_from (from + 1) lives)
    (let at : from + zero ≡ from = omega arith in subst (λ i. P (name_of_place_and_life i (suc b))) at (h zero (omega arith) (omega arith)))
    (all_from P (from + 1) lives (λ k low some.
    let at : from + suc k ≡ from + 1 + k = omega arith in
    subst (λ i. P (name_of_place_and_life i (slice_index lives k))) at (h (suc k) (omega arith) some)))

all_names : (P : ℕ → Type 0) (set : List ℕ) → IsSetOfNames set → ((name : ℕ) → has set name ≡ true → P name) → All P (names_of set)
all_names P set is h = all_from P 0 set (λ k low some.
    let life = slice_index set k in
    let name = name_of_place_and_life (0 + k) life in
    let place : place_of_name name ≡ k = omega arith in
    let there : has set name ≡ true = (let at : slice_index set (place_of_name name) ≡ life = ap (slice_index set) place in grind (arith, nat_tests)) in
    h name there)

-- ---- in every run

module _ (rules : Rules) (events : List Event) (place : ℕ) (may : MayFound rules) (low : place < 16) (until : LawfulUntilLastStop rules events)
    (seq : is_sequencer ((run rules events).nodes (current (run rules events) place)) ≡ true) (goes : is_stopped (run rules events) (current (run rules events) place) ≡ false)
    (out : (name : ℕ) → ((run rules events).nodes name).leaving ≡ true → IsOut (run rules events) ((run rules events).nodes (current (run rules events) place)) name) where
  abbrev w : World
  w = run rules events

  abbrev q : ℕ
  q = current w place

  abbrev m : Node
  m = w.nodes q

  module _ (s : Group) (left : AllLeaversAskedAndGone s) (old : Following rules w s) (up : AcceptedIsUpheld w s) (number : ℕ) (above : m.core.acc < number) (within : number ≤ top m)
      (view_ : (told_at m).view_number ≤ number) where
    abbrev list : List Entry
    list = (s.node q).list

    few : q < 256
    few = current_name_is_below_256 rules events place may low

    kept : GroupKeeps s
    kept = group_run_is_kept rules.founders (lowest_name_or_zero rules.founders) rules.resilience s old.group

    stands : NameStands w q m (s.node q)
    stands = old.stands.each q few

    leads : Leads q (s.node q)
    leads = sequencer_leads_in_group rules w s place old seq few goes ((names_hold_in_runs rules events may).who q)

    is : list ≡ chain_of s.views
    is = ((kept.each q).leads leads).chain

    numbered : (image_of_list list).view_number ≡ (told_at m).view_number
    numbered = ap (λ (g : Image). g.view_number) (image_of_whole_list w q m (s.node q) stands)

    -- what the group accepted lies below the number
    behind : length s.group < number
    behind =
        let ch = current_of s.views in
        let opens : IsBeginningOf (list_with_chosen_view ch) list = subst (IsBeginningOf (list_with_chosen_view ch)) (sym is) kept.views.opens in
        let by : s.views.current.by ≡ q = ap (λ u. u.by) (sym (ap stamp_of_list is ∙ kept.views.view)) ∙ leads.by in
        let acc = ap (λ k. (w.nodes k).core.acc) by in
        let size = ap length old.stands.group in
        let reach = viewed_low list ch.before ch.view opens in
        let num = numbered in
        omega arith

    start_low : m.core.log.start < number
    start_low =
        let num = (number_bounds_hold_in_runs rules events).each q in
        let b = trimmed_was_taken_in_runs rules events q may few in
        omega arith

    -- who is leaving and was a member since what is accepted has departed
    gone : (name at : ℕ) → m.core.acc ≤ at → (told_at m).view_number ≤ at → at ≤ top m → is_member_at_end (take at list) name ≡ true → (w.nodes name).leaving ≡ true
        → has_departed (w.nodes name).status ≡ true
    unfolding is_member_at_end
    gone name at front viewed within_ member t = split_on_bool (has_departed (w.nodes name).status)
        (λ d. d)
        (λ d. absurd (
        let num = (number_bounds_hold_in_runs rules events).each q in
        let b = trimmed_was_taken_in_runs rules events q may few in
        let none = out name t d at front viewed within_ in
        let same : log_image_at m.core.log at ≡ image_of_list (take at list) = image_at_of_whole_list w q at m (s.node q) stands (omega arith) in
        cc))

    each : (name : ℕ) → name < 256 → has (counting_names_at m.core.log number) name ≡ true → has (members m) name ≡ true
    unfolding is_member_at_end
    each name small h =
        let long = length_of_whole_list w q m (s.node q) stands in
        let num = numbered in
        let counts : has (counting_names_in list number) name ≡ true = ap (λ set. has set name) (sym (counted_at_of_whole_list w q number m (s.node q) stands start_low)) ∙ h in
        let b = old.stands.each name small in
        let leaves : (at : ℕ) → number ≤ at + 1 → (image_of_list list).view_number ≤ at → at ≤ length list → is_member_at_end (take at list) name ≡ true → (s.node name).leaving ≡ true
        → (s.node name).departed ≡ true = λ at near viewed within_ member t. b.departed ∙ gone name at (omega arith) (omega arith) (omega arith) member (sym b.leaving ∙ t) in
        let there : is_member_at_end list name ≡ true = stays_member s q list number name kept left leads is behind (omega arith) (omega arith) leaves counts in
        ap (λ (g : Image). has (members_of_image g) name) (sym (image_of_whole_list w q m (s.node q) stands)) ∙ there

    all_count : All (λ name. has (members m) name ≡ true) (names_of (counting_names_at m.core.log number))
    all_count =
        let named : All NamesNamed list = subst (All NamesNamed) (sym is) old.group.named in
        let set : IsSetOfNames (counting_names_at m.core.log number) = counted_names_of_named_list w q m (s.node q) stands named number start_low in
        all_names (λ name. has (members m) name ≡ true) (counting_names_at m.core.log number) set
        (λ name t. each name (set_name_is_below_256 (counting_names_at m.core.log number) name set t) t)

  pub counted_names_are_members : (number : ℕ) → m.core.acc < number → number ≤ top m → (told_at m).view_number ≤ number
      → All (λ name. has (members m) name ≡ true) (names_of (counting_names_at m.core.log number))
  counted_names_are_members number above within view_ =
      let h = group_follows_until_last_stop AcceptedIsUpheld rules (accepted_is_upheld_by_rules rules) steps_are_group_moves may (λ t f. accepted_is_upheld_at_start rules t may f) events until in
      let left = leavers_of_runs_asked rules.founders (lowest_name_or_zero rules.founders) rules.resilience h.to h.follows.group.run in
      all_count h.to left h.follows h.is number above within view_
