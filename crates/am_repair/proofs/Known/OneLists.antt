-- What one list of a group gives: each member's list tells what the sequencer's tells up to there.
use Rattle.am_base.specs.declared.entry.GroupView.{GroupView}
use Rattle.am_repair.proofs.RepairWords.{◌≡◌, max, ◌⊎◌, inl, inr, either, ℕ, zero, suc, ◌+◌, ◌-◌, ◌<◌, ◌≤◌, nat_le, true, List, [], ◌∷◌, length, take, Some}
use Rattle.am_repair.proofs.RepairWords.{slice_get, refl, sym, ap, ◌∙◌, arith, length-append, subst, cases_lt, nat_tests, take-append-add, Image, Entry}
use Rattle.am_repair.proofs.RepairWords.{View, has, log_entry_at, log_image_at, blank, image_after_entries, after, fits, members_of_image, entry_fits_at_its_number, IsGoodList, is_member_at_end, stamp_of_list, key_of_stamp}
use Rattle.am_repair.proofs.RepairWords.{fold_entries_append, beginning_of_good_is_good, beginning_is_no_longer, taken_front_begins_list, length_of_taken_list, take_length_of_beginning, shorter_beginning_begins_longer, begins_push_next_entry, view_key_grows_along_list}
use Rattle.am_repair.proofs.RepairWords.{view_below_pushed_view, slice_get_of_append_back, Node, top, image_of_node, view, members, World, split_on_bool, current, run, slice_get_within, NodeTrimFronts}
use Rattle.am_repair.proofs.RepairWords.{run_trims_only_taken, false, false_from_ne_true, is_member, is_stopped, Rules, MayFound, Event, is_past, plain_entry_keeps_image_view}
use Rattle.am_repair.proofs.RepairWords.{IsBeginning, Agrees, HasLeft, OneListAgrees}
use Rattle.am_repair.specs.Claim.{IsOut}
use Rattle.am_repair.specs.Standing.{IsOneList}
use Rattle.am_base.specs.Whole as whole
use Rattle.am_group_defs.specs.Lawful as lists
use Rattle.am_repair.proofs.Nodes.{acting_member_promised_its_view, sequencer_acts_by_own_view}
use Rattle.am_repair.proofs.Known.ReportedRuns.{known_is_taken}
use Rattle.am_repair.proofs.Known.Beginning.{HoldsViewAndAccepted, node_holds_view_and_accepted, acting_name_is_small, name_out_is_no_member, member_of_repair_runs}
use Rattle.am_repair.proofs.Going.{member_status_has_not_departed}
use Rattle.am_repair.proofs.RepairLists.{entry_at_is_within_log}

-- ---- a node's whole list

whole_long : (w : World) (m : Node) → m.core.log.start ≤ length w.group → length (lists.whole w m) ≡ top m
whole_long w m low =
    let a = length_of_taken_list m.core.log.start w.group low in
    let b = length-append (take m.core.log.start w.group) m.core.log.entries in
    omega arith

-- up to a number from its start on
whole_part : (w : World) (q m : Node) (k : ℕ) → IsBeginning w q m → m.core.log.start ≤ k
    → whole.image_of_list (take k (lists.whole w m)) ≡ log_image_at m.core.log k
whole_part w q m k h low =
    let start = m.core.log.start in
    let before = take start w.group in
    let long = length_of_taken_list start w.group h.within in
    let at : k ≡ length before + (k - start) = omega arith in
    let next : 1 + length before ≡ start + 1 = omega arith in
    ap (λ n. whole.image_of_list (take n (lists.whole w m))) at
    ∙ ap (λ es. whole.image_of_list es) (take-append-add before m.core.log.entries (k - start))
    ∙ fold_entries_append blank 1 before (take (k - start) m.core.log.entries)
    ∙ ap (λ n. image_after_entries (whole.image_of_list before) n (take (k - start) m.core.log.entries)) next
    ∙ ap (λ i. image_after_entries i (start + 1) (take (k - start) m.core.log.entries)) (sym h.image)

whole_told : (w : World) (q m : Node) → IsBeginning w q m → whole.image_of_list (lists.whole w m) ≡ image_of_node m
whole_told w q m h =
    let start = m.core.log.start in
    let before = take start w.group in
    let long = length_of_taken_list start w.group h.within in
    let next : 1 + length before ≡ start + 1 = omega arith in
    fold_entries_append blank 1 before m.core.log.entries
    ∙ ap (λ n. image_after_entries (whole.image_of_list before) n m.core.log.entries) next
    ∙ ap (λ i. image_after_entries i (start + 1) m.core.log.entries) (sym h.image)

whole_entry : (w : World) (m : Node) (number : ℕ) (e : Entry) → m.core.log.start ≤ length w.group → log_entry_at m.core.log number ≡ Some e
    → slice_get (lists.whole w m) (number - 1) ≡ Some e
whole_entry w m zero e low there = absurd (cc)
whole_entry w m (suc before) e low there = split_on_bool (nat_le m.core.log.start before)
    (λ t.
    let above : m.core.log.start ≤ before = grind (arith, nat_tests) in
    let long = length_of_taken_list m.core.log.start w.group low in
    let get = rw t at there in
    let at : suc before - 1 ≡ length (take m.core.log.start w.group) + (before - m.core.log.start) = omega arith in
    ap (slice_get (lists.whole w m)) at ∙ slice_get_of_append_back (take m.core.log.start w.group) m.core.log.entries (before - m.core.log.start) ∙ get)
    (λ f. absurd (let none = rw f at there in cc))

-- ---- what a member's list tells

-- the sequencer's up to there
tells_same : (w : World) (q m : Node) → IsBeginning w q q → IsBeginning w q m → q.core.log.start ≤ top m → image_of_node m ≡ log_image_at q.core.log (top m)
tells_same w q m own h low =
    sym (whole_told w q m h)
    ∙ ap (λ es. whole.image_of_list es) (sym (take_length_of_beginning h.begins))
    ∙ ap (λ n. whole.image_of_list (take n (lists.whole w q))) (whole_long w m h.within)
    ∙ whole_part w q q (top m) own low

goes_no_further : (w : World) (q m : Node) → IsBeginning w q q → IsBeginning w q m → top m ≤ top q
goes_no_further w q m own h =
    let a = whole_long w m h.within in
    let b = whole_long w q own.within in
    let c = beginning_is_no_longer h.begins in
    omega arith

-- each entry fits
pub fits_there : (w : World) (q : Node) (number : ℕ) (e : Entry) → IsGoodList (lists.whole w q) → IsBeginning w q q → log_entry_at q.core.log number ≡ Some e
    → fits (log_image_at q.core.log (number - 1)) e ≡ true
fits_there w q number e good own there =
    let within = (entry_at_is_within_log q.core.log number e there).0 in
    let get = whole_entry w q number e own.within there in
    ap (λ (i : Image). fits i e) (sym (whole_part w q q (number - 1) own (omega arith))) ∙ entry_fits_at_its_number blank 1 (number - 1) (lists.whole w q) e good.fit get

-- ---- the last View

-- the last View of some entries
record ViewIn (image : Image) (n : ℕ) (es : List Entry) : Type 0 where
  index : ℕ
  last : GroupView
  is : last.stamp ≡ (image_after_entries image n es).view
  number : n + index ≡ (image_after_entries image n es).view_number
  there : slice_get es index ≡ Some (View last)

Unviewed : Image → ℕ → List Entry → Type 0
Unviewed image n es = ((image_after_entries image n es).view ≡ image.view) × ((image_after_entries image n es).view_number ≡ image.view_number)

view_at : (image : Image) (n : ℕ) (e : Entry) (es : List Entry) → Unviewed (after image n e) (n + 1) es
    → ViewIn image n (e ∷ es) ⊎ Unviewed image n (e ∷ es)
unfolding image_after_entries after Unviewed
view_at image n (View w) es h = inl (record {
  index = 0;
  last = w;
  is = sym h.0;
  number = (let at = h.1 in omega arith);
  there = refl;
})
view_at image n e es h = inr (h.0 ∙ (plain_entry_keeps_image_view image n e refl).view, h.1 ∙ (plain_entry_keeps_image_view image n e refl).number)

view_in : (image : Image) (n : ℕ) (es : List Entry) → ViewIn image n es ⊎ Unviewed image n es
unfolding image_after_entries Unviewed
view_in image n [] = inr (refl, refl)
view_in image n (e ∷ es) = either (view_in (after image n e) (n + 1) es)
    (λ h. let at = h.number in inl
    (record { index = suc h.index; last = h.last; is = h.is; number = omega arith; there = h.there }))
    (λ h. view_at image n e es h)

-- where a part of the sequencer's list tells its view, that has its last View
short_part_has_no_last_view : (w : World) (q : Node) (k : ℕ) → IsGoodList (lists.whole w q) → IsBeginning w q q → q.core.log.start ≤ k → k ≤ top q
    → (log_image_at q.core.log k).view ≡ view q → k < (image_of_node q).view_number → ⊥
unfolding stamp_of_list Unviewed
short_part_has_no_last_view w q k good own low within same short = either (view_in blank 1 (lists.whole w q))
    (λ x. let list = lists.whole w q in
    let tells = whole_told w q q own in
    let number = ap (λ (i : Image). i.view_number) tells in
    let all = whole_long w q own.within in
    let long = length_of_taken_list k list (omega arith) in
    let in_ = slice_get_within list x.index (View x.last) x.there in
    let before = length_of_taken_list x.index list (omega arith) in
    let there : slice_get list (length (take x.index list)) ≡ Some (View x.last) = ap (slice_get list) before ∙ x.there in
    let good_view = beginning_of_good_is_good (begins_push_next_entry (View x.last) (taken_front_begins_list x.index list) there) good in
    let below = view_below_pushed_view (take x.index list) x.last good_view in
    let up = view_key_grows_along_list (beginning_of_good_is_good (taken_front_begins_list x.index list) good)
    (shorter_beginning_begins_longer (taken_front_begins_list k list) (taken_front_begins_list x.index list) (omega arith)) in
    let mine : whole.stamp_of_list (take k list) ≡ x.last.stamp =
    ap (λ (i : Image). i.view) (whole_part w q q k own low) ∙ same ∙ ap (λ (i : Image). i.view) (sym tells) ∙ sym x.is in
    let keys = ap key_of_stamp mine in
    let z : ⊥ = omega arith in z)
    (λ x. let number = ap (λ (i : Image). i.view_number) (whole_told w q q own) in
    let z : ⊥ = omega arith in z)

pub part_in_view_has_last_view : (w : World) (q : Node) (k : ℕ) → IsGoodList (lists.whole w q) → IsBeginning w q q → q.core.log.start ≤ k → k ≤ top q
    → (log_image_at q.core.log k).view ≡ view q → (image_of_node q).view_number ≤ k
part_in_view_has_last_view w q k good own low within same = elim (cases_lt k (image_of_node q).view_number) [
  | inl short ↦ absurd (short_part_has_no_last_view w q k good own low within same short)
  | inr reached ↦ reached
]

-- ---- all of it

-- a member by the whole list is one
pub listed_is : (w : World) (q : Node) (name : ℕ) → IsBeginning w q q → is_member_at_end (lists.whole w q) name ≡ true → has (members q) name ≡ true
unfolding is_member_at_end
listed_is w q name own there = ap (λ (i : Image). has (members_of_image i) name) (sym (whole_told w q q own)) ∙ there

agrees : (w : World) (q m : Node) → IsGoodList (lists.whole w q) → IsBeginning w q q → IsBeginning w q m → view m ≡ view q → NodeTrimFronts q → NodeTrimFronts m
    → q.core.base ≤ m.core.taken → (q.reports m.core.who).taken ≤ max q.core.base m.core.taken → Agrees q m
agrees w q m good own h same fq fm trimmed_ known =
    let low : q.core.log.start ≤ top m = omega arith in
    record {
      reached = part_in_view_has_last_view w q (top m) good own low (goes_no_further w q m own h)
          (ap (λ (i : Image). i.view) (sym (tells_same w q m own h low)) ∙ same);
      low = low;
      within = goes_no_further w q m own h;
      told_ = tells_same w q m own h low;
      base = trimmed_;
      reported = omega arith;
    }

-- a leaver has left it
pub has_left : (rules : Rules) (events : List Event) (place name : ℕ) → MayFound rules
    → ((run rules events).nodes name).leaving ≡ true → IsOut (run rules events) ((run rules events).nodes (current (run rules events) place)) name
    → (let w = run rules events in let q = w.nodes (current w place) in HoldsViewAndAccepted q → IsOneList w q → IsBeginning w q q
    → has (members q) q.core.who ≡ true → is_member (w.nodes name).status ≡ true → is_stopped w name ≡ false → HasLeft q (w.nodes name))
has_left rules events place name may leaves out low one own itself member goes =
    let w = run rules events in
    let q = w.nodes (current w place) in
    let m = w.nodes name in
    let who = (run_trims_only_taken rules events may).blanks.base.named.who name in
    let none = name_out_is_no_member w q name low out (member_status_has_not_departed m member) in
    let no_member = false_from_ne_true (is_member_at_end (lists.whole w q) name) (λ t. (let in_ = listed_is w q name own t in cc)) in
    record {
      past = subst (λ i. is_past (image_of_node q) i ≡ true) (sym who)
          (ap (λ (i : Image). is_past i name) (sym (whole_told w q q own)) ∙ one.past name member goes no_member);
      tells = λ t mine. (let same = one.tells name member goes t mine in
          let in_ = subst (λ i. has (members q) i ≡ true) (sym same) itself in cc);
    }

pub one_list_agrees : OneListAgrees
one_list_agrees rules events place may low repair one settled_ =
    let w = run rules events in
    let by = current w place in
    let q = w.nodes by in
    let laws = run_trims_only_taken rules events may in
    let acts_ = (sequencer_acts_by_own_view q repair.leads).0 in
    let few = acting_name_is_small rules w by laws acts_ in
    let leads = (laws.each by few).fronts in
    let holds = node_holds_view_and_accepted rules events by in
    let itself = (laws.each by few).leads repair.leads in
    let goes : (name : ℕ) → has (members q) name ≡ true → is_stopped w name ≡ false = λ name there. member_of_repair_runs w place name repair holds there in
    let here = subst (λ i. has (members q) i ≡ true) (laws.blanks.base.named.who by) itself in
    let own = one.each by (acting_member_promised_its_view q acts_).0 (goes by here) in
    record {
      each = λ name there.
          (let act = repair.all_act name there in
          let m = w.nodes name in
          let low_ = acting_name_is_small rules w name laws act.0 in
          let who = laws.blanks.base.named.who name in
          let known = known_is_taken rules events by name may few low_ in
          agrees w q m one.good own (one.each name (acting_member_promised_its_view m act.0).0 (goes name there)) act.1 leads (laws.each name low_).fronts
          (settled_.trims name there) (subst (λ i. (q.reports i).taken ≤ max q.core.base m.core.taken) (sym who) known));
      alone = λ name member runs stays. listed_is w q name own (one.listed name member runs stays);
      left = λ name member runs leaves. has_left rules events place name may leaves (repair.nobody_leaves name leaves) holds one own itself member runs;
      fit = λ number e there. fits_there w q number e one.good own there;
      counted = settled_.counted;
    }
