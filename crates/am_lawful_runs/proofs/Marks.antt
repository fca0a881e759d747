-- A view that is complete in a world completes in the group that stands for it.
use Rattle.am_lawful_runs.proofs.Words.{not-true, ◌≡◌, ℕ, zero, suc, ◌+◌, ◌<◌, ◌≤◌, ◌==◌, ◌&&◌, not, nat_lt, nat_le, min, Bool, true, false, List, [], ◌∷◌, ◌++◌}
use Rattle.am_lawful_runs.proofs.Words.{length, Some, slice_get, slice_index, count_by, sym, ap, ◌∙◌, subst, arith, list_any, nat_tests, Entry, View, IsSetOfNames}
use Rattle.am_lawful_runs.proofs.Words.{place_of_name, life_of_name, name_of_place_and_life, has, size, names_from, names_of, stamp_is_less, IsBeginningOf, IsGoodList, stamp_of_list, key_of_stamp, begins_through_both}
use Rattle.am_lawful_runs.proofs.Words.{beginning_of_good_is_good, stamp_lt_of_key_lt, name_of_view_is_byte, view_after_pushed_view, Group, count_of_passing_names, list_with_chosen_view, IsThere, ViewCompletes, Decided, World, is_stopped}
use Rattle.am_lawful_runs.proofs.Words.{has_departed, is_view_of, has_stored, lags_behind_view, is_complete, up_to_next, split_on_bool, both_of_and, NotedStands, Stands, LinesOpen}
use Rattle.am_lawful_runs.proofs.Words.{image_of_whole_list, passing_names_le_all_passing, names_of_set_le_size, set_name_is_below_256}
use Rattle.am_model.specs.Node as nodes
use Rattle.am_lawful_runs.proofs.Lists.{view_found_in_list, up_to_next_begins_list, opening_of_view_is_unique}
use Rattle.am_lawful_runs.proofs.Shapes.{ListsAreShaped}

-- ---- tests of a set's names

-- where none of them passes, each of them fails
none_from : (p : ℕ → Bool) (from place : ℕ) (lives : List ℕ) → place < length lives → 0 < slice_index lives place
    → list_any p (names_from from lives) ≡ false → p (name_of_place_and_life (from + place) (slice_index lives place)) ≡ false
none_from p from (suc k) (zero ∷ lives) low some h =
    let at : from + 1 + k ≡ from + suc k = omega arith in
    subst (λ i. p (name_of_place_and_life i (slice_index lives k)) ≡ false) at (none_from p (from + 1) k lives (omega arith) some h)
none_from p from zero (suc b ∷ lives) low some h =
    let at : from + zero ≡ from = omega arith in
    subst (λ i. p (name_of_place_and_life i (suc b)) ≡ false) (sym at)
    (split_on_bool (p (name_of_place_and_life from (suc b))) (λ t. absurd (let z = rw t at h in cc)) (λ f. f))
none_from p from (suc k) (suc b ∷ lives) low some h =
    let at : from + 1 + k ≡ from + suc k = omega arith in
    let rest : list_any p (names_from (from + 1) lives) ≡ false = split_on_bool (p (name_of_place_and_life from (suc b))) (λ t. absurd (let z = rw t at h in cc)) (λ f. rw f at h) in
    subst (λ i. p (name_of_place_and_life i (slice_index lives k)) ≡ false) at (none_from p (from + 1) k lives (omega arith) some rest)
none_from p from _ _ low some h = absurd (omega arith)

none_passes : (p : ℕ → Bool) (set : List ℕ) (name : ℕ) → IsSetOfNames set → has set name ≡ true → list_any p (names_of set) ≡ false → p name ≡ false
none_passes p set name is there h =
    let life : slice_index set (place_of_name name) ≡ life_of_name name = (let z : (slice_index set (place_of_name name) == life_of_name name) ≡ true = there in
    grind (arith, nat_tests)) in
    let fails = none_from p 0 (place_of_name name) set (omega arith) (omega arith) h in
    let same : name_of_place_and_life (0 + place_of_name name) (slice_index set (place_of_name name)) ≡ name = omega arith in
    subst (λ j. p j ≡ false) same fails

-- ---- who has stored a View

-- what of a group is known here: each list is good, and on a line, and lines open
pub record GroupStandsForWorld (w : World) (s : Group) : Type 0 where
  pub stands : Stands w s
  pub shaped : ListsAreShaped s
  pub opens : LinesOpen s

-- a list with a decided view's View begins with all that it chose
stored_opens : (w : World) (s : Group) (v : Decided) (h : ℕ) → GroupStandsForWorld w s → NotedStands w s.views v → v.stamp.by < 256 → h < 256
    → has_stored w v.stamp h ≡ true → IsBeginningOf (list_with_chosen_view (s.views.chosen (key_of_stamp v.stamp))) (s.node h).list
stored_opens w s v h k noted small few stored =
    let ch = s.views.chosen (key_of_stamp v.stamp) in
    let list = (s.node h).list in
    let is : list_any (is_view_of v.stamp) list ≡ true = ap (list_any (is_view_of v.stamp)) (k.stands.each h few).list ∙ stored in
    let at = view_found_in_list v.stamp list is in
    let part = at.before ++ View at.view ∷ [] in
    let on = k.shaped.lines h (λ nil. absurd (let z = ap (list_any (is_view_of v.stamp)) nil in cc)) in
    let seen : stamp_of_list part ≡ v.stamp = view_after_pushed_view at.before at.view ∙ at.is in
    let opened = k.opens on.view part on.decided (λ nil. not_nil at.before (View at.view) nil) (begins_through_both at.begins on.line) in
    let mine : IsBeginningOf part (s.views.line (key_of_stamp v.stamp)) = subst (λ u. IsBeginningOf part (s.views.line (key_of_stamp u))) seen opened.line_ in
    let good : IsGoodList part = beginning_of_good_is_good at.begins (k.shaped.good h) in
    let by = k.stands.each v.stamp.by small in
    let line_is : s.views.line (key_of_stamp v.stamp) ≡ up_to_next v.stamp (s.node v.stamp.by).list = noted.line ∙ ap (up_to_next v.stamp) (sym by.list) in
    let line_good : IsGoodList (s.views.line (key_of_stamp v.stamp)) = subst IsGoodList (sym line_is) (beginning_of_good_is_good (up_to_next_begins_list v.stamp (s.node v.stamp.by).list) (k.shaped.good
    v.stamp.by)) in
    let same = opening_of_view_is_unique at.before ch.before at.view ch.view (s.views.line (key_of_stamp v.stamp)) (at.is ∙ sym noted.stamp) mine noted.opens good
    (beginning_of_good_is_good noted.opens line_good) in
    subst (λ l. IsBeginningOf l list) same at.begins
  where
    not_nil : (a : List Entry) (e : Entry) → a ++ e ∷ [] ≡ [] → ⊥
    not_nil [] e h = cc
    not_nil (x ∷ a) e h = cc

-- ---- a view that is complete

-- the view of a name's list is its node's
view_is : (w : World) (s : Group) (j : ℕ) → j < 256 → GroupStandsForWorld w s → stamp_of_list (s.node j).list ≡ nodes.view (w.nodes j)
unfolding stamp_of_list
view_is w s j few known = ap (λ i. i.view) (image_of_whole_list w j (w.nodes j) (s.node j) (known.stands.each j few))

pub complete_view_completes_in_group : (w : World) (s : Group) (k : ℕ) (v : Decided) → GroupStandsForWorld w s → slice_get w.views k ≡ Some v → v.stamp.by < 256 → is_complete w v ≡ true
    → ViewCompletes s (key_of_stamp v.stamp)
unfolding is_complete
complete_view_completes_in_group w s k v known at small h =
    let noted = known.stands.views.noted k v at in
    let both = both_of_and (nat_le (min (v.resilience + 1) (size v.members)) (count_by (has_stored w v.stamp) (names_of v.members)))
    (not (list_any (lags_behind_view w v.stamp) (names_of v.members))) h in
    let set : IsSetOfNames v.members = subst IsSetOfNames noted.members (known.shaped.sets (key_of_stamp v.stamp) noted.decided) in
    let holders : ℕ → Bool = λ j. has v.members j && has_stored w v.stamp j in
    let least : min (v.resilience + 1) (size v.members) ≤ count_by (has_stored w v.stamp) (names_of v.members) = grind (arith, nat_tests) in
    let pass = passing_names_le_all_passing (has_stored w v.stamp) v.members set in
    let few = names_of_set_le_size v.members set in
    let enough : min (v.resilience + 1) (count_of_passing_names (has v.members)) ≤ count_of_passing_names holders = omega arith in
    let ch = s.views.chosen (key_of_stamp v.stamp) in
    record {
      decided = noted.decided;
      holders = holders;
      counts = λ j t. ap (λ l. has l j) noted.members ∙ (both_of_and (has v.members j) (has_stored w v.stamp j) t).0;
      stored = λ j t. (let b = both_of_and (has v.members j) (has_stored w v.stamp j) t in
          stored_opens w s v j known noted small (set_name_is_below_256 v.members j set b.0) b.1);
      enough = subst (λ l. min (ch.resilience + 1) (count_of_passing_names (has l)) ≤ count_of_passing_names holders) (sym noted.members)
          (subst (λ r. min (r + 1) (count_of_passing_names (has v.members)) ≤ count_of_passing_names holders) (sym noted.resilience) enough);
      none_lags = λ j member there. goes_on w s v j known set small (not-true _ both.1) (ap (λ l. has l j) (sym noted.members) ∙ member) there;
    }
  where
    goes_on : (w : World) (s : Group) (v : Decided) (j : ℕ) → GroupStandsForWorld w s → IsSetOfNames v.members → v.stamp.by < 256
        → list_any (lags_behind_view w v.stamp) (names_of v.members) ≡ false → has v.members j ≡ true → IsThere (s.node j) → key_of_stamp v.stamp ≤ key_of_stamp (stamp_of_list (s.node j).list)
    goes_on w s v j known set small none member there =
        let few = set_name_is_below_256 v.members j set member in
        let mine = known.stands.each j few in
        let fails = none_passes (lags_behind_view w v.stamp) v.members j set member none in
        let runs : is_stopped w j ≡ false = sym mine.stopped ∙ there.goes in
        let stays : has_departed (w.nodes j).status ≡ false = sym mine.departed ∙ there.stays in
        let viewed : stamp_of_list (s.node j).list ≡ nodes.view (w.nodes j) = view_is w s j few known in
        let good = name_of_view_is_byte (s.node j).list (known.shaped.good j) in
        split_on_bool (nat_lt (key_of_stamp (stamp_of_list (s.node j).list)) (key_of_stamp v.stamp))
        (λ t.
        let below : key_of_stamp (stamp_of_list (s.node j).list) < key_of_stamp v.stamp = grind (arith, nat_tests) in
        let lt = stamp_lt_of_key_lt (stamp_of_list (s.node j).list) v.stamp good small below in
        absurd (let z = ap (λ u. stamp_is_less u v.stamp) viewed in cc))
        (λ f. grind (arith, nat_tests))
