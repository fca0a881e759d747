-- What a good list tells of a membership that has ended in it, and of the Views that stand in it.
use Rattle.am_fetch_runs.proofs.Words.{◌≡◌, inr, ℕ, zero, suc, ◌+◌, ◌<◌, ◌≤◌, ◌==◌, nat_lt, nat_le, true, false, List, [], ◌∷◌, ◌++◌, length, take, slice_get, Some, refl}
use Rattle.am_fetch_runs.proofs.Words.{sym, ap, ◌∙◌, subst, arith, nat_tests, split_on_bool, View, Entry, Image, Stamp, Log, log_entry_at, blank, place_of_name, life_of_name, row_of_place, IsGoodList, is_member_at_end}
use Rattle.am_fetch_runs.proofs.Words.{stamp_is_less, image_of_list, key_of_stamp, stamp_of_list, begins_push_next_entry, taken_front_begins_list, length_of_taken_list, view_after_pushed_view, name_of_view_is_byte, beginning_of_good_is_good}
use Rattle.am_fetch_runs.proofs.Words.{key_is_less_for_lesser_stamp, view_key_grows_along_list, member_has_member_row}
use Rattle.am_base.specs.Lists.{after, row_of_name, row_at_place}
unfoldable use Rattle.am_base.specs.Lists.{AllEntriesFit, image_after_entries}
use Rattle.am_base.proofs.Rows.{IsPastRow, past_row_after_entry, member_row_is_not_past, sixteen_rows_after_entry, mod_sixteen_lt}
use Rattle.am_base.proofs.Members.{back_of_list_fits, fold_entries_append, image_has_sixteen_rows}
use Rattle.am_node_defs.proofs.Lives.{UnusedPlacesHaveNoLife}
use Rattle.am_model.specs.Resets.{is_unfetchable_view}
use Rattle.std.proofs.Common.{drop, take-append-drop, ◌≢◌}
use Rattle.std.proofs.lemmas.Bool.{false_from_ne_true}

-- ---- who has left has left

past_after_entries : (image : Image) (n : ℕ) (es : List Entry) (place life : ℕ) → length image.rows ≡ 16 → place < 16 → 0 < n → AllEntriesFit image n es
    → IsPastRow (row_of_place image place) life → IsPastRow (row_of_place (image_after_entries image n es) place) life
unfolding AllEntriesFit image_after_entries
past_after_entries image n [] place life long small up fit past = past
past_after_entries image n (e ∷ es) place life long small up fit past =
    past_after_entries (after image n e) (n + 1) es place life (sixteen_rows_after_entry image n e long) small (omega arith) fit.1 (past_row_after_entry image n e place life long small up fit.0 past)

-- a row with a Leave is of a membership that has ended
past_by_leave : (image : Image) (name : ℕ) → UnusedPlacesHaveNoLife image → nat_lt 0 (row_of_name image name).left ≡ true
    → IsPastRow (row_of_place image (place_of_name name)) (life_of_name name)
past_by_leave image name used left = split_on_bool ((row_at_place image name).life == life_of_name name)
    (λ t.
    let life : (row_at_place image name).life ≡ life_of_name name = grind (arith, nat_tests) in
    let some : (row_at_place image name).joined ≢ 0 = λ none. (let no_life = used.unused (place_of_name name) (mod_sixteen_lt name) none in absurd (omega arith)) in
    record { joined = omega arith; gone = inr (life, (let l = rw t at left in grind (arith, nat_tests))) })
    (λ f. absurd (let none = rw f at left in cc))

-- so a member at a list's end hasn't left by any front of it
pub member_at_end_has_not_left : (list : List Entry) (name k : ℕ) → IsGoodList list → k ≤ length list → UnusedPlacesHaveNoLife (image_of_list (take k list))
    → is_member_at_end list name ≡ true → (row_of_name (image_of_list (take k list)) name).left ≡ 0
member_at_end_has_not_left list name k good low used member =
    let front = image_of_list (take k list) in
    split_on_bool (nat_lt 0 (row_of_name front name).left)
    (λ t. absurd (
    let whole = take-append-drop k list in
    let long = length_of_taken_list k list low in
    let fit = back_of_list_fits blank 1 (take k list) (drop k list) (subst (AllEntriesFit blank 1) (sym whole) good.fit) in
    let past = past_after_entries front (1 + length (take k list)) (drop k list) (place_of_name name) (life_of_name name) (image_has_sixteen_rows (take k list)) (mod_sixteen_lt name)
    (omega arith) fit (past_by_leave front name used t) in
    let at_end = subst (λ i. IsPastRow (row_of_place i (place_of_name name)) (life_of_name name)) (sym (fold_entries_append blank 1 (take k list) (drop k list)) ∙ ap image_of_list whole) past in
    member_row_is_not_past _ _ (member_has_member_row list name member) at_end))
    (λ f. grind (arith, nat_tests))

-- ---- Views

-- no View of a list is above its last
pub no_view_is_unfetchable : (list : List Entry) (k : ℕ) (e : Entry) → IsGoodList list → k < length list → slice_get list k ≡ Some e → is_unfetchable_view (stamp_of_list list) false e ≡ false
no_view_is_unfetchable list k (View g) good low there =
    let long = length_of_taken_list k list (omega arith) in
    let next = begins_push_next_entry (View g) (taken_front_begins_list k list) (ap (slice_get list) long ∙ there) in
    let pushed = take k list ++ View g ∷ [] in
    let good_front = beginning_of_good_is_good next good in
    let up = view_key_grows_along_list good next in
    let is = view_after_pushed_view (take k list) g in
    let key = ap key_of_stamp is in
    let small = subst (λ (u : Stamp). u.by < 256) is (name_of_view_is_byte pushed good_front) in
    let less = false_from_ne_true (stamp_is_less (stamp_of_list list) g.stamp) (λ (t : stamp_is_less (stamp_of_list list) g.stamp ≡ true).
    (let z = key_is_less_for_lesser_stamp (stamp_of_list list) g.stamp (name_of_view_is_byte list good) small t in omega arith)) in
    rw less refl
no_view_is_unfetchable list k _ good low there = refl

-- ---- numbers

-- an entry stands above its list's start
pub entry_is_above_start : (log : Log) (number : ℕ) (e : Entry) → log_entry_at log number ≡ Some e → log.start < number
entry_is_above_start log zero e there = absurd (cc)
entry_is_above_start log (suc before) e there = split_on_bool (nat_le log.start before)
    (λ t. let low : log.start ≤ before = grind (arith, nat_tests) in omega arith)
    (λ f. absurd (let none = rw f at there in cc))
