-- Lists, their lines, and where a View stands in them.
use Rattle.am_lawful_runs.proofs.Words.{stamp_eq_gives_equality, le_or_gt, ◌≡◌, either, ℕ, zero, suc, ◌≤◌, true, List, [], ◌∷◌, ◌++◌, length, Some, slice_get, sym, ap}
use Rattle.am_lawful_runs.proofs.Words.{◌∙◌, subst, arith, list_any, Entry, View, GroupView, Stamp, item_at, slice_get_of_append_front, IsBeginningOf, IsGoodList, stamp_of_list, key_of_stamp, empty_list_begins_all}
use Rattle.am_lawful_runs.proofs.Words.{shorter_beginning_begins_longer, front_begins_append, begins_not_longer_is_same, length_of_pushed_list, beginning_of_good_is_good, view_key_grows_along_list, view_below_pushed_view, view_after_pushed_view, is_view, is_view_of}
use Rattle.am_lawful_runs.proofs.Words.{up_to_view, up_to_next, split_on_bool, item_at_of_appended, refl}

-- ---- lines

begins_cons : (e : Entry) {a b : List Entry} → IsBeginningOf a b → IsBeginningOf (e ∷ a) (e ∷ b)
begins_cons e h = record { rest = h.rest; same = ap (λ l. e ∷ l) h.same }

view_part : (es : List Entry) → IsBeginningOf (up_to_view es) es
unfolding up_to_view
view_part [] = empty_list_begins_all []
view_part (e ∷ es) = split_on_bool (is_view e) (λ t. rw t (empty_list_begins_all (e ∷ es))) (λ f. rw f (begins_cons e (view_part es)))

-- a view's line is a beginning of its list
pub up_to_next_begins_list : (v : Stamp) (es : List Entry) → IsBeginningOf (up_to_next v es) es
unfolding up_to_next
up_to_next_begins_list v [] = empty_list_begins_all []
up_to_next_begins_list v (e ∷ es) = split_on_bool (is_view_of v e) (λ t. rw t (begins_cons e (view_part es))) (λ f. rw f (begins_cons e (up_to_next_begins_list v es)))

-- ---- a View in a list

-- up to which a list has it
pub record ViewStandsInList (v : Stamp) (list : List Entry) : Type 0 where
  pub before : List Entry
  pub view : GroupView
  pub is : view.stamp ≡ v
  pub begins : IsBeginningOf (before ++ View view ∷ []) list

is_that : (v : Stamp) (e : Entry) → is_view_of v e ≡ true → (w : GroupView) × (w.stamp ≡ v) × (e ≡ View w)
is_that v (View w) h = (w, stamp_eq_gives_equality w.stamp v h, refl)
is_that v _ h = absurd (cc)

pub view_found_in_list : (v : Stamp) (list : List Entry) → list_any (is_view_of v) list ≡ true → ViewStandsInList v list
view_found_in_list v [] h = absurd (cc)
view_found_in_list v (e ∷ es) h = split_on_bool (is_view_of v e)
    (λ t.
    let its = is_that v e t in
    record { before = []; view = its.0; is = its.1; begins = record { rest = es; same = ap (λ x. x ∷ es) (sym its.2) } })
    (λ f.
    let at = view_found_in_list v es (rw f at h) in
    record { before = e ∷ at.before; view = at.view; is = at.is; begins = begins_cons e at.begins })

-- two beginnings of one list that end with Views of the same stamp are the same
pub opening_of_view_is_unique : (a b : List Entry) (v w : GroupView) (list : List Entry) → v.stamp ≡ w.stamp → IsBeginningOf (a ++ View v ∷ []) list
    → IsBeginningOf (b ++ View w ∷ []) list → IsGoodList (a ++ View v ∷ []) → IsGoodList (b ++ View w ∷ []) → a ++ View v ∷ [] ≡ b ++ View w ∷ []
opening_of_view_is_unique a b v w list stamps h k g f =
    let p = a ++ View v ∷ [] in
    let q = b ++ View w ∷ [] in
    let long_p = length_of_pushed_list a (View v) in
    let long_q = length_of_pushed_list b (View w) in
    either (le_or_gt (length p) (length q))
    (λ le. either (le_or_gt (length q) (length p))
    (λ back. begins_not_longer_is_same (shorter_beginning_begins_longer h k le) back)
    (λ less. absurd (below w b p (shorter_beginning_begins_longer (shorter_beginning_begins_longer h k le) (front_begins_append b (View w ∷ [])) (omega arith)) f
    (view_after_pushed_view a v ∙ stamps))))
    (λ less. absurd (below v a q (shorter_beginning_begins_longer (shorter_beginning_begins_longer k h (omega arith)) (front_begins_append a (View v ∷ [])) (omega arith)) g
    (view_after_pushed_view b w ∙ sym stamps)))
  where
    below : (v : GroupView) (a q : List Entry) → IsBeginningOf q a → IsGoodList (a ++ View v ∷ []) → stamp_of_list q ≡ v.stamp → ⊥
    below v a q h g is =
        let up = view_key_grows_along_list (beginning_of_good_is_good (front_begins_append a (View v ∷ [])) g) h in
        let low = view_below_pushed_view a v g in
        let same = ap key_of_stamp is in
        omega arith

-- ---- items

pub item_stays_in_longer_list : {a b : List Entry} (number : ℕ) (e : Entry) → IsBeginningOf a b → item_at a number ≡ Some e → item_at b number ≡ Some e
item_stays_in_longer_list {a} {b} number e h is = subst (λ l. item_at l number ≡ Some e) h.same (item_at_of_appended a h.rest number e is)

-- so far as the first goes
pub item_at_in_beginning : {a b : List Entry} (number : ℕ) (e : Entry) → IsBeginningOf a b → number ≤ length a → item_at b number ≡ Some e → item_at a number ≡ Some e
item_at_in_beginning {a} {b} zero e h low is = absurd (cc)
item_at_in_beginning {a} {b} (suc k) e h low is = sym (slice_get_of_append_front a h.rest k (omega arith)) ∙ ap (λ l. slice_get l k) h.same ∙ is
