-- The line of a view, where its coordinator's list gets one entry more.
use Rattle.am_refinement.proofs.Words.{stamp_eq_of_itself, stamp_eq_gives_equality, ◌≡◌, ◌≢◌, ℕ, ◌+◌, Bool, true, false, if◌then◌else◌, List, [], ◌∷◌, ◌++◌, refl, ap, ◌∙◌, subst}
use Rattle.am_refinement.proofs.Words.{list_any, GroupView, Stamp, Entry, View, Image, blank, after, image_after_entries, IsBeginningOf, stamp_of_list, is_view, is_view_of, up_to_view}
use Rattle.am_refinement.proofs.Words.{up_to_next, split_on_bool, plain_entry_keeps_image_view, image_after_view_has_it}

-- ---- a View stands in a list, and another after it

-- some View
abbrev HasView : List Entry → Type 0
HasView es = list_any is_view es ≡ true

-- the View of this stamp
abbrev pub ListHasViewOf : Stamp → List Entry → Type 0
ListHasViewOf v es = list_any (is_view_of v) es ≡ true

unfoldable pub view_is_passed_in_list : Stamp → List Entry → Bool
view_is_passed_in_list v [] = false
view_is_passed_in_list v (e ∷ es) = if is_view_of v e then list_any is_view es else view_is_passed_in_list v es

abbrev pub AnotherViewFollows : Stamp → List Entry → Type 0
AnotherViewFollows v es = view_is_passed_in_list v es ≡ true

-- without another View the list tells the same view
same_view : (image : Image) (n : ℕ) (es : List Entry) → list_any is_view es ≡ false → (image_after_entries image n es).view ≡ image.view
unfolding image_after_entries
same_view image n [] h = refl
same_view image n (e ∷ es) h = split_on_bool (is_view e)
    (λ t. absurd (let z = rw t at h in cc))
    (λ f. same_view (after image n e) (n + 1) es (rw f at h) ∙ (plain_entry_keeps_image_view image n e f).view)

is_a_view : (v : Stamp) (e : Entry) → is_view_of v e ≡ true → is_view e ≡ true
is_a_view v (View w) h = refl
is_a_view v _ h = absurd (cc)

pub image_after_view_has_stamp : (v : Stamp) (image : Image) (n : ℕ) (e : Entry) → is_view_of v e ≡ true → (after image n e).view ≡ v
image_after_view_has_stamp v image n (View w) h = (image_after_view_has_it image n w).0 ∙ stamp_eq_gives_equality w.stamp v h
image_after_view_has_stamp v image n _ h = absurd (cc)

-- where the list ends in another view
next_in : (v : Stamp) (image : Image) (n : ℕ) (es : List Entry) → ListHasViewOf v es → (image_after_entries image n es).view ≢ v → AnotherViewFollows v es
unfolding image_after_entries view_is_passed_in_list
next_in v image n [] h other = absurd (cc)
next_in v image n (e ∷ es) h other = split_on_bool (is_view_of v e)
    (λ t. rw t (split_on_bool (list_any is_view es)
    (λ u. u)
    (λ f. absurd (other (same_view (after image n e) (n + 1) es f ∙ image_after_view_has_stamp v image n e t)))))
    (λ f. rw f (next_in v (after image n e) (n + 1) es (rw f at h) other))

pub unlike_last_view_is_passed : (v : Stamp) (list : List Entry) → ListHasViewOf v list → stamp_of_list list ≢ v → AnotherViewFollows v list
unfolding stamp_of_list
unlike_last_view_is_passed v list h other = next_in v blank 1 list h other

-- ---- one entry more

view_stays : (es : List Entry) (e : Entry) → HasView es → up_to_view (es ++ e ∷ []) ≡ up_to_view es
unfolding up_to_view
view_stays [] e h = absurd (cc)
view_stays (x ∷ es) e h = split_on_bool (is_view x)
    (λ t. rw t refl)
    (λ f. rw f (ap (λ l. x ∷ l) (view_stays es e (rw f at h))))

-- after another View it changes nothing of the line
pub line_after_passed_view : (v : Stamp) (es : List Entry) (e : Entry) → AnotherViewFollows v es → up_to_next v (es ++ e ∷ []) ≡ up_to_next v es
unfolding up_to_next view_is_passed_in_list
line_after_passed_view v [] e h = absurd (cc)
line_after_passed_view v (x ∷ es) e h = split_on_bool (is_view_of v x)
    (λ t. rw t (ap (λ l. x ∷ l) (view_stays es e (rw t at h))))
    (λ f. rw f (ap (λ l. x ∷ l) (line_after_passed_view v es e (rw f at h))))

view_ends : (es : List Entry) (e : Entry) → is_view e ≡ true → up_to_view (es ++ e ∷ []) ≡ up_to_view es
unfolding up_to_view
view_ends [] e h = rw h refl
view_ends (x ∷ es) e h = split_on_bool (is_view x)
    (λ t. rw t refl)
    (λ f. rw f (ap (λ l. x ∷ l) (view_ends es e h)))

-- and a View ends it
pub line_after_ending_view : (v : Stamp) (es : List Entry) (e : Entry) → ListHasViewOf v es → is_view e ≡ true → up_to_next v (es ++ e ∷ []) ≡ up_to_next v es
unfolding up_to_next
line_after_ending_view v [] e h is = absurd (cc)
line_after_ending_view v (x ∷ es) e h is = split_on_bool (is_view_of v x)
    (λ t. rw t (ap (λ l. x ∷ l) (view_ends es e is)))
    (λ f. rw f (ap (λ l. x ∷ l) (line_after_ending_view v es e (rw f at h) is)))

tail_of : (x : Entry) (a b : List Entry) → x ∷ a ≡ x ∷ b → a ≡ b
tail_of x a b h = ap (λ l. rest l) h
  where
    rest : List Entry → List Entry
    rest [] = []
    rest (y ∷ ys) = ys

view_grows : (es : List Entry) (e : Entry) → is_view e ≡ false → up_to_view es ≡ es → up_to_view (es ++ e ∷ []) ≡ es ++ e ∷ []
unfolding up_to_view
view_grows [] e plain h = rw plain refl
view_grows (x ∷ es) e plain h = split_on_bool (is_view x)
    (λ t. absurd (let z = rw t at h in cc))
    (λ f. rw f (ap (λ l. x ∷ l) (view_grows es e plain (tail_of x (up_to_view es) es (rw f at h)))))

-- else the line grows with the list
pub line_after_plain_entry : (v : Stamp) (es : List Entry) (e : Entry) → is_view e ≡ false → up_to_next v es ≡ es → up_to_next v (es ++ e ∷ []) ≡ es ++ e ∷ []
unfolding up_to_next
line_after_plain_entry v [] e plain h = split_on_bool (is_view_of v e) (λ t. absurd (let z = is_a_view v e t in cc)) (λ f. rw f refl)
line_after_plain_entry v (x ∷ es) e plain h = split_on_bool (is_view_of v x)
    (λ t. rw t (ap (λ l. x ∷ l) (view_grows es e plain (tail_of x (up_to_view es) es (rw t at h)))))
    (λ f. rw f (ap (λ l. x ∷ l) (line_after_plain_entry v es e plain (tail_of x (up_to_next v es) es (rw f at h)))))

-- ---- what stands in a line stands in the list

part_any : (p : Entry → Bool) (es : List Entry) → list_any p (up_to_view es) ≡ true → list_any p es ≡ true
unfolding up_to_view
part_any p [] h = h
part_any p (x ∷ es) h = split_on_bool (is_view x)
    (λ t. absurd (let z = rw t at h in cc))
    (λ f. let z = rw f at h in split_on_bool (p x) (λ t. rw t refl) (λ g. rw g (part_any p es (rw g at z))))

line_any : (p : Entry → Bool) (v : Stamp) (es : List Entry) → list_any p (up_to_next v es) ≡ true → list_any p es ≡ true
unfolding up_to_next
line_any p v [] h = h
line_any p v (x ∷ es) h = split_on_bool (is_view_of v x)
    (λ t. let z = rw t at h in split_on_bool (p x) (λ u. rw u refl) (λ g. rw g (part_any p es (rw g at z))))
    (λ f. let z = rw f at h in split_on_bool (p x) (λ u. rw u refl) (λ g. rw g (line_any p v es (rw g at z))))

any_front : (p : Entry → Bool) (a b : List Entry) → list_any p a ≡ true → list_any p (a ++ b) ≡ true
any_front p [] b h = absurd (cc)
any_front p (x ∷ a) b h = split_on_bool (p x) (λ t. rw t refl) (λ f. rw f (any_front p a b (rw f at h)))

any_last : (p : Entry → Bool) (a : List Entry) (e : Entry) → p e ≡ true → list_any p (a ++ e ∷ []) ≡ true
any_last p [] e h = rw h refl
any_last p (x ∷ a) e h = split_on_bool (p x) (λ t. rw t refl) (λ f. rw f (any_last p a e h))

-- a view's line opens with its View
pub line_opens_with_its_view : (before : List Entry) (v : GroupView) (list : List Entry)
    → IsBeginningOf (before ++ View v ∷ []) (up_to_next v.stamp list) → ListHasViewOf v.stamp list
line_opens_with_its_view before v list h =
    let e = View v in
    let there = any_front (is_view_of v.stamp) (before ++ e ∷ []) h.rest (any_last (is_view_of v.stamp) before e (stamp_eq_of_itself v.stamp)) in
    line_any (is_view_of v.stamp) v.stamp list (subst (λ l. list_any (is_view_of v.stamp) l ≡ true) h.same there)
