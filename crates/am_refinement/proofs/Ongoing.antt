-- Whose own Leave isn't in its list is still a member there, if it ever was.
use Rattle.am_refinement.proofs.Words.{split_on_bool, ◌≡◌, ◌⊎◌, inl, inr, either, ℕ, ◌+◌, ◌==◌, ◌&&◌, not, nat_lt, List, [], ◌∷◌, ◌++◌, length, true, false}
use Rattle.am_refinement.proofs.Words.{slice_index, refl, sym, ap, ◌∙◌, subst, arith, nat_tests, Entry, Data, Join, Leave, View, GroupView, Row, Image, place_of_name}
use Rattle.am_refinement.proofs.Words.{life_of_name, is_blank_image, row_at_place, row_of_name, member_life_of_row, image_with_row, row_after_view, after, IsBeginningOf, IsProperBeginningOf, IsGoodList, image_of_list}
use Rattle.am_refinement.proofs.Words.{is_member_at_end, begins_not_longer_is_same, begins_push_or_is_push, row_of_place, IsMemberRow, mod_sixteen_lt, row_of_with_row, row_after_pushed_view, blank_image_has_nobody_joined, beginning_of_good_is_good, image_after_pushed_entry, image_has_sixteen_rows}
use Rattle.am_refinement.proofs.Words.{member_has_member_row, member_row_gives_member, member_stays_by_push, Group, IsUp, IsOngoing, GroupKeeps}

-- ---- what ends a membership shows in the row

row_alive : (image : Image) (name : ℕ) (r : Row) → row_at_place image name ≡ r → r.life ≡ life_of_name name → (row_of_name image name).left ≡ r.left
row_alive image name r is life =
    let t : ((row_at_place image name).life == life_of_name name) ≡ true = let l = ap (λ (q : Row). q.life) is ∙ life in grind (arith, nat_tests) in
    rw t (ap (λ (q : Row). q.left) is)

left_row : (image : Image) (n name : ℕ) → length image.rows ≡ 16 → IsMemberRow (row_of_place image (place_of_name name)) (life_of_name name)
    → (row_of_name (after image n (Leave name)) name).left ≡ n
unfolding after
left_row image n name long h =
    let alive : ((row_at_place image name).life == life_of_name name) ≡ true = let l = h.is in grind (arith, nat_tests) in
    rw alive (either (row_of_with_row image name (place_of_name name) (record (row_at_place image name) { left = n }) long)
    (λ z. row_alive (image_with_row image name (record (row_at_place image name) { left = n })) name (record (row_at_place image name) { left = n }) z.1 h.is)
    (λ z. absurd (z.0 refl)))

-- after a View a member is one, or its row tells that it left
view_row : (n given life : ℕ) (r : Row) → IsMemberRow r life → IsMemberRow (row_after_view false n given r) life ⊎ ((row_after_view false n given r) ≡ record r { left = n })
view_row n given life r h = split_on_bool (nat_lt 0 (member_life_of_row r) && not (member_life_of_row r == given))
    (λ t. inr (rw t refl))
    (λ f. inl (rw f h))

viewed_row : (image : Image) (n : ℕ) (v : GroupView) (name : ℕ) → length image.rows ≡ 16
    → IsMemberRow (row_of_place image (place_of_name name)) (life_of_name name)
    → IsMemberRow (row_of_place (after image n (View v)) (place_of_name name)) (life_of_name name) ⊎
    ((row_of_name (after image n (View v)) name).left ≡ n)
viewed_row image n v name long h =
    let next = after image n (View v) in
    let place = place_of_name name in
    let is = row_after_pushed_view image n v place (mod_sixteen_lt name) in
    let full : is_blank_image image ≡ false = split_on_bool (is_blank_image image) (λ t. absurd (let none = blank_image_has_nobody_joined image place t in let some = h.joined in omega arith))
    (λ f. f) in
    let at : row_of_place next place ≡ row_after_view false n (slice_index v.members place) (row_of_place image place) = is
    ∙ ap (λ b. row_after_view b n (slice_index v.members place) (row_of_place image place)) full in
    either (view_row n (slice_index v.members place) (life_of_name name) (row_of_place image place) h)
    (λ z. inl (subst (λ q. IsMemberRow q (life_of_name name)) (sym at) z))
    (λ z. inr
    (row_alive next name (record (row_of_place image place) { left = n }) (at ∙ z) h.is))

-- ---- the last entry

last_keeps : (a : List Entry) (e : Entry) (name : ℕ) → IsGoodList (a ++ e ∷ []) → is_member_at_end a name ≡ true → (row_of_name (image_of_list (a ++ e ∷ [])) name).left ≡ 0
    → is_member_at_end (a ++ e ∷ []) name ≡ true
last_keeps a (Data from req body) name good member left = member_stays_by_push a (Data from req body) name good tt member
last_keeps a (Join joiner) name good member left = member_stays_by_push a (Join joiner) name good tt member
last_keeps a (Leave leaver) name good member left = split_on_bool (leaver == name)
    (λ t. absurd (let same : leaver ≡ name = grind (arith, nat_tests) in
    let row = left_row (image_of_list a) (1 + length a) name (image_has_sixteen_rows a) (member_has_member_row a name member) in
    let z : (row_of_name (image_of_list (a ++ Leave leaver ∷ [])) name).left ≡ 1 + length a = ap (λ k. (row_of_name (image_of_list (a ++ Leave k ∷ [])) name).left) same
    ∙ ap (λ (i : Image). (row_of_name i name).left) (image_after_pushed_entry a (Leave name)) ∙ row in
    omega arith))
    (λ f. member_stays_by_push a (Leave leaver) name good (λ same. (let t : (leaver == name) ≡ true = grind (arith, nat_tests) in cc)) member)
last_keeps a (View v) name good member left =
    let e = View v in
    either (viewed_row (image_of_list a) (1 + length a) v name (image_has_sixteen_rows a) (member_has_member_row a name member))
    (λ z. member_row_gives_member (a ++ e ∷ []) name
    (subst (λ (i : Image). IsMemberRow (row_of_place i (place_of_name name)) (life_of_name name)) (sym (image_after_pushed_entry a e)) z))
    (λ z. absurd
    (let y : (row_of_name (image_of_list (a ++ e ∷ [])) name).left ≡ 1 + length a = ap (λ (i : Image). (row_of_name i name).left) (image_after_pushed_entry a e) ∙ z in omega arith))

-- ---- the whole list

unsnoc : (x : Entry) (xs : List Entry) → (init : List Entry) × (last : Entry) × (x ∷ xs ≡ init ++ last ∷ [])
unsnoc x [] = ([], x, refl)
unsnoc x (y ∷ ys) = let r = unsnoc y ys in (x ∷ r.0, r.1, ap (λ l. x ∷ l) r.2)

ongoing_of : (list : List Entry) (name : ℕ) → IsGoodList list → ((a d : List Entry) → IsProperBeginningOf d list → IsBeginningOf a d → is_member_at_end a name ≡ true → is_member_at_end d name ≡ true)
    → (row_of_name (image_of_list list) name).left ≡ 0 → IsOngoing list name
ongoing_of [] name good own left = λ a h member. subst (λ l. is_member_at_end l name ≡ true) (begins_not_longer_is_same h (omega arith)) member
ongoing_of (x ∷ xs) name good own left =
    let r = unsnoc x xs in
    λ a h member. either (begins_push_or_is_push r.1 (subst (IsBeginningOf a) r.2 h))
    (λ z. (let below : IsProperBeginningOf r.0 (x ∷ xs) = record { next = r.1; rest = []; same = sym r.2 } in
    let before = own a r.0 below z member in
    subst (λ l. is_member_at_end l name ≡ true) (sym r.2) (last_keeps r.0 r.1 name (subst IsGoodList r.2 good) before
    (subst (λ l. (row_of_name (image_of_list l) name).left ≡ 0) r.2 left)))) (λ z. subst (λ l. is_member_at_end l name ≡ true) (z ∙ sym r.2) member)

pub unleft_name_is_ongoing : (s : Group) (i : ℕ) → GroupKeeps s → IsUp (s.node i) → (row_of_name (image_of_list (s.node i).list) i).left ≡ 0 → IsOngoing (s.node i).list i
unleft_name_is_ongoing s i k up left = ongoing_of (s.node i).list i (beginning_of_good_is_good ((k.each i).list up) k.views.good) ((k.each i).own up) left
