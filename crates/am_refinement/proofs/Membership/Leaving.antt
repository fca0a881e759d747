-- Where a name left a list: its row tells the number, and there stands its Leave, or a View that left it out.
use Rattle.am_refinement.proofs.Words.{place_and_life_give_name, split_on_bool, ◌≡◌, either, ℕ, ◌+◌, ◌<◌, ◌==◌, ◌&&◌, not, nat_lt, true, false, if◌then◌else◌, List, [], ◌∷◌, ◌++◌}
use Rattle.am_refinement.proofs.Words.{length, slice_index, refl, sym, ap, ◌∙◌, subst, arith, nat_tests, append_assoc, get_or-replicate, Entry, Data, Join, Leave}
use Rattle.am_refinement.proofs.Words.{View, Row, Image, GroupView, place_of_name, life_of_name, has, blank_row, is_blank_image, row_at_place, row_of_name, member_life_of_row, image_with_row}
use Rattle.am_refinement.proofs.Words.{row_after_view, after, image_after_entries, IsBeginningOf, image_of_list, is_member_at_end, list_begins_itself, front_begins_append, begins_through_both, row_of_place, row_after_pushed_view, IsMemberRow, mod_sixteen_lt}
use Rattle.am_refinement.proofs.Words.{row_of_with_row, image_after_pushed_entry, image_has_sixteen_rows, member_row_gives_member}
use Rattle.std.proofs.lemmas.List.{append-nil}

-- ---- what a row tells of a life's leaving

left_of : Row → ℕ → ℕ
left_of r life = if r.life == life then r.left else 0

row_left : (image : Image) (name : ℕ) → (row_of_name image name).left ≡ left_of (row_of_place image (place_of_name name)) (life_of_name name)
unfolding left_of
row_left image name = split_on_bool ((row_at_place image name).life == life_of_name name) (λ t. rw t refl) (λ f. rw f refl)

-- the same life and the same leaving
same_left : (a b : Row) (life : ℕ) → a.life ≡ b.life → a.left ≡ b.left → left_of a life ≡ left_of b life
unfolding left_of
same_left a b life lives lefts = (λ i. if lives i == life then lefts i else 0)

left_here : (r : Row) (life : ℕ) → r.life ≡ life → left_of r life ≡ r.left
unfolding left_of
left_here r life same = let t : (r.life == life) ≡ true = grind (arith, nat_tests) in rw t refl

left_none : (r : Row) (life : ℕ) → r.left ≡ 0 → left_of r life ≡ 0
unfolding left_of
left_none r life none = split_on_bool (r.life == life) (λ t. rw t none) (λ f. rw f refl)

left_other : (r : Row) (life : ℕ) → (r.life == life) ≡ false → left_of r life ≡ 0
unfolding left_of
left_other r life f = rw f refl

-- ---- one entry

data Leaves (image : Image) (n : ℕ) (e : Entry) (name : ℕ) : Type 0 where
  stayed : (row_of_name (after image n e) name).left ≡ (row_of_name image name).left → Leaves image n e name
  leaves : e ≡ Leave name → (row_of_name (after image n e) name).left ≡ n → Leaves image n e name
  left_out : (v : GroupView) → e ≡ View v → has v.members name ≡ false
      → IsMemberRow (row_of_place image (place_of_name name)) (life_of_name name) → (row_of_name (after image n e) name).left ≡ n → Leaves image n e name
  none : (row_of_name (after image n e) name).left ≡ 0 → Leaves image n e name

-- by the row of its place
by_row : (image next : Image) (name : ℕ) → left_of (row_of_place next (place_of_name name)) (life_of_name name) ≡ left_of (row_of_place image (place_of_name name)) (life_of_name name)
    → (row_of_name next name).left ≡ (row_of_name image name).left
by_row image next name same = row_left next name ∙ same ∙ sym (row_left image name)

data_left : (image : Image) (n from req : ℕ) (body : List ℕ) (name : ℕ) → length image.rows ≡ 16
    → (row_of_name (after image n (Data from req body)) name).left ≡ (row_of_name image name).left
unfolding after
data_left image n from req body name long = split_on_bool ((row_at_place image from).life == life_of_name from)
    (λ t.
    let r : Row = record (row_at_place image from) { last = req } in
    rw t (by_row image (image_with_row image from r) name (either (row_of_with_row image from (place_of_name name) r long)
    (λ z. (let here : row_of_place image (place_of_name name) ≡ row_at_place image from = ap (row_of_place image) z.0 in
    same_left (row_of_place (image_with_row image from r) (place_of_name name)) (row_of_place image (place_of_name name)) (life_of_name name)
    (ap (λ (q : Row). q.life) z.1 ∙ ap (λ (q : Row). q.life) (sym here)) (ap (λ (q : Row). q.left) z.1 ∙ ap (λ (q : Row). q.left) (sym here))))
    (λ z. ap (λ q. left_of q
    (life_of_name name)) z.1))))
    (λ f. rw f refl)

join_left : (image : Image) (n joiner name : ℕ) → length image.rows ≡ 16 → Leaves image n (Join joiner) name
unfolding after
join_left image n joiner name long =
    let r : Row = record { life = life_of_name joiner; joined = n; left = 0; last = 0 } in
    either (row_of_with_row image joiner (place_of_name name) r long)
    (λ z. none (row_left (image_with_row image joiner r) name ∙ ap (λ q. left_of q (life_of_name name)) z.1 ∙ left_none r (life_of_name name) refl))
    (λ z. stayed (by_row image (image_with_row image joiner r) name (ap (λ q. left_of q (life_of_name name)) z.1)))

leave_left : (image : Image) (n leaver name : ℕ) → length image.rows ≡ 16 → Leaves image n (Leave leaver) name
unfolding after
leave_left image n leaver name long = split_on_bool ((row_at_place image leaver).life == life_of_name leaver)
    (λ t.
    let r : Row = record (row_at_place image leaver) { left = n } in
    let next : after image n (Leave leaver) ≡ image_with_row image leaver r = rw t refl in
    either (row_of_with_row image leaver (place_of_name name) r long)
    (λ z. (let at : (row_of_name (after image n (Leave leaver)) name).left ≡ left_of r (life_of_name name) =
    ap (λ (g : Image). (row_of_name g name).left) next ∙ row_left (image_with_row image leaver r) name ∙ ap (λ q. left_of q (life_of_name name)) z.1 in
    split_on_bool (r.life == life_of_name name)
    (λ u.
    let its : r.life ≡ life_of_name name = grind (arith, nat_tests) in
    let own : r.life ≡ life_of_name leaver = grind (arith, nat_tests) in
    leaves (ap Leave (place_and_life_give_name leaver name (sym z.0) (sym own ∙ its))) (at ∙ left_here r (life_of_name name) its))
    (λ g. none (at ∙ left_other r (life_of_name name) g))))
    (λ z. stayed (ap (λ (g : Image). (row_of_name g name).left) next ∙ by_row image (image_with_row image leaver r) name (ap (λ q. left_of q (life_of_name name)) z.1))))
    (λ f. stayed (let next : after image n (Leave leaver) ≡ image = rw f refl in ap (λ (g : Image). (row_of_name g name).left) next))

-- a member that a View doesn't have
out_of : (r : Row) (given life : ℕ) → (nat_lt 0 (member_life_of_row r) && not (member_life_of_row r == given)) ≡ true → r.life ≡ life
    → IsMemberRow r life × ((given == life) ≡ false)
out_of r given life u same = split_on_bool (nat_lt 0 r.joined && (r.left == 0))
    (λ t.
    let is : member_life_of_row r ≡ r.life = rw t refl in
    let here : (nat_lt 0 r.life && not (r.life == given)) ≡ true = subst (λ k. (nat_lt 0 k && not (k == given)) ≡ true) is u in (
      record { joined = grind (arith, nat_tests); left = grind (arith, nat_tests); is = same },
      (let z : (given == life) ≡ false = grind (arith, nat_tests) in z),
    ))
    (λ f. absurd (
    let is : member_life_of_row r ≡ 0 = rw f refl in
    cc))

view_left : (image : Image) (n : ℕ) (v : GroupView) (name : ℕ) → Leaves image n (View v) name
view_left image n v name =
    let e = View v in
    let given = slice_index v.members (place_of_name name) in
    let r = row_of_place image (place_of_name name) in
    let is = row_after_pushed_view image n v (place_of_name name) (mod_sixteen_lt name) in
    let at : (row_of_name (after image n e) name).left ≡ left_of (row_after_view (is_blank_image image) n given r) (life_of_name name) =
    row_left (after image n e) name ∙ ap (λ q. left_of q (life_of_name name)) is in
    split_on_bool (is_blank_image image)
    (λ t. split_on_bool (given == 0)
    (λ u. stayed (at ∙ ap (λ q. left_of q (life_of_name name)) (viewed_first given n r u t) ∙ sym (row_left image name)))
    (λ f. none (at ∙ ap (λ q. left_of q (life_of_name name)) (viewed_new given n r f t)
    ∙ left_none (record { life = given; joined = 1; left = 0; last = 0 }) (life_of_name name) refl)))
    (λ f. split_on_bool (nat_lt 0 (member_life_of_row r) && not (member_life_of_row r == given))
    (λ u.
    let next : Row = record r { left = n } in
    let here : (row_of_name (after image n e) name).left ≡ left_of next (life_of_name name) = at ∙ ap (λ q. left_of q (life_of_name name)) (viewed_out given n r u f) in
    split_on_bool (r.life == life_of_name name)
    (λ same.
    let its : r.life ≡ life_of_name name = grind (arith, nat_tests) in
    let gone = out_of r given (life_of_name name) u its in
    left_out v refl gone.1 gone.0 (here ∙ left_here next (life_of_name name) its))
    (λ other. none (here ∙ left_other next (life_of_name name) other)))
    (λ g. stayed (at ∙ ap (λ q. left_of q (life_of_name name)) (viewed_same given n r g f) ∙ sym (row_left image name))))
  where
    viewed_first : (given n : ℕ) (r : Row) → (given == 0) ≡ true → is_blank_image image ≡ true → row_after_view (is_blank_image image) n given r ≡ r
    viewed_first given n r u t = rw (t, u) refl

    viewed_new : (given n : ℕ) (r : Row) → (given == 0) ≡ false → is_blank_image image ≡ true
        → row_after_view (is_blank_image image) n given r ≡ record { life = given; joined = 1; left = 0; last = 0 }
    viewed_new given n r u t = rw (t, u) refl

    viewed_out : (given n : ℕ) (r : Row) → (nat_lt 0 (member_life_of_row r) && not (member_life_of_row r == given)) ≡ true → is_blank_image image ≡ false
        → row_after_view (is_blank_image image) n given r ≡ record r { left = n }
    viewed_out given n r u f = rw (f, u) refl

    viewed_same : (given n : ℕ) (r : Row) → (nat_lt 0 (member_life_of_row r) && not (member_life_of_row r == given)) ≡ false → is_blank_image image ≡ false
        → row_after_view (is_blank_image image) n given r ≡ r
    viewed_same given n r u f = rw (f, u) refl

entry_left : (image : Image) (n : ℕ) (e : Entry) (name : ℕ) → length image.rows ≡ 16 → Leaves image n e name
entry_left image n (Data from req body) name long = stayed (data_left image n from req body name long)
entry_left image n (Join joiner) name long = join_left image n joiner name long
entry_left image n (Leave leaver) name long = leave_left image n leaver name long
entry_left image n (View v) name long = view_left image n v name

-- ---- the number where it left

pub data LeftListAt (list : List Entry) (name left : ℕ) : Type 0 where
  by_leave : (before : List Entry) → length before + 1 ≡ left → IsBeginningOf (before ++ Leave name ∷ []) list → LeftListAt list name left
  by_view : (before : List Entry) (v : GroupView) → length before + 1 ≡ left → is_member_at_end before name ≡ true → has v.members name ≡ false
      → IsBeginningOf (before ++ View v ∷ []) list → LeftListAt list name left

abbrev LeftBy : List Entry → ℕ → Type 0
LeftBy list name = 0 < (row_of_name (image_of_list list) name).left → LeftListAt list name (row_of_name (image_of_list list) name).left

leaves_more : (a b : List Entry) (name left : ℕ) → IsBeginningOf a b → LeftListAt a name left → LeftListAt b name left
leaves_more a b name left h (by_leave before size part) = by_leave before size (begins_through_both part h)
leaves_more a b name left h (by_view before v size member out part) = by_view before v size member out (begins_through_both part h)

left_push : (a : List Entry) (e : Entry) (name : ℕ) → LeftBy a name → LeftBy (a ++ e ∷ []) name
left_push a e name h = λ some.
    let row = ap (λ (i : Image). (row_of_name i name).left) (image_after_pushed_entry a e) in
    elim (entry_left (image_of_list a) (1 + length a) e name (image_has_sixteen_rows a)) [
      | stayed same ↦
          let is = row ∙ same in
          subst (LeftListAt (a ++ e ∷ []) name) (sym is) (leaves_more a (a ++ e ∷ []) name _ (front_begins_append a (e ∷ [])) (h (omega arith)))
      | leaves its same ↦
          let is = row ∙ same in
          by_leave a (omega arith) (subst (λ x. IsBeginningOf (a ++ x ∷ []) (a ++ e ∷ [])) its (list_begins_itself (a ++ e ∷ [])))
      | left_out v its out in_ same ↦
          let is = row ∙ same in
          by_view a v (omega arith) (member_row_gives_member a name in_) out (subst (λ x. IsBeginningOf (a ++ x ∷ []) (a ++ e ∷ [])) its (list_begins_itself (a ++ e ∷ [])))
      | none same ↦ absurd (let is = row ∙ same in omega arith)
    ]

left_walk : (a es : List Entry) (name : ℕ) → LeftBy a name → LeftBy (a ++ es) name
left_walk a [] name h = subst (λ l. LeftBy l name) (sym (append-nil a)) h
left_walk a (e ∷ es) name h = subst (λ l. LeftBy l name) (append_assoc a (e ∷ []) es) (left_walk (a ++ e ∷ []) es name (left_push a e name h))

left_nil : (name : ℕ) → (row_of_name (image_of_list []) name).left ≡ 0
unfolding image_after_entries
left_nil name = row_left (image_of_list []) name ∙ left_none (row_of_place (image_of_list []) (place_of_name name)) (life_of_name name)
    (ap (λ (r : Row). r.left) (get_or-replicate 16 (place_of_name name) blank_row blank_row (mod_sixteen_lt name)))

pub row_tells_where_name_left : (list : List Entry) (name : ℕ) → 0 < (row_of_name (image_of_list list) name).left → LeftListAt list name (row_of_name (image_of_list list) name).left
row_tells_where_name_left list name some = left_walk [] list name (λ h. absurd (let z = left_nil name in omega arith)) some
