-- What becomes of a row.
use Rattle.am_model_laws.proofs.Words.{GroupView, eqb-false, eq-eqb, ltb-true, eqb-true, ◌≡◌, ◌≢◌, ℕ, ◌+◌, ◌<◌, Bool, true, false, ◌&&◌, ◌||◌, ◌==◌, not, nat_lt}
use Rattle.am_model_laws.proofs.Words.{List, [], ◌∷◌, length, get_or, refl, sym, ap, subst, ◌∙◌, inl, inr, arith, slice_index, slice_index_or, list_all}
use Rattle.am_model_laws.proofs.Words.{list_all_at, get_or-map, cases_lt, nat_tests, get_or_past, get_or-set_other, get_or-set_at, Row, Image, Data, Join, Leave}
use Rattle.am_model_laws.proofs.Words.{View, stamps_are_equal, no_stamp, place_of_name, life_of_name, has, blank_row, is_blank_row, is_blank_image, row_at_place, row_of_name, member_life_of_row}
use Rattle.am_model_laws.proofs.Words.{members_of_image, image_with_row, row_after_view, after, fits, image_after_entries, AllEntriesFit, get_or-by_place, RowStep, RowsGoOn, DataGoesOn}
use Rattle.am_model_laws.proofs.Words.{IsSameMembership, RowGoesOn, MembershipsGoOn, split_on_bool, both_of_and}

-- ---- rows by place

in_range : (image : Image) (name : ℕ) → 0 < (row_at_place image name).joined → place_of_name name < length image.rows
in_range image name h = elim (cases_lt (place_of_name name) (length image.rows)) [
  | inl low ↦ low
  | inr high ↦ (let e = ap (λ (r : Row). r.joined) (get_or_past image.rows (place_of_name name) blank_row high) in absurd (omega arith))
]

same_place : (image : Image) (x y : ℕ) → place_of_name x ≡ place_of_name y → row_at_place image x ≡ row_at_place image y
same_place image x y e = ap (λ p. get_or image.rows p blank_row) e

row_here : (image : Image) (y : ℕ) (r : Row) (x : ℕ) → place_of_name y < length image.rows → place_of_name x ≡ place_of_name y → row_at_place (image_with_row image y r) x ≡ r
row_here image y r x within e = get_or-set_at image.rows (place_of_name y) (place_of_name x) r blank_row e within

row_elsewhere : (image : Image) (y : ℕ) (r : Row) (x : ℕ) → place_of_name x ≢ place_of_name y → row_at_place (image_with_row image y r) x ≡ row_at_place image x
row_elsewhere image y r x e = get_or-set_other image.rows (place_of_name y) (place_of_name x) r blank_row e

-- ---- members

record IsMember (image : Image) (name : ℕ) : Type 0 where
  joined : 0 < (row_at_place image name).joined
  left : (row_at_place image name).left ≡ 0
  life : (row_at_place image name).life ≡ life_of_name name

member_tests : (r : Row) (life : ℕ) → 0 < life → (member_life_of_row r == life) ≡ true → (0 < r.joined) × (r.left ≡ 0) × (r.life ≡ life)
member_tests r life low h = split_on_bool (nat_lt 0 r.joined && (r.left == 0))
    (λ t. let b = both_of_and (nat_lt 0 r.joined) (r.left == 0) t in
    let z = rw t at h in
    (grind (arith, nat_tests), grind (arith, nat_tests), grind (arith, nat_tests)))
    (λ f. let z = rw f at h in absurd (grind (arith, nat_tests)))

member_is : (image : Image) (name : ℕ) → has (members_of_image image) name ≡ true → IsMember image name
member_is image name h =
    let e = get_or-map member_life_of_row image.rows (place_of_name name) blank_row in
    let t : (member_life_of_row (row_at_place image name) == life_of_name name) ≡ true = ap (λ n. n == life_of_name name) (sym e) ∙ h in
    let m = member_tests (row_at_place image name) (life_of_name name) (omega arith) t in
    record { joined = m.0; left = m.1; life = m.2 }

life_test : (image : Image) (name : ℕ) → IsMember image name → ((row_at_place image name).life == life_of_name name) ≡ true
life_test image name m = let e = m.life in grind (arith, nat_tests)

own_row_is : (image : Image) (name : ℕ) → IsMember image name → row_of_name image name ≡ row_at_place image name
own_row_is image name m = rw (life_test image name m) refl

-- ---- a Data

abbrev sent_row : Row → ℕ → Row
sent_row r req = record r { last = req }

after_data : (image : Image) (number from req : ℕ) (body : List ℕ) → IsMember image from
    → after image number (Data from req body) ≡ image_with_row image from (sent_row (row_at_place image from) req)
unfolding after
after_data image number from req body m = rw (life_test image from m) refl

next_request : (image : Image) (from req : ℕ) (body : List ℕ) → fits image (Data from req body) ≡ true → IsMember image from
    × (req ≡ (row_at_place image from).last + 1)
unfolding fits
next_request image from req body h =
    let b = both_of_and (has (members_of_image image) from) (req == (row_of_name image from).last + 1) h in
    let m = member_is image from b.0 in
    (m, eqb-true req ((row_of_name image from).last + 1) b.1 ∙ ap (λ (r : Row). r.last + 1) (own_row_is image from m))

data_row : (image : Image) (number from req : ℕ) (body : List ℕ) (name : ℕ) → fits image (Data from req body) ≡ true
    → RowStep number (row_at_place image name) (row_at_place (after image number (Data from req body)) name)
data_row image number from req body name h =
    let n = next_request image from req body h in
    let e = after_data image number from req body n.0 in
    split_on_bool (place_of_name name == place_of_name from)
    (λ t. let p = eqb-true (place_of_name name) (place_of_name from) t in
    let s = same_place image name from p in
    inl (inr (ap (λ (i : Image). row_at_place i name) e ∙ row_here image from (sent_row (row_at_place image from) req) name (in_range image from n.0.joined) p
    ∙ (λ i. sent_row (sym s i) (n.1 i)) ∙ (λ i. sent_row (row_at_place image name) ((sym s i).last + 1)))))
    (λ f. inl (inl (ap (λ (i : Image). row_at_place i name) e ∙ row_elsewhere image from (sent_row (row_at_place image from) req) name
    (eqb-false (place_of_name name) (place_of_name from) f))))

pub data_row_goes_on : DataGoesOn
data_row_goes_on image number from req body h =
    let n = next_request image from req body h in
    let m = n.0 in
    let e = after_data image number from req body m in
    let here = ap (λ (i : Image). row_at_place i from) e ∙ row_here image from (sent_row (row_at_place image from) req) from (in_range image from m.joined) refl in
    let life : (row_at_place (after image number (Data from req body)) from).life ≡ life_of_name from = ap (λ (r : Row). r.life) here ∙ m.life in
    let own : row_of_name (after image number (Data from req body)) from ≡ row_at_place (after image number (Data from req body)) from =
    rw (eq-eqb (row_at_place (after image number (Data from req body)) from).life (life_of_name from) life) refl in
    (n.1 ∙ ap (λ (r : Row). r.last + 1) (sym (own_row_is image from m)), ap (λ (r : Row). r.last) own ∙ ap (λ (r : Row). r.last) here)

-- ---- a Leave

leave_row : (image : Image) (number leaver name : ℕ) → fits image (Leave leaver) ≡ true
    → RowStep number (row_at_place image name) (row_at_place (after image number (Leave leaver)) name)
unfolding fits after
leave_row image number leaver name h =
    let m = member_is image leaver h in
    rw (life_test image leaver m) (split_on_bool (place_of_name name == place_of_name leaver)
    (λ t. let p = eqb-true (place_of_name name) (place_of_name leaver) t in
    let s = same_place image name leaver p in
    inr (inl (
      ap (λ (r : Row). r.left) s ∙ m.left,
      row_here image leaver (record (row_at_place image leaver) { left = number }) name (in_range image leaver m.joined) p
          ∙ (λ i. record (sym s i) { left = number }),
    )))
    (λ f. inl (inl (row_elsewhere image leaver (record (row_at_place image leaver) { left = number }) name (eqb-false (place_of_name name) (place_of_name leaver) f)))))

-- ---- a Join

abbrev joined_row : ℕ → ℕ → Row
joined_row number name = record { life = life_of_name name; joined = number; left = 0; last = 0 }

free_place : (r : Row) (life : ℕ) → 0 < r.joined → ((r.joined == 0) || (nat_lt 0 r.left && nat_lt r.life life)) ≡ true → (r.life < life) × (0 < r.left)
free_place r life j h =
    let f : (r.joined == 0) ≡ false = grind (arith, nat_tests) in
    let b = both_of_and (nat_lt 0 r.left) (nat_lt r.life life) (rw f at h) in
    (ltb-true r.life life b.1, ltb-true 0 r.left b.0)

join_row : (image : Image) (number joiner name : ℕ) → fits image (Join joiner) ≡ true → 0 < (row_at_place image name).joined
    → RowStep number (row_at_place image name) (row_at_place (after image number (Join joiner)) name)
unfolding fits after
join_row image number joiner name h j = split_on_bool (place_of_name name == place_of_name joiner)
    (λ t. let p = eqb-true (place_of_name name) (place_of_name joiner) t in
    let s = same_place image name joiner p in
    let jj = subst (λ (r : Row). 0 < r.joined) s j in
    let f = free_place (row_at_place image joiner) (life_of_name joiner) jj h in
    inr (inr (
      life_of_name joiner,
      subst (λ (r : Row). r.life < life_of_name joiner) (sym s) f.0,
      subst (λ (r : Row). 0 < r.left) (sym s) f.1,
      row_here image joiner (joined_row number joiner) name (in_range image joiner jj) p,
    )))
    (λ f. inl (inl (row_elsewhere image joiner (joined_row number joiner) name (eqb-false (place_of_name name) (place_of_name joiner) f))))

-- ---- a View

member_stays : (r : Row) → 0 < member_life_of_row r → r.left ≡ 0
member_stays r h = split_on_bool (nat_lt 0 r.joined && (r.left == 0))
    (λ t. eqb-true r.left 0 (both_of_and (nat_lt 0 r.joined) (r.left == 0) t).1)
    (λ f. let z = rw f at h in absurd (omega arith))

viewed_row : (number life : ℕ) (r : Row) → RowStep number r (row_after_view false number life r)
viewed_row number life r = split_on_bool (nat_lt 0 (member_life_of_row r) && not (member_life_of_row r == life))
    (λ t. let b = both_of_and (nat_lt 0 (member_life_of_row r)) (not (member_life_of_row r == life)) t in
    rw t (inr (inl (member_stays r (ltb-true 0 (member_life_of_row r) b.0), refl))))
    (λ f. rw f (inl (inl refl)))

last_false : (a b c d : Bool) → d ≡ false → (a && (b && (c && d))) ≡ false
last_false a b c d h = grind arith

not_blank : (image : Image) (name : ℕ) → 0 < (row_at_place image name).joined → is_blank_image image ≡ false
not_blank image name j =
    let row : is_blank_row (row_at_place image name) ≡ false = grind (arith, nat_tests) in
    last_false (stamps_are_equal image.view no_stamp) (image.view_number == 0) (image.resilience == 0) (list_all is_blank_row image.rows)
    (list_all_at is_blank_row image.rows (place_of_name name) blank_row (in_range image name j) row)

view_row : (image : Image) (number : ℕ) (v : GroupView) (name : ℕ) → 0 < (row_at_place image name).joined
    → RowStep number (row_at_place image name) (row_at_place (after image number (View v)) name)
unfolding after
view_row image number v name j =
    let f = λ (place : ℕ). row_after_view (is_blank_image image) number (slice_index v.members place) (slice_index_or image.rows place blank_row) in
    let e = get_or-by_place f (place_of_name name) blank_row (omega arith) in
    let b = ap (λ t. row_after_view t number (slice_index v.members (place_of_name name)) (row_at_place image name)) (not_blank image name j) in
    subst (λ (r : Row). RowStep number (row_at_place image name) r) (sym (e ∙ b)) (viewed_row number (slice_index v.members (place_of_name name)) (row_at_place image name))

-- ---- any entry, and a list of them

pub rows_of_places_go_on : RowsGoOn
rows_of_places_go_on image number (Data from req body) name h j = data_row image number from req body name h
rows_of_places_go_on image number (Join joiner) name h j = join_row image number joiner name h j
rows_of_places_go_on image number (Leave leaver) name h j = leave_row image number leaver name h
rows_of_places_go_on image number (View v) name h j = view_row image number v name j

still_joined : (number : ℕ) (r s : Row) → 0 < number → 0 < r.joined → RowStep number r s → 0 < s.joined
still_joined number r s n j (inl (inl e)) = subst (λ (x : Row). 0 < x.joined) (sym e) j
still_joined number r s n j (inl (inr e)) = subst (λ (x : Row). 0 < x.joined) (sym e) j
still_joined number r s n j (inr (inl e)) = subst (λ (x : Row). 0 < x.joined) (sym e.1) j
still_joined number r s n j (inr (inr e)) = subst (λ (x : Row). 0 < x.joined) (sym e.3) n

-- a row goes on in the one that an entry makes of it
goes_on_as : (r made s : Row) → s ≡ made → IsSameMembership r made → RowGoesOn r s
goes_on_as r made s is h = inl (subst (λ (x : Row). IsSameMembership r x) (sym is) h)

step_goes_on : (number : ℕ) (r s : Row) → RowStep number r s → RowGoesOn r s
step_goes_on number r s (inl (inl e)) = goes_on_as r r s e (record { life = refl; joined = refl; last = omega arith; left = λ h. refl })
step_goes_on number r s (inl (inr e)) =
    goes_on_as r (record r { last = r.last + 1 }) s e (record { life = refl; joined = refl; last = omega arith; left = λ h. refl })
step_goes_on number r s (inr (inl e)) =
    goes_on_as r (record r { left = number }) s e.1 (record { life = refl; joined = refl; last = omega arith; left = λ h. absurd (omega arith) })
step_goes_on number r s (inr (inr e)) = inr (let l = ap (λ (x : Row). x.life) e.3 in let b = e.1 in omega arith)

goes_on_trans : (q r s : Row) → RowGoesOn q r → RowGoesOn r s → RowGoesOn q s
goes_on_trans q r s (inl a) (inl b) =
    inl (record { life = b.life ∙ a.life; joined = b.joined ∙ a.joined; last = omega arith; left = λ h. (let e = a.left h in b.left (omega arith) ∙ e) })
goes_on_trans q r s (inl a) (inr b) = let l = a.life in inr (omega arith)
goes_on_trans q r s (inr a) (inl b) = let l = b.life in inr (omega arith)
goes_on_trans q r s (inr a) (inr b) = inr (omega arith)

pub memberships_of_places_go_on : MembershipsGoOn
unfolding image_after_entries AllEntriesFit
memberships_of_places_go_on image number [] name n fit j = inl (record { life = refl; joined = refl; last = omega arith; left = λ h. refl })
memberships_of_places_go_on image number (e ∷ es) name n fit j =
    let s = rows_of_places_go_on image number e name fit.0 j in
    let k = still_joined number (row_at_place image name) (row_at_place (after image number e) name) n j s in
    goes_on_trans (row_at_place image name) (row_at_place (after image number e) name) (row_at_place (image_after_entries (after image number e) (number + 1) es) name)
    (step_goes_on number (row_at_place image name) (row_at_place (after image number e) name) s)
    (memberships_of_places_go_on (after image number e) (number + 1) es name (omega arith) fit.1 k)
