-- Which request of a name comes next, by the row of its place.
use Rattle.am_base.proofs.ChainWords.{split_on_bool, ◌≡◌, ◌≢◌, ◌⊎◌, ⊎_elim, inl, inr, ℕ, ◌+◌, ◌<◌, ◌==◌, ◌&&◌, nat_lt, true, false, not, List, [], ◌∷◌, length}
use Rattle.am_base.proofs.ChainWords.{slice_index, refl, sym, ap, ◌∙◌, subst, arith, nat_tests, get_or-map, GroupView, Image, Row, Entry, Data, Join, Leave}
use Rattle.am_base.proofs.ChainWords.{View, has, place_of_name, life_of_name, blank_row, blank, is_blank_image, row_of_name, member_life_of_row, members_of_image, image_with_row, row_after_view}
use Rattle.am_base.proofs.ChainWords.{after, fits, request_of_sender_in_entry}
use Rattle.am_base.proofs.{Rows.place_and_life_give_name, Rows.row_of_place, Rows.IsMemberRow, Rows.left_of_and, Rows.right_of_and, Rows.mod_sixteen_lt, Rows.row_of_with_row, Rows.row_after_pushed_view, Rows.blank_image_has_nobody_joined}
use Rattle.am_base.proofs.{Members.member_life_is_in_row}

-- the next request of this life of a place: the first as long as the life has not joined, else the one after its last; where
-- a greater life has joined there is none, and any number will do
pub record IsNextRequest (r : Row) (life next : ℕ) : Type 0 where
  pub free : r.joined ≡ 0 → next ≡ 1
  pub younger : r.life < life → next ≡ 1
  pub own : 0 < r.joined → r.life ≡ life → next ≡ r.last + 1

-- ---- what becomes of it with the row

-- its own send
next_own : (r : Row) (req life next : ℕ) → IsMemberRow r life → req ≡ r.last + 1 → IsNextRequest r life next → (req ≡ next) × IsNextRequest (record r { last = req }) life (next + 1)
next_own r req life next i e h =
    let up = i.joined in let is = i.is in
    let same : next ≡ r.last + 1 = h.own up is in
    (omega arith, record { free = λ z. absurd (omega arith); younger = λ z. absurd (omega arith); own = λ j l. omega arith })

-- a send of another life
next_other : (r : Row) (req sender life next : ℕ) → IsMemberRow r sender → sender ≢ life → IsNextRequest r life next → IsNextRequest (record r { last = req }) life next
next_other r req sender life next i other h =
    let is = i.is in
    record { free = h.free; younger = h.younger; own = λ j l. absurd (other (sym is ∙ l)) }

next_left : (r : Row) (n life next : ℕ) → IsNextRequest r life next → IsNextRequest (record r { left = n }) life next
next_left r n life next h = record { free = h.free; younger = h.younger; own = h.own }

-- a life that may join there
next_joined : (r : Row) (joiner n life next : ℕ) → 0 < n → (r.joined ≡ 0) ⊎ (r.life < joiner) → IsNextRequest r life next
    → IsNextRequest (record { life = joiner; joined = n; left = 0; last = 0 }) life next
next_joined r joiner n life next up may h = record {
  free = λ z. absurd (omega arith);
  younger = λ z. ⊎_elim (λ (x : r.joined ≡ 0). h.free x) (λ (x : r.life < joiner). let y : r.life < life = omega arith in h.younger y) may;
  own = λ j l. ⊎_elim (λ (x : r.joined ≡ 0). h.free x) (λ (x : r.life < joiner). let y : r.life < life = omega arith in h.younger y) may;
}

next_first : (r : Row) (n given life next : ℕ) → r.joined ≡ 0 → IsNextRequest r life next → IsNextRequest (row_after_view true n given r) life next
next_first r n given life next z h = split_on_bool (given == 0)
    (λ t. rw t h)
    (λ f. let one : 0 < 1 = omega arith in rw f (next_joined r given 1 life next one (inl z) h))

next_viewed : (r : Row) (n given life next : ℕ) → IsNextRequest r life next → IsNextRequest (row_after_view false n given r) life next
next_viewed r n given life next h = split_on_bool (nat_lt 0 (member_life_of_row r) && not (member_life_of_row r == given))
    (λ t. rw t (next_left r n life next h))
    (λ f. rw f h)

-- ---- what an entry that fits says of a row

pub has_member_is_in_row : (image : Image) (name : ℕ) → length image.rows ≡ 16 → has (members_of_image image) name ≡ true → IsMemberRow (row_of_place image (place_of_name name)) (life_of_name name)
has_member_is_in_row image name long h =
    let pos : 0 < life_of_name name = omega arith in
    let low = mod_sixteen_lt name in
    let within : place_of_name name < length image.rows = omega arith in
    let e : slice_index (members_of_image image) (place_of_name name) ≡ member_life_of_row (row_of_place image (place_of_name name)) =
    get_or-map member_life_of_row image.rows (place_of_name name) blank_row 0 within in
    member_life_is_in_row (row_of_place image (place_of_name name)) (life_of_name name) pos (subst (λ x. (x == life_of_name name) ≡ true) e h)

-- a sender is a member, and its request the one after its last
record IsSend (image : Image) (from req : ℕ) : Type 0 where
  member : IsMemberRow (row_of_place image (place_of_name from)) (life_of_name from)
  life : ((row_of_place image (place_of_name from)).life == life_of_name from) ≡ true
  next : req ≡ (row_of_place image (place_of_name from)).last + 1

send_parts : (image : Image) (from req : ℕ) (body : List ℕ) → length image.rows ≡ 16 → fits image (Data from req body) ≡ true → IsSend image from req
unfolding fits
send_parts image from req body long f =
    let a = has (members_of_image image) from in
    let b = req == (row_of_name image from).last + 1 in
    let m = has_member_is_in_row image from long (left_of_and a b f) in
    let t : ((row_of_place image (place_of_name from)).life == life_of_name from) ≡ true = grind (arith, nat_tests) in
    let same : (row_of_name image from).last ≡ (row_of_place image (place_of_name from)).last = rw t refl in
    let e : req ≡ (row_of_name image from).last + 1 = let g = right_of_and a b f in grind (arith, nat_tests) in
    record { member = m; life = t; next = omega arith }

join_may : (image : Image) (joiner : ℕ) → fits image (Join joiner) ≡ true
    → ((row_of_place image (place_of_name joiner)).joined ≡ 0) ⊎ ((row_of_place image (place_of_name joiner)).life < life_of_name joiner)
unfolding fits
join_may image joiner f = split_on_bool ((row_of_place image (place_of_name joiner)).joined == 0)
    (λ t. inl (grind (arith, nat_tests)))
    (λ z. inr (grind (arith, nat_tests)))

-- ---- what an entry does

-- it is no request of the name, whose next one stays what it was; or it is the next, and then one more comes next
abbrev GoesOn : Image → ℕ → Entry → ℕ → ℕ → Type 0
GoesOn image n e name next =
    ((request_of_sender_in_entry name e ≡ []) × IsNextRequest (row_of_place (after image n e) (place_of_name name)) (life_of_name name) next)
    ⊎ ((request_of_sender_in_entry name e ≡ next ∷ []) × IsNextRequest (row_of_place (after image n e) (place_of_name name)) (life_of_name name) (next + 1))

not_own : (from req name : ℕ) (body : List ℕ) → from ≢ name → request_of_sender_in_entry name (Data from req body) ≡ []
not_own from req name body other = let f : (from == name) ≡ false = grind (arith, nat_tests) in rw f refl

pub request_in_own_data : (name req : ℕ) (body : List ℕ) → request_of_sender_in_entry name (Data name req body) ≡ req ∷ []
request_in_own_data name req body = let t : (name == name) ≡ true = grind (arith, nat_tests) in rw t refl

send_goes_on : (image : Image) (n from req : ℕ) (body : List ℕ) (name next : ℕ) → length image.rows ≡ 16 → IsSend image from req
    → IsNextRequest (row_of_place image (place_of_name name)) (life_of_name name) next → GoesOn image n (Data from req body) name next
unfolding after
send_goes_on image n from req body name next long s h = rw s.life (⊎_elim
    (λ (x : (place_of_name name ≡ place_of_name from) × (row_of_place (image_with_row image from (record (row_of_place image (place_of_name from)) { last = req })) (place_of_name name)
    ≡ record (row_of_place image (place_of_name from)) { last = req })).
    let here : IsNextRequest (row_of_place image (place_of_name from)) (life_of_name name) next = subst (λ p. IsNextRequest (row_of_place image p) (life_of_name name) next) x.0 h in
    split_on_bool (from == name)
    (λ t. let is : from ≡ name = grind (arith, nat_tests) in
    let g = next_own (row_of_place image (place_of_name from)) req (life_of_name from) next s.member s.next
    (subst (λ i. IsNextRequest (row_of_place image (place_of_name from)) (life_of_name i) next) (sym is) here) in
    inr (rw t (ap (λ i. i ∷ []) g.0), rw x.1 (subst (λ i. IsNextRequest (record (row_of_place image (place_of_name from)) { last = req }) (life_of_name i) (next + 1)) is g.1)))
    (λ f. let other : from ≢ name = grind (arith, nat_tests) in
    inl (
      not_own from req name body other,
      rw x.1 (next_other (row_of_place image (place_of_name from)) req (life_of_name from) (life_of_name name) next s.member
          (λ l. other (place_and_life_give_name from name (sym x.0) l)) here),
    )))
    (λ (x : (place_of_name name ≢ place_of_name from) × (row_of_place (image_with_row image from (record (row_of_place image (place_of_name from)) { last = req })) (place_of_name name)
    ≡ row_of_place image (place_of_name name))).
    inl (not_own from req name body (λ is. x.0 (ap place_of_name (sym is))), rw x.1 h))
    (row_of_with_row image from (place_of_name name) (record (row_of_place image (place_of_name from)) { last = req }) long))

join_goes_on : (image : Image) (n joiner name next : ℕ) → length image.rows ≡ 16 → 0 < n → fits image (Join joiner) ≡ true
    → IsNextRequest (row_of_place image (place_of_name name)) (life_of_name name) next → IsNextRequest (row_of_place (after image n (Join joiner)) (place_of_name name)) (life_of_name name) next
unfolding after
join_goes_on image n joiner name next long up f h = ⊎_elim
    (λ (x : (place_of_name name ≡ place_of_name joiner) × (row_of_place (image_with_row image joiner (record { life = life_of_name joiner; joined = n; left = 0; last = 0 }))
    (place_of_name name) ≡ record { life = life_of_name joiner; joined = n; left = 0; last = 0 })).
    rw x.1 (next_joined (row_of_place image (place_of_name joiner)) (life_of_name joiner) n (life_of_name name) next up (join_may image joiner f)
    (subst (λ p. IsNextRequest (row_of_place image p) (life_of_name name) next) x.0 h)))
    (λ (x : (place_of_name name ≢ place_of_name joiner) × (row_of_place (image_with_row image joiner (record { life = life_of_name joiner; joined = n; left = 0; last = 0 }))
    (place_of_name name) ≡ row_of_place image (place_of_name name))). rw x.1 h)
    (row_of_with_row image joiner (place_of_name name) (record { life = life_of_name joiner; joined = n; left = 0; last = 0 }) long)

leave_goes_on : (image : Image) (n leaver name next : ℕ) → length image.rows ≡ 16 → IsNextRequest (row_of_place image (place_of_name name)) (life_of_name name) next
    → IsNextRequest (row_of_place (after image n (Leave leaver)) (place_of_name name)) (life_of_name name) next
unfolding after
leave_goes_on image n leaver name next long h = split_on_bool ((row_of_place image (place_of_name leaver)).life == life_of_name leaver)
    (λ t. rw t (⊎_elim
    (λ (x : (place_of_name name ≡ place_of_name leaver) × (row_of_place (image_with_row image leaver (record (row_of_place image (place_of_name leaver)) { left = n })) (place_of_name name)
    ≡ record (row_of_place image (place_of_name leaver)) { left = n })).
    rw x.1 (next_left (row_of_place image (place_of_name leaver)) n (life_of_name name) next (subst (λ p. IsNextRequest (row_of_place image p) (life_of_name name) next) x.0 h)))
    (λ (x : (place_of_name name ≢ place_of_name leaver) × (row_of_place (image_with_row image leaver (record (row_of_place image (place_of_name leaver)) { left = n })) (place_of_name name)
    ≡ row_of_place image (place_of_name name))). rw x.1 h)
    (row_of_with_row image leaver (place_of_name name) (record (row_of_place image (place_of_name leaver)) { left = n }) long)))
    (λ f. rw f h)

view_goes_on : (image : Image) (n : ℕ) (v : GroupView) (name next : ℕ) → IsNextRequest (row_of_place image (place_of_name name)) (life_of_name name) next
    → IsNextRequest (row_of_place (after image n (View v)) (place_of_name name)) (life_of_name name) next
view_goes_on image n v name next h = rw (row_after_pushed_view image n v (place_of_name name) (mod_sixteen_lt name))
    (split_on_bool (is_blank_image image)
    (λ t. rw t (next_first (row_of_place image (place_of_name name)) n (slice_index v.members (place_of_name name)) (life_of_name name) next
    (blank_image_has_nobody_joined image (place_of_name name) t) h))
    (λ f. rw f (next_viewed (row_of_place image (place_of_name name)) n (slice_index v.members (place_of_name name)) (life_of_name name) next h)))

pub entry_keeps_requests_in_turn : (image : Image) (n : ℕ) (e : Entry) (name next : ℕ) → length image.rows ≡ 16 → 0 < n → fits image e ≡ true
    → IsNextRequest (row_of_place image (place_of_name name)) (life_of_name name) next → GoesOn image n e name next
entry_keeps_requests_in_turn image n (Data from req body) name next long up f h = send_goes_on image n from req body name next long (send_parts image from req body long f) h
entry_keeps_requests_in_turn image n (Join joiner) name next long up f h = inl (refl, join_goes_on image n joiner name next long up f h)
entry_keeps_requests_in_turn image n (Leave leaver) name next long up f h = inl (refl, leave_goes_on image n leaver name next long h)
entry_keeps_requests_in_turn image n (View v) name next long up f h = inl (refl, view_goes_on image n v name next h)

-- before the first entry
pub first_next_request_is_one : (name : ℕ) → IsNextRequest (row_of_place blank (place_of_name name)) (life_of_name name) 1
first_next_request_is_one name =
    let z = blank_image_has_nobody_joined blank (place_of_name name) refl in
    record { free = λ z. refl; younger = λ y. refl; own = λ j l. absurd (omega arith) }
