-- One place's row, along a list.
use Rattle.am_base.proofs.ChainWords.{split_on_bool, ◌≡◌, ◌≢◌, ◌⊎◌, ⊎_elim, inl, inr, ℕ, zero, suc, ◌+◌, ◌%◌, ◌<◌, ◌≤◌, ◌==◌, ◌&&◌, ◌||◌, nat_lt, nat_le, Bool, true}
use Rattle.am_base.proofs.ChainWords.{false, not, List, [], ◌∷◌, length, get_or, slice_index, refl, sym, ◌∙◌, subst, arith, get_or-set_same, get_or-set_other}
use Rattle.am_base.proofs.ChainWords.{nat_tests, list_all, range_with_len, GroupView, Image, Row, Entry, Data, Join, Leave, View, has, place_of_name, life_of_name}
use Rattle.am_base.proofs.ChainWords.{names_are_within, stamp_is_less, blank_row, is_blank_row, is_blank_image, after, fits, members_of_image, member_life_of_row, row_at_place, image_with_row}
use Rattle.am_base.proofs.ChainWords.{row_after_view, get_or-by_place, length-by_place}
use Rattle.std.proofs.Math.ListN as listn

-- the row of a place
abbrev pub row_of_place : Image → ℕ → Row
row_of_place image place = get_or image.rows place blank_row

-- this life of the place is a member
pub record IsMemberRow (r : Row) (life : ℕ) : Type 0 where
  pub joined : 0 < r.joined
  pub left : r.left ≡ 0
  pub is : r.life ≡ life

-- this life of the place was a member, and is none
pub record IsPastRow (r : Row) (life : ℕ) : Type 0 where
  pub joined : 0 < r.joined
  pub gone : (life < r.life) ⊎ ((r.life ≡ life) × (0 < r.left))

pub le_or_gt : (a b : ℕ) → (a ≤ b) ⊎ (b < a)
le_or_gt a b = grind arith

pub left_of_and : (a b : Bool) → (a && b) ≡ true → a ≡ true
left_of_and true b h = refl
left_of_and false b h = absurd (cc)

pub right_of_and : (a b : Bool) → (a && b) ≡ true → b ≡ true
right_of_and true b h = h
right_of_and false b h = absurd (cc)

or_else : (a b : Bool) → (a || b) ≡ true → a ≡ false → b ≡ true
or_else true b h k = absurd (cc)
or_else false b h k = h

-- what a View that fits is
pub record ViewFitsImage (image : Image) (v : GroupView) : Type 0 where
  pub above : stamp_is_less image.view v.stamp ≡ true
  pub within : is_blank_image image ≡ false → names_are_within v.members (members_of_image image) ≡ true
  pub by : has v.members v.stamp.by ≡ true
  pub strong : image.resilience ≤ v.resilience

pub view_fits_parts : (image : Image) (v : GroupView) → fits image (View v) ≡ true
    → ViewFitsImage image v
unfolding fits
view_fits_parts image v f =
    let a = stamp_is_less image.view v.stamp in
    let b = is_blank_image image in
    let w = names_are_within v.members (members_of_image image) in
    let h = has v.members v.stamp.by in
    let r = nat_le image.resilience v.resilience in
    let rest : ((b || w) && (h && r)) ≡ true = right_of_and a ((b || w) && (h && r)) f in
    let last : (h && r) ≡ true = right_of_and (b || w) (h && r) rest in
    let le : nat_le image.resilience v.resilience ≡ true = right_of_and h r last in
    record {
      above = left_of_and a ((b || w) && (h && r)) f;
      within = λ z. or_else b w (left_of_and (b || w) (h && r) rest) z;
      by = left_of_and h r last;
      strong = grind (arith, nat_tests);
    }

pub mod_sixteen_lt : (n : ℕ) → n % 16 < 16
mod_sixteen_lt n = omega arith

-- after a change of a name's row
pub row_of_with_row : (image : Image) (name place : ℕ) (r : Row) → length image.rows ≡ 16
    → ((place ≡ place_of_name name) × (row_of_place (image_with_row image name r) place ≡ r))
    ⊎ ((place ≢ place_of_name name) × (row_of_place (image_with_row image name r) place ≡ row_of_place image place))
row_of_with_row image name place r long = split_on_bool (place == place_of_name name)
    (λ t. let e : place ≡ place_of_name name = grind (arith, nat_tests) in
    let b = mod_sixteen_lt name in
    let w : place_of_name name < length image.rows = omega arith in
    inl (e, rw e (get_or-set_same image.rows (place_of_name name) r blank_row w)))
    (λ f. let e : place ≢ place_of_name name = grind (arith, nat_tests) in
    inr (e, get_or-set_other image.rows (place_of_name name) place r blank_row e))

long_set : (image : Image) (name : ℕ) (r : Row) → length image.rows ≡ 16 → length (image_with_row image name r).rows ≡ 16
long_set image name r long = listn.length-set image.rows (place_of_name name) r ∙ long

pub sixteen_rows_after_entry : (image : Image) (n : ℕ) (e : Entry) → length image.rows ≡ 16 → length (after image n e).rows ≡ 16
unfolding after
sixteen_rows_after_entry image n (Data from req body) long = split_on_bool ((row_at_place image from).life == life_of_name from)
    (λ t. rw t (long_set image from (record (row_at_place image from) { last = req }) long))
    (λ f. rw f long)
sixteen_rows_after_entry image n (Join name) long = long_set image name (record { life = life_of_name name; joined = n; left = 0; last = 0 }) long
sixteen_rows_after_entry image n (Leave name) long = split_on_bool ((row_at_place image name).life == life_of_name name)
    (λ t. rw t (long_set image name (record (row_at_place image name) { left = n }) long))
    (λ f. rw f long)
sixteen_rows_after_entry image n (View v) long = length-by_place _

-- a member or a past one stays one of the two
abbrev pub WasMemberRow : Row → ℕ → Type 0
WasMemberRow r life = IsMemberRow r life ⊎ IsPastRow r life

-- the change that an entry makes to a place's row keeps what is known of it
in_data : (r : Row) (req life : ℕ) → IsMemberRow r life → IsMemberRow (record r { last = req }) life
in_data r req life h = record { joined = h.joined; left = h.left; is = h.is }

past_data : (r : Row) (req life : ℕ) → IsPastRow r life → IsPastRow (record r { last = req }) life
past_data r req life h = record { joined = h.joined; gone = h.gone }

in_left : (r : Row) (n life : ℕ) → 0 < n → IsMemberRow r life → IsPastRow (record r { left = n }) life
in_left r n life up h = record { joined = h.joined; gone = inr (h.is, up) }

past_left : (r : Row) (n life : ℕ) → 0 < n → IsPastRow r life → IsPastRow (record r { left = n }) life
past_left r n life up h = record {
  joined = h.joined;
  gone = ⊎_elim (λ (x : life < r.life). inl x) (λ (x : (r.life ≡ life) × (0 < r.left)). inr (x.0, up)) h.gone;
}

-- a name's Join fits no member's place, and a past one's only with a greater life
join_fits : (image : Image) (name life : ℕ) → fits image (Join name) ≡ true → WasMemberRow (row_at_place image name) life → life < life_of_name name
unfolding fits
join_fits image name life f h = ⊎_elim
    (λ (x : IsMemberRow (row_at_place image name) life). let j = x.joined in let l = x.left in absurd (let z : ⊥ = grind (arith, nat_tests) in z))
    (λ (x : IsPastRow (row_at_place image name) life). let j = x.joined in ⊎_elim
    (λ (y : life < (row_at_place image name).life). grind (arith, nat_tests))
    (λ (y : ((row_at_place image name).life ≡ life) × (0 < (row_at_place image name).left)). let a = y.0 in grind (arith, nat_tests))
    x.gone)
    h

blank_all : (rows : List Row) (place : ℕ) → list_all is_blank_row rows ≡ true → is_blank_row (get_or rows place blank_row) ≡ true
blank_all [] place h = refl
blank_all (r ∷ rows) zero h = grind (arith, nat_tests)
blank_all (r ∷ rows) (suc place) h = blank_all rows place (grind (arith, nat_tests))

pub blank_image_has_nobody_joined : (image : Image) (place : ℕ) → is_blank_image image ≡ true → (row_of_place image place).joined ≡ 0
blank_image_has_nobody_joined image place h =
    let all : list_all is_blank_row image.rows ≡ true = grind (arith, nat_tests) in
    let one = blank_all image.rows place all in
    grind (arith, nat_tests)

not_blank : (image : Image) (place : ℕ) → 0 < (row_of_place image place).joined → is_blank_image image ≡ false
not_blank image place up = split_on_bool (is_blank_image image) (λ t. let z = blank_image_has_nobody_joined image place t in absurd (omega arith)) (λ f. f)

pub row_after_pushed_view : (image : Image) (n : ℕ) (v : GroupView) (place : ℕ) → place < 16
    → row_of_place (after image n (View v)) place ≡ row_after_view (is_blank_image image) n (slice_index v.members place) (row_of_place image place)
unfolding after
row_after_pushed_view image n v place h = get_or-by_place
    (λ p. row_after_view (is_blank_image image) n (slice_index v.members p) (get_or image.rows p blank_row)) place blank_row h

-- what every entry's change of a row keeps for this life of the place
pub record LastsInRow (life : ℕ) (P : Row → Type 0) : Type 0 where
  pub was : (r : Row) → P r → WasMemberRow r life
  pub past : (r : Row) → IsPastRow r life → P r
  pub served : (r : Row) (req : ℕ) → P r → P (record r { last = req })
  pub left : (r : Row) (n : ℕ) → 0 < n → P r → P (record r { left = n })

pub was_member_lasts : (life : ℕ) → LastsInRow life (λ r. WasMemberRow r life)
was_member_lasts life = record {
  was = λ r h. h;
  past = λ r h. inr h;
  served = λ r req h. ⊎_elim (λ (x : IsMemberRow r life). inl (in_data r req life x)) (λ (x : IsPastRow r life). inr (past_data r req life x)) h;
  left = λ r n up h. inr (⊎_elim (λ (x : IsMemberRow r life). in_left r n life up x) (λ (x : IsPastRow r life). past_left r n life up x) h);
}

pub past_member_lasts : (life : ℕ) → LastsInRow life (λ r. IsPastRow r life)
past_member_lasts life = record {
  was = λ r h. inr h;
  past = λ r h. h;
  served = λ r req h. past_data r req life h;
  left = λ r n up h. past_left r n life up h;
}

was_joined : (r : Row) (life : ℕ) → WasMemberRow r life → 0 < r.joined
was_joined r life h = ⊎_elim (λ (x : IsMemberRow r life). x.joined) (λ (x : IsPastRow r life). x.joined) h

viewed_keeps : (P : Row → Type 0) (r : Row) (n life given : ℕ) → LastsInRow life P → 0 < n → P r → P (row_after_view false n given r)
viewed_keeps P r n life given k up h = split_on_bool (nat_lt 0 (member_life_of_row r) && not (member_life_of_row r == given))
    (λ t. rw t (k.left r n up h))
    (λ f. rw f h)

-- a change of a name's row keeps at any place what it keeps at the name's
pub with_row_keeps_property : (P : Row → Type 0) (image : Image) (name place : ℕ) (r : Row) → length image.rows ≡ 16
    → (place ≡ place_of_name name → P (row_at_place image name) → P r) → P (row_of_place image place) → P (row_of_place (image_with_row image name r) place)
with_row_keeps_property P image name place r long keeps h = ⊎_elim
    (λ (x : (place ≡ place_of_name name) × (row_of_place (image_with_row image name r) place ≡ r)). rw x.1 (keeps x.0 (subst (λ p. P (row_of_place image p)) x.0 h)))
    (λ (x : (place ≢ place_of_name name) × (row_of_place (image_with_row image name r) place ≡ row_of_place image place)). rw x.1 h)
    (row_of_with_row image name place r long)

pub lasting_holds_after_entry : (P : Row → Type 0) (image : Image) (n : ℕ) (e : Entry) (place life : ℕ) → LastsInRow life P → length image.rows ≡ 16 → place < 16 → 0 < n
    → fits image e ≡ true → P (row_of_place image place) → P (row_of_place (after image n e) place)
unfolding after
lasting_holds_after_entry P image n (Data from req body) place life k long low up f h = split_on_bool ((row_at_place image from).life == life_of_name from)
    (λ t. rw t (with_row_keeps_property P image from place (record (row_at_place image from) { last = req }) long (λ is x. k.served (row_at_place image from) req x) h))
    (λ f. rw f h)
lasting_holds_after_entry P image n (Join name) place life k long low up f h =
    let new : Row = record { life = life_of_name name; joined = n; left = 0; last = 0 } in
    with_row_keeps_property P image name place new long
    (λ is x. k.past new (record { joined = up; gone = inl (join_fits image name life f (k.was (row_at_place image name) x)) })) h
lasting_holds_after_entry P image n (Leave name) place life k long low up f h = split_on_bool ((row_at_place image name).life == life_of_name name)
    (λ t. rw t (with_row_keeps_property P image name place (record (row_at_place image name) { left = n }) long (λ is x. k.left (row_at_place image name) n up x) h))
    (λ f. rw f h)
lasting_holds_after_entry P image n (View v) place life k long low up f h =
    let joined = was_joined (row_of_place image place) life (k.was (row_of_place image place) h) in
    rw (row_after_pushed_view image n v place low, not_blank image place joined)
    (viewed_keeps P (row_of_place image place) n life (slice_index v.members place) k up h)

-- a past one stays past
pub past_row_after_entry : (image : Image) (n : ℕ) (e : Entry) (place life : ℕ) → length image.rows ≡ 16 → place < 16 → 0 < n → fits image e ≡ true
    → IsPastRow (row_of_place image place) life → IsPastRow (row_of_place (after image n e) place) life
past_row_after_entry image n e place life long low up f h = lasting_holds_after_entry (λ r. IsPastRow r life) image n e place life (past_member_lasts life) long low up f h

pub member_row_is_not_past : (r : Row) (life : ℕ) → IsMemberRow r life → IsPastRow r life → ⊥
member_row_is_not_past r life h k = let a = h.left in let b = h.is in ⊎_elim (λ (x : life < r.life). let z : ⊥ = omega arith in
    z) (λ (x : (r.life ≡ life) × (0 < r.left)). let c = x.1 in let z : ⊥ = omega arith in z) k.gone

-- an entry that isn't its Leave, nor a View, keeps a member
abbrev pub EntrySparesMember : ℕ → Entry → Type 0
EntrySparesMember name (Data from req body) = Unit {0}
EntrySparesMember name (Join who) = Unit {0}
EntrySparesMember name (Leave who) = who ≢ name
EntrySparesMember name (View v) = ⊥

pub place_and_life_give_name : (a b : ℕ) → place_of_name a ≡ place_of_name b → life_of_name a ≡ life_of_name b → a ≡ b
place_and_life_give_name a b p l = omega arith

join_free : (image : Image) (who life : ℕ) → fits image (Join who) ≡ true → IsMemberRow (row_at_place image who) life → ⊥
unfolding fits
join_free image who life f x = let j = x.joined in let l = x.left in let z : ⊥ = grind (arith, nat_tests) in z

pub member_row_after_entry : (image : Image) (n : ℕ) (e : Entry) (name : ℕ) → length image.rows ≡ 16 → fits image e ≡ true → EntrySparesMember name e
    → IsMemberRow (row_of_place image (place_of_name name)) (life_of_name name) → IsMemberRow (row_of_place (after image n e) (place_of_name name)) (life_of_name name)
unfolding after
member_row_after_entry image n (Data from req body) name long f s h =
    let P : Row → Type 0 = λ r. IsMemberRow r (life_of_name name) in
    split_on_bool ((row_at_place image from).life == life_of_name from)
    (λ t. rw t (with_row_keeps_property P image from (place_of_name name) (record (row_at_place image from) { last = req }) long
    (λ is x. in_data (row_at_place image from) req (life_of_name name) x) h))
    (λ f. rw f h)
member_row_after_entry image n (Join who) name long f s h = with_row_keeps_property (λ r. IsMemberRow r (life_of_name name)) image who (place_of_name name)
    (record { life = life_of_name who; joined = n; left = 0; last = 0 }) long (λ is x. absurd (join_free image who (life_of_name name) f x)) h
member_row_after_entry image n (Leave who) name long f s h =
    let P : Row → Type 0 = λ r. IsMemberRow r (life_of_name name) in
    split_on_bool ((row_at_place image who).life == life_of_name who)
    (λ t. rw t (with_row_keeps_property P image who (place_of_name name) (record (row_at_place image who) { left = n }) long (λ is x.
    let l : (row_at_place image who).life ≡ life_of_name who = grind (arith, nat_tests) in
    absurd (s (place_and_life_give_name who name (sym is) (sym l ∙ x.is)))) h))
    (λ f. rw f h)
member_row_after_entry image n (View v) name long f s h = absurd s

-- a View's members are the members after it
viewed_in : (first : Bool) (n life given : ℕ) (r : Row) → 0 < n → 0 < life → (first ≡ true → r.joined ≡ 0) → IsMemberRow (row_after_view first n given r) life → given
    ≡ life
viewed_in true n life given r up pos free h = split_on_bool (given == 0)
    (λ t. let g : IsMemberRow r life = rw t at h in let j = g.joined in let z = free refl in absurd (omega arith))
    (λ f. let g : IsMemberRow (record { life = given; joined = 1; left = 0; last = 0 }) life = rw f at h in g.is)
viewed_in false n life given r up pos free h = split_on_bool (nat_lt 0 (member_life_of_row r) && not (member_life_of_row r == given))
    (λ t. let g : IsMemberRow (record r { left = n }) life = rw t at h in let l = g.left in absurd (omega arith))
    (λ f. let g : IsMemberRow r life = rw f at h in let j = g.joined in let l = g.left in let i = g.is in grind (arith, nat_tests))

pub member_row_has_view_life : (image : Image) (n : ℕ) (v : GroupView) (place life : ℕ) → place < 16 → 0 < n → 0 < life
    → IsMemberRow (row_of_place (after image n (View v)) place) life → slice_index v.members place ≡ life
member_row_has_view_life image n v place life low up pos h =
    viewed_in (is_blank_image image) n life (slice_index v.members place) (row_of_place image place) up pos (λ t. blank_image_has_nobody_joined image place t)
    (rw (row_after_pushed_view image n v place low) at h)

within_at : (a b : List ℕ) (from n place : ℕ) → list_all (λ p. (slice_index a p == 0) || (slice_index a p == slice_index b p)) (range_with_len from n) ≡ true
    → from ≤ place → place < from + n → 0 < slice_index a place → slice_index b place ≡ slice_index a place
within_at a b from zero place h l u pos = absurd (omega arith)
within_at a b from (suc n) place h l u pos = split_on_bool (from == place)
    (λ t. let e : from ≡ place = grind (arith, nat_tests) in let z : 0 < slice_index a from = subst (λ p. 0 < slice_index a p) (sym e) pos in
    let w : slice_index b from ≡ slice_index a from = grind (arith, nat_tests) in subst (λ p. slice_index b p ≡ slice_index a p) e w)
    (λ f. let e : from ≢ place = grind (arith, nat_tests) in
    within_at a b (suc from) n place (let w : list_all (λ p. (slice_index a p == 0) || (slice_index a p == slice_index b p)) (range_with_len (suc from) n)
    ≡ true = grind (arith, nat_tests) in w) (omega arith) (omega arith) pos)

first_member : (n given life : ℕ) (r : Row) → 0 < life → given ≡ life → IsMemberRow (row_after_view true n given r) life
first_member n given life r pos e = split_on_bool (given == 0)
    (λ t. let z : given ≡ 0 = grind (arith, nat_tests) in absurd (omega arith))
    (λ f. let one : 0 < 1 = omega arith in rw f (record { joined = one; left = refl; is = e }))

kept_member : (n given life : ℕ) (r : Row) → given ≡ life → IsMemberRow r life → IsMemberRow (row_after_view false n given r) life
kept_member n given life r e h = split_on_bool (nat_lt 0 (member_life_of_row r) && not (member_life_of_row r == given))
    (λ t. let j = h.joined in let l = h.left in let i = h.is in absurd (let z : ⊥ = grind (arith, nat_tests) in z))
    (λ f. rw f h)

pub name_in_view_has_row : (image : Image) (n : ℕ) (v : GroupView) (name : ℕ) → length image.rows ≡ 16 → 0 < n
    → fits image (View v) ≡ true → has v.members name ≡ true
    → (has (members_of_image image) name ≡ true → IsMemberRow (row_of_place image (place_of_name name)) (life_of_name name))
    → IsMemberRow (row_of_place (after image n (View v)) (place_of_name name)) (life_of_name name)
unfolding fits
name_in_view_has_row image n v name long up f h old =
    let given : slice_index v.members (place_of_name name) ≡ life_of_name name = grind (arith, nat_tests) in
    let pos : 0 < life_of_name name = omega arith in
    rw (row_after_pushed_view image n v (place_of_name name) (mod_sixteen_lt name)) (split_on_bool (is_blank_image image)
    (λ t. rw t (first_member n (slice_index v.members (place_of_name name)) (life_of_name name) (row_of_place image (place_of_name name)) pos given))
    (λ b. let w = (view_fits_parts image v f).within b in
    let low = mod_sixteen_lt name in
    let e = within_at v.members (members_of_image image) 0 16 (place_of_name name) w (omega arith) (omega arith) (omega arith) in
    rw b (kept_member n (slice_index v.members (place_of_name name)) (life_of_name name) (row_of_place image (place_of_name name)) given
    (old (let q : has (members_of_image image) name ≡ true = grind (arith, nat_tests) in q)))))

-- its Leave ends a membership
pub leaver_row_after_leave : (image : Image) (n name : ℕ) → length image.rows ≡ 16 → 0 < n → IsMemberRow (row_of_place image (place_of_name name)) (life_of_name name)
    → IsMemberRow (row_of_place (after image n (Leave name)) (place_of_name name)) (life_of_name name) → ⊥
unfolding after
leaver_row_after_leave image n name long up old new =
    let t : ((row_at_place image name).life == life_of_name name) ≡ true = grind (arith, nat_tests) in
    let now : IsMemberRow (row_of_place (image_with_row image name (record (row_at_place image name) { left = n })) (place_of_name name)) (life_of_name name) = rw t at new in
    ⊎_elim
    (λ (x : (place_of_name name ≡ place_of_name name) × (row_of_place (image_with_row image name (record (row_at_place image name) { left = n })) (place_of_name name)
    ≡ record (row_at_place image name) { left = n })).
    let g : IsMemberRow (record (row_at_place image name) { left = n }) (life_of_name name) = subst (λ r. IsMemberRow r (life_of_name name)) x.1 now in
    let z : ⊥ = omega arith in z)
    (λ (x : (place_of_name name ≢ place_of_name name) × (row_of_place (image_with_row image name (record (row_at_place image name) { left = n })) (place_of_name name)
    ≡ row_of_place image (place_of_name name))). absurd (x.0 refl))
    (row_of_with_row image name (place_of_name name) (record (row_at_place image name) { left = n }) long)
