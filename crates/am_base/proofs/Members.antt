-- What a list tells, along its beginnings.
use Rattle.am_base.proofs.ChainWords.{split_on_bool, ◌≡◌, ⊎_elim, inl, ℕ, ◌+◌, ◌<◌, ◌==◌, ◌&&◌, nat_lt, true, false, List, [], ◌∷◌, ◌++◌, length, slice_index, refl}
use Rattle.am_base.proofs.ChainWords.{sym, ap, ◌∙◌, subst, arith, append-nil, nat_tests, get_or-map, GroupView, Image, Row, Entry, Leave, View, has, place_of_name}
use Rattle.am_base.proofs.ChainWords.{life_of_name, blank_row, blank, after, fits, image_after_entries, AllEntriesFit, members_of_image, member_life_of_row, IsBeginningOf, IsGoodList, AllViewNamesAreBytes, ViewNameIsByte}
use Rattle.am_base.proofs.ChainWords.{image_of_list, is_member_at_end}
use Rattle.am_base.proofs.Rows.{row_of_place, IsMemberRow, IsPastRow, WasMemberRow, EntrySparesMember, LastsInRow, was_member_lasts, past_member_lasts, mod_sixteen_lt, sixteen_rows_after_entry, lasting_holds_after_entry, member_row_is_not_past, blank_image_has_nobody_joined}
use Rattle.am_base.proofs.Rows.{member_row_after_entry, member_row_has_view_life, name_in_view_has_row, leaver_row_after_leave}
use Rattle.am_base.proofs.Prefixes.{list_begins_itself, front_begins_append, begins_through_both, push_then_append}

pub fold_entries_append : (image : Image) (n : ℕ) (a b : List Entry) → image_after_entries image n (a ++ b) ≡ image_after_entries (image_after_entries image n a) (n + length a) b
unfolding image_after_entries
fold_entries_append image n [] b = let z : n ≡ n + 0 = omega arith in ap (λ k. image_after_entries image k b) z
fold_entries_append image n (e ∷ a) b = let z : (n + 1) + length a ≡ n + length (e ∷ a) = omega arith in
    fold_entries_append (after image n e) (n + 1) a b ∙ ap (λ k. image_after_entries (image_after_entries (after image n e) (n + 1) a) k b) z

fit_front : (image : Image) (n : ℕ) (a b : List Entry) → AllEntriesFit image n (a ++ b) → AllEntriesFit image n a
unfolding AllEntriesFit
fit_front image n [] b h = tt
fit_front image n (e ∷ a) b h = (h.0, fit_front (after image n e) (n + 1) a b h.1)

pub back_of_list_fits : (image : Image) (n : ℕ) (a b : List Entry) → AllEntriesFit image n (a ++ b) → AllEntriesFit (image_after_entries image n a) (n + length a) b
unfolding AllEntriesFit image_after_entries
back_of_list_fits image n [] b h = let z : n ≡ n + 0 = omega arith in subst (λ k. AllEntriesFit image k b) z h
back_of_list_fits image n (e ∷ a) b h = let z : (n + 1) + length a ≡ n + length (e ∷ a) = omega arith in
    subst (λ k. AllEntriesFit (image_after_entries (after image n e) (n + 1) a) k b) z (back_of_list_fits (after image n e) (n + 1) a b h.1)

fit_append : (image : Image) (n : ℕ) (a b : List Entry) → AllEntriesFit image n a → AllEntriesFit (image_after_entries image n a) (n + length a) b → AllEntriesFit image n (a ++ b)
unfolding AllEntriesFit image_after_entries
fit_append image n [] b h k = let z : n + 0 ≡ n = omega arith in subst (λ k. AllEntriesFit image k b) z k
fit_append image n (e ∷ a) b h k = let z : n + length (e ∷ a) ≡ (n + 1) + length a = omega arith in
    (h.0, fit_append (after image n e) (n + 1) a b h.1 (subst (λ k. AllEntriesFit (image_after_entries (after image n e) (n + 1) a) k b) z k))

small_front : (a b : List Entry) → AllViewNamesAreBytes (a ++ b) → AllViewNamesAreBytes a
unfolding AllViewNamesAreBytes
small_front [] b h = tt
small_front (e ∷ a) b h = (h.0, small_front a b h.1)

small_append : (a b : List Entry) → AllViewNamesAreBytes a → AllViewNamesAreBytes b → AllViewNamesAreBytes (a ++ b)
unfolding AllViewNamesAreBytes
small_append [] b h k = k
small_append (e ∷ a) b h k = (h.0, small_append a b h.1 k)

pub names_in_back_are_small : (a b : List Entry) → AllViewNamesAreBytes (a ++ b) → AllViewNamesAreBytes b
unfolding AllViewNamesAreBytes
names_in_back_are_small [] b h = h
names_in_back_are_small (e ∷ a) b h = names_in_back_are_small a b h.1

-- a beginning of a good list is good
pub beginning_of_good_is_good : {a b : List Entry} → IsBeginningOf a b → IsGoodList b → IsGoodList a
beginning_of_good_is_good {a} {b} h g = record {
  fit = fit_front blank 1 a h.rest (subst (AllEntriesFit blank 1) (sym h.same) g.fit);
  small = small_front a h.rest (subst AllViewNamesAreBytes (sym h.same) g.small);
}

pub empty_list_is_good : IsGoodList []
unfolding AllEntriesFit AllViewNamesAreBytes
empty_list_is_good = record { fit = tt; small = tt }

-- one entry more that fits
pub pushed_list_is_good : (a : List Entry) (e : Entry) → IsGoodList a → fits (image_of_list a) e ≡ true → ViewNameIsByte e → IsGoodList (a ++ e ∷ [])
unfolding AllEntriesFit AllViewNamesAreBytes
pushed_list_is_good a e g f s = record { fit = fit_append blank 1 a (e ∷ []) g.fit (f, tt); small = small_append a (e ∷ []) g.small (s, tt) }

pub image_after_pushed_entry : (a : List Entry) (e : Entry) → image_of_list (a ++ e ∷ []) ≡ after (image_of_list a) (1 + length a) e
unfolding image_after_entries
image_after_pushed_entry a e = fold_entries_append blank 1 a (e ∷ [])

-- of a good list with one entry more
pub last_entry_fits : (a : List Entry) (e : Entry) → IsGoodList (a ++ e ∷ []) → fits (image_of_list a) e ≡ true
unfolding AllEntriesFit
last_entry_fits a e g = (back_of_list_fits blank 1 a (e ∷ []) g.fit).0

pub last_entry_has_small_name : (a : List Entry) (e : Entry) → IsGoodList (a ++ e ∷ []) → ViewNameIsByte e
unfolding AllViewNamesAreBytes
last_entry_has_small_name a e g = (names_in_back_are_small a (e ∷ []) g.small).0

long_fold : (image : Image) (n : ℕ) (es : List Entry) → length image.rows ≡ 16 → length (image_after_entries image n es).rows ≡ 16
unfolding image_after_entries
long_fold image n [] h = h
long_fold image n (e ∷ es) h = long_fold (after image n e) (n + 1) es (sixteen_rows_after_entry image n e h)

pub image_has_sixteen_rows : (a : List Entry) → length (image_of_list a).rows ≡ 16
image_has_sixteen_rows a = long_fold blank 1 a refl

lasts_fold : (P : Row → Type 0) (image : Image) (n : ℕ) (es : List Entry) (place life : ℕ) → LastsInRow life P → length image.rows ≡ 16 → place < 16 → 0 < n
    → AllEntriesFit image n es → P (row_of_place image place) → P (row_of_place (image_after_entries image n es) place)
unfolding image_after_entries AllEntriesFit
lasts_fold P image n [] place life k long low up f h = h
lasts_fold P image n (e ∷ es) place life k long low up f h = lasts_fold P (after image n e) (n + 1) es place life k (sixteen_rows_after_entry image n e long) low
    (omega arith) f.1 (lasting_holds_after_entry P image n e place life k long low up f.0 h)

pub member_life_is_in_row : (r : Row) (life : ℕ) → 0 < life → (member_life_of_row r == life) ≡ true → IsMemberRow r life
member_life_is_in_row r life pos h = split_on_bool (nat_lt 0 r.joined && (r.left == 0))
    (λ t. let e : r.life ≡ life = grind (arith, nat_tests) in record { joined = grind (arith, nat_tests); left = grind (arith, nat_tests); is = e })
    (λ f. absurd (let z : ⊥ = grind (arith, nat_tests) in z))

in_member : (r : Row) (life : ℕ) → IsMemberRow r life → (member_life_of_row r == life) ≡ true
in_member r life h = let j = h.joined in let l = h.left in let i = h.is in grind (arith, nat_tests)

pub members_of_at_place : (image : Image) (place : ℕ) → length image.rows ≡ 16 → place < 16 → slice_index (members_of_image image) place ≡ member_life_of_row (row_of_place image place)
members_of_at_place image place long low = let w : place < length image.rows = omega arith in get_or-map member_life_of_row image.rows place blank_row 0 w

pub member_has_member_row : (a : List Entry) (name : ℕ) → is_member_at_end a name ≡ true → IsMemberRow (row_of_place (image_of_list a) (place_of_name name)) (life_of_name name)
unfolding is_member_at_end
member_has_member_row a name h =
    let pos : 0 < life_of_name name = omega arith in
    member_life_is_in_row (row_of_place (image_of_list a) (place_of_name name)) (life_of_name name) pos
    (subst (λ x. (x == life_of_name name) ≡ true) (members_of_at_place (image_of_list a) (place_of_name name) (image_has_sixteen_rows a) (mod_sixteen_lt name)) h)

pub member_row_gives_member : (a : List Entry) (name : ℕ) → IsMemberRow (row_of_place (image_of_list a) (place_of_name name)) (life_of_name name) → is_member_at_end a name ≡ true
unfolding is_member_at_end
member_row_gives_member a name h = subst (λ x. (x == life_of_name name) ≡ true) (sym (members_of_at_place (image_of_list a) (place_of_name name) (image_has_sixteen_rows a) (mod_sixteen_lt name)))
    (in_member (row_of_place (image_of_list a) (place_of_name name)) (life_of_name name) h)

-- what a beginning's row becomes
lasts_begins : (P : Row → Type 0) {a b : List Entry} (name : ℕ) → LastsInRow (life_of_name name) P → IsGoodList b → IsBeginningOf a b → P (row_of_place (image_of_list a) (place_of_name name))
    → P (row_of_place (image_of_list b) (place_of_name name))
lasts_begins P {a} {b} name k g h w =
    let f = back_of_list_fits blank 1 a h.rest (subst (AllEntriesFit blank 1) (sym h.same) g.fit) in
    let up : 0 < 1 + length a = omega arith in
    subst (λ x. P (row_of_place x (place_of_name name))) (sym (fold_entries_append blank 1 a h.rest)
    ∙ ap image_of_list h.same) (lasts_fold P (image_of_list a) (1 + length a) h.rest (place_of_name name) (life_of_name name) k (image_has_sixteen_rows a) (mod_sixteen_lt name) up f w)

pub was_member_in_longer_list : {a b : List Entry} (name : ℕ) → IsGoodList b → IsBeginningOf a b → WasMemberRow (row_of_place (image_of_list a) (place_of_name name)) (life_of_name name)
    → WasMemberRow (row_of_place (image_of_list b) (place_of_name name)) (life_of_name name)
was_member_in_longer_list name g h w = lasts_begins (λ r. WasMemberRow r (life_of_name name)) name (was_member_lasts (life_of_name name)) g h w

past_begins : {a b : List Entry} (name : ℕ) → IsGoodList b → IsBeginningOf a b → IsPastRow (row_of_place (image_of_list a) (place_of_name name)) (life_of_name name)
    → IsPastRow (row_of_place (image_of_list b) (place_of_name name)) (life_of_name name)
past_begins name g h w = lasts_begins (λ r. IsPastRow r (life_of_name name)) name (past_member_lasts (life_of_name name)) g h w

-- a member before and after is a member between
pub member_of_both_is_between : {a b c : List Entry} (name : ℕ) → IsGoodList c → IsBeginningOf a b → IsBeginningOf b c → is_member_at_end a name ≡ true → is_member_at_end c name ≡ true → is_member_at_end b name ≡ true
member_of_both_is_between {a} {b} {c} name g h k ma mc = ⊎_elim
    (λ (x : IsMemberRow (row_of_place (image_of_list b) (place_of_name name)) (life_of_name name)). member_row_gives_member b name x)
    (λ (x : IsPastRow (row_of_place (image_of_list b) (place_of_name name)) (life_of_name name)). absurd
    (member_row_is_not_past (row_of_place (image_of_list c) (place_of_name name)) (life_of_name name) (member_has_member_row c name mc) (past_begins name g k x)))
    (was_member_in_longer_list name (beginning_of_good_is_good k g) h (inl (member_has_member_row a name ma)))

-- nobody is a member of the empty list
pub empty_list_has_no_member : (name : ℕ) → is_member_at_end [] name ≡ true → ⊥
unfolding image_after_entries
empty_list_has_no_member name h = let j = (member_has_member_row [] name h).joined in let z = blank_image_has_nobody_joined blank (place_of_name name) refl in omega arith

-- a member stays one by an entry that spares it
pub member_stays_by_push : (a : List Entry) (e : Entry) (name : ℕ) → IsGoodList (a ++ e ∷ []) → EntrySparesMember name e → is_member_at_end a name ≡ true → is_member_at_end (a ++ e ∷ []) name ≡ true
member_stays_by_push a e name g s h =
    member_row_gives_member (a ++ e ∷ []) name (subst (λ x. IsMemberRow (row_of_place x (place_of_name name)) (life_of_name name)) (sym (image_after_pushed_entry a e))
    (member_row_after_entry (image_of_list a) (1 + length a) e name (image_has_sixteen_rows a) (last_entry_fits a e g) s (member_has_member_row a name h)))

-- a View's members, after it
pub member_of_pushed_view_members : (a : List Entry) (v : GroupView) (name : ℕ) → is_member_at_end (a ++ View v ∷ []) name ≡ true
    → has v.members name ≡ true
member_of_pushed_view_members a v name h =
    let i = subst (λ x. IsMemberRow (row_of_place x (place_of_name name)) (life_of_name name)) (image_after_pushed_entry a (View v))
    (member_has_member_row (a ++ View v ∷ []) name h) in
    let up : 0 < 1 + length a = omega arith in
    let pos : 0 < life_of_name name = omega arith in
    let e = member_row_has_view_life (image_of_list a) (1 + length a) v (place_of_name name) (life_of_name name) (mod_sixteen_lt name) up pos i in
    grind (arith, nat_tests)

-- and its members are members after it
pub name_in_view_is_member : (a : List Entry) (v : GroupView) (name : ℕ) → IsGoodList (a ++ View v ∷ [])
    → has v.members name ≡ true → is_member_at_end (a ++ View v ∷ []) name ≡ true
unfolding is_member_at_end
name_in_view_is_member a v name g h =
    let up : 0 < 1 + length a = omega arith in
    member_row_gives_member (a ++ View v ∷ []) name (subst (λ x. IsMemberRow (row_of_place x (place_of_name name)) (life_of_name name))
    (sym (image_after_pushed_entry a (View v)))
    (name_in_view_has_row (image_of_list a) (1 + length a) v name (image_has_sixteen_rows a) up (last_entry_fits a (View v) g) h
    (λ w. member_has_member_row a name w)))

-- who leaves was a member, and is none after it
pub leaver_was_member : (a : List Entry) (name : ℕ) → IsGoodList (a ++ Leave name ∷ []) → is_member_at_end a name ≡ true
unfolding is_member_at_end fits
leaver_was_member a name g = last_entry_fits a (Leave name) g

pub leaver_is_no_member : (a : List Entry) (name : ℕ) → IsGoodList (a ++ Leave name ∷ []) → is_member_at_end (a ++ Leave name ∷ []) name ≡ true → ⊥
leaver_is_no_member a name g h =
    let up : 0 < 1 + length a = omega arith in
    leaver_row_after_leave (image_of_list a) (1 + length a) name (image_has_sixteen_rows a) up (member_has_member_row a name (leaver_was_member a name g))
    (subst (λ x. IsMemberRow (row_of_place x (place_of_name name)) (life_of_name name)) (image_after_pushed_entry a (Leave name)) (member_has_member_row (a ++ Leave name ∷ []) name h))

-- where a membership ends
pub record MembershipEnds (a b : List Entry) (name : ℕ) : Type 0 where
  pub before : List Entry
  pub last : Entry
  pub above : IsBeginningOf a before
  pub within : IsBeginningOf (before ++ last ∷ []) b
  pub member : is_member_at_end before name ≡ true
  pub ended : is_member_at_end (before ++ last ∷ []) name ≡ false

ends_go : (r a b c : List Entry) (name : ℕ) → IsBeginningOf a c → c ++ r ≡ b → is_member_at_end c name ≡ true → is_member_at_end b name ≡ false → MembershipEnds a b name
ends_go [] a b c name above same h k = let z : is_member_at_end b name ≡ true = subst (λ l. is_member_at_end l name ≡ true) (sym (append-nil c) ∙ same) h in absurd (cc)
ends_go (e ∷ r) a b c name above same h k = split_on_bool (is_member_at_end (c ++ e ∷ []) name)
    (λ t. ends_go r a b (c ++ e ∷ []) name (begins_through_both above (front_begins_append c (e ∷ []))) (push_then_append c e r ∙ same) t k)
    (λ f. record { before = c; last = e; above = above; within = record { rest = r; same = push_then_append c e r ∙ same }; member = h; ended = f })

pub membership_ends_between : {a b : List Entry} (name : ℕ) → IsBeginningOf a b → is_member_at_end a name ≡ true → is_member_at_end b name ≡ false → MembershipEnds a b name
membership_ends_between {a} {b} name h x y = ends_go h.rest a b a name (list_begins_itself a) h.same x y
