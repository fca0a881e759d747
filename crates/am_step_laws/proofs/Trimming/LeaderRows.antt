-- The rows of a list in which each Join fits what stands before it: the lives of a place never fall, and who leads stays among those
-- whose reports count.
use Rattle.am_step_laws.proofs.Words.{has_member_is_in_row, ◌≡◌, ℕ, zero, suc, ◌+◌, ◌-◌, ◌<◌, ◌≤◌, ◌==◌, ◌&&◌, not, nat_lt, Bool, true, false, List, [], ◌∷◌, ◌++◌, length, take}
use Rattle.am_step_laws.proofs.Words.{Some, slice_index, refl, sym, ap, ◌∙◌, subst, arith, nat_tests, get_or-replicate, Entry, Data, View, GroupView, Report, Row}
use Rattle.am_step_laws.proofs.Words.{Image, place_of_name, life_of_name, has, blank_row, blank, is_blank_image, row_at_place, member_life_of_row, members_of_image, log_members_at, row_after_view}
use Rattle.am_step_laws.proofs.Words.{after, image_after_entries, top_of_log, log_image_at, image_of_log, CoreState, members_since_accepted, JoinIsNextLife, JoinsAreNextLives, UnusedPlacesHaveNoLife, row_at_place_of_image, unused_places_after_entry, unused_places_after_entries}
use Rattle.am_step_laws.proofs.Words.{life_of_place_only_grows, members_of_at_row_place, union_is_within_bound, member_life_is_within_union, unions_have_sixteen_places, IsMemberRow, mod_sixteen_lt, sixteen_rows_after_entry, with_row_keeps_property, row_after_pushed_view, least_taken_of_names}
use Rattle.am_step_laws.proofs.Words.{least_reported_le_own_taken, split_on_bool}

-- ---- lists in which each Join fits

pub joins_fit_with_pushed_entry : (image : Image) (n : ℕ) (es : List Entry) (e : Entry) → JoinsAreNextLives image n es → JoinIsNextLife (image_after_entries image n es) e → JoinsAreNextLives image n (es ++ e ∷ [])
unfolding JoinsAreNextLives image_after_entries
joins_fit_with_pushed_entry image n [] e h k = (k, tt)
joins_fit_with_pushed_entry image n (x ∷ es) e h k = (h.0, joins_fit_with_pushed_entry (after image n x) (n + 1) es e h.1 k)

-- up to any number the lives of a place are at most those at the end
part_rises : (image : Image) (n : ℕ) (es : List Entry) (k place : ℕ) → place < 16 → 0 < n → UnusedPlacesHaveNoLife image → JoinsAreNextLives image n es
    → (row_at_place_of_image (image_after_entries image n (take k es)) place).life ≤ (row_at_place_of_image (image_after_entries image n es) place).life
unfolding image_after_entries JoinsAreNextLives
part_rises image n es zero place low up used h = life_of_place_only_grows image n es place low up used h
part_rises image n [] (suc k) place low up used h = omega arith
part_rises image n (e ∷ es) (suc k) place low up used h = part_rises (after image n e) (n + 1) es k place low (omega arith) (unused_places_after_entry image n e up used) h.1

-- ---- who is a member

in_member : (r : Row) (life : ℕ) → IsMemberRow r life → member_life_of_row r ≡ life
in_member r life h = let j = h.joined in let l = h.left in let i = h.is in grind (arith, nat_tests)

pub present_row_makes_member : (image : Image) (name : ℕ) → length image.rows ≡ 16 → IsMemberRow (row_at_place_of_image image (place_of_name name)) (life_of_name name) → has (members_of_image image) name ≡ true
present_row_makes_member image name long h =
    let low = mod_sixteen_lt name in
    let at = members_of_at_row_place image (place_of_name name) (omega arith) ∙ in_member (row_at_place_of_image image (place_of_name name)) (life_of_name name) h in
    grind (arith, nat_tests)

-- a send changes no membership
data_keeps : (image : Image) (n from req : ℕ) (body : List ℕ) (name : ℕ) → length image.rows ≡ 16 → IsMemberRow (row_at_place_of_image image (place_of_name name)) (life_of_name name)
    → IsMemberRow (row_at_place_of_image (after image n (Data from req body)) (place_of_name name)) (life_of_name name)
unfolding after
data_keeps image n from req body name long h = split_on_bool ((row_at_place image from).life == life_of_name from)
    (λ t. rw t (with_row_keeps_property (λ r. IsMemberRow r (life_of_name name)) image from (place_of_name name) (record (row_at_place image from) { last = req }) long
    (λ is x. record { joined = x.joined; left = x.left; is = x.is }) h))
    (λ f. rw f h)

pub data_keeps_each_member : (image : Image) (n from req : ℕ) (body : List ℕ) (name : ℕ) → length image.rows ≡ 16
    → length (after image n (Data from req body)).rows ≡ 16 → has (members_of_image image) name ≡ true
    → has (members_of_image (after image n (Data from req body))) name ≡ true
data_keeps_each_member image n from req body name long longer h = present_row_makes_member (after image n (Data from req body)) name longer
    (data_keeps image n from req body name long (has_member_is_in_row image name long h))

-- a View keeps who is a member and in it
viewed_keeps : (first : Bool) (n given life : ℕ) (r : Row) → 0 < life → given ≡ life → IsMemberRow r life → IsMemberRow (row_after_view first n given r) life
viewed_keeps true n given life r some is h =
    let f : (given == 0) ≡ false = grind (arith, nat_tests) in
    rw f (record { joined = omega arith; left = refl; is = is })
viewed_keeps false n given life r some is h =
    let m = in_member r life h in
    let f : (nat_lt 0 (member_life_of_row r) && not (member_life_of_row r == given)) ≡ false = grind (arith, nat_tests) in
    rw f h

pub view_keeps_its_members : (image : Image) (n : ℕ) (v : GroupView) (name : ℕ) → length image.rows ≡ 16
    → length (after image n (View v)).rows ≡ 16 → has (members_of_image image) name ≡ true
    → slice_index v.members (place_of_name name) ≡ life_of_name name → has (members_of_image (after image n (View v))) name ≡ true
view_keeps_its_members image n v name long longer h given =
    let some : 0 < life_of_name name = omega arith in
    let is = row_after_pushed_view image n v (place_of_name name) (mod_sixteen_lt name) in
    present_row_makes_member (after image n (View v)) name longer
    (subst (λ (r : Row). IsMemberRow r (life_of_name name)) (sym is) (viewed_keeps (is_blank_image image) n (slice_index v.members (place_of_name name)) (life_of_name name) _ some given
    (has_member_is_in_row image name long h)))

-- and the first View has who is in it
pub first_view_has_its_members : (v : GroupView) (name : ℕ) → slice_index v.members (place_of_name name) ≡ life_of_name name
    → has (members_of_image (after blank 1 (View v))) name ≡ true
first_view_has_its_members v name given =
    let e = View v in
    let some : (slice_index v.members (place_of_name name) == 0) ≡ false = grind (arith, nat_tests) in
    let is = row_after_pushed_view blank 1 v (place_of_name name) (mod_sixteen_lt name) in
    let first : IsMemberRow (row_after_view true 1 (slice_index v.members (place_of_name name)) (row_at_place_of_image blank (place_of_name name))) (life_of_name name) =
    rw some (record { joined = omega arith; left = refl; is = given }) in
    present_row_makes_member (after blank 1 e) name (sixteen_rows_after_entry blank 1 e refl) (subst (λ (r : Row). IsMemberRow r (life_of_name name)) (sym is) first)

pub blank_image_is_used : UnusedPlacesHaveNoLife blank
blank_image_is_used = record { places = refl; unused = λ place low none. ap (λ (r : Row). r.life) (get_or-replicate 16 place blank_row blank_row low) }

-- ---- whose reports count

-- the life that is a member at a number from what is accepted on is that in the union, where it is the place's at the end
in_since : (c : CoreState) (number : ℕ) → UnusedPlacesHaveNoLife c.log.image → JoinsAreNextLives c.log.image (c.log.start + 1) c.log.entries → c.log.start ≤ c.acc → c.acc ≤ number
    → number ≤ top_of_log c.log → has (log_members_at c.log number) c.who ≡ true → (row_at_place_of_image (image_of_log c.log) (place_of_name c.who)).life ≡ life_of_name c.who
    → slice_index (members_since_accepted c) (place_of_name c.who) ≡ life_of_name c.who
in_since c number used fit low after_ high member row =
    let place = place_of_name c.who in
    let low16 = mod_sixteen_lt c.who in
    let there : slice_index (log_members_at c.log number) place ≡ life_of_name c.who = grind (arith, nat_tests) in
    let least = member_life_is_within_union c.log c.acc (top_of_log c.log - c.acc) place number low16 after_ (omega arith) in
    let most = union_is_within_bound c.log c.acc (top_of_log c.log - c.acc) place (row_at_place_of_image (image_of_log c.log) place).life low16 (λ k l u.
    (let image = log_image_at c.log k in
    let k_used = unused_places_after_entries c.log.image (c.log.start + 1) (take (k - c.log.start) c.log.entries) (omega arith) used in
    let a = members_of_at_row_place image place (let p = k_used.places in omega arith) in
    let b : member_life_of_row (row_at_place_of_image image place) ≤ (row_at_place_of_image image place).life = let r = row_at_place_of_image image place in grind (arith, nat_tests) in
    let d = part_rises c.log.image (c.log.start + 1) c.log.entries (k - c.log.start) place low16 (omega arith) used fit in
    omega arith)) in
    omega arith

-- no more is let go than it has taken
pub least_taken_le_own_taken : (reports : ℕ → Report) (c : CoreState) (number to : ℕ) → UnusedPlacesHaveNoLife c.log.image → JoinsAreNextLives c.log.image (c.log.start + 1) c.log.entries
    → c.log.start ≤ c.acc → c.acc ≤ number → number ≤ top_of_log c.log → has (log_members_at c.log number) c.who ≡ true
    → (row_at_place_of_image (image_of_log c.log) (place_of_name c.who)).life ≡ life_of_name c.who → (reports c.who).taken ≤ c.taken → least_taken_of_names reports (members_since_accepted c) ≡ Some to
    → to ≤ c.taken
least_taken_le_own_taken reports c number to used fit low after_ high member row own least =
    let life = in_since c number used fit low after_ high member row in
    let at_acc = unused_places_after_entries c.log.image (c.log.start + 1) (take (c.acc - c.log.start) c.log.entries) (omega arith) used in
    least_reported_le_own_taken reports c to (unions_have_sixteen_places c.log c.acc (top_of_log c.log - c.acc) at_acc.places) life own least
