-- What a View that fits does to the members and to the view.
use Rattle.am_resetting.proofs.DecidingWords.{◌≡◌, ⊎_elim, ℕ, ◌<◌, ◌≤◌, List, length, true, false, ◌==◌, ◌&&◌, ◌||◌, nat_lt, nat_le, slice_index, refl, sym, ap}
use Rattle.am_resetting.proofs.DecidingWords.{◌∙◌, arith, nat_tests, cases_lt, get_or_past, length-map, Image, Row, GroupView, Data, Join, Leave, View}
use Rattle.am_resetting.proofs.DecidingWords.{place_of_name, life_of_name, has, names_are_within, stamp_is_less, blank_row, is_blank_image, row_at_place, member_life_of_row, members_of_image}
use Rattle.am_resetting.proofs.DecidingWords.{row_after_view, after, fits, get_or-by_place, length-by_place, split_on_bool_of_log, row_at_place_of_image, members_of_at_row_place, set_not_within_by_place, both_of_and}

-- the parts of a View that fits
record FitsAsView (image : Image) (v : GroupView) : Type 0 where
  pub above : stamp_is_less image.view v.stamp ≡ true
  pub within : is_blank_image image ≡ false → names_are_within v.members (members_of_image image) ≡ true
  pub own : has v.members v.stamp.by ≡ true
  pub no_less : nat_le image.resilience v.resilience ≡ true

view_parts : (image : Image) (v : GroupView) → fits image (View v) ≡ true
    → FitsAsView image v
unfolding fits
view_parts image v h =
    let a = stamp_is_less image.view v.stamp in
    let b = is_blank_image image || names_are_within v.members (members_of_image image) in
    let c = has v.members v.stamp.by in
    let d = nat_le image.resilience v.resilience in
    let abcd = both_of_and a (b && (c && d)) h in
    let bcd = both_of_and b (c && d) abcd.1 in
    let cd = both_of_and c d bcd.1 in
    let within = bcd.0 in
    record { above = abcd.0; within = λ full. rw full at within; own = cd.0; no_less = cd.1 }

-- and made of them
pub view_above_fits_image : (image : Image) (v : GroupView) → stamp_is_less image.view v.stamp ≡ true → names_are_within v.members (members_of_image image) ≡ true
    → has v.members v.stamp.by ≡ true → image.resilience ≤ v.resilience → fits image (View v) ≡ true
unfolding fits
view_above_fits_image image v above within own more =
    let r : nat_le image.resilience v.resilience ≡ true = grind (arith, nat_tests) in
    rw (above, within, own, r) (split_on_bool_of_log (is_blank_image image) (λ t. rw t refl) (λ f. rw f refl))

within_at : (a b : List ℕ) (place : ℕ) → place < 16 → names_are_within a b ≡ true → ((slice_index a place == 0) || (slice_index a place == slice_index b place)) ≡ true
within_at a b place h is = split_on_bool_of_log ((slice_index a place == 0) || (slice_index a place == slice_index b place)) (λ t. t)
    (λ f. absurd (let g = set_not_within_by_place a b place h f in cc))

viewed_first : (number life : ℕ) (r : Row) → 0 < life → member_life_of_row (row_after_view true number life r) ≡ life
viewed_first number life r h = let e : (life == 0) ≡ false = grind (arith, nat_tests) in rw e refl

viewed_stays : (number life : ℕ) (r : Row) → member_life_of_row r ≡ life → member_life_of_row (row_after_view false number life r) ≡ life
viewed_stays number life r e =
    let t : (member_life_of_row r == life) ≡ true = grind (arith, nat_tests) in
    split_on_bool_of_log (nat_lt 0 (member_life_of_row r))
    (λ u. rw (u, t) e)
    (λ u. rw u e)

-- the stamp's name is a member after a View that fits
pub members_after_view_have_by : (image : Image) (number : ℕ) (v : GroupView) → fits image (View v) ≡ true
    → has (members_of_image (after image number (View v))) v.stamp.by ≡ true
unfolding after
members_after_view_have_by image number v h =
    let parts = view_parts image v h in
    let own = parts.own in
    let place = place_of_name v.stamp.by in
    let low : place < 16 = omega arith in
    let life : slice_index v.members place ≡ life_of_name v.stamp.by = grind (arith, nat_tests) in
    let new = after image number (View v) in
    let f : ℕ → Row = λ k. row_after_view (is_blank_image image) number (slice_index v.members k) (row_at_place_of_image image k) in
    let long = length-by_place f in
    let at : slice_index (members_of_image new) place ≡ member_life_of_row (row_after_view (is_blank_image image) number (slice_index v.members place) (row_at_place_of_image image place)) =
    members_of_at_row_place new place (omega arith) ∙ ap member_life_of_row (get_or-by_place f place blank_row low) in
    let is : member_life_of_row (row_after_view (is_blank_image image) number (slice_index v.members place) (row_at_place_of_image image place))
    ≡ slice_index v.members place = split_on_bool_of_log (is_blank_image image) (λ t. rw t (viewed_first number (slice_index v.members place) (row_at_place_of_image image place) (omega arith)))
    (λ t.
    let w = within_at v.members (members_of_image image) place low (parts.within t) in
    let none : (slice_index v.members place == 0) ≡ false = grind (arith, nat_tests) in
    let same : (slice_index v.members place == slice_index (members_of_image image) place) ≡ true = rw none at w in
    let e : slice_index v.members place ≡ slice_index (members_of_image image) place = grind (arith, nat_tests) in
    let there : slice_index (members_of_image image) place ≡ member_life_of_row (row_at_place_of_image image place) = ⊎_elim
    (λ (l : place < length image.rows). members_of_at_row_place image place l)
    (λ (l : length image.rows ≤ place). let long = length-map image.rows member_life_of_row in
    let z : slice_index (members_of_image image) place ≡ 0 = get_or_past (members_of_image image) place 0 (omega arith) in absurd (omega arith))
    (cases_lt place (length image.rows)) in
    rw t (viewed_stays number (slice_index v.members place) (row_at_place_of_image image place) (sym (e ∙ there)))) in
    let life_is : slice_index (members_of_image new) place ≡ life_of_name v.stamp.by = at ∙ is ∙ life in
    grind (arith, nat_tests)

-- what is no View leaves the view
pub view_stays_after_data : (image : Image) (number from req : ℕ) (body : List ℕ) → (after image number (Data from req body)).view ≡ image.view
unfolding after
view_stays_after_data image number from req body = split_on_bool_of_log ((row_at_place image from).life == life_of_name from) (λ t. rw t refl) (λ t. rw t refl)

pub view_stays_after_join : (image : Image) (number name : ℕ) → (after image number (Join name)).view ≡ image.view
unfolding after
view_stays_after_join image number name = refl

pub view_stays_after_leave : (image : Image) (number name : ℕ) → (after image number (Leave name)).view ≡ image.view
unfolding after
view_stays_after_leave image number name = split_on_bool_of_log ((row_at_place image name).life == life_of_name name) (λ t. rw t refl) (λ t. rw t refl)

pub view_after_view_is_stamp : (image : Image) (number : ℕ) (v : GroupView) → (after image number (View v)).view ≡ v.stamp
unfolding after
view_after_view_is_stamp image number v = refl
