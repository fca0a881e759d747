-- Who is a member stays one where another name joins or leaves.
use Rattle.am_ordering.proofs.JoiningWords.{◌≡◌, ◌≢◌, ℕ, List, true, false, ◌==◌, ◌||◌, ◌&&◌, nat_lt, sym, ap, ◌∙◌, arith, slice_index, slice_index_or, nat_tests}
use Rattle.am_ordering.proofs.JoiningWords.{get_or-map, get_or-set_other, Row, Image, Join, Leave, place_of_name, life_of_name, has, row_at_place, row_of_name, blank_row, member_life_of_row}
use Rattle.am_ordering.proofs.JoiningWords.{members_of_image, image_with_row, after, fits, split_on_bool_of_log}

-- the life of a place that is a member
member_at : (image : Image) (place : ℕ) → slice_index (members_of_image image) place ≡ member_life_of_row (slice_index_or image.rows place blank_row)
member_at image place = get_or-map member_life_of_row image.rows place blank_row

-- a row is set at another place
other_place : (image : Image) (name place : ℕ) (r : Row) → place ≢ place_of_name name
    → slice_index (members_of_image (image_with_row image name r)) place ≡ slice_index (members_of_image image) place
other_place image name place r other =
    member_at (image_with_row image name r) place ∙ ap member_life_of_row (get_or-set_other image.rows (place_of_name name) place r blank_row other) ∙ sym (member_at image place)

-- ---- a Join

free_life : (r : Row) (life : ℕ) → ((r.joined == 0) || (nat_lt 0 r.left && nat_lt r.life life)) ≡ true → member_life_of_row r ≡ 0
free_life r life fit = grind (arith, nat_tests)

joins_elsewhere : (image : Image) (from who : ℕ) → fits image (Join from) ≡ true → has (members_of_image image) who ≡ true → place_of_name who ≢ place_of_name from
unfolding fits
joins_elsewhere image from who fit member = λ same.
    let none = member_at image (place_of_name from) ∙ free_life (row_at_place image from) (life_of_name from) fit in
    let there = ap (slice_index (members_of_image image)) same ∙ none in
    grind (arith, nat_tests)

pub member_stays_by_join : (image : Image) (number from who : ℕ) → fits image (Join from) ≡ true → has (members_of_image image) who ≡ true
    → has (members_of_image (after image number (Join from))) who ≡ true
unfolding after
member_stays_by_join image number from who fit member =
    ap (λ k. k == life_of_name who) (other_place image from (place_of_name who) (record { life = life_of_name from; joined = number; left = 0; last = 0 })
    (joins_elsewhere image from who fit member)) ∙ member

-- ---- a Leave

member_life_of : (r : Row) (life : ℕ) → (r.life == life) ≡ true → nat_lt 0 r.joined ≡ true → r.left ≡ 0 → member_life_of_row r ≡ life
member_life_of r life same joined stays = grind (arith, nat_tests)

-- a name that has joined and not left is a member
pub joined_row_is_member : (image : Image) (from : ℕ) → ((row_of_name image from).joined == 0) ≡ false → (row_of_name image from).left ≡ 0 → has (members_of_image image) from ≡ true
joined_row_is_member image from = split_on_bool_of_log ((row_at_place image from).life == life_of_name from)
    (λ t. rw t (λ known stays.
    let joined : nat_lt 0 (row_at_place image from).joined ≡ true = grind (arith, nat_tests) in
    let there = member_at image (place_of_name from) ∙ member_life_of (row_at_place image from) (life_of_name from) t joined stays in
    grind (arith, nat_tests)))
    (λ f. rw f (λ known stays. absurd (cc)))

leaves_elsewhere : (set : List ℕ) (from who : ℕ) → from ≢ who → has set from ≡ true → has set who ≡ true → place_of_name who ≢ place_of_name from
leaves_elsewhere set from who other leaver member = λ same.
    let e = ap (slice_index set) same in
    let a : slice_index set (place_of_name from) ≡ life_of_name from = grind (arith, nat_tests) in
    let b : slice_index set (place_of_name who) ≡ life_of_name who = grind (arith, nat_tests) in
    other (omega arith)

pub member_stays_by_leave : (image : Image) (number from who : ℕ) → from ≢ who → has (members_of_image image) from ≡ true → has (members_of_image image) who ≡ true
    → has (members_of_image (after image number (Leave from))) who ≡ true
unfolding after
member_stays_by_leave image number from who other leaver member = split_on_bool_of_log ((row_at_place image from).life == life_of_name from)
    (λ t. rw t (ap (λ k. k == life_of_name who) (other_place image from (place_of_name who) (record (row_at_place image from) { left = number })
    (leaves_elsewhere (members_of_image image) from who other leaver member)) ∙ member))
    (λ f. rw f member)

pub leave_fits_of_member : (image : Image) (from : ℕ) → has (members_of_image image) from ≡ true → fits image (Leave from) ≡ true
unfolding fits
leave_fits_of_member image from member = member
