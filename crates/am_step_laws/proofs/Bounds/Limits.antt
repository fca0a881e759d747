-- Which rows, images and entries are within their limits.
use Rattle.am_step_laws.proofs.Words.{◌≡◌, ℕ, zero, suc, ◌+◌, ◌-◌, ◌<◌, ◌≤◌, ◌==◌, ◌&&◌, not, nat_lt, Bool, true, false, List, [], ◌∷◌, length, take, map, set}
use Rattle.am_step_laws.proofs.Words.{slice_index, slice_index_or, refl, ◌∙◌, arith, All, range_with_len, nat_tests, length-map, length-set, All-head, All-tail}
use Rattle.am_step_laws.proofs.Words.{All-map, All-set, All-take, All-weaker, All-get_or, All-from_get_or, All-replicate, greatest_number, most_bytes_of_body, Entry, Data, Join}
use Rattle.am_step_laws.proofs.Words.{Leave, View, Row, Image, IsSetOfNames, empty_set_of_names, place_of_name, life_of_name, name_of_place_and_life, list_by_place, ImageIsInRange, EntryIsInRange, Log, blank_row, blank}
use Rattle.am_step_laws.proofs.Words.{is_blank_image, row_at_place, member_life_of_row, members_of_image, row_after_view, after, image_after_entries, log_image_at, image_of_log, HasEntryParts, life_where_name_passes, names_that_pass}
use Rattle.am_step_laws.proofs.Words.{split_on_bool, Bounds, bounds_one_higher}
use Rattle.am_step_laws.proofs.Numbers.Images.{ImageIsUpTo, all_mapped_places_have, row_at_up_to_number}

-- ---- sets

lives_within : (names : List ℕ) → IsSetOfNames names → All (λ life. life ≤ 16) names
lives_within names h = All-from_get_or (λ life. life ≤ 16) names 0 h.lives

set_of_lives : (names : List ℕ) → length names ≡ 16 → All (λ life. life ≤ 16) names → IsSetOfNames names
set_of_lives names long h = record { places = long; lives = λ place low. All-get_or (λ life. life ≤ 16) names place 0 low h }

life_at : (names : List ℕ) (place : ℕ) → All (λ life. life ≤ 16) names → slice_index names place ≤ 16
life_at [] place h = omega arith
life_at (life ∷ lives) zero h = All-head (λ x. x ≤ 16) life lives h
life_at (life ∷ lives) (suc place) h = life_at lives place (All-tail (λ x. x ≤ 16) life lives h)

pub nobody_is_set : IsSetOfNames empty_set_of_names
nobody_is_set = set_of_lives empty_set_of_names refl (All-replicate (λ life. life ≤ 16) 16 0 (omega arith))

life_where : (test : ℕ → Bool) (place life : ℕ) → life ≤ 16 → life_where_name_passes test place life ≤ 16
life_where test place life h = split_on_bool (life == 0)
    (λ t. rw t (omega arith))
    (λ f. rw f (split_on_bool (test (name_of_place_and_life place life)) (λ t. rw t h) (λ g. rw g (omega arith))))

-- those of a set that pass a test
pub selection_of_set_is_set : (test : ℕ → Bool) (names : List ℕ) → IsSetOfNames names → IsSetOfNames (names_that_pass test names)
unfolding names_that_pass list_by_place
selection_of_set_is_set test names h =
    let f : ℕ → ℕ = λ place. life_where_name_passes test place (slice_index names place) in
    let low = lives_within names h in
    set_of_lives (map f (range_with_len 0 16)) refl (All-map (λ life. life ≤ 16) f (range_with_len 0 16)
    (all_mapped_places_have (λ life. life ≤ 16) f (range_with_len 0 16) (λ place. life_where test place _ (life_at names place low))))

-- ---- rows

pub record RowIsWithinLimits (b : Bounds) (r : Row) : Type 0 where
  pub life : r.life ≤ 16
  pub unused : r.joined ≡ 0 → r.life ≡ 0
  pub used : r.life ≡ 0 → r.joined ≡ 0
  pub last : r.last ≤ b.requests

pub record ImageIsWithinLimits (b : Bounds) (image : Image) : Type 0 where
  pub places : length image.rows ≡ 16
  pub rows : All (RowIsWithinLimits b) image.rows
  pub round : image.view.round ≤ b.rounds
  pub resilience : image.resilience ≤ 15

abbrev pub EntryIsWithinLimits : Bounds → Entry → Type 0
EntryIsWithinLimits b (Data from req body) = (req ≤ b.requests) × (length body ≤ most_bytes_of_body)
EntryIsWithinLimits b (Join name) = name < 256
EntryIsWithinLimits b (Leave name) = Unit {0}
EntryIsWithinLimits b (View v) = (v.stamp.round ≤ b.rounds) × IsSetOfNames v.members × (v.resilience ≤ 15)

row_more : (b : Bounds) (r : Row) → RowIsWithinLimits b r → RowIsWithinLimits (bounds_one_higher b) r
row_more b r h = let l = h.last in record { life = h.life; unused = h.unused; used = h.used; last = omega arith }

pub higher_bounds_keep_image : (b : Bounds) (image : Image) → ImageIsWithinLimits b image → ImageIsWithinLimits (bounds_one_higher b) image
higher_bounds_keep_image b image h = let r = h.round in record {
  places = h.places;
  rows = All-weaker (RowIsWithinLimits b) (RowIsWithinLimits (bounds_one_higher b)) (row_more b) image.rows h.rows;
  round = omega arith;
  resilience = h.resilience;
}

pub higher_bounds_keep_entry : (b : Bounds) (e : Entry) → EntryIsWithinLimits b e → EntryIsWithinLimits (bounds_one_higher b) e
higher_bounds_keep_entry b (Data from req body) h = let r = h.0 in (omega arith, h.1)
higher_bounds_keep_entry b (Join name) h = h
higher_bounds_keep_entry b (Leave name) h = h
higher_bounds_keep_entry b (View v) h = let r = h.0 in (omega arith, h.1, h.2)

blank_within : (b : Bounds) → RowIsWithinLimits b blank_row
blank_within b = record { life = omega arith; unused = λ e. refl; used = λ e. refl; last = omega arith }

pub blank_image_is_within_limits : (b : Bounds) → ImageIsWithinLimits b blank
blank_image_is_within_limits b = record { places = refl; rows = All-replicate (RowIsWithinLimits b) 16 blank_row (blank_within b); round = omega arith; resilience = omega arith }

row_at_within : (b : Bounds) (rows : List Row) (place : ℕ) → All (RowIsWithinLimits b) rows → RowIsWithinLimits b (slice_index_or rows place blank_row)
row_at_within b [] place h = blank_within b
row_at_within b (r ∷ rs) zero h = All-head (RowIsWithinLimits b) r rs h
row_at_within b (r ∷ rs) (suc place) h = row_at_within b rs place (All-tail (RowIsWithinLimits b) r rs h)

member_within : (b : Bounds) (r : Row) → RowIsWithinLimits b r → member_life_of_row r ≤ 16
member_within b r h = split_on_bool (nat_lt 0 r.joined && (r.left == 0)) (λ t. rw t h.life) (λ f. rw f (omega arith))

-- who an image says to be members
pub members_of_image_are_set : (b : Bounds) (image : Image) → ImageIsWithinLimits b image → IsSetOfNames (members_of_image image)
members_of_image_are_set b image h = set_of_lives (members_of_image image) (length-map image.rows member_life_of_row
    ∙ h.places) (All-map (λ life. life ≤ 16) member_life_of_row image.rows (All-weaker (RowIsWithinLimits b) (λ r. member_life_of_row r ≤ 16) (member_within b) image.rows h.rows))

-- ---- an entry more

with_row_within : (b : Bounds) (rows : List Row) (place : ℕ) (r : Row) → RowIsWithinLimits b r → All (RowIsWithinLimits b) rows → length rows ≡ 16
    → All (RowIsWithinLimits b) (set rows place r) × (length (set rows place r) ≡ 16)
with_row_within b rows place r h k long = (All-set (RowIsWithinLimits b) rows place r h k, length-set rows place r ∙ long)

viewed_within : (b : Bounds) (first : Bool) (number life : ℕ) (r : Row) → life ≤ 16 → RowIsWithinLimits b r → RowIsWithinLimits b (row_after_view first number life r)
viewed_within b true number life r low h = split_on_bool (life == 0)
    (λ t. rw t h)
    (λ f. rw f (record { life = low; unused = λ e. absurd (omega arith); used = λ e. absurd (grind (arith, nat_tests)); last = omega arith }))
viewed_within b false number life r low h = split_on_bool (nat_lt 0 (member_life_of_row r) && not (member_life_of_row r == life))
    (λ t. rw t (record { life = h.life; unused = h.unused; used = h.used; last = h.last }))
    (λ f. rw f h)

after_within : (b : Bounds) (image : Image) (number : ℕ) (e : Entry) → EntryIsWithinLimits b e → ImageIsWithinLimits b image → ImageIsWithinLimits b (after image (number + 1) e)
unfolding after list_by_place
after_within b image number (Data from req body) e h =
    let old = row_at_within b image.rows (place_of_name from) h.rows in
    let k = with_row_within b image.rows (place_of_name from) (record (row_at_place image from) { last = req })
    (record { life = old.life; unused = old.unused; used = old.used; last = e.0 }) h.rows h.places in
    split_on_bool ((row_at_place image from).life == life_of_name from)
    (λ t. rw t (record { places = k.1; rows = k.0; round = h.round; resilience = h.resilience }))
    (λ f. rw f h)
after_within b image number (Join name) e h =
    let k = with_row_within b image.rows (place_of_name name) (record { life = life_of_name name; joined = number + 1; left = 0; last = 0 })
    (record { life = omega arith; unused = λ z. absurd (omega arith); used = λ z. absurd (omega arith); last = omega arith }) h.rows h.places in
    record { places = k.1; rows = k.0; round = h.round; resilience = h.resilience }
after_within b image number (Leave name) e h =
    let old = row_at_within b image.rows (place_of_name name) h.rows in
    let k = with_row_within b image.rows (place_of_name name) (record (row_at_place image name) { left = number + 1 })
    (record { life = old.life; unused = old.unused; used = old.used; last = old.last }) h.rows h.places in
    split_on_bool ((row_at_place image name).life == life_of_name name)
    (λ t. rw t (record { places = k.1; rows = k.0; round = h.round; resilience = h.resilience }))
    (λ f. rw f h)
after_within b image number (View v) e h =
    let f : ℕ → Row = λ place. row_after_view (is_blank_image image) (number + 1) (slice_index v.members place) (slice_index_or image.rows place blank_row) in
    let low = lives_within v.members e.1 in
    record {
      places = refl;
      rows = All-map (RowIsWithinLimits b) f (range_with_len 0 16) (all_mapped_places_have (RowIsWithinLimits b) f (range_with_len 0 16)
          (λ place. viewed_within b (is_blank_image image) (number + 1) (slice_index v.members place) _ (life_at v.members place low)
          (row_at_within b image.rows place h.rows)));
      round = e.0;
      resilience = e.2;
    }

fold_within : (b : Bounds) (image : Image) (number : ℕ) (es : List Entry) → All (EntryIsWithinLimits b) es → ImageIsWithinLimits b image
    → ImageIsWithinLimits b (image_after_entries image (number + 1) es)
unfolding image_after_entries
fold_within b image number [] k h = h
fold_within b image number (e ∷ es) k h = fold_within b (after image (number + 1) e) (number + 1) es (All-tail (EntryIsWithinLimits b) e es k)
    (after_within b image number e (All-head (EntryIsWithinLimits b) e es k) h)

pub told_image_is_within_limits : (b : Bounds) (log : Log) → All (EntryIsWithinLimits b) log.entries → ImageIsWithinLimits b log.image → ImageIsWithinLimits b (image_of_log log)
told_image_is_within_limits b log k h = fold_within b log.image log.start log.entries k h

pub image_at_is_within_limits : (b : Bounds) (log : Log) (number : ℕ) → All (EntryIsWithinLimits b) log.entries → ImageIsWithinLimits b log.image → ImageIsWithinLimits b (log_image_at log number)
image_at_is_within_limits b log number k h = fold_within b log.image log.start (take (number - log.start) log.entries)
    (All-take (EntryIsWithinLimits b) (number - log.start) log.entries k) h

-- ---- the limits of packets' parts

-- bounds that are numbers
pub record BoundsAreNumbers (b : Bounds) : Type 0 where
  pub lists : b.lists ≤ greatest_number
  pub rounds : b.rounds ≤ greatest_number
  pub requests : b.requests ≤ greatest_number

pub entry_within_limits_is_entry : (b : Bounds) (e : Entry) → BoundsAreNumbers b → EntryIsWithinLimits b e → EntryIsInRange e × HasEntryParts e
entry_within_limits_is_entry b (Data from req body) n h = let r = n.requests in let q = h.0 in (omega arith, h.1)
entry_within_limits_is_entry b (Join name) n h = (tt, tt)
entry_within_limits_is_entry b (Leave name) n h = (tt, tt)
entry_within_limits_is_entry b (View v) n h = let r = n.rounds in let q = h.0 in ((omega arith, h.2), h.1)

pub image_within_limits_is_image : (b : Bounds) (number : ℕ) (image : Image) → BoundsAreNumbers b → number ≤ b.lists → ImageIsUpTo number image → ImageIsWithinLimits b image → ImageIsInRange image
image_within_limits_is_image b number image n low k h =
    let view = k.view in
    record {
      places = h.places;
      rows = λ place small. (let r = row_at_within b image.rows place h.rows in
          let s = row_at_up_to_number number image.rows place k.rows in
          let last = r.last in
          let joined = s.joined in
          let left = s.left in
          record { life = r.life; unused = r.unused; used = r.used; joined = omega arith; left = omega arith; last = omega arith });
      view = omega arith;
      view_number = omega arith;
      resilience = h.resilience;
    }
