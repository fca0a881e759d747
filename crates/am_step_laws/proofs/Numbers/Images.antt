-- How high the numbers are that a list tells of, and which numbers a list has.
use Rattle.am_step_laws.proofs.Words.{◌≡◌, ℕ, zero, suc, ◌+◌, ◌-◌, ◌≤◌, ◌==◌, ◌&&◌, not, nat_lt, Bool, true, false, List, [], ◌∷◌, length, take, slice_index}
use Rattle.am_step_laws.proofs.Words.{slice_index_or, sym, subst, arith, All, range_with_len, length-take, All-nil, All-cons, All-head, All-tail, All-map, All-set}
use Rattle.am_step_laws.proofs.Words.{All-weaker, All-replicate, Entry, Data, Join, Leave, View, Row, Image, place_of_name, life_of_name, list_by_place, Log, blank_row, blank}
use Rattle.am_step_laws.proofs.Words.{is_blank_image, row_at_place, row_of_name, member_life_of_row, row_after_view, after, image_after_entries, top_of_log, log_image_at, image_of_log, split_on_bool}

-- ---- rows

pub record RowIsUpTo (n : ℕ) (r : Row) : Type 0 where
  pub joined : r.joined ≤ n
  pub left : r.left ≤ n

pub record ImageIsUpTo (n : ℕ) (image : Image) : Type 0 where
  pub view : image.view_number ≤ n
  pub rows : All (RowIsUpTo n) image.rows

row_more : (n : ℕ) (r : Row) → RowIsUpTo n r → RowIsUpTo (n + 1) r
row_more n r h = let j = h.joined in let l = h.left in record { joined = omega arith; left = omega arith }

up_blank : (n : ℕ) → RowIsUpTo n blank_row
up_blank n = record { joined = omega arith; left = omega arith }

pub row_at_up_to_number : (n : ℕ) (rows : List Row) (place : ℕ) → All (RowIsUpTo n) rows → RowIsUpTo n (slice_index_or rows place blank_row)
row_at_up_to_number n [] place h = up_blank n
row_at_up_to_number n (r ∷ rs) zero h = All-head (RowIsUpTo n) r rs h
row_at_up_to_number n (r ∷ rs) (suc place) h = row_at_up_to_number n rs place (All-tail (RowIsUpTo n) r rs h)

pub all_mapped_places_have : {A : Type 0} (P : A → Type 0) (f : ℕ → A) (places : List ℕ) → ((place : ℕ) → P (f place)) → All (λ place. P (f place)) places
all_mapped_places_have P f [] h = All-nil (λ place. P (f place))
all_mapped_places_have P f (place ∷ places) h = All-cons (λ place. P (f place)) place places (h place) (all_mapped_places_have P f places h)

viewed_up : (n : ℕ) (first : Bool) (life : ℕ) (r : Row) → RowIsUpTo n r → RowIsUpTo (n + 1) (row_after_view first (n + 1) life r)
viewed_up n true life r h = split_on_bool (life == 0) (λ t. rw t (row_more n r h)) (λ f. rw f (record { joined = omega arith; left = omega arith }))
viewed_up n false life r h = split_on_bool (nat_lt 0 (member_life_of_row r) && not (member_life_of_row r == life))
    (λ t. rw t (let j = h.joined in record { joined = omega arith; left = omega arith }))
    (λ f. rw f (row_more n r h))

-- ---- an entry more

image_more : (n : ℕ) (image : Image) → ImageIsUpTo n image → ImageIsUpTo (n + 1) image
image_more n image h = let v = h.view in record { view = omega arith; rows = All-weaker (RowIsUpTo n) (RowIsUpTo (n + 1)) (row_more n) image.rows h.rows }

after_up : (n : ℕ) (image : Image) (e : Entry) → ImageIsUpTo n image → ImageIsUpTo (n + 1) (after image (n + 1) e)
unfolding after list_by_place
after_up n image (Data from req body) h =
    let more = image_more n image h in
    let old = row_more n (row_at_place image from) (row_at_up_to_number n image.rows (place_of_name from) h.rows) in
    split_on_bool ((row_at_place image from).life == life_of_name from)
    (λ t. rw t (record {
      view = more.view;
      rows = All-set (RowIsUpTo (n + 1)) image.rows (place_of_name from) (record (row_at_place image from) { last = req })
          (record { joined = old.joined; left = old.left }) more.rows;
    }))
    (λ f. rw f more)
after_up n image (Join name) h =
    let more = image_more n image h in
    record {
      view = more.view;
      rows = All-set (RowIsUpTo (n + 1)) image.rows (place_of_name name) (record { life = life_of_name name; joined = n + 1; left = 0; last = 0 })
          (record { joined = omega arith; left = omega arith }) more.rows;
    }
after_up n image (Leave name) h =
    let more = image_more n image h in
    let old = row_more n (row_at_place image name) (row_at_up_to_number n image.rows (place_of_name name) h.rows) in
    split_on_bool ((row_at_place image name).life == life_of_name name)
    (λ t. rw t (record {
      view = more.view;
      rows = All-set (RowIsUpTo (n + 1)) image.rows (place_of_name name) (record (row_at_place image name) { left = n + 1 })
          (record { joined = old.joined; left = omega arith }) more.rows;
    }))
    (λ f. rw f more)
after_up n image (View v) h =
    let f : ℕ → Row = λ place. row_after_view (is_blank_image image) (n + 1) (slice_index v.members place) (slice_index_or image.rows place blank_row) in
    record {
      view = omega arith;
      rows = All-map (RowIsUpTo (n + 1)) f (range_with_len 0 16)
          (all_mapped_places_have (RowIsUpTo (n + 1)) f (range_with_len 0 16) (λ place. viewed_up n (is_blank_image image) (slice_index v.members place) _
          (row_at_up_to_number n image.rows place h.rows)));
    }

fold_up : (n : ℕ) (image : Image) (es : List Entry) → ImageIsUpTo n image → ImageIsUpTo (n + length es) (image_after_entries image (n + 1) es)
unfolding image_after_entries
fold_up n image [] h = let z : n + 0 ≡ n = omega arith in subst (λ k. ImageIsUpTo k image) (sym z) h
fold_up n image (e ∷ es) h =
    let z : n + 1 + length es ≡ n + length (e ∷ es) = omega arith in
    subst (λ k. ImageIsUpTo k (image_after_entries (after image (n + 1) e) (n + 1 + 1) es)) z (fold_up (n + 1) (after image (n + 1) e) es (after_up n image e h))

-- ---- lists

pub told_image_up_to_top : (log : Log) → ImageIsUpTo log.start log.image → ImageIsUpTo (top_of_log log) (image_of_log log)
told_image_up_to_top log h = fold_up log.start log.image log.entries h

up_higher : (n k : ℕ) (image : Image) → n ≤ k → ImageIsUpTo n image → ImageIsUpTo k image
up_higher n k image low h = let v = h.view in record {
  view = omega arith;
  rows = All-weaker (RowIsUpTo n) (RowIsUpTo k) (λ r x. let j = x.joined in let l = x.left in record { joined = omega arith; left = omega arith }) image.rows h.rows;
}

pub image_at_up_to_number : (log : Log) (number : ℕ) → log.start ≤ number → ImageIsUpTo log.start log.image → ImageIsUpTo number (log_image_at log number)
image_at_up_to_number log number from h =
    let k = fold_up log.start log.image (take (number - log.start) log.entries) h in
    let long = length-take (number - log.start) log.entries in
    up_higher (log.start + length (take (number - log.start) log.entries)) number (log_image_at log number) (omega arith) k

-- the row of a name
pub row_of_up_to_number : (n : ℕ) (image : Image) (name : ℕ) → ImageIsUpTo n image → RowIsUpTo n (row_of_name image name)
row_of_up_to_number n image name h = split_on_bool ((row_at_place image name).life == life_of_name name)
    (λ t. rw t (row_at_up_to_number n image.rows (place_of_name name) h.rows))
    (λ f. rw f (up_blank n))

pub blank_image_up_to_number : (n : ℕ) → ImageIsUpTo n blank
blank_image_up_to_number n = record { view = omega arith; rows = All-replicate (RowIsUpTo n) 16 blank_row (up_blank n) }
