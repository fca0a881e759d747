-- The lives of a place only grow.
use Rattle.am_node_defs.proofs.Words.{◌≡◌, ◌⊎◌, ⊎_elim, inl, inr, ℕ, zero, suc, ◌+◌, ◌-◌, ◌<◌, ◌≤◌, max, List, [], ◌∷◌, length, take, drop, refl, sym, ◌∙◌, ap}
use Rattle.am_node_defs.proofs.Words.{subst, Bool, true, false, ◌==◌, ◌&&◌, Some, slice_get, slice_index, slice_index_or, arith, list_all, get_or-map}
use Rattle.am_node_defs.proofs.Words.{length-map, length-set, get_or-set_other, get_or-set_at, eq-or-lt_of_le, nat_tests, eqb_tells, Row, Image, Entry, Data, Join}
use Rattle.am_node_defs.proofs.Words.{Leave, View, place_of_name, life_of_name, has, union_of_names, stamps_are_equal, no_stamp, Log, blank_row, is_blank_image, is_blank_row, row_at_place}
use Rattle.am_node_defs.proofs.Words.{member_life_of_row, members_of_image, log_members_at, row_after_view, image_with_row, after, fits, image_after_entries, AllEntriesFit, log_image_at, image_of_log, top_of_log}
use Rattle.am_node_defs.proofs.Words.{get_or-by_place, slice_index-by_place, length-by_place, sixteen_items_are_by_place, ImageIsInRange, IsKept, log_above, union_of_members_at}
use Rattle.am_node_defs.proofs.Ends.{log_is_own_end, end_stays_by_trim, end_has_image_of_whole_log}
use Rattle.am_node_defs.proofs.{Folds.split_on_bool_of_log, Folds.all_fit_after_drop, CoreLaws.unions_with_next_number}

abbrev pub row_at_place_of_image : Image → ℕ → Row
row_at_place_of_image image place = slice_index_or image.rows place blank_row

-- there are sixteen rows, and no life where nobody joined
pub record UnusedPlacesHaveNoLife (image : Image) : Type 0 where
  pub places : length image.rows ≡ 16
  pub unused : (place : ℕ) → place < 16 → (row_at_place_of_image image place).joined ≡ 0 → (row_at_place_of_image image place).life ≡ 0

used_image : (image : Image) → ImageIsInRange image → UnusedPlacesHaveNoLife image
used_image image is = record { places = is.places; unused = λ place h. (is.rows place h).unused }

-- a row after one is set
with_row_at : (image : Image) (name : ℕ) (r : Row) (place : ℕ) → length image.rows ≡ 16 → place < 16
    → ((place ≡ place_of_name name) × (row_at_place_of_image (image_with_row image name r) place ≡ r)) ⊎ (row_at_place_of_image (image_with_row image name r) place ≡ row_at_place_of_image image place)
with_row_at image name r place long h = ⊎_elim
    (λ p. inl (p.1, get_or-set_at image.rows (place_of_name name) place r blank_row p.1 (let e = p.1 in omega arith)))
    (λ p. inr (get_or-set_other image.rows (place_of_name name) place r blank_row p.1))
    (eqb_tells place (place_of_name name))

with_row_used : (image : Image) (name : ℕ) (r : Row) → UnusedPlacesHaveNoLife image → (r.joined ≡ 0 → r.life ≡ 0) → UnusedPlacesHaveNoLife (image_with_row image name r)
with_row_used image name r is row = record {
  places = length-set image.rows (place_of_name name) r ∙ is.places;
  unused = λ place h.
      let P : Row → Type 0 = λ x. x.joined ≡ 0 → x.life ≡ 0 in
      ⊎_elim (λ p. subst P (sym p.1) row) (λ p. subst P (sym p) (is.unused place h)) (with_row_at image name r place is.places h);
}

pub unused_places_after_entry : (image : Image) (number : ℕ) (e : Entry) → 0 < number → UnusedPlacesHaveNoLife image → UnusedPlacesHaveNoLife (after image number e)
unfolding after
unused_places_after_entry image number (Data from req body) n is = split_on_bool_of_log ((row_at_place image from).life == life_of_name from)
    (λ t. rw t (with_row_used image from (record (row_at_place image from) { last = req }) is (is.unused (place_of_name from) (omega arith))))
    (λ f. rw f is)
unused_places_after_entry image number (Join name) n is = with_row_used image name (record { life = life_of_name name; joined = number; left = 0; last = 0 }) is
    (λ z. absurd (omega arith))
unused_places_after_entry image number (Leave name) n is = split_on_bool_of_log ((row_at_place image name).life == life_of_name name)
    (λ t. rw t (with_row_used image name (record (row_at_place image name) { left = number }) is (is.unused (place_of_name name) (omega arith))))
    (λ f. rw f is)
unused_places_after_entry image number (View v) n is = record {
  places = length-by_place (λ place. row_after_view (is_blank_image image) number (slice_index v.members place) (row_at_place_of_image image place));
  unused = λ place h.
      let P : Row → Type 0 = λ x. x.joined ≡ 0 → x.life ≡ 0 in
      subst P (sym (get_or-by_place (λ place. row_after_view (is_blank_image image) number (slice_index v.members place) (row_at_place_of_image image place)) place blank_row h))
      (grind (arith, nat_tests));
}

blank_all : (a b c d : Bool) → (a && (b && (c && d))) ≡ true → d ≡ true
blank_all a b c d h = grind arith

blank_lives : (rows : List Row) (place : ℕ) → list_all is_blank_row rows ≡ true → (slice_index_or rows place blank_row).life ≡ 0
blank_lives [] place h = refl
blank_lives (r ∷ rs) zero h = grind (arith, nat_tests)
blank_lives (r ∷ rs) (suc place) h = blank_lives rs place (split_on_bool_of_log (is_blank_row r) (λ t. rw t at h) (λ f. absurd (let g = rw f at h in cc)))

viewed_grows : (first : Bool) (number life : ℕ) (r : Row) → (first ≡ true → r.life ≡ 0) → r.life ≤ (row_after_view first number life r).life
viewed_grows true number life r is = let z = is refl in omega arith
viewed_grows false number life r is = grind (arith, nat_tests)

with_row_grows : (image : Image) (name : ℕ) (r : Row) (place : ℕ) → length image.rows ≡ 16 → place < 16 → (row_at_place image name).life ≤ r.life
    → (row_at_place_of_image image place).life ≤ (row_at_place_of_image (image_with_row image name r) place).life
with_row_grows image name r place long h le = ⊎_elim
    (λ (p : (place ≡ place_of_name name) × (row_at_place_of_image (image_with_row image name r) place ≡ r)).
    let a = ap (λ k. (row_at_place_of_image image k).life) p.0 in
    let b = ap (λ (x : Row). x.life) p.1 in
    omega arith)
    (λ (p : row_at_place_of_image (image_with_row image name r) place ≡ row_at_place_of_image image place). let b = ap (λ (x : Row). x.life) p in omega arith)
    (with_row_at image name r place long h)

-- ---- lists in which each Join fits

abbrev pub JoinIsNextLife : Image → Entry → Type 0
JoinIsNextLife image (Data from req body) = Unit {0}
JoinIsNextLife image (Join name) = fits image (Join name) ≡ true
JoinIsNextLife image (Leave name) = Unit {0}
JoinIsNextLife image (View v) = Unit {0}

pub fitting_entry_joins_next_life : (image : Image) (e : Entry) → fits image e ≡ true → JoinIsNextLife image e
fitting_entry_joins_next_life image (Data from req body) h = tt
fitting_entry_joins_next_life image (Join name) h = h
fitting_entry_joins_next_life image (Leave name) h = tt
fitting_entry_joins_next_life image (View v) h = tt

unfoldable pub JoinsAreNextLives : Image → ℕ → List Entry → Type 0
JoinsAreNextLives image n [] = Unit {0}
JoinsAreNextLives image n (e ∷ es) = JoinIsNextLife image e × JoinsAreNextLives (after image n e) (n + 1) es

all_join : (image : Image) (n : ℕ) (es : List Entry) → AllEntriesFit image n es → JoinsAreNextLives image n es
unfolding AllEntriesFit JoinsAreNextLives
all_join image n [] h = tt
all_join image n (e ∷ es) h = (fitting_entry_joins_next_life image e h.0, all_join (after image n e) (n + 1) es h.1)

-- ---- the lives of a place along them

life_after : (image : Image) (number : ℕ) (e : Entry) (place : ℕ) → place < 16 → UnusedPlacesHaveNoLife image → JoinIsNextLife image e
    → (row_at_place_of_image image place).life ≤ (row_at_place_of_image (after image number e) place).life
unfolding after fits
life_after image number (Data from req body) place h is fit = split_on_bool_of_log ((row_at_place image from).life == life_of_name from)
    (λ t. rw t (with_row_grows image from (record (row_at_place image from) { last = req }) place is.places h (omega arith)))
    (λ f. rw f (omega arith))
life_after image number (Join name) place h is fit =
    let unused = is.unused (place_of_name name) (omega arith) in
    with_row_grows image name (record { life = life_of_name name; joined = number; left = 0; last = 0 }) place is.places h
    (grind (arith, nat_tests))
life_after image number (Leave name) place h is fit = split_on_bool_of_log ((row_at_place image name).life == life_of_name name)
    (λ t. rw t (with_row_grows image name (record (row_at_place image name) { left = number }) place is.places h (omega arith)))
    (λ f. rw f (omega arith))
life_after image number (View v) place h is fit =
    let P : Row → Type 0 = λ x. (row_at_place_of_image image place).life ≤ x.life in
    subst P (sym (get_or-by_place (λ place. row_after_view (is_blank_image image) number (slice_index v.members place) (row_at_place_of_image image place)) place blank_row h))
    (viewed_grows (is_blank_image image) number (slice_index v.members place) (row_at_place_of_image image place)
    (λ t. blank_lives image.rows place (blank_all (stamps_are_equal image.view no_stamp) (image.view_number == 0) (image.resilience == 0)
    (list_all is_blank_row image.rows) t)))

pub unused_places_after_entries : (image : Image) (number : ℕ) (es : List Entry) → 0 < number → UnusedPlacesHaveNoLife image → UnusedPlacesHaveNoLife (image_after_entries image number es)
unfolding image_after_entries
unused_places_after_entries image number [] n is = is
unused_places_after_entries image number (e ∷ es) n is = unused_places_after_entries (after image number e) (number + 1) es (omega arith) (unused_places_after_entry image number e n is)

pub life_of_place_only_grows : (image : Image) (number : ℕ) (es : List Entry) (place : ℕ) → place < 16 → 0 < number → UnusedPlacesHaveNoLife image → JoinsAreNextLives image number es
    → (row_at_place_of_image image place).life ≤ (row_at_place_of_image (image_after_entries image number es) place).life
unfolding image_after_entries JoinsAreNextLives
life_of_place_only_grows image number [] place h n is fit = omega arith
life_of_place_only_grows image number (e ∷ es) place h n is fit =
    let one = life_after image number e place h is fit.0 in
    let rest = life_of_place_only_grows (after image number e) (number + 1) es place h (omega arith) (unused_places_after_entry image number e n is) fit.1 in
    omega arith

-- up to any number, a place's life is at most that at the top
life_most : (log : Log) (capacity number place : ℕ) → IsKept log capacity → log.start ≤ number → number ≤ top_of_log log → place < 16
    → (row_at_place_of_image (log_image_at log number) place).life ≤ (row_at_place_of_image (image_of_log log) place).life
life_most log capacity number place is low high h =
    let k = number - log.start in
    let at : log.start + 1 + k ≡ number + 1 = omega arith in
    let P : ℕ → Type 0 = λ n. AllEntriesFit (log_image_at log number) n (drop k log.entries) in
    let fit = subst P at (all_fit_after_drop log.image (log.start + 1) k log.entries (omega arith) is.fit) in
    let used = unused_places_after_entries log.image (log.start + 1) (take k log.entries) (omega arith) (used_image log.image is.image) in
    let joins = all_join (log_image_at log number) (number + 1) (drop k log.entries) fit in
    let one = life_of_place_only_grows (log_image_at log number) (number + 1) (drop k log.entries) place h (omega arith) used joins in
    let told = ap (λ (i : Image). (row_at_place_of_image i place).life) (end_has_image_of_whole_log log (log_above log number) (end_stays_by_trim log log number (log_is_own_end log) low high)) in
    omega arith

pub unused_places_of_kept_log : (log : Log) (capacity number : ℕ) → IsKept log capacity → UnusedPlacesHaveNoLife (log_image_at log number)
unused_places_of_kept_log log capacity number is = unused_places_after_entries log.image (log.start + 1) (take (number - log.start) log.entries) (omega arith) (used_image log.image is.image)

pub members_of_at_row_place : (image : Image) (place : ℕ) → place < length image.rows → slice_index (members_of_image image) place ≡ member_life_of_row (row_at_place_of_image image place)
members_of_at_row_place image place h = get_or-map member_life_of_row image.rows place blank_row 0 h

member_most_row : (r : Row) → member_life_of_row r ≤ r.life
member_most_row r = grind (arith, nat_tests)

pub member_life_le_top_life : (log : Log) (capacity number place : ℕ) → IsKept log capacity → log.start ≤ number → number ≤ top_of_log log → place < 16
    → slice_index (log_members_at log number) place ≤ (row_at_place_of_image (image_of_log log) place).life
member_life_le_top_life log capacity number place is low high h =
    let used = unused_places_of_kept_log log capacity number is in
    let a = members_of_at_row_place (log_image_at log number) place (let p = used.places in omega arith) in
    let b = member_most_row (row_at_place_of_image (log_image_at log number) place) in
    let c = life_most log capacity number place is low high h in
    omega arith

member_row_life : (r : Row) (m life : ℕ) → m ≡ member_life_of_row r → 0 < life → (m == life) ≡ true → r.life ≡ life
member_row_life r m life a l h = grind (arith, nat_tests)

-- a member's life is that of its row
pub member_has_life_of_row : (image : Image) (name : ℕ) → UnusedPlacesHaveNoLife image → has (members_of_image image) name ≡ true → (row_at_place_of_image image (place_of_name name)).life ≡ life_of_name name
member_has_life_of_row image name is h =
    let a = members_of_at_row_place image (place_of_name name) (let p = is.places in omega arith) in
    member_row_life (row_at_place_of_image image (place_of_name name)) (slice_index (members_of_image image) (place_of_name name)) (life_of_name name) a (omega arith) h

-- the unions of members, by a place
pub unions_have_sixteen_places : (log : Log) (from more : ℕ) → length (log_image_at log from).rows ≡ 16 → length (union_of_members_at log from more) ≡ 16
unfolding union_of_members_at
unions_have_sixteen_places log from zero h = length-map (log_image_at log from).rows member_life_of_row ∙ h
unions_have_sixteen_places log from (suc more) h = length-by_place (λ place. max (slice_index (union_of_members_at log from more) place)
    (slice_index (log_members_at log (from + suc more)) place))

pub union_is_within_bound : (log : Log) (from more place bound : ℕ) → place < 16 → ((k : ℕ) → from ≤ k → k ≤ from + more → slice_index (log_members_at log k) place ≤ bound)
    → slice_index (union_of_members_at log from more) place ≤ bound
unfolding union_of_members_at
union_is_within_bound log from zero place bound h each = each from (omega arith) (omega arith)
union_is_within_bound log from (suc more) place bound h each =
    let e = slice_index-by_place (λ place. max (slice_index (union_of_members_at log from more) place) (slice_index (log_members_at log (from + suc more)) place)) place h in
    let a = union_is_within_bound log from more place bound h (λ k l u. each k l (omega arith)) in
    let b = each (from + suc more) (omega arith) (omega arith) in
    omega arith

pub member_life_is_within_union : (log : Log) (from more place k : ℕ) → place < 16 → from ≤ k → k ≤ from + more
    → slice_index (log_members_at log k) place ≤ slice_index (union_of_members_at log from more) place
unfolding union_of_members_at
member_life_is_within_union log from zero place k h l u =
    let e : k ≡ from = omega arith in
    let s = ap (λ n. slice_index (log_members_at log n) place) e in
    omega arith
member_life_is_within_union log from (suc more) place k h l u =
    let e = slice_index-by_place (λ place. max (slice_index (union_of_members_at log from more) place) (slice_index (log_members_at log (from + suc more)) place)) place h in
    ⊎_elim
    (λ (s : k ≡ from + suc more). let t = ap (λ n. slice_index (log_members_at log n) place) s in omega arith)
    (λ (s : k < from + suc more). let a = member_life_is_within_union log from more place k h l (omega arith) in omega arith)
    (eq-or-lt_of_le u)

-- who is in the first set with no lesser life adds nothing to it
union_within : (a b : List ℕ) → length a ≡ 16 → ((place : ℕ) → place < 16 → slice_index b place ≤ slice_index a place) → union_of_names a b ≡ a
union_within a b long each = sym (sixteen_items_are_by_place (λ place. max (slice_index a place) (slice_index b place)) a 0 long
    (λ place h. let le = each place h in omega arith))

-- where the members stay, the unions do
pub unions_of_unchanged_members : (log : Log) (capacity from number : ℕ) → IsKept log capacity → log.start ≤ from → from ≤ number
    → log_members_at log (number + 1) ≡ log_members_at log number → union_of_members_at log from (number + 1 - from) ≡ union_of_members_at log from (number - from)
unions_of_unchanged_members log capacity from number is low h same =
    let used = unused_places_of_kept_log log capacity from is in
    unions_with_next_number log from number h ∙ union_within (union_of_members_at log from (number - from)) (log_members_at log (number + 1))
    (unions_have_sixteen_places log from (number - from) used.places)
    (λ place inside. let e = ap (λ m. slice_index m place) same in
    let le = member_life_is_within_union log from (number - from) place number inside h (omega arith) in omega arith)

-- an entry fits what is told before it
pub entry_fits_at_its_number : (image : Image) (number k : ℕ) (es : List Entry) (e : Entry) → AllEntriesFit image number es → slice_get es k ≡ Some e
    → fits (image_after_entries image number (take k es)) e ≡ true
unfolding image_after_entries AllEntriesFit
entry_fits_at_its_number image number k [] e fit get = absurd (cc)
entry_fits_at_its_number image number zero (x ∷ es) e fit get = let s : x ≡ e = cc in ap (fits image) (sym s) ∙ fit.0
entry_fits_at_its_number image number (suc k) (x ∷ es) e fit get = entry_fits_at_its_number (after image number x) (number + 1) k es e fit.1 get

-- a Leave changes no life
pub life_of_place_after_leave : (image : Image) (number name place : ℕ) → place < 16 → UnusedPlacesHaveNoLife image
    → (row_at_place_of_image (after image number (Leave name)) place).life ≡ (row_at_place_of_image image place).life
unfolding after
life_of_place_after_leave image number name place h is = split_on_bool_of_log ((row_at_place image name).life == life_of_name name)
    (λ t. rw t (⊎_elim
    (λ (p : (place ≡ place_of_name name) × (row_at_place_of_image (image_with_row image name (record (row_at_place image name) { left = number })) place
    ≡ record (row_at_place image name) { left = number })). ap (λ (x : Row). x.life) p.1 ∙ ap (λ k. (row_at_place_of_image image k).life) (sym p.0))
    (λ (p : row_at_place_of_image (image_with_row image name (record (row_at_place image name) { left = number })) place ≡ row_at_place_of_image image place). ap (λ (x : Row). x.life) p)
    (with_row_at image name (record (row_at_place image name) { left = number }) place is.places h)))
    (λ f. rw f refl)
