-- The rows of the sixteen places.
use Rattle.am_base.specs.declared.entry.GroupView.{GroupView}
use Rattle.std.proofs.Common.{◌≡◌, ◌≢◌, ◌⊎◌, ⊎_elim, inl, inr, ℕ, suc, ◌+◌, ◌<◌, ◌≤◌, List, length, map, refl, sym, ◌∙◌, ap, subst, zero, zero-add, Bool, true}
use Rattle.std.proofs.Common.{false, ◌==◌, ◌||◌, slice_index, slice_index_or, slice_set, get_or, arith}
use Rattle.std.specs.List.{list_all, range_with_len}
use Rattle.std.proofs.lemmas.List.{map-set, set-get_or, get_or-map, length-map, length-set, get_or-set_other}
use Rattle.std.proofs.lemmas.List.FromFn.{get_or-range_with_len}
use Rattle.std.proofs.lemmas.List.Folds.{list_all_at}
use Rattle.std.proofs.lemmas.Grind.{get_or-set_at}
use Rattle.std.proofs.lemmas.Bool.Decides.{nat_tests, eqb_tells}
use Rattle.am_base.specs.declared.image.Row.{Row}
use Rattle.am_base.specs.declared.image.Image.{Image}
use Rattle.am_base.specs.declared.name.Stamp.{Stamp}
use Rattle.am_base.specs.declared.entry.Entry.TheVariants.{View}
use Rattle.am_base.specs.Names.{place_of_name, life_of_name, has, with_name, without_name, names_are_within}
use Rattle.am_base.specs.Lists.{blank_row, row_at_place, members_of_image, member_life_of_row, row_after_view, image_with_row, is_blank_image, after}
use Rattle.am_base.proofs.Places.{sixteen_items_are_by_place}
use Rattle.std.proofs.Math.Seq.{map-set_same}
use Rattle.am_node_defs.proofs.Folds.{split_on_bool_of_log}
use Rattle.am_base.specs.Limits.{NumberIsInRange, StampIsInRange, RowIsInRange, ImageIsInRange}
use Rattle.am_node_storage.specs.Tables.{IsTable}

-- a member's life by its place
member_at : (rows : List Row) (place : ℕ) → place < length rows
    → slice_index (map member_life_of_row rows) place ≡ member_life_of_row (slice_index_or rows place blank_row)
member_at rows place h = get_or-map member_life_of_row rows place blank_row 0 h

pub member_life_le_row_life : (r : Row) → member_life_of_row r ≤ r.life
member_life_le_row_life r = grind (arith, nat_tests)

-- the members, each by its place
pub members_are_lives_of_rows : (rows : List Row) (lives : List ℕ) → length rows ≡ 16 → length lives ≡ 16
    → ((k : ℕ) → k < 16 → get_or lives k 0 ≡ member_life_of_row (slice_index_or rows k blank_row)) → lives ≡ map member_life_of_row rows
members_are_lives_of_rows rows lives long wide each =
    let all = sixteen_items_are_by_place (λ k. member_life_of_row (slice_index_or rows k blank_row)) lives 0 wide each in
    let those = sixteen_items_are_by_place (λ k. member_life_of_row (slice_index_or rows k blank_row)) (map member_life_of_row rows) 0 (length-map rows member_life_of_row
    ∙ long) (λ k h. member_at rows k (omega arith)) in
    all ∙ sym those

pub row_after_view_is_row : (first : Bool) (number life : ℕ) (r : Row) → RowIsInRange r → life ≤ 16 → NumberIsInRange number → RowIsInRange (row_after_view first number life r)
row_after_view_is_row first number life r is h n = record {
  life = let a = is.life in grind (arith, nat_tests);
  unused = let b = is.unused in grind (arith, nat_tests);
  used = let b = is.used in grind (arith, nat_tests);
  joined = let b = is.joined in grind (arith, nat_tests);
  left = let b = is.left in grind (arith, nat_tests);
  last = let b = is.last in grind (arith, nat_tests);
}

eq_or_not : (a b : ℕ) → (a ≡ b) ⊎ (a ≢ b)
eq_or_not a b = ⊎_elim (λ p. inl p.1) (λ p. inr p.1) (eqb_tells a b)

pub with_row_is_image : (image : Image) (name : ℕ) (r : Row) → ImageIsInRange image → RowIsInRange r → ImageIsInRange (image_with_row image name r)
with_row_is_image image name r is row = record {
  places = length-set image.rows (place_of_name name) r ∙ is.places;
  rows = λ place h. ⊎_elim
      (λ (e : place ≡ place_of_name name). let P : Row → Type 0 = RowIsInRange in
      subst P (sym (let at : place_of_name name < length image.rows = omega (arith, is.places) in
      get_or-set_at image.rows (place_of_name name) place r blank_row e at)) row)
      (λ (n : place ≢ place_of_name name). let P : Row → Type 0 = RowIsInRange in
      subst P (sym (get_or-set_other image.rows (place_of_name name) place r blank_row n)) (is.rows place h))
      (eq_or_not place (place_of_name name));
  view = is.view;
  view_number = is.view_number;
  resilience = is.resilience;
}

-- the rows after a View
pub image_after_view_has_rows : (image : Image) (first : Bool) (number : ℕ) (v : GroupView) (rows : List Row) → first ≡ is_blank_image image
    → length rows ≡ 16 → ((k : ℕ) → k < 16 → slice_index_or rows k blank_row
    ≡ row_after_view first number (slice_index v.members k) (slice_index_or image.rows k blank_row))
    → after image number (View v) ≡ record { view = v.stamp; view_number = number; resilience = v.resilience; rows = rows }
unfolding after
image_after_view_has_rows image first number v rows e long each =
    rw (← e) (ap (λ l. let i : Image = record { view = v.stamp; view_number = number; resilience = v.resilience; rows = l } in
    i) (sym (sixteen_items_are_by_place (λ k. row_after_view first number (slice_index v.members k) (slice_index_or image.rows k blank_row)) rows blank_row long each)))

pub image_after_view_is_image : (stamp : Stamp) (number resilience : ℕ) (rows : List Row) → StampIsInRange stamp → NumberIsInRange number → resilience ≤ 15 → length rows ≡ 16
    → ((k : ℕ) → k < 16 → RowIsInRange (slice_index_or rows k blank_row))
    → ImageIsInRange (record { view = stamp; view_number = number; resilience = resilience; rows = rows })
image_after_view_is_image stamp number resilience rows s n r long each = record { places = long; rows = each; view = s; view_number = n; resilience = r }

-- one that isn't within
pub set_not_within_by_place : (a b : List ℕ) (place : ℕ) → place < 16 → ((slice_index a place == 0) || (slice_index a place == slice_index b place)) ≡ false
    → false ≡ names_are_within a b
set_not_within_by_place a b place h e =
    let p : ℕ → Bool = λ k. (slice_index a k == 0) || (slice_index a k == slice_index b k) in
    sym (list_all_at p (range_with_len 0 16) place 0 h (ap p (get_or-range_with_len 0 16 place 0 h ∙ zero-add place) ∙ e))

all_true : (p : ℕ → Bool) (a n : ℕ) → ((k : ℕ) → a ≤ k → k < a + n → p k ≡ true) → list_all p (range_with_len a n) ≡ true
all_true p a zero each = refl
all_true p a (suc n) each = rw (each a (omega arith) (omega arith)) (all_true p (a + 1) n (λ k l h. each k (omega arith) (omega arith)))

pub set_within_by_each_place : (a b : List ℕ) → ((k : ℕ) → k < 16 → ((slice_index a k == 0) || (slice_index a k == slice_index b k)) ≡ true) → true ≡ names_are_within a b
set_within_by_each_place a b each = sym (all_true (λ k. (slice_index a k == 0) || (slice_index a k == slice_index b k)) 0 16 (λ k l h. each k (omega arith)))

-- the members after a row is set: whose membership stays, who joins and who leaves
pub members_after_row_stays : (image : Image) (name : ℕ) (r : Row) → r.life ≡ (row_at_place image name).life → r.joined ≡ (row_at_place image name).joined
    → r.left ≡ (row_at_place image name).left → members_of_image image ≡ slice_set (members_of_image image) (place_of_name name) (member_life_of_row r)
members_after_row_stays image name r a b d =
    let e : member_life_of_row r ≡ member_life_of_row (row_at_place image name) = rw (a, b, d) refl in
    sym (map-set_same member_life_of_row image.rows (place_of_name name) r blank_row e) ∙ map-set member_life_of_row image.rows (place_of_name name) r

pub members_after_row_joins : (image : Image) (name : ℕ) (r : Row) → r.life ≡ life_of_name name → 0 < r.joined → r.left ≡ 0
    → with_name (members_of_image image) name ≡ slice_set (members_of_image image) (place_of_name name) (member_life_of_row r)
members_after_row_joins image name r a b d =
    let e : member_life_of_row r ≡ life_of_name name = grind (arith, nat_tests) in
    ap (slice_set (members_of_image image) (place_of_name name)) (sym e)

no_member : (r : Row) (m life : ℕ) → m ≡ member_life_of_row r → r.life ≡ life → (m == life) ≡ false → member_life_of_row r ≡ 0
no_member r m life a b f = grind (arith, nat_tests)

pub members_after_row_set : (image : Image) (name : ℕ) (r : Row) → length image.rows ≡ 16 → (row_at_place image name).life ≡ life_of_name name → r.life ≡ life_of_name name
    → 0 < r.left → without_name (members_of_image image) name ≡ slice_set (members_of_image image) (place_of_name name) (member_life_of_row r)
members_after_row_set image name r long a b d =
    let none : member_life_of_row r ≡ 0 = grind (arith, nat_tests) in
    let at = member_at image.rows (place_of_name name) (omega arith) in
    split_on_bool_of_log (has (members_of_image image) name)
    (λ t. rw t (ap (slice_set (members_of_image image) (place_of_name name)) (sym none)))
    (λ f.
    let gone : slice_index (members_of_image image) (place_of_name name) ≡ 0 = at
    ∙ no_member (row_at_place image name) (slice_index (members_of_image image) (place_of_name name)) (life_of_name name) at a f in
    rw f (sym (ap (slice_set (members_of_image image) (place_of_name name)) (none ∙ sym gone) ∙ set-get_or (members_of_image image) (place_of_name name) 0)))

pub ruleset members_of_rows_rules = (members_after_row_stays, members_after_row_joins, members_after_row_set)

pub table_with_row_is_table : (image : Image) (name : ℕ) (r : Row) (members : List ℕ) → ImageIsInRange image → RowIsInRange r
    → members ≡ slice_set (members_of_image image) (place_of_name name) (member_life_of_row r) → IsTable (image_with_row image name r) members
table_with_row_is_table image name r members is row e = record {
  rows = with_row_is_image image name r is row;
  names = e
      ∙ sym (map-set member_life_of_row image.rows (place_of_name name) r);
}
