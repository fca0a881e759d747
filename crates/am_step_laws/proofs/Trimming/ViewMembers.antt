-- The members after a send, and after a View of some of them.
use Rattle.am_step_laws.proofs.Words.{members_of_at_place, ◌≡◌, ◌⊎◌, inl, inr, ⊎_elim, ℕ, ◌<◌, ◌==◌, ◌&&◌, not, nat_lt, Bool, true, false, List, length, set, get_or}
use Rattle.am_step_laws.proofs.Words.{slice_index, refl, sym, ap, ◌∙◌, arith, nat_tests, map-set, set-get_or, ext_get_or, length-map, Data, View, Row, Image}
use Rattle.am_step_laws.proofs.Words.{GroupView, place_of_name, life_of_name, name_of_place_and_life, is_blank_image, row_at_place, member_life_of_row, members_of_image, row_after_view, after}
use Rattle.am_step_laws.proofs.Words.{slice_index-by_place, length-by_place, row_at_place_of_image, mod_sixteen_lt, row_after_pushed_view, sixteen_rows_after_entry, blank_image_has_nobody_joined, life_where_name_passes, names_that_pass, split_on_bool}

-- ---- members, place by place

pub members_after_data : (image : Image) (n from req : ℕ) (body : List ℕ) → length image.rows ≡ 16
    → members_of_image (after image n (Data from req body)) ≡ members_of_image image
unfolding after
members_after_data image n from req body long = split_on_bool ((row_at_place image from).life == life_of_name from)
    (λ t.
    let low = mod_sixteen_lt from in
    let same : member_life_of_row (row_at_place image from) ≡ get_or (members_of_image image) (place_of_name from) 0 = sym (members_of_at_place image (place_of_name from) long low) in
    rw t (map-set member_life_of_row image.rows (place_of_name from) (record (row_at_place image from) { last = req }) ∙ ap (set (members_of_image image) (place_of_name from)) same
    ∙ set-get_or (members_of_image image) (place_of_name from) 0))
    (λ f. rw f refl)

-- a View of some of the members makes them the members
view_life : (n given : ℕ) (r : Row) → 0 < n → (given ≡ 0) ⊎ (given ≡ member_life_of_row r) → member_life_of_row (row_after_view false n given r) ≡ given
view_life n given r up why = split_on_bool (nat_lt 0 (member_life_of_row r) && not (member_life_of_row r == given))
    (λ t. rw t (⊎_elim
    (λ (none : given ≡ 0). (let gone : member_life_of_row (record r { left = n }) ≡ 0 = grind (arith, nat_tests) in gone ∙ sym none))
    (λ (is : given ≡ member_life_of_row r). absurd (let z : ⊥ = grind (arith, nat_tests) in z))
    why))
    (λ f. rw f (⊎_elim
    (λ (none : given ≡ 0). (let z : member_life_of_row r ≡ given = grind (arith, nat_tests) in z))
    (λ (is : given ≡ member_life_of_row r). sym is)
    why))

first_life : (n given : ℕ) (r : Row) → r.joined ≡ 0 → (given ≡ 0) ⊎ (given ≡ member_life_of_row r) → member_life_of_row (row_after_view true n given r) ≡ given
first_life n given r free why =
    let none : member_life_of_row r ≡ 0 = grind (arith, nat_tests) in
    let zero_ : given ≡ 0 = ⊎_elim (λ (z : given ≡ 0). z) (λ (is : given ≡ member_life_of_row r). is ∙ none) why in
    let t : (given == 0) ≡ true = grind (arith, nat_tests) in
    rw t (none ∙ sym zero_)

any_life : (first : Bool) (n given : ℕ) (r : Row) → 0 < n → (first ≡ true → r.joined ≡ 0) → (given ≡ 0) ⊎ (given ≡ member_life_of_row r)
    → member_life_of_row (row_after_view first n given r) ≡ given
any_life true n given r up free why = first_life n given r (free refl) why
any_life false n given r up free why = view_life n given r up why

pub members_after_view : (image : Image) (n : ℕ) (v : GroupView) → length image.rows ≡ 16 → 0 < n → length v.members ≡ 16
    → ((place : ℕ) → place < 16 → (slice_index v.members place ≡ 0) ⊎ (slice_index v.members place ≡ slice_index (members_of_image image) place))
    → members_of_image (after image n (View v)) ≡ v.members
members_after_view image n v long up sixteen some =
    let next = after image n (View v) in
    let longer = sixteen_rows_after_entry image n (View v) long in
    let many : length (members_of_image next) ≡ 16 = length-map next.rows member_life_of_row ∙ longer in
    ext_get_or 0 (members_of_image next) v.members (many ∙ sym sixteen) (λ place low.
    (let few : place < 16 = omega arith in
    let is = row_after_pushed_view image n v place few in
    let why : (slice_index v.members place ≡ 0) ⊎ (slice_index v.members place ≡ member_life_of_row (row_at_place_of_image image place)) =
    ⊎_elim (λ (z : slice_index v.members place ≡ 0). inl z) (λ (z : slice_index v.members place ≡ slice_index (members_of_image image) place). inr (z
    ∙ members_of_at_place image place long few)) (some place few) in
    members_of_at_place next place longer few ∙ ap member_life_of_row is ∙ any_life (is_blank_image image) n (slice_index v.members place) (row_at_place_of_image image place) up
    (λ t. blank_image_has_nobody_joined image place t) why))

-- those that pass are some of the set
pub selected_place_same_or_empty : (test : ℕ → Bool) (names : List ℕ) (place : ℕ) → place < 16
    → (slice_index (names_that_pass test names) place ≡ 0) ⊎ (slice_index (names_that_pass test names) place ≡ slice_index names place)
unfolding names_that_pass
selected_place_same_or_empty test names place low =
    let life = slice_index names place in
    let at = slice_index-by_place (λ p. life_where_name_passes test p (slice_index names p)) place low in
    split_on_bool (life == 0)
    (λ t. inl (at ∙ rw t refl))
    (λ f. split_on_bool (test (name_of_place_and_life place life))
    (λ t. inr (at ∙ rw (f, t) refl))
    (λ g. inl (at ∙ rw (f, g) refl)))

pub length_of_selection : (test : ℕ → Bool) (names : List ℕ) → length (names_that_pass test names) ≡ 16
unfolding names_that_pass
length_of_selection test names = length-by_place (λ p. life_where_name_passes test p (slice_index names p))
