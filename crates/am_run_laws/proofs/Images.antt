-- Where the number of a row's joining stands in the whole list.
use Rattle.am_model.specs.Node.{founding_view}
use Rattle.am_run_laws.proofs.UnballotedWords.{place_and_life_give_name, ◌≡◌, ◌≢◌, ◌⊎◌, ⊎_elim, inl, inr, ℕ, ◌+◌, ◌<◌, ◌==◌, true, false, List, [], ◌∷◌, ◌++◌, length, slice_index}
use Rattle.am_run_laws.proofs.UnballotedWords.{Some, refl, sym, ap, ◌∙◌, subst, append_assoc, append-nil, arith, get_or-replicate, All, nat_tests, All-head}
use Rattle.am_run_laws.proofs.UnballotedWords.{All-tail, Row, Image, Entry, Data, Join, Leave, View, Rules, has, place_of_name, life_of_name, blank, blank_row, image_after_entries, after}
use Rattle.am_run_laws.proofs.UnballotedWords.{row_at_place, image_with_row, item_at, founders_entry, is_view, split_on_bool, image_of_list, row_of_place, row_of_with_row, row_after_pushed_view, image_after_pushed_entry}
use Rattle.am_run_laws.proofs.UnballotedWords.{image_has_sixteen_rows, slice_get_of_pushed}
use Rattle.am_run_laws.proofs.{Lists.item_at_of_appended, Lists.slice_get_is_item_at, First.ListHasOnlyFoundersView}

-- a row whose place has joined is a founder's, or that of a Join at this number
pub record RowTellsItsJoin (rules : Rules) (list : List Entry) (place : ℕ) (r : Row) : Type 0 where
  pub lives : 0 < r.joined → 0 < r.life
  pub joined : (name : ℕ) → place_of_name name ≡ place → 0 < r.joined → r.life ≡ life_of_name name
      → (has rules.founders name ≡ true) ⊎ (item_at list r.joined ≡ Some (Join name))

pub record AllRowsTellTheirJoin (rules : Rules) (list : List Entry) : Type 0 where
  pub each : (place : ℕ) → place < 16 → RowTellsItsJoin rules list place (row_of_place (image_of_list list) place)

row_more : (rules : Rules) (list more : List Entry) (place : ℕ) (r s : Row) → s.joined ≡ r.joined → s.life ≡ r.life → RowTellsItsJoin rules list place r
    → RowTellsItsJoin rules (list ++ more) place s
row_more rules list more place r s a b h = record {
  lives = λ up. (let z = h.lives (subst (λ n. 0 < n) a up) in omega arith);
  joined = λ name at up is.
      (⊎_elim (λ (x : has rules.founders name ≡ true). inl x)
      (λ (x : item_at list r.joined ≡ Some (Join name)). inr (ap (item_at (list ++ more)) a ∙ item_at_of_appended list more r.joined (Join name) x))
      (h.joined name at (subst (λ n. 0 < n) a up) (sym b ∙ is)));
}

-- the row of a name that joins
row_new : (rules : Rules) (list : List Entry) (place joiner n : ℕ) → n ≡ length list + 1 → place ≡ place_of_name joiner
    → RowTellsItsJoin rules (list ++ Join joiner ∷ []) place (record { life = life_of_name joiner; joined = n; left = 0; last = 0 })
row_new rules list place joiner n e p = record {
  lives = λ up. omega arith;
  joined = λ name at up is. inr (let same : joiner ≡ name = place_and_life_give_name joiner name (sym p ∙ sym at) is in
      slice_get_is_item_at (list ++ Join joiner ∷ []) n (length list) (Join name) e (slice_get_of_pushed list (Join joiner) ∙ ap (λ x. Some (Join x)) same));
}

-- by what an entry does to one row
row_by : (rules : Rules) (list : List Entry) (e : Entry) (image : Image) (name place : ℕ) (r : Row) → length image.rows ≡ 16
    → (place ≡ place_of_name name → RowTellsItsJoin rules (list ++ e ∷ []) place r) → RowTellsItsJoin rules list place (row_of_place image place)
    → RowTellsItsJoin rules (list ++ e ∷ []) place (row_of_place (image_with_row image name r) place)
row_by rules list e image name place r long f h = ⊎_elim
    (λ (x : (place ≡ place_of_name name) × (row_of_place (image_with_row image name r) place ≡ r)). subst (RowTellsItsJoin rules (list ++ e ∷ []) place) (sym x.1) (f x.0))
    (λ (x : (place ≢ place_of_name name) × (row_of_place (image_with_row image name r) place ≡ row_of_place image place)). subst (RowTellsItsJoin rules (list ++ e ∷ []) place) (sym x.1)
    (row_more rules list (e ∷ []) place (row_of_place image place) (row_of_place image place) refl refl h))
    (row_of_with_row image name place r long)

row_after : (rules : Rules) (list : List Entry) (e : Entry) (place : ℕ) → place < 16 → is_view e ≡ false → AllRowsTellTheirJoin rules list
    → RowTellsItsJoin rules (list ++ e ∷ []) place (row_of_place (after (image_of_list list) (1 + length list) e) place)
unfolding after
row_after rules list (Data from req body) place low plain h =
    let image = image_of_list list in
    let e = Data from req body in
    split_on_bool ((row_at_place image from).life == life_of_name from)
    (λ t. rw t (row_by rules list e image from place _ (image_has_sixteen_rows list)
    (λ p. row_more rules list (e ∷ []) place (row_of_place image place) _ (ap (λ x. (row_of_place image x).joined) (sym p)) (ap (λ x. (row_of_place image x).life) (sym p))
    (h.each place low)) (h.each place low)))
    (λ f. rw f (row_more rules list (e ∷ []) place (row_of_place image place) (row_of_place image place) refl refl (h.each place low)))
row_after rules list (Join name) place low plain h = row_by rules list (Join name) (image_of_list list) name place _ (image_has_sixteen_rows list)
    (λ p. row_new rules list place name (1 + length list) (omega arith) p) (h.each place low)
row_after rules list (Leave name) place low plain h =
    let image = image_of_list list in
    let e = Leave name in
    split_on_bool ((row_at_place image name).life == life_of_name name)
    (λ t. rw t (row_by rules list e image name place _ (image_has_sixteen_rows list)
    (λ p. row_more rules list (e ∷ []) place (row_of_place image place) _ (ap (λ x. (row_of_place image x).joined) (sym p)) (ap (λ x. (row_of_place image x).life) (sym p))
    (h.each place low)) (h.each place low)))
    (λ f. rw f (row_more rules list (e ∷ []) place (row_of_place image place) (row_of_place image place) refl refl (h.each place low)))
row_after rules list (View v) place low plain h = absurd (cc)

rows_push : (rules : Rules) (list : List Entry) (e : Entry) → is_view e ≡ false → AllRowsTellTheirJoin rules list → AllRowsTellTheirJoin rules (list ++ e ∷ [])
rows_push rules list e plain h = record {
  each = λ place low. subst (λ i. RowTellsItsJoin rules (list ++ e ∷ []) place (row_of_place i place)) (sym (image_after_pushed_entry list e))
      (row_after rules list e place low plain h);
}

rows_go_on : (rules : Rules) (list es : List Entry) → All (λ e. is_view e ≡ false) es → AllRowsTellTheirJoin rules list → AllRowsTellTheirJoin rules (list ++ es)
rows_go_on rules list [] plain h = subst (AllRowsTellTheirJoin rules) (sym (append-nil list)) h
rows_go_on rules list (e ∷ es) plain h =
    let P : Entry → Type 0 = λ x. is_view x ≡ false in
    subst (AllRowsTellTheirJoin rules) (append_assoc list (e ∷ []) es) (rows_go_on rules (list ++ e ∷ []) es (All-tail P e es plain)
    (rows_push rules list e (All-head P e es plain) h))

-- the founders' rows
row_founded : (rules : Rules) (place : ℕ) → place < 16 → RowTellsItsJoin rules (founders_entry rules ∷ []) place (row_of_place (after blank 1 (founders_entry rules)) place)
row_founded rules place low =
    let none : row_of_place blank place ≡ blank_row = get_or-replicate 16 place blank_row blank_row low in
    let is = row_after_pushed_view blank 1 (founding_view rules) place low in
    let life = slice_index rules.founders place in
    subst (RowTellsItsJoin rules (founders_entry rules ∷ []) place) (sym is)
    (split_on_bool (life == 0)
    (λ t. rw t (rw none (record { lives = λ up. absurd (omega arith); joined = λ name at up. absurd (omega arith) })))
    (λ f. rw f (record {
      lives = λ up. grind (arith, nat_tests);
      joined = λ name at up same. inl (let there : slice_index rules.founders (place_of_name name) ≡ life_of_name name = ap (slice_index rules.founders) at ∙ same in
          grind (arith, nat_tests));
    })))

pub list_rows_tell_their_join : (rules : Rules) (list : List Entry) → ListHasOnlyFoundersView rules list → AllRowsTellTheirJoin rules list
unfolding image_after_entries
list_rows_tell_their_join rules list h = subst (AllRowsTellTheirJoin rules) (sym h.is) (rows_go_on rules (founders_entry rules ∷ []) h.rest h.plain
    (record { each = λ place low. row_founded rules place low }))
