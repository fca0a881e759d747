-- Views and resilience rise along a list.
use Rattle.am_base.proofs.ChainWords.{split_on_bool, ◌≡◌, ℕ, ◌+◌, ◌<◌, ◌≤◌, ◌==◌, nat_lt, true, List, [], ◌∷◌, ◌++◌, length, refl, sym, ap, ◌∙◌, subst, arith}
use Rattle.am_base.proofs.ChainWords.{nat_tests, Stamp, GroupView, Image, Entry, Data, Join, Leave, View, has, life_of_name, rank_of_name, names_are_within, stamp_is_less, blank}
use Rattle.am_base.proofs.ChainWords.{after, fits, image_after_entries, AllEntriesFit, members_of_image, row_at_place, IsBeginningOf, IsGoodList, AllViewNamesAreBytes, ViewNameIsByte, IsNotView, image_of_list, stamp_of_list}
use Rattle.am_base.proofs.ChainWords.{resilience_of_list, key_of_stamp}
use Rattle.am_base.proofs.Members.{fold_entries_append, back_of_list_fits, names_in_back_are_small, image_after_pushed_entry, last_entry_fits, last_entry_has_small_name, beginning_of_good_is_good}
use Rattle.am_base.proofs.Rows.{view_fits_parts}

rank_small : (n : ℕ) → n < 256 → rank_of_name n < 256
rank_small n h = omega arith

pub same_rank_same_name : (a b : ℕ) → a < 256 → b < 256 → rank_of_name a ≡ rank_of_name b → a ≡ b
same_rank_same_name a b l k h = omega arith

pub key_is_less_for_lesser_stamp : (a b : Stamp) → a.by < 256 → b.by < 256 → stamp_is_less a b ≡ true → key_of_stamp a < key_of_stamp b
unfolding key_of_stamp
key_is_less_for_lesser_stamp a b l k h =
    let x = rank_small a.by l in
    let y = rank_small b.by k in
    split_on_bool (nat_lt a.round b.round)
    (λ t. let r : a.round < b.round = grind (arith, nat_tests) in omega arith)
    (λ f. let r : a.round ≡ b.round = grind (arith, nat_tests) in let q : rank_of_name a.by < rank_of_name b.by = grind (arith, nat_tests) in omega arith)

pub stamp_lt_of_key_lt : (a b : Stamp) → a.by < 256 → b.by < 256 → key_of_stamp a < key_of_stamp b → stamp_is_less a b ≡ true
unfolding key_of_stamp
stamp_lt_of_key_lt a b l k h =
    let x = rank_small a.by l in
    let y = rank_small b.by k in
    split_on_bool (nat_lt a.round b.round)
    (λ t. grind (arith, nat_tests))
    (λ f. let g : b.round ≤ a.round = grind (arith, nat_tests) in
    let r : a.round ≡ b.round = omega arith in let q : rank_of_name a.by < rank_of_name b.by = omega arith in grind (arith, nat_tests))

pub equal_keys_have_equal_names : (a b : Stamp) → a.by < 256 → b.by < 256 → key_of_stamp a ≡ key_of_stamp b → a.by ≡ b.by
unfolding key_of_stamp
equal_keys_have_equal_names a b l k h =
    let x = rank_small a.by l in
    let y = rank_small b.by k in
    let q : rank_of_name a.by ≡ rank_of_name b.by = omega arith in same_rank_same_name a.by b.by l k q

-- what an entry does to the view and the resilience
record Rises (a b : Image) : Type 0 where
  pub view : key_of_stamp a.view ≤ key_of_stamp b.view
  pub resilience : a.resilience ≤ b.resilience
  pub small : b.view.by < 256

rises_after : (image : Image) (n : ℕ) (e : Entry) → image.view.by < 256 → fits image e ≡ true → ViewNameIsByte e → Rises image (after image n e)
unfolding after
rises_after image n (Data from req body) l f s = split_on_bool ((row_at_place image from).life == life_of_name from)
    (λ t. rw t (record { view = omega arith; resilience = omega arith; small = l }))
    (λ t. rw t (record { view = omega arith; resilience = omega arith; small = l }))
rises_after image n (Join name) l f s = record { view = omega arith; resilience = omega arith; small = l }
rises_after image n (Leave name) l f s = split_on_bool ((row_at_place image name).life == life_of_name name)
    (λ t. rw t (record { view = omega arith; resilience = omega arith; small = l }))
    (λ t. rw t (record { view = omega arith; resilience = omega arith; small = l }))
rises_after image n (View w) l f s =
    let v = view_fits_parts image w f in
    let up = key_is_less_for_lesser_stamp image.view w.stamp l s v.above in
    record { view = omega arith; resilience = v.strong; small = s }

rises_fold : (image : Image) (n : ℕ) (es : List Entry) → image.view.by < 256 → AllEntriesFit image n es → AllViewNamesAreBytes es → Rises image (image_after_entries image n es)
unfolding image_after_entries AllEntriesFit AllViewNamesAreBytes
rises_fold image n [] l f s = record { view = omega arith; resilience = omega arith; small = l }
rises_fold image n (e ∷ es) l f s =
    let one = rises_after image n e l f.0 s.0 in
    let more = rises_fold (after image n e) (n + 1) es one.small f.1 s.1 in
    record { view = omega arith; resilience = omega arith; small = more.small }

rises_begins : {a b : List Entry} → IsGoodList b → IsBeginningOf a b → Rises (image_of_list a) (image_of_list b)
rises_begins {a} {b} g h =
    let ga = beginning_of_good_is_good h g in
    let low : 0 < 256 = omega arith in
    let start = rises_fold blank 1 a low ga.fit ga.small in
    let f = back_of_list_fits blank 1 a h.rest (subst (AllEntriesFit blank 1) (sym h.same) g.fit) in
    let s = names_in_back_are_small a h.rest (subst AllViewNamesAreBytes (sym h.same) g.small) in
    subst (Rises (image_of_list a)) (sym (fold_entries_append blank 1 a h.rest) ∙ ap image_of_list h.same) (rises_fold (image_of_list a) (1 + length a) h.rest start.small f s)

pub view_key_grows_along_list : {a b : List Entry} → IsGoodList b → IsBeginningOf a b → key_of_stamp (stamp_of_list a) ≤ key_of_stamp (stamp_of_list b)
unfolding stamp_of_list
view_key_grows_along_list g h = (rises_begins g h).view

pub resilience_grows_along_list : {a b : List Entry} → IsGoodList b → IsBeginningOf a b → resilience_of_list a ≤ resilience_of_list b
unfolding resilience_of_list
resilience_grows_along_list g h = (rises_begins g h).resilience

pub name_of_view_is_byte : (a : List Entry) → IsGoodList a → (stamp_of_list a).by < 256
unfolding stamp_of_list
name_of_view_is_byte a g = let low : 0 < 256 = omega arith in (rises_fold blank 1 a low g.fit g.small).small

-- a View's stamp and resilience are the list's after it
pub view_after_pushed_view : (a : List Entry) (v : GroupView) → stamp_of_list (a ++ View v ∷ []) ≡ v.stamp
unfolding stamp_of_list after
view_after_pushed_view a v = ap (λ (i : Image). i.view) (image_after_pushed_entry a (View v))

pub resilience_of_pushed_view : (a : List Entry) (v : GroupView)
    → resilience_of_list (a ++ View v ∷ []) ≡ v.resilience
unfolding resilience_of_list after
resilience_of_pushed_view a v = ap (λ (i : Image). i.resilience) (image_after_pushed_entry a (View v))

-- and above the views before it
pub view_below_pushed_view : (a : List Entry) (v : GroupView) → IsGoodList (a ++ View v ∷ [])
    → key_of_stamp (stamp_of_list a) < key_of_stamp v.stamp
unfolding fits stamp_of_list
view_below_pushed_view a v g =
    let f = last_entry_fits a (View v) g in
    let lt = (view_fits_parts (image_of_list a) v f).above in
    key_is_less_for_lesser_stamp (image_of_list a).view v.stamp (small_before a g) (last_entry_has_small_name a (View v) g) lt
  where
    small_before : (a : List Entry) → IsGoodList (a ++ View v ∷ []) → (image_of_list a).view.by < 256
    small_before a g = let h : IsBeginningOf a (a ++ View v ∷ []) = record { rest = View v ∷ []; same = refl } in
        let ga = beginning_of_good_is_good h g in let low : 0 < 256 = omega arith in (rises_fold blank 1 a low ga.fit ga.small).small

view_same : (image : Image) (n : ℕ) (e : Entry) → IsNotView e → (after image n e).view ≡ image.view
unfolding after
view_same image n (Data from req body) h = split_on_bool ((row_at_place image from).life == life_of_name from) (λ t. rw t refl) (λ t. rw t refl)
view_same image n (Join name) h = refl
view_same image n (Leave name) h = split_on_bool ((row_at_place image name).life == life_of_name name) (λ t. rw t refl) (λ t. rw t refl)
view_same image n (View v) h = absurd h

-- an entry that is no View leaves the view
pub view_stays_by_pushed_non_view : (a : List Entry) (e : Entry) → IsNotView e → stamp_of_list (a ++ e ∷ []) ≡ stamp_of_list a
unfolding stamp_of_list
view_stays_by_pushed_non_view a e h = ap (λ (i : Image). i.view) (image_after_pushed_entry a e) ∙ view_same (image_of_list a) (1 + length a) e h

-- a View of some of the members, by one of them, with a greater stamp and no less resilience fits
pub greater_view_fits : (a : List Entry) (v : GroupView) → IsGoodList a → v.stamp.by < 256 → key_of_stamp (stamp_of_list a) < key_of_stamp v.stamp
    → names_are_within v.members (members_of_image (image_of_list a)) ≡ true → has v.members v.stamp.by ≡ true → resilience_of_list a ≤ v.resilience
    → fits (image_of_list a) (View v) ≡ true
unfolding fits stamp_of_list resilience_of_list
greater_view_fits a v g s up w h r =
    let low : 0 < 256 = omega arith in
    let lt = stamp_lt_of_key_lt (image_of_list a).view v.stamp (rises_fold blank 1 a low g.fit g.small).small s up in
    grind (arith, nat_tests)
