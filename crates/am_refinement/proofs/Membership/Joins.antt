-- Where a name became a member of a list: its row tells the number.
use Rattle.am_refinement.proofs.Words.{place_and_life_give_name, split_on_bool, ◌≡◌, ◌⊎◌, inl, inr, either, ℕ, ◌+◌, ◌<◌, ◌≤◌, ◌==◌, ◌&&◌, not, nat_lt, true, false, List, [], ◌∷◌}
use Rattle.am_refinement.proofs.Words.{◌++◌, length, take, slice_index, refl, sym, ap, ◌∙◌, subst, arith, nat_tests, append_assoc, Entry, Data, Join, Leave, View}
use Rattle.am_refinement.proofs.Words.{Row, Image, place_of_name, life_of_name, has, is_blank_image, row_at_place, row_of_name, member_life_of_row, members_of_image, image_with_row, row_after_view, fits}
use Rattle.am_refinement.proofs.Words.{after, IsBeginningOf, IsGoodList, image_of_list, is_member_at_end, list_begins_itself, front_begins_append, shorter_beginning_begins_longer, length_of_pushed_list, take_length_of_beginning}
use Rattle.am_refinement.proofs.Words.{left_of_and, row_of_place, row_after_pushed_view, IsMemberRow, IsPastRow, WasMemberRow, mod_sixteen_lt, row_of_with_row, blank_image_has_nobody_joined, past_row_after_entry, member_row_is_not_past, view_fits_parts, beginning_of_good_is_good}
use Rattle.am_refinement.proofs.Words.{image_after_pushed_entry, last_entry_fits, image_has_sixteen_rows, member_has_member_row, member_row_gives_member, empty_list_has_no_member, name_in_view_is_member, was_member_in_longer_list, is_view}
use Rattle.am_refinement.proofs.Names.{take_of_longer_list}
use Rattle.am_refinement.proofs.Growing.{beginning_of_nil_is_nil}

-- ---- a Join

pub joined_name_is_member : (a : List Entry) (name : ℕ) → is_member_at_end (a ++ Join name ∷ []) name ≡ true
unfolding after
joined_name_is_member a name =
    let r : Row = record { life = life_of_name name; joined = 1 + length a; left = 0; last = 0 } in
    member_row_gives_member (a ++ Join name ∷ []) name (subst (λ (i : Image). IsMemberRow (row_of_place i (place_of_name name)) (life_of_name name)) (sym (image_after_pushed_entry a (Join name)))
    (either (row_of_with_row (image_of_list a) name (place_of_name name) r (image_has_sixteen_rows a))
    (λ z. subst (λ q. IsMemberRow q (life_of_name name)) (sym z.1)
    (record { joined = omega arith; left = refl; is = refl }))
    (λ z. absurd (z.0 refl))))

-- whose Join comes was no member before
joined_once : (a : List Entry) (name : ℕ) → IsGoodList (a ++ Join name ∷ []) → WasMemberRow (row_of_place (image_of_list a) (place_of_name name)) (life_of_name name) → ⊥
unfolding fits
joined_once a name good was =
    let fit = last_entry_fits a (Join name) good in
    let here = member_has_member_row (a ++ Join name ∷ []) name (joined_name_is_member a name) in
    either was
    (λ h. (let j = h.joined in let l = h.left in let z : ⊥ = grind (arith, nat_tests) in z))
    (λ h. (let gone = past_row_after_entry (image_of_list a) (1 + length a) (Join name) (place_of_name name) (life_of_name name) (image_has_sixteen_rows a) (mod_sixteen_lt name) (omega arith) fit h in
    member_row_is_not_past (row_of_place (image_of_list (a ++ Join name ∷ [])) (place_of_name name)) (life_of_name name) here
    (subst (λ (i : Image). IsPastRow (row_of_place i (place_of_name name)) (life_of_name name)) (sym (image_after_pushed_entry a (Join name))) gone)))

-- ---- what a row was before an entry

-- a name that is a member now was one, or this is its Join, or the first View
pub data BecameMemberBy (image : Image) (n : ℕ) (e : Entry) (name : ℕ) : Type 0 where
  stayed : IsMemberRow (row_of_place image (place_of_name name)) (life_of_name name) → (row_of_place (after image n e) (place_of_name name)).joined ≡ (row_of_place image (place_of_name name)).joined
      → BecameMemberBy image n e name
  joins : e ≡ Join name → (row_of_place (after image n e) (place_of_name name)).joined ≡ n → BecameMemberBy image n e name
  founds : is_view e ≡ true → is_blank_image image ≡ true → (row_of_place (after image n e) (place_of_name name)).joined ≡ 1 → BecameMemberBy image n e name

-- where one row is another
with_other : (image : Image) (who name : ℕ) (r : Row) → length image.rows ≡ 16 → IsMemberRow (row_of_place (image_with_row image who r) (place_of_name name)) (life_of_name name)
    → ((place_of_name name ≡ place_of_name who) × (row_of_place (image_with_row image who r) (place_of_name name) ≡ r) × IsMemberRow r (life_of_name name))
    ⊎ (IsMemberRow (row_of_place image (place_of_name name)) (life_of_name name) × (row_of_place (image_with_row image who r) (place_of_name name) ≡ row_of_place image (place_of_name name)))
with_other image who name r long h = either (row_of_with_row image who (place_of_name name) r long)
    (λ z. inl (z.0, z.1, subst (λ q. IsMemberRow q (life_of_name name)) z.1 h))
    (λ z. inr (subst (λ q. IsMemberRow q (life_of_name name)) z.1 h, z.1))

pub new_member_came_by_entry : (image : Image) (n : ℕ) (e : Entry) (name : ℕ) → length image.rows ≡ 16 → 0 < n
    → IsMemberRow (row_of_place (after image n e) (place_of_name name)) (life_of_name name) → BecameMemberBy image n e name
unfolding after
new_member_came_by_entry image n (Data from req body) name long some = split_on_bool ((row_at_place image from).life == life_of_name from)
    (λ t.
    let r : Row = record (row_at_place image from) { last = req } in
    rw t (λ h. either (with_other image from name r long h)
    (λ z. (let k = z.2 in
    let here : row_of_place image (place_of_name name) ≡ row_at_place image from = ap (row_of_place image) z.0 in
    stayed (subst (λ q. IsMemberRow q (life_of_name name)) (sym here) (record { joined = k.joined; left = k.left; is = k.is }))
    (rw t (ap (λ (q : Row). q.joined) z.1 ∙ ap (λ (q : Row). q.joined) (sym here)))))
    (λ z. stayed z.0 (rw t (ap (λ (q : Row). q.joined) z.1)))))
    (λ f. rw f (λ h. stayed h (rw f refl)))
new_member_came_by_entry image n (Join joiner) name long some = λ h.
    let r : Row = record { life = life_of_name joiner; joined = n; left = 0; last = 0 } in
    either (with_other image joiner name r long h)
    (λ z. (let k = z.2 in joins (ap Join (place_and_life_give_name joiner name (sym z.0) k.is)) (ap (λ (q : Row). q.joined) z.1)))
    (λ z. stayed z.0 (ap (λ (q : Row). q.joined) z.1))
new_member_came_by_entry image n (Leave leaver) name long some = split_on_bool ((row_at_place image leaver).life == life_of_name leaver)
    (λ t.
    let r : Row = record (row_at_place image leaver) { left = n } in
    rw t (λ h. either (with_other image leaver name r long h)
    (λ z. absurd (let k = z.2 in let none = k.left in omega arith))
    (λ z. stayed z.0 (rw t (ap (λ (q : Row). q.joined) z.1)))))
    (λ f. rw f (λ h. stayed h (rw f refl)))
new_member_came_by_entry image n (View v) name long some = λ h.
    let place = place_of_name name in
    let is = row_after_pushed_view image n v place (mod_sixteen_lt name) in
    let now = subst (λ q. IsMemberRow q (life_of_name name)) is h in
    split_on_bool (is_blank_image image)
    (λ t. first t is (ap (λ b. row_after_view b n (slice_index v.members place) (row_of_place image place)) t) now)
    (λ f. later is (ap (λ b. row_after_view b n (slice_index v.members place) (row_of_place image place)) f) now)
  where
    first : is_blank_image image ≡ true → row_of_place (after image n (View v)) (place_of_name name) ≡ row_after_view (is_blank_image image) n
        (slice_index v.members (place_of_name name)) (row_of_place image (place_of_name name))
        → row_after_view (is_blank_image image) n (slice_index v.members (place_of_name name)) (row_of_place image (place_of_name name))
        ≡ row_after_view true n (slice_index v.members (place_of_name name)) (row_of_place image (place_of_name name))
        → IsMemberRow (row_after_view (is_blank_image image) n (slice_index v.members (place_of_name name)) (row_of_place image (place_of_name name))) (life_of_name name)
        → BecameMemberBy image n (View v) name
    first t is same now = split_on_bool (slice_index v.members (place_of_name name) == 0)
        (λ u. absurd (let old : IsMemberRow (row_of_place image (place_of_name name)) (life_of_name name) = rw u at (subst (λ q. IsMemberRow q (life_of_name name)) same now) in
        let none = blank_image_has_nobody_joined image (place_of_name name) t in omega arith))
        (λ f. founds refl t (ap (λ (q : Row). q.joined) (is ∙ same) ∙ rw f refl))

    later : row_of_place (after image n (View v)) (place_of_name name) ≡ row_after_view (is_blank_image image) n (slice_index v.members (place_of_name name))
        (row_of_place image (place_of_name name))
        → row_after_view (is_blank_image image) n (slice_index v.members (place_of_name name)) (row_of_place image (place_of_name name))
        ≡ row_after_view false n (slice_index v.members (place_of_name name)) (row_of_place image (place_of_name name))
        → IsMemberRow (row_after_view (is_blank_image image) n (slice_index v.members (place_of_name name)) (row_of_place image (place_of_name name))) (life_of_name name)
        → BecameMemberBy image n (View v) name
    later is same now = split_on_bool (nat_lt 0 (member_life_of_row (row_of_place image (place_of_name name))) && not
        (member_life_of_row (row_of_place image (place_of_name name)) == slice_index v.members (place_of_name name)))
        (λ u. absurd (let k : IsMemberRow (record (row_of_place image (place_of_name name)) { left = n }) (life_of_name name) = rw u at (subst (λ q. IsMemberRow q (life_of_name name)) same now) in
        let none = k.left in omega arith))
        (λ f. stayed (rw f at (subst (λ q. IsMemberRow q (life_of_name name)) same now)) (ap (λ (q : Row). q.joined) (is ∙ same) ∙ rw f refl))

-- ---- a list that tells nothing is empty

some_was : (e : Entry) → IsGoodList ([] ++ e ∷ []) → (name : ℕ) × (is_member_at_end ([] ++ e ∷ []) name ≡ true)
unfolding fits is_member_at_end
some_was (Data from req body) good = absurd
    (empty_list_has_no_member from (left_of_and (has (members_of_image (image_of_list [])) from) (req == (row_of_name (image_of_list []) from).last + 1) (last_entry_fits [] (Data from req body) good)))
some_was (Join name) good = (name, joined_name_is_member [] name)
some_was (Leave name) good = absurd (empty_list_has_no_member name (last_entry_fits [] (Leave name) good))
some_was (View v) good = (
  v.stamp.by,
  name_in_view_is_member [] v v.stamp.by good
      (view_fits_parts (image_of_list []) v (last_entry_fits [] (View v) good)).by,
)

pub blank_image_is_of_nil : (list : List Entry) → IsGoodList list → is_blank_image (image_of_list list) ≡ true → list ≡ []
blank_image_is_of_nil [] good blank_ = refl
blank_image_is_of_nil (e ∷ es) good blank_ = absurd (
    let front = front_begins_append (e ∷ []) es in
    let one = some_was e (beginning_of_good_is_good front good) in
    let was = was_member_in_longer_list one.0 good front (inl (member_has_member_row (e ∷ []) one.0 one.1)) in
    let none = blank_image_has_nobody_joined (image_of_list (e ∷ es)) (place_of_name one.0) blank_ in
    either was
    (λ h. (let j = h.joined in let z : ⊥ = omega arith in z))
    (λ h. (let j = h.joined in let z : ⊥ = omega arith in z)))

-- ---- the number where it joined

pub record JoinedListAt (list : List Entry) (name join : ℕ) : Type 0 where
  pub some : 0 < join
  pub within : join ≤ length list
  pub member : is_member_at_end (take join list) name ≡ true
  pub first : (a : List Entry) → IsBeginningOf a list → length a < join → is_member_at_end a name ≡ true → ⊥

-- by its row
abbrev JoinsBy : List Entry → ℕ → Type 0
JoinsBy list name = IsMemberRow (row_of_place (image_of_list list) (place_of_name name)) (life_of_name name) → JoinedListAt list name (row_of_place (image_of_list list) (place_of_name name)).joined

-- it joined before
joins_before : (a : List Entry) (e : Entry) (name join : ℕ) → JoinedListAt a name join → JoinedListAt (a ++ e ∷ []) name join
joins_before a e name join h =
    let long = length_of_pushed_list a e in
    record {
      some = h.some;
      within = omega arith;
      member = subst (λ l. is_member_at_end l name ≡ true) (sym (take_of_longer_list join a (a ++ e ∷ []) (front_begins_append a (e ∷ [])) h.within)) h.member;
      first = λ b begins short. h.first b (shorter_beginning_begins_longer begins (front_begins_append a (e ∷ [])) (omega arith)) short;
    }

-- it joins now
joins_now : (a : List Entry) (e : Entry) (name : ℕ) → is_member_at_end (a ++ e ∷ []) name ≡ true → ((b : List Entry) → IsBeginningOf b a → is_member_at_end b name ≡ true → ⊥)
    → JoinedListAt (a ++ e ∷ []) name (1 + length a)
joins_now a e name member none =
    let long = length_of_pushed_list a e in
    let all : take (1 + length a) (a ++ e ∷ []) ≡ a ++ e ∷ [] = (let z : 1 + length a ≡ length (a ++ e ∷ []) = omega arith in ap (λ k. take k (a ++ e ∷ [])) z
    ∙ take_length_of_beginning (list_begins_itself (a ++ e ∷ []))) in
    record {
      some = omega arith;
      within = omega arith;
      member = subst (λ l. is_member_at_end l name ≡ true) (sym all) member;
      first = λ b begins short. none b (shorter_beginning_begins_longer begins (front_begins_append a (e ∷ [])) (omega arith));
    }

joins_push : (a : List Entry) (e : Entry) (name : ℕ) → IsGoodList (a ++ e ∷ []) → JoinsBy a name → JoinsBy (a ++ e ∷ []) name
joins_push a e name good h = λ in_.
    let here = member_row_gives_member (a ++ e ∷ []) name in_ in
    let row = ap (λ (i : Image). (row_of_place i (place_of_name name)).joined) (image_after_pushed_entry a e) in
    by_kind here row (new_member_came_by_entry (image_of_list a) (1 + length a) e name (image_has_sixteen_rows a) (omega arith)
    (subst (λ (i : Image). IsMemberRow (row_of_place i (place_of_name name)) (life_of_name name)) (image_after_pushed_entry a e) in_))
  where
    by_kind : is_member_at_end (a ++ e ∷ []) name ≡ true → (row_of_place (image_of_list (a ++ e ∷ [])) (place_of_name name)).joined ≡
        (row_of_place (after (image_of_list a) (1 + length a) e) (place_of_name name)).joined
        → BecameMemberBy (image_of_list a) (1 + length a) e name → JoinedListAt (a ++ e ∷ []) name (row_of_place (image_of_list (a ++ e ∷ [])) (place_of_name name)).joined
    by_kind here row (stayed old same) = subst (JoinedListAt (a ++ e ∷ []) name) (sym (row ∙ same)) (joins_before a e name _ (h old))
    by_kind here row (joins is same) = subst (JoinedListAt (a ++ e ∷ []) name) (sym (row ∙ same)) (joins_now a e name here (λ b begins member.
        joined_once a name (subst (λ x. IsGoodList (a ++ x ∷ [])) is good)
        (was_member_in_longer_list name (beginning_of_good_is_good (front_begins_append a (e ∷ [])) good) begins (inl (member_has_member_row b name member)))))
    by_kind here row (founds viewed_ blank_ same) =
        let nil = blank_image_is_of_nil a (beginning_of_good_is_good (front_begins_append a (e ∷ [])) good) blank_ in
        let at : (row_of_place (image_of_list (a ++ e ∷ [])) (place_of_name name)).joined ≡ 1 + length a = (let z = ap length nil in omega (arith, row ∙ same)) in
        subst (JoinedListAt (a ++ e ∷ []) name) (sym at)
        (joins_now a e name here (λ b begins member. empty_list_has_no_member name (subst (λ l. is_member_at_end l name ≡ true) (beginning_of_nil_is_nil b (subst (IsBeginningOf b) nil begins)) member)))

joins_walk : (a es : List Entry) (name : ℕ) → IsGoodList (a ++ es) → JoinsBy a name → JoinsBy (a ++ es) name
joins_walk a [] name good h = subst (λ l. JoinsBy l name) (sym (all_of a)) h
  where
    all_of : (a : List Entry) → a ++ [] ≡ a
    all_of [] = refl
    all_of (x ∷ xs) = ap (λ l. x ∷ l) (all_of xs)
joins_walk a (e ∷ es) name good h =
    let again : (a ++ e ∷ []) ++ es ≡ a ++ e ∷ es = append_assoc a (e ∷ []) es in
    let good_again = subst IsGoodList (sym again) good in
    subst (λ l. JoinsBy l name) again (joins_walk (a ++ e ∷ []) es name good_again
    (joins_push a e name (beginning_of_good_is_good (front_begins_append (a ++ e ∷ []) es) good_again) h))

-- a member's row tells where it joined
pub member_row_tells_its_join : (list : List Entry) (name : ℕ) → IsGoodList list → is_member_at_end list name ≡ true → JoinedListAt list name (row_of_place (image_of_list list) (place_of_name name)).joined
member_row_tells_its_join list name good member = joins_walk [] list name good (λ h. absurd (empty_list_has_no_member name (member_row_gives_member [] name h))) (member_has_member_row list name member)
