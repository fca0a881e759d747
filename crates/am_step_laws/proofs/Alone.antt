-- A sequencer that is alone is so once its own Leave is numbered, and so it tells nobody.
use Rattle.am_step_laws.proofs.EffectWords.{members_of_after_data, ◌≡◌, ℕ, zero, suc, ◌+◌, ◌<◌, ◌≤◌, ◌==◌, nat_lt, Bool, true, false, if◌then◌else◌, List, [], ◌∷◌, length}
use Rattle.am_step_laws.proofs.EffectWords.{slice_index, slice_set, get_or-set_same, get_or-set_other, refl, sym, ap, ◌∙◌, subst, arith, nat_tests, map-set}
use Rattle.am_step_laws.proofs.EffectWords.{get_or_past, length-set, Image, Row, Data, Leave, place_of_name, life_of_name, has, size, without_name, Log, image_of_log, row_at_place}
use Rattle.am_step_laws.proofs.EffectWords.{members_of_image, member_life_of_row, after, slice_index-by_place, length-by_place, Node, top, image_of_node, life_where_name_passes, names_that_pass, other_members}
use Rattle.am_step_laws.proofs.EffectWords.{push_entry, refresh_at_end, split_on_bool, size_cons}
use Rattle.am_step_laws.proofs.{Rests.end_refresh_rests_with_list, Says.image_of_pushed_entry}

-- ---- sets without a name

-- at each place
abbrev IsNone : List ℕ → Type 0
IsNone set = (i : ℕ) → slice_index set i ≡ 0

none_of : (set : List ℕ) → size set ≡ 0 → IsNone set
none_of [] none i = refl
none_of (zero ∷ lives) none zero = refl
none_of (zero ∷ lives) none (suc i) = none_of lives (let more = size_cons zero lives in omega arith) i
none_of (suc b ∷ lives) none i =
    let some : nat_lt 0 (suc b) ≡ true = grind (arith, nat_tests) in
    let one : size (suc b ∷ lives) ≡ 1 + size lives = size_cons (suc b) lives ∙ ap (λ t. (if t then 1 else 0) + size lives) some in
    absurd (omega arith)

size_none : (set : List ℕ) → IsNone set → size set ≡ 0
size_none [] h = refl
size_none (life ∷ lives) h =
    let first : life ≡ 0 = h 0 in
    let none : nat_lt 0 life ≡ false = grind (arith, nat_tests) in
    let more = size_cons life lives ∙ ap (λ t. (if t then 1 else 0) + size lives) none in
    let rest = size_none lives (λ i. h (suc i)) in
    omega arith

-- one name less
set_none : (set : List ℕ) (p : ℕ) → IsNone set → IsNone (slice_set set p 0)
set_none set p h i = split_on_bool (i == p)
    (λ t. let same : i ≡ p = grind (arith, nat_tests) in
    subst (λ k. slice_index (slice_set set p 0) k ≡ 0) (sym same) (split_on_bool (nat_lt p (length set))
    (λ low. get_or-set_same set p 0 0 (let z : p < length set = grind (arith, nat_tests) in z))
    (λ high. get_or_past (slice_set set p 0) p 0 (let long = length-set set p 0 in let z : length set ≤ p = grind (arith, nat_tests) in omega arith))))
    (λ f. get_or-set_other set p i 0 0 (λ same. (let t : (i == p) ≡ true = grind (arith, nat_tests) in cc)) ∙ h i)

without_none : (set : List ℕ) (who : ℕ) → IsNone set → IsNone (without_name set who)
without_none set who h = split_on_bool (has set who) (λ t. rw t (set_none set (place_of_name who) h)) (λ f. rw f h)

-- ---- members

-- after a name's own Leave
left_row : (r : Row) (number : ℕ) → 0 < number → member_life_of_row (record r { left = number }) ≡ 0
left_row r number h =
    let f : (number == 0) ≡ false = grind (arith, nat_tests) in
    split_on_bool (nat_lt 0 r.joined) (λ t. rw (t, f) refl) (λ g. rw g refl)

left_none : (image : Image) (number who : ℕ) → 0 < number → IsNone (without_name (members_of_image image) who)
    → IsNone (without_name (members_of_image (after image number (Leave who))) who)
unfolding after
left_none image number who up h = split_on_bool ((row_at_place image who).life == life_of_name who)
    (λ t. rw t (
    let row = record (row_at_place image who) { left = number } in
    let is = map-set member_life_of_row image.rows (place_of_name who) row ∙ ap (slice_set (members_of_image image) (place_of_name who)) (left_row (row_at_place image who) number up) in
    subst (λ set. IsNone (without_name set who)) (sym is) (without_none (slice_set (members_of_image image) (place_of_name who) 0) who (split_on_bool (has (members_of_image image) who)
    (λ u. let k : IsNone (slice_set (members_of_image image) (place_of_name who) 0) = rw u at h in k)
    (λ g. let k : IsNone (members_of_image image) = rw g at h in set_none (members_of_image image) (place_of_name who) k)))))
    (λ f. rw f h)

-- ---- a node that is alone

abbrev pub IsAloneInView : Node → Type 0
IsAloneInView x = nat_lt 0 (size (other_members x)) ≡ false

pub pushed_send_keeps_others : (m : Node) (who req : ℕ) (body : List ℕ) → other_members (push_entry m (Data who req body)) ≡ other_members m
pushed_send_keeps_others m who req body = ap (λ set. without_name set m.core.who) (ap members_of_image (image_of_pushed_entry m (Data who req body))
    ∙ members_of_after_data (image_of_node m) (top m + 1) who req body)

-- the end of its step
abbrev pub node_after_own_leave : Node → Node
node_after_own_leave x = refresh_at_end (push_entry x (Leave x.core.who))

pub own_leave_keeps_node_alone : (x : Node) → IsAloneInView x → size (other_members (node_after_own_leave x)) ≡ 0
own_leave_keeps_node_alone x alone =
    let r = end_refresh_rests_with_list (push_entry x (Leave x.core.who)) in
    let none : size (other_members x) ≡ 0 = grind (arith, nat_tests) in
    let is : other_members (node_after_own_leave x) ≡ without_name (members_of_image (after (image_of_node x) (top x + 1) (Leave x.core.who))) x.core.who =
    ap (λ (l : Log). without_name (members_of_image (image_of_log l)) (node_after_own_leave x).core.who) r.log
    ∙ ap (λ set. without_name set (node_after_own_leave x).core.who) (ap members_of_image (image_of_pushed_entry x (Leave x.core.who)))
    ∙ ap (without_name (members_of_image (after (image_of_node x) (top x + 1) (Leave x.core.who)))) r.rests.who in
    ap size is ∙ size_none _ (left_none (image_of_node x) (top x + 1) x.core.who (omega arith) (none_of (other_members x) none))

-- and some of them
pub selection_of_nobody_is_nobody : (test : ℕ → Bool) (set : List ℕ) → size set ≡ 0 → size (names_that_pass test set) ≡ 0
unfolding names_that_pass
selection_of_nobody_is_nobody test set none = size_none _ at
  where
    at : IsNone (names_that_pass test set)
    at i = split_on_bool (nat_lt i 16)
        (λ t. slice_index-by_place (λ place. life_where_name_passes test place (slice_index set place)) i (let z : i < 16 = grind (arith, nat_tests) in z)
        ∙ ap (life_where_name_passes test i) (none_of set none i))
        (λ g. get_or_past (names_that_pass test set) i 0
        (let long : length (names_that_pass test set) ≡ 16 = length-by_place (λ place. life_where_name_passes test place (slice_index set place)) in
        let z : 16 ≤ i = grind (arith, nat_tests) in
        omega arith))
