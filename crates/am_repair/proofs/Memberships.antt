-- A member hasn't left by any beginning of the sequencer's list, and has its view's View as the last one.
use Rattle.am_repair.proofs.RepairWords.{has_member_is_in_row, ◌≡◌, ◌≢◌, inr, ℕ, zero, suc, ◌+◌, ◌-◌, ◌<◌, ◌≤◌, ◌==◌, nat_lt, nat_le, true, false, List, [], ◌∷◌, length, take}
use Rattle.am_repair.proofs.RepairWords.{Some, slice_get, refl, sym, ap, ◌∙◌, subst, arith, add-one, nat_tests, Entry, Image, place_of_name, life_of_name, has, Log}
use Rattle.am_repair.proofs.RepairWords.{top_of_log, image_of_log, log_entry_at, log_image_at, row_at_place, row_of_name, after, fits, image_after_entries, image_at_next_number, entry_at_is_slice_get, UnusedPlacesHaveNoLife, unused_places_after_entries, row_of_place}
use Rattle.am_repair.proofs.RepairWords.{IsPastRow, past_row_after_entry, member_row_is_not_past, mod_sixteen_lt, Node, top, has_own_leave, is_view, split_on_bool, plain_entry_keeps_image_view, Repair, LeadsCalmly, FollowsView}
use Rattle.am_repair.proofs.RepairLists.{entry_at_is_within_log}
use Rattle.am_refinement.proofs.Parts.{view_number_after_view}

-- ---- entries of a list

pub slice_get_below_length : {A : Type 0} (xs : List A) (i : ℕ) → i < length xs → (x : A) × (slice_get xs i ≡ Some x)
slice_get_below_length [] i low = absurd (omega arith)
slice_get_below_length (x ∷ xs) zero low = (x, refl)
slice_get_below_length (x ∷ xs) (suc i) low = slice_get_below_length xs i (omega arith)

entry_there : (log : Log) (k : ℕ) → log.start ≤ k → k < top_of_log log → (e : Entry) × (log_entry_at log (k + 1) ≡ Some e)
entry_there log k low high =
    let some = slice_get_below_length log.entries (k - log.start) (omega arith) in
    let within : nat_le log.start k ≡ true = grind (arith, nat_tests) in
    (some.0, ap (log_entry_at log) (add-one k) ∙ rw within some.1)

image_used : (log : Log) (number : ℕ) → UnusedPlacesHaveNoLife log.image → UnusedPlacesHaveNoLife (log_image_at log number)
image_used log number used = unused_places_after_entries log.image (log.start + 1) (take (number - log.start) log.entries) (omega arith) used

-- ---- who has left has left

past_next : (log : Log) (k place life : ℕ) → UnusedPlacesHaveNoLife log.image → log.start ≤ k → k < top_of_log log → place < 16
    → ((e : Entry) → log_entry_at log (k + 1) ≡ Some e → fits (log_image_at log k) e ≡ true)
    → IsPastRow (row_of_place (log_image_at log k) place) life → IsPastRow (row_of_place (log_image_at log (k + 1)) place) life
past_next log k place life used low high small fit past =
    let e = entry_there log k low high in
    let u = image_used log k used in
    let next = image_at_next_number log k e.0 low e.1 in
    subst (λ (i : Image). IsPastRow (row_of_place i place) life) (sym next) (past_row_after_entry (log_image_at log k) (k + 1) e.0 place life u.places small (omega arith)
    (fit e.0 e.1) past)

past_to : (log : Log) (k more place life : ℕ) → UnusedPlacesHaveNoLife log.image → log.start ≤ k → k + more ≤ top_of_log log → place < 16
    → ((j : ℕ) (e : Entry) → j ≤ k + more → log_entry_at log j ≡ Some e → fits (log_image_at log (j - 1)) e ≡ true)
    → IsPastRow (row_of_place (log_image_at log k) place) life → IsPastRow (row_of_place (log_image_at log (k + more)) place) life
past_to log k zero place life used low high small fit past = let same : k ≡ k + 0 = omega arith in subst
    (λ n. IsPastRow (row_of_place (log_image_at log n) place) life) same past
past_to log k (suc more) place life used low high small fit past =
    let before : k + 1 - 1 ≡ k = omega arith in
    let at : k + 1 + more ≡ k + suc more = omega arith in
    let one = past_next log k place life used low (omega arith) small (λ e is. ap (λ n. fits (log_image_at log n) e) (sym before)
    ∙ fit (k + 1) e (omega arith) is) past in
    subst (λ n. IsPastRow (row_of_place (log_image_at log n) place) life) at (past_to log (k + 1) more place life used (omega arith) (omega arith) small
    (λ j e lower is. fit j e (omega arith) is) one)

left_row : (image : Image) (name : ℕ) → UnusedPlacesHaveNoLife image → nat_lt 0 (row_of_name image name).left ≡ true → IsPastRow (row_of_place image (place_of_name name)) (life_of_name name)
left_row image name used left = split_on_bool ((row_at_place image name).life == life_of_name name)
    (λ t.
    let life : (row_at_place image name).life ≡ life_of_name name = grind (arith, nat_tests) in
    let some : (row_at_place image name).joined ≢ 0 = λ none. (let no_life = used.unused (place_of_name name) (mod_sixteen_lt name) none in absurd (omega arith)) in
    record { joined = omega arith; gone = inr (life, (grind (arith, nat_tests))) })
    (λ f. absurd (let none = rw f at left in cc))

pub member_has_no_own_leave : (r : Repair) (q m : Node) → LeadsCalmly r q → UnusedPlacesHaveNoLife q.core.log.image → FollowsView r q m → has r.members m.core.who ≡ true → top m < r.high
    → has_own_leave m ≡ false
member_has_no_own_leave r q m l used f there low = split_on_bool (has_own_leave m)
    (λ t. absurd (
    let who = m.core.who in
    let log = q.core.log in
    let u = image_used log (top m) used in
    let left = ap (λ (i : Image). nat_lt 0 (row_of_name i who).left) (sym f.told_) ∙ t in
    let past = left_row (log_image_at log (top m)) who u left in
    let start = f.low in
    let high = l.high in
    let to : top m + (r.high - top m) ≡ r.high = omega arith in
    let at_high = subst (λ n. IsPastRow (row_of_place (log_image_at log n) (place_of_name who)) (life_of_name who)) to
    (past_to log (top m) (r.high - top m) (place_of_name who) (life_of_name who) used start (omega arith) (mod_sixteen_lt who)
    (λ j e lower is. l.fit j e (omega arith) is) past) in
    let h = image_used log r.high used in
    let in_ = has_member_is_in_row (log_image_at log r.high) who h.places (l.members_ who r.high there (omega arith) high) in
    member_row_is_not_past _ _ in_ at_high))
    (λ g. g)

-- ---- the last View

-- a View stands at or below the number of the last one
number_up : (image : Image) (n : ℕ) (es : List Entry) → image.view_number ≤ n → image.view_number ≤ (image_after_entries image n es).view_number
unfolding image_after_entries
number_up image n [] low = omega arith
number_up image n (e ∷ es) low = split_on_bool (is_view e)
    (λ t. let new = view_number_after_view image n e t in let more = number_up (after image n e) (n + 1) es (omega arith) in omega arith)
    (λ f. let same = (plain_entry_keeps_image_view image n e f).number in let more = number_up (after image n e) (n + 1) es (omega arith) in omega arith)

view_stands : (image : Image) (n : ℕ) (es : List Entry) (k : ℕ) (e : Entry) → slice_get es k ≡ Some e → is_view e ≡ true
    → n + k ≤ (image_after_entries image n es).view_number
unfolding image_after_entries
view_stands image n [] k e there is = absurd (cc)
view_stands image n (x ∷ es) zero e there is =
    let same : x ≡ e = cc in
    let new = view_number_after_view image n x (ap is_view same ∙ is) in
    let more = number_up (after image n x) (n + 1) es (omega arith) in
    omega arith
view_stands image n (x ∷ es) (suc k) e there is = let rest = view_stands (after image n x) (n + 1) es k e there is in omega arith

-- so above it there is none
pub entry_above_last_view : (log : Log) (number : ℕ) (e : Entry) → (image_of_log log).view_number < number → log_entry_at log number ≡ Some e → is_view e ≡ false
entry_above_last_view log number e above there = split_on_bool (is_view e)
    (λ t. absurd (
    let within = entry_at_is_within_log log number e there in
    let before = number - 1 in
    let at : number ≡ before + 1 = omega arith in
    let get = entry_at_is_slice_get log before e (omega arith) (subst (λ n. log_entry_at log n ≡ Some e) at there) in
    let stands = view_stands log.image (log.start + 1) log.entries (before - log.start) e get t in
    let z : ⊥ = omega arith in z))
    (λ f. f)
