-- Who leads is among those who may need its list, so no more is let go than it has taken itself.
use Rattle.am_node_defs.proofs.Words.{◌≡◌, ◌⊎◌, ⊎_elim, inl, inr, ℕ, zero, suc, ◌+◌, ◌-◌, ◌<◌, ◌≤◌, min, List, [], ◌∷◌, length, refl, sym, ◌∙◌, ap, true, nat_lt}
use Rattle.am_node_defs.proofs.Words.{Option, Some, None, slice_index, if◌then◌else◌, arith, nat_tests, eq-or-lt_of_le, Report, Leave, place_of_name, life_of_name}
use Rattle.am_node_defs.proofs.Words.{name_of_place_and_life, names_from, has, size, top_of_log, image_of_log, log_image_at, members_of_image, log_members_at, log_entry_at, fits, IsKept, log_above, CoreState}
use Rattle.am_node_defs.proofs.Words.{union_of_members_at, members_since_accepted, trim_core_list, lesser_of_options, least_of_names, least_taken_of_names, IsMemberOrLastLeaver}
use Rattle.am_node_defs.proofs.Ends.{log_is_own_end, end_stays_by_trim, end_has_image_of_whole_log, top_of_end_is_top, entry_at_end_is_entry, image_at_top_is_told, image_at_next_number, entry_at_is_slice_get}
use Rattle.am_node_defs.proofs.Lives.{member_life_le_top_life, member_has_life_of_row, row_at_place_of_image, unused_places_of_kept_log, union_is_within_bound, member_life_is_within_union, unions_have_sixteen_places, entry_fits_at_its_number, life_of_place_after_leave}
use Rattle.am_node_defs.proofs.{Folds.split_on_bool_of_log, ReportLaws.count_by_of_cons}

lesser_some : (a y : ℕ) → (x : ℕ) × (lesser_of_options (Some a) (Some y) ≡ Some x) × (x ≤ y)
lesser_some a y = (min a y, refl, omega arith)

lesser_first : (a : ℕ) (o : Option ℕ) → (x : ℕ) × (lesser_of_options (Some a) o ≡ Some x) × (x ≤ a)
lesser_first a None = (a, refl, omega arith)
lesser_first a (Some y) = (min a y, refl, omega arith)

-- the least is at most what each name of the set has
pub least_of_names_le_each : (f : ℕ → ℕ) (set : List ℕ) (from place : ℕ) → place < length set → 0 < slice_index set place → (x : ℕ)
    × (least_of_names f (names_from from set) ≡ Some x) × (x ≤ f (name_of_place_and_life (from + place) (slice_index set place)))
unfolding least_of_names
least_of_names_le_each f [] from place h l = absurd (omega arith)
least_of_names_le_each f (zero ∷ lives) from zero h l = absurd (omega arith)
least_of_names_le_each f (zero ∷ lives) from (suc place) h l =
    let rest = least_of_names_le_each f lives (from + 1) place (omega arith) l in
    let at : from + 1 + place ≡ from + suc place = omega arith in
    let same = ap (λ k. f (name_of_place_and_life k (slice_index lives place))) at in
    let most = rest.2 in
    (rest.0, rest.1, omega arith)
least_of_names_le_each f (suc before ∷ lives) from zero h l =
    let first = lesser_first (f (name_of_place_and_life from (suc before))) (least_of_names f (names_from (from + 1) lives)) in
    let at : from ≡ from + zero = omega arith in
    let same = ap (λ k. f (name_of_place_and_life k (suc before))) at in
    let most = first.2 in
    (first.0, first.1, omega arith)
least_of_names_le_each f (suc before ∷ lives) from (suc place) h l =
    let rest = least_of_names_le_each f lives (from + 1) place (omega arith) l in
    let both = lesser_some (f (name_of_place_and_life from (suc before))) rest.0 in
    let at : from + 1 + place ≡ from + suc place = omega arith in
    let same = ap (λ k. f (name_of_place_and_life k (slice_index lives place))) at in
    let a = rest.2 in
    let b = both.2 in
    (both.0, ap (lesser_of_options (Some (f (name_of_place_and_life from (suc before))))) rest.1 ∙ both.1, omega arith)

size_cons : (before : ℕ) (lives : List ℕ) → size (suc before ∷ lives) ≡ 1 + size lives
size_cons before lives =
    let t : nat_lt 0 (suc before) ≡ true = grind (arith, nat_tests) in
    count_by_of_cons (λ life. nat_lt 0 life) (suc before) lives ∙ ap (λ b. (if b then 1 else 0) + size lives) t

pub empty_set_names_nobody : (set : List ℕ) (from : ℕ) → size set ≡ 0 → names_from from set ≡ []
empty_set_names_nobody [] from h = refl
empty_set_names_nobody (zero ∷ lives) from h = empty_set_names_nobody lives (from + 1) (let c = count_by_of_cons (λ life. nat_lt 0 life) zero lives in omega arith)
empty_set_names_nobody (suc before ∷ lives) from h = let more = size_cons before lives in absurd (omega arith)

is_there : (set : List ℕ) (name : ℕ) → has set name ≡ true → slice_index set (place_of_name name) ≡ life_of_name name
is_there set name h = grind (arith, nat_tests)

-- the union has the life of who leads
leader_there : (c : CoreState) (capacity number : ℕ) → IsKept c.log capacity → c.log.start ≤ c.acc → c.acc ≤ number → number ≤ top_of_log c.log
    → has (log_members_at c.log number) c.who ≡ true → (row_at_place_of_image (image_of_log c.log) (place_of_name c.who)).life ≡ life_of_name c.who
    → slice_index (members_since_accepted c) (place_of_name c.who) ≡ life_of_name c.who
leader_there c capacity number is low after high member row =
    let place = place_of_name c.who in
    let there = is_there (log_members_at c.log number) c.who member in
    let least = member_life_is_within_union c.log c.acc (top_of_log c.log - c.acc) place number (omega arith) after (omega arith) in
    let most = union_is_within_bound c.log c.acc (top_of_log c.log - c.acc) place (row_at_place_of_image (image_of_log c.log) place).life (omega arith)
    (λ k l u. member_life_le_top_life c.log capacity k place is (omega arith) (omega arith) (omega arith)) in
    omega arith

leader_in : (c : CoreState) (capacity : ℕ) → IsKept c.log capacity → c.log.start ≤ c.acc → c.acc ≤ top_of_log c.log → IsMemberOrLastLeaver c
    → (slice_index (members_since_accepted c) (place_of_name c.who) ≡ life_of_name c.who) ⊎ (size (members_since_accepted c) ≡ 0)
unfolding union_of_members_at fits
leader_in c capacity is low high leads = ⊎_elim
    (λ (member : has (members_of_image (image_of_log c.log)) c.who ≡ true).
    let top = image_at_top_is_told c.log in
    let used = unused_places_of_kept_log c.log capacity (top_of_log c.log) is in
    let here : has (log_members_at c.log (top_of_log c.log)) c.who ≡ true = ap (λ i. has (members_of_image i) c.who) top ∙ member in
    let row = ap (λ i. (row_at_place_of_image i (place_of_name c.who)).life) (sym top) ∙ member_has_life_of_row (log_image_at c.log (top_of_log c.log)) c.who used here in
    inl (leader_there c capacity (top_of_log c.log) is low high (omega arith) here row))
    (λ (left : (log_entry_at c.log (top_of_log c.log) ≡ Some (Leave c.who)) × (size (members_of_image (image_of_log c.log)) ≡ 0)). ⊎_elim
    (λ (e : c.acc ≡ top_of_log c.log).
    let none : top_of_log c.log - c.acc ≡ 0 = omega arith in
    inr (ap (λ k. size (union_of_members_at c.log c.acc k)) none ∙ ap (λ k. size (log_members_at c.log k)) e ∙ ap (λ i. size (members_of_image i)) (image_at_top_is_told c.log) ∙ left.1))
    (λ (below : c.acc < top_of_log c.log).
    let before = top_of_log c.log - 1 in
    let next : before + 1 ≡ top_of_log c.log = omega arith in
    let entry : log_entry_at c.log (before + 1) ≡ Some (Leave c.who) = ap (log_entry_at c.log) next ∙ left.0 in
    let get = entry_at_is_slice_get c.log before (Leave c.who) (omega arith) entry in
    let fit = entry_fits_at_its_number c.log.image (c.log.start + 1) (before - c.log.start) c.log.entries (Leave c.who) is.fit get in
    let member : has (log_members_at c.log before) c.who ≡ true = fit in
    let used = unused_places_of_kept_log c.log capacity before is in
    let after = image_at_next_number c.log before (Leave c.who) (omega arith) entry in
    let told = ap (λ i. (row_at_place_of_image i (place_of_name c.who)).life) (sym (image_at_top_is_told c.log) ∙ ap (log_image_at c.log) (sym next) ∙ after) in
    let row = told ∙ life_of_place_after_leave (log_image_at c.log before) (before + 1) c.who (place_of_name c.who) (omega arith) used
    ∙ member_has_life_of_row (log_image_at c.log before) c.who used member in
    inl (leader_there c capacity before is low (omega arith) (omega arith) member row))
    (eq-or-lt_of_le high))
    leads

-- what is let go is at most what a name of the union has taken
pub least_reported_le_own_taken : (reports : ℕ → Report) (c : CoreState) (to : ℕ) → length (members_since_accepted c) ≡ 16
    → slice_index (members_since_accepted c) (place_of_name c.who) ≡ life_of_name c.who → (reports c.who).taken ≤ c.taken → least_taken_of_names reports (members_since_accepted c) ≡ Some to
    → to ≤ c.taken
least_reported_le_own_taken reports c to long life own least =
    let found = least_of_names_le_each (λ name. (reports name).taken) (members_since_accepted c) 0 (place_of_name c.who) (omega arith) (omega arith) in
    let same : Some to ≡ Some found.0 = sym least ∙ found.1 in
    let is : to ≡ found.0 = cc in
    let at : name_of_place_and_life (0 + place_of_name c.who) (slice_index (members_since_accepted c) (place_of_name c.who)) ≡ c.who = omega arith in
    let who = ap (λ n. (reports n).taken) at in
    let most = found.2 in
    omega arith

-- no more is let go than it has taken
pub leader_trims_at_most_taken : (reports : ℕ → Report) (c : CoreState) (capacity to : ℕ) → IsKept c.log capacity → c.log.start ≤ c.acc → c.acc ≤ top_of_log c.log → IsMemberOrLastLeaver c
    → (reports c.who).taken ≤ c.taken → least_taken_of_names reports (members_since_accepted c) ≡ Some to → to ≤ c.taken
unfolding least_of_names
leader_trims_at_most_taken reports c capacity to is low high leads own least = ⊎_elim
    (λ (life : slice_index (members_since_accepted c) (place_of_name c.who) ≡ life_of_name c.who).
    let used = unused_places_of_kept_log c.log capacity c.acc is in
    least_reported_le_own_taken reports c to (unions_have_sixteen_places c.log c.acc (top_of_log c.log - c.acc) used.places) life own least)
    (λ (none : size (members_since_accepted c) ≡ 0).
    let e : None ≡ Some to = sym (ap (least_of_names (λ name. (reports name).taken)) (empty_set_names_nobody (members_since_accepted c) 0 none)) ∙ least in
    absurd (cc))
    (leader_in c capacity is low high leads)

-- where nobody is left, what is let go stays below the last entry
below_top : (reports : ℕ → Report) (c : CoreState) (to : ℕ) → c.acc ≤ top_of_log c.log → size (members_of_image (image_of_log c.log)) ≡ 0
    → least_taken_of_names reports (members_since_accepted c) ≡ Some to → to ≤ c.acc → to < top_of_log c.log
unfolding union_of_members_at least_of_names
below_top reports c to high none least h = ⊎_elim
    (λ (e : c.acc ≡ top_of_log c.log).
    let zero_more : top_of_log c.log - c.acc ≡ 0 = omega arith in
    let nobody = ap (λ k. size (union_of_members_at c.log c.acc k)) zero_more ∙ ap (λ k. size (log_members_at c.log k)) e ∙ ap (λ i. size (members_of_image i)) (image_at_top_is_told c.log)
    ∙ none in
    let wrong : None ≡ Some to = sym (ap (least_of_names (λ name. (reports name).taken)) (empty_set_names_nobody (members_since_accepted c) 0 nobody)) ∙ least in
    absurd (cc))
    (λ (below : c.acc < top_of_log c.log). omega arith)
    (eq-or-lt_of_le high)

leads_above : (c : CoreState) (to : ℕ) → c.log.start ≤ to → to ≤ top_of_log c.log → (size (members_of_image (image_of_log c.log)) ≡ 0 → to < top_of_log c.log) → IsMemberOrLastLeaver c
    → IsMemberOrLastLeaver (record c { log = log_above c.log to; base = to })
leads_above c to low high below leads =
    let is = end_stays_by_trim c.log c.log to (log_is_own_end c.log) low high in
    let told = end_has_image_of_whole_log c.log (log_above c.log to) is in
    ⊎_elim
    (λ (member : has (members_of_image (image_of_log c.log)) c.who ≡ true). inl (ap (λ i. has (members_of_image i) c.who) told ∙ member))
    (λ (left : (log_entry_at c.log (top_of_log c.log) ≡ Some (Leave c.who)) × (size (members_of_image (image_of_log c.log)) ≡ 0)).
    let entry = ap (log_entry_at (log_above c.log to)) (top_of_end_is_top c.log (log_above c.log to) is) ∙ entry_at_end_is_entry c.log (log_above c.log to) (top_of_log c.log) is (below left.1)
    ∙ left.0 in
    inr (entry, ap (λ i. size (members_of_image i)) told ∙ left.1))
    leads

-- who may lead still may after a trim
pub leader_may_lead_after_trim : (reports : ℕ → Report) (c : CoreState) (to : ℕ) → c.base ≡ c.log.start → c.acc ≤ top_of_log c.log → to ≤ c.acc
    → least_taken_of_names reports (members_since_accepted c) ≡ Some to → IsMemberOrLastLeaver c → IsMemberOrLastLeaver (trim_core_list to c)
leader_may_lead_after_trim reports c to base high h least leads = split_on_bool_of_log (nat_lt c.base to)
    (λ t.
    let l : c.base < to = grind (arith, nat_tests) in
    rw t (leads_above c to (omega arith) (omega arith) (λ none. below_top reports c to high none least h) leads))
    (λ f. rw f leads)
