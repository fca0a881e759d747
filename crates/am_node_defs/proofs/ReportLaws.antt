-- Reports by the names' bytes, and the least of them.
use Rattle.am_node_defs.proofs.Words.{◌≡◌, ℕ, zero, suc, ◌+◌, ◌<◌, ◌≤◌, List, [], ◌∷◌, length, drop, replicate, refl, sym, ◌∙◌, ap, Bool, true, false, min, nat_lt}
use Rattle.am_node_defs.proofs.Words.{◌&&◌, if◌then◌else◌, Option, Some, None, slice_index, count_by, zero-add, arith, get_or-replicate, get_or_past}
use Rattle.am_node_defs.proofs.Words.{length-replicate, drop_more, drop_all, sum_by-cons, nat_tests, Report, names_from, name_of_place_and_life, size, no_report, no_reports}
use Rattle.am_node_defs.proofs.Words.{reports_of, report_of_all_up_to, lesser_of_options, least_of_names}
use Rattle.am_node_defs.proofs.{Folds.split_on_bool_of_log}

-- the same report for so many names
all_same : (n : ℕ) (report : Report) (name : ℕ) → reports_of (replicate n report) name ≡ (if nat_lt name n then report else no_report)
all_same n report name = split_on_bool_of_log (nat_lt name n)
    (λ t. let h : name < n = grind (arith, nat_tests) in rw t (get_or-replicate n name report no_report h))
    (λ f. let h : n ≤ name = grind (arith, nat_tests) in let l = length-replicate n report in
    rw f (get_or_past (replicate n report) name no_report (omega arith)))

pub reports_of_no_reports : (n : ℕ) → reports_of (replicate n no_report) ≡ no_reports
reports_of_no_reports n = λ i name. (all_same n no_report name ∙ either n name) i
  where
    either : (n name : ℕ) → (if nat_lt name n then no_report else no_report) ≡ no_report
    either n name = split_on_bool_of_log (nat_lt name n) (λ t. rw t refl) (λ f. rw f refl)

pub reports_of_restarted_names : (n base : ℕ) → reports_of (replicate n (report_of_all_up_to base)) ≡ (λ name. if nat_lt name n then report_of_all_up_to base else no_report)
reports_of_restarted_names n base = λ i name. all_same n (report_of_all_up_to base) name i

-- the names from a place on, by the life there
names_go : (place life : ℕ) (lives : List ℕ) → names_from place (life ∷ lives)
    ≡ (if nat_lt 0 life then name_of_place_and_life place life ∷ names_from (place + 1) lives else names_from (place + 1) lives)
names_go place zero lives = refl
names_go place (suc before) lives = let t : nat_lt 0 (suc before) ≡ true = grind (arith, nat_tests) in rw t refl

pub names_from_next_place : (set : List ℕ) (place : ℕ) → place < length set
    → names_from place (drop place set) ≡ (if nat_lt 0 (slice_index set place) then name_of_place_and_life place (slice_index set place)
    ∷ names_from (place + 1) (drop (place + 1) set) else names_from (place + 1) (drop (place + 1) set))
names_from_next_place set place h = ap (names_from place) (drop_more set place 0 h) ∙ names_go place (slice_index set place) (drop (place + 1) set)

pub names_from_last_place : (set : List ℕ) (place : ℕ) → length set ≤ place → names_from place (drop place set) ≡ []
names_from_last_place set place h = ap (names_from place) (drop_all place set h)

lesser_assoc : (a b c : Option ℕ) → lesser_of_options (lesser_of_options a b) c ≡ lesser_of_options a (lesser_of_options b c)
lesser_assoc None b c = refl
lesser_assoc (Some x) None c = refl
lesser_assoc (Some x) (Some y) None = refl
lesser_assoc (Some x) (Some y) (Some z) = ap Some (omega arith)

lesser_none : (a : Option ℕ) → lesser_of_options a None ≡ a
lesser_none None = refl
lesser_none (Some x) = refl

-- what is found up to a place, with the rest
pub least_of_with_next_place : (f : ℕ → ℕ) (least : Option ℕ) (set : List ℕ) (place : ℕ) → place < length set
    → lesser_of_options least (least_of_names f (names_from place (drop place set)))
    ≡ lesser_of_options (lesser_of_options least (if nat_lt 0 (slice_index set place) then Some (f (name_of_place_and_life place (slice_index set place))) else None))
    (least_of_names f (names_from (place + 1) (drop (place + 1) set)))
unfolding least_of_names
least_of_with_next_place f least set place h =
    let e = names_from_next_place set place h in
    let rest = least_of_names f (names_from (place + 1) (drop (place + 1) set)) in
    split_on_bool_of_log (nat_lt 0 (slice_index set place))
    (λ t. rw t (ap (λ names. lesser_of_options least (least_of_names f names)) (rw t at e) ∙ sym (lesser_assoc least (Some (f (name_of_place_and_life place (slice_index set place)))) rest)))
    (λ t. rw t (ap (λ names. lesser_of_options least (least_of_names f names)) (rw t at e) ∙ ap (λ l. lesser_of_options l rest) (sym (lesser_none least))))

pub least_of_after_last_place : (f : ℕ → ℕ) (least : Option ℕ) (set : List ℕ) (place : ℕ) → length set ≤ place
    → lesser_of_options least (least_of_names f (names_from place (drop place set))) ≡ least
unfolding least_of_names
least_of_after_last_place f least set place h = ap (λ names. lesser_of_options least (least_of_names f names)) (names_from_last_place set place h) ∙ lesser_none least

-- the least found up to a place, where anything is
abbrev pub least_found_so_far : Bool → ℕ → Option ℕ
least_found_so_far found least = if found then Some least else None

-- a place where nobody is adds nothing to what is found
pub least_of_past_empty_place : (f : ℕ → ℕ) (least : Option ℕ) (set : List ℕ) (place : ℕ) → place < length set → slice_index set place ≡ 0
    → lesser_of_options least (least_of_names f (names_from place (drop place set))) ≡ lesser_of_options least (least_of_names f (names_from (place + 1) (drop (place + 1) set)))
least_of_past_empty_place f least set place h nobody =
    let t : nat_lt 0 (slice_index set place) ≡ false = grind (arith, nat_tests) in
    rw t at (least_of_with_next_place f least set place h) ∙ ap (λ l. lesser_of_options l (least_of_names f (names_from (place + 1) (drop (place + 1) set)))) (lesser_none least)

-- a name adds its number, where the most stands for no number yet
pub least_of_past_member : (f : ℕ → ℕ) (found : Bool) (least : ℕ) (set : List ℕ) (place number most : ℕ) → place < length set → 0 < slice_index set place
    → (found ≡ false → least ≡ most) → f (name_of_place_and_life place (slice_index set place)) ≡ number → number ≤ most
    → lesser_of_options (least_found_so_far found least) (least_of_names f (names_from place (drop place set)))
    ≡ lesser_of_options (least_found_so_far true (min least number)) (least_of_names f (names_from (place + 1) (drop (place + 1) set)))
least_of_past_member f found least set place number most h there none is fits =
    let t : nat_lt 0 (slice_index set place) ≡ true = grind (arith, nat_tests) in
    let rest = least_of_names f (names_from (place + 1) (drop (place + 1) set)) in
    let both : lesser_of_options (least_found_so_far found least) (Some number) ≡ least_found_so_far true (min least number) = split_on_bool_of_log found
    (λ e. rw e refl)
    (λ e. let m = none e in rw e (ap Some (omega arith))) in
    rw (t, is) at (least_of_with_next_place f (least_found_so_far found least) set place h) ∙ ap (λ l. lesser_of_options l rest) both

-- how many pass, from a place on
pub count_by_of_cons : (p : ℕ → Bool) (x : ℕ) (xs : List ℕ) → count_by p (x ∷ xs) ≡ (if p x then 1 else 0) + count_by p xs
count_by_of_cons p x xs = sum_by-cons (λ y. if p y then 1 else 0) x xs

pub count_by_with_next_place : (p : ℕ → Bool) (set : List ℕ) (place : ℕ) → place < length set
    → count_by p (names_from place (drop place set)) ≡ (if nat_lt 0 (slice_index set place) && p (name_of_place_and_life place (slice_index set place)) then 1 else 0)
    + count_by p (names_from (place + 1) (drop (place + 1) set))
count_by_with_next_place p set place h =
    let name = name_of_place_and_life place (slice_index set place) in
    let rest = names_from (place + 1) (drop (place + 1) set) in
    split_on_bool_of_log (nat_lt 0 (slice_index set place))
    (λ t.
    let e : names_from place (drop place set) ≡ name ∷ rest = rw t at (names_from_next_place set place h) in
    rw t (ap (count_by p) e ∙ count_by_of_cons p name rest))
    (λ t.
    let e : names_from place (drop place set) ≡ rest = rw t at (names_from_next_place set place h) in
    rw t (ap (count_by p) e ∙ sym (zero-add (count_by p rest))))

pub count_by_past_last_place : (p : ℕ → Bool) (set : List ℕ) (place : ℕ) → length set ≤ place → count_by p (names_from place (drop place set)) ≡ 0
count_by_past_last_place p set place h = ap (count_by p) (names_from_last_place set place h)

-- how many names there are, from a place on
pub size_with_next_place : (set : List ℕ) (place : ℕ) → place < length set
    → size (drop place set) ≡ (if nat_lt 0 (slice_index set place) then 1 else 0) + size (drop (place + 1) set)
size_with_next_place set place h = ap size (drop_more set place 0 h)
    ∙ sum_by-cons (λ life. if nat_lt 0 life then 1 else 0) (slice_index set place) (drop (place + 1) set)

pub size_past_last_place : (set : List ℕ) (place : ℕ) → length set ≤ place → size (drop place set) ≡ 0
size_past_last_place set place h = ap size (drop_all place set h)

pub ruleset count_and_size_rules = (count_by_with_next_place, count_by_past_last_place, size_with_next_place, size_past_last_place)

pub ruleset least_of_rules = (least_of_with_next_place, least_of_after_last_place)
