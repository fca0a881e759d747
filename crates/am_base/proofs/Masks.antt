-- Sets of names as a mask of places and their lives.
use Rattle.std.proofs.Common.{◌≡◌, ℕ, zero, suc, ◌+◌, ◌-◌, ◌*◌, ◌/◌, ◌%◌, ◌^◌, ◌<◌, ◌≤◌, List, [], ◌∷◌, ◌++◌, length, take, drop, set, get_or, Bool, true}
use Rattle.std.proofs.Common.{false, inl, inr, refl, sym, ap, ◌∙◌, append_assoc, arith}
use Rattle.std.proofs.lemmas.Bool.{and_parts, cases_lt}
use Rattle.std.proofs.lemmas.Bool.Decides.{nat_tests}
use Rattle.std.proofs.lemmas.List.{take_more_set, take_all, drop_all, drop_more, append-nil, get_or_past}
use Rattle.std.proofs.Math.Nat.{pow-suc, mul-le-mul_right, pow-le-pow_right}
use Rattle.std.specs.Prelude.{if◌then◌else◌, ◌==◌}
use Rattle.am_base.specs.Names.{IsSetOfNames, mask_of_names, lives_of_names, places_by_mask, lives_are_within_mask}

-- one place of a set of parts
abbrev life_in : ℕ → ℕ → ℕ
life_in mask lives = if mask % 2 == 0 then 0 else lives % 16 + 1

length-places_of : (n mask lives : ℕ) → length (places_by_mask n mask lives) ≡ n
unfolding places_by_mask
length-places_of zero mask lives = refl
length-places_of (suc n) mask lives = ap suc (length-places_of n (mask / 2) (lives / 16))

life_in-le : (mask lives : ℕ) → life_in mask lives ≤ 16
life_in-le mask lives = grind arith

get_or-places_of : (n mask lives k : ℕ) → get_or (places_by_mask n mask lives) k 0 ≤ 16
unfolding places_by_mask
get_or-places_of zero mask lives k = omega arith
get_or-places_of (suc n) mask lives zero = life_in-le mask lives
get_or-places_of (suc n) mask lives (suc k) = get_or-places_of n (mask / 2) (lives / 16) k

-- the next place is filled
pub fill_next_place_of_mask : (xs : List ℕ) (i mask lives : ℕ) → length xs ≡ 16 → i < 16
    → take (i + 1) (set xs i (life_in mask lives)) ++ places_by_mask (16 - (i + 1)) (mask / 2) (lives / 16) ≡ take i xs ++ places_by_mask (16 - i) mask lives
unfolding places_by_mask
fill_next_place_of_mask xs i mask lives long h =
    let k : 16 - i ≡ suc (16 - (i + 1)) = omega arith in
    rw (k, take_more_set xs i (life_in mask lives) (omega arith))
    (append_assoc (take i xs) (life_in mask lives ∷ []) (places_by_mask (16 - (i + 1)) (mask / 2) (lives / 16)))

mask_step : (mask life : ℕ) → (if (if mask % 2 == 0 then 0 else life + 1) == 0 then 0 else 1) + 2 * (mask / 2) ≡ mask
mask_step mask life = grind arith

-- the mask of the parts' set is the mask
pub mask-places_of : (n mask lives : ℕ) → mask < 2 ^ n → mask_of_names (places_by_mask n mask lives) ≡ mask
unfolding places_by_mask mask_of_names
mask-places_of zero mask lives h = omega arith
mask-places_of (suc n) mask lives h =
    let less : mask / 2 < 2 ^ n = omega (arith, pow-suc 2 n) in
    rw (mask-places_of n (mask / 2) (lives / 16) less) (mask_step mask (lives % 16))

lives_step : (mask lives : ℕ) → (if mask % 2 == 0 then lives % 16 == 0 else true) ≡ true
    → (if mask % 2 == 0 then 0 else lives % 16 + 1) - 1 + 16 * (lives / 16) ≡ lives
lives_step mask lives h = grind (arith, nat_tests)

-- the lives are those of the parts' set, where there is one
pub lives-places_of : (n mask lives : ℕ) → lives < 16 ^ n → lives_are_within_mask n mask lives ≡ true → lives_of_names (places_by_mask n mask lives) ≡ lives
unfolding places_by_mask lives_of_names lives_are_within_mask
lives-places_of zero mask lives h ok = omega arith
lives-places_of (suc n) mask lives h ok =
    let less : lives / 16 < 16 ^ n = omega (arith, pow-suc 16 n) in
    let both = and_parts _ _ ok in
    rw (lives-places_of n (mask / 2) (lives / 16) less both.1) (lives_step mask lives both.0)

-- a life of a place comes back from its bit and its four bits
back_step : (life mask lives : ℕ) → life ≤ 16 → (if ((if life == 0 then 0 else 1) + 2 * mask) % 2 == 0 then 0 else (life - 1 + 16 * lives) % 16 + 1) ≡ life
back_step life mask lives h = grind (arith, nat_tests)

mask_half : (life mask : ℕ) → ((if life == 0 then 0 else 1) + 2 * mask) / 2 ≡ mask
mask_half life mask = grind (arith, nat_tests)

lives_rest : (life lives : ℕ) → life ≤ 16 → (life - 1 + 16 * lives) / 16 ≡ lives
lives_rest life lives h = omega arith

masked_step : (life mask lives : ℕ) → life ≤ 16 → (if ((if life == 0 then 0 else 1) + 2 * mask) % 2 == 0 then (life - 1 + 16 * lives) % 16 == 0 else true)
    ≡ true
masked_step life mask lives h = grind (arith, nat_tests)

-- a set is the set of its mask and lives, and has no life outside its mask
of_set : (n : ℕ) (xs : List ℕ) → length xs ≡ n → ((k : ℕ) → get_or xs k 0 ≤ 16)
    → (places_by_mask n (mask_of_names xs) (lives_of_names xs) ≡ xs) × (lives_are_within_mask n (mask_of_names xs) (lives_of_names xs) ≡ true)
unfolding places_by_mask lives_are_within_mask mask_of_names lives_of_names
of_set zero [] long fits = (refl, refl)
of_set zero (x ∷ xs) long fits = absurd (omega (arith, long))
of_set (suc n) [] long fits = absurd (omega (arith, long))
of_set (suc n) (x ∷ xs) long fits =
    let rest = of_set n xs (omega (arith, long)) (λ k. fits (suc k)) in
    let mask = mask_half x (mask_of_names xs) in
    let lives = lives_rest x (lives_of_names xs) (fits 0) in
    (rw (back_step x (mask_of_names xs) (lives_of_names xs) (fits 0), mask, lives, rest.0) refl, rw (masked_step x (mask_of_names xs) (lives_of_names xs) (fits 0), mask, lives) rest.1)

places_of-set : (n : ℕ) (xs : List ℕ) → length xs ≡ n → ((k : ℕ) → get_or xs k 0 ≤ 16) → places_by_mask n (mask_of_names xs) (lives_of_names xs) ≡ xs
places_of-set n xs long fits = (of_set n xs long fits).0

is_masked-set : (n : ℕ) (xs : List ℕ) → length xs ≡ n → ((k : ℕ) → get_or xs k 0 ≤ 16) → lives_are_within_mask n (mask_of_names xs) (lives_of_names xs) ≡ true
is_masked-set n xs long fits = (of_set n xs long fits).1

-- ---- the steps of the loops

-- a list from one place earlier on
earlier : (xs : List ℕ) (i : ℕ) → 0 < i → i ≤ length xs → drop (i - 1) xs ≡ get_or xs (i - 1) 0 ∷ drop i xs
earlier xs i pos le =
    let k : i - 1 + 1 ≡ i = omega arith in
    let lt : i - 1 < length xs = omega arith in
    drop_more xs (i - 1) 0 lt ∙ ap (λ j. get_or xs (i - 1) 0 ∷ drop j xs) k

-- the rest of a set's mask, with one place more
pub mask_of_drop_step : (xs : List ℕ) (i mask : ℕ) → 0 < i → i ≤ length xs → mask ≡ mask_of_names (drop i xs)
    → (if get_or xs (i - 1) 0 == 0 then 0 else 1) + 2 * mask ≡ mask_of_names (drop (i - 1) xs)
unfolding mask_of_names
mask_of_drop_step xs i mask pos le e = rw (e, earlier xs i pos le) refl

pub lives_of_drop_step : (xs : List ℕ) (i lives : ℕ) → 0 < i → i ≤ length xs → lives ≡ lives_of_names (drop i xs)
    → (get_or xs (i - 1) 0 - 1) + 16 * lives ≡ lives_of_names (drop (i - 1) xs)
unfolding lives_of_names
lives_of_drop_step xs i lives pos le e = rw (e, earlier xs i pos le) refl

pub mask_of_drop_sixteen : (xs : List ℕ) → length xs ≤ 16 → 0 ≡ mask_of_names (drop 16 xs)
unfolding mask_of_names
mask_of_drop_sixteen xs h = rw (drop_all 16 xs h) refl

pub lives_of_drop_sixteen : (xs : List ℕ) → length xs ≤ 16 → 0 ≡ lives_of_names (drop 16 xs)
unfolding lives_of_names
lives_of_drop_sixteen xs h = rw (drop_all 16 xs h) refl

-- one digit more
pub digit_and_number_below_power : (base n m digit number : ℕ) → m ≡ suc n → digit < base → number < base ^ n → digit + base * number < base ^ m
digit_and_number_below_power base n m digit number e small fits =
    let top : (number + 1) * base ≤ base ^ n * base = mul-le-mul_right base (omega arith) in
    let split : (number + 1) * base ≡ base * number + base = grind arith in
    rw (e, pow-suc base n) (omega (arith, top, split))

-- a number of fewer digits than all is below the last digit's weight
pub number_below_greater_power : (base all i number : ℕ) → 0 < base → 0 < i → i ≤ all → number < base ^ (all - i) → number < base ^ (all - 1)
number_below_greater_power base all i number some pos le fits =
    let more : base ^ (all - i) ≤ base ^ (all - 1) = pow-le-pow_right some (omega arith) in
    omega (arith, more)

-- all places are filled
pub places_are_filled_at_sixteen : (xs all : List ℕ) (i mask lives : ℕ) → length xs ≡ 16 → 16 ≤ i → take i xs ++ places_by_mask (16 - i) mask lives ≡ all → xs ≡ all
unfolding places_by_mask
places_are_filled_at_sixteen xs all i mask lives long h e =
    let none : 16 - i ≡ 0 = omega arith in
    let whole : take i xs ≡ xs = take_all i xs (omega arith) in
    sym (append-nil xs) ∙ ap (λ ys. ys ++ []) (sym whole) ∙ ap (λ k. take i xs ++ places_by_mask k mask lives) (sym none) ∙ e

place_left : (i : ℕ) → i < 16 → 16 - i ≡ suc (16 - (i + 1))
place_left i h = omega arith

-- a place outside the mask that has a life
pub life_outside_mask_is_refused : (i mask lives : ℕ) (all : Bool) → i < 16 → life_in mask lives ≡ 0 → (lives % 16 ≡ 0 → ⊥) → lives_are_within_mask (16 - i) mask lives ≡ all → false ≡ all
unfolding lives_are_within_mask
life_outside_mask_is_refused i mask lives all h none some e =
    let first : (if mask % 2 == 0 then lives % 16 == 0 else true) ≡ false = grind (arith, nat_tests) in
    let one : lives_are_within_mask (16 - i) mask lives ≡ false = rw (place_left i h, first) refl in
    sym one ∙ e

-- a place that is as it should be
pub is_masked_goes_on : (i mask lives : ℕ) (all : Bool) → i < 16 → (life_in mask lives ≡ 0 → lives % 16 ≡ 0) → lives_are_within_mask (16 - i) mask lives ≡ all
    → lives_are_within_mask (16 - (i + 1)) (mask / 2) (lives / 16) ≡ all
unfolding lives_are_within_mask
is_masked_goes_on i mask lives all h ok e =
    let first : (if mask % 2 == 0 then lives % 16 == 0 else true) ≡ true = grind (arith, nat_tests) in
    let one : lives_are_within_mask (16 - i) mask lives ≡ lives_are_within_mask (16 - (i + 1)) (mask / 2) (lives / 16) = rw (place_left i h, first) refl in
    sym one ∙ e

pub is_masked_at_sixteen : (i mask lives : ℕ) (all : Bool) → 16 ≤ i → lives_are_within_mask (16 - i) mask lives ≡ all → true ≡ all
unfolding lives_are_within_mask
is_masked_at_sixteen i mask lives all h e =
    let none : 16 - i ≡ 0 = omega arith in
    ap (λ k. lives_are_within_mask k mask lives) (sym none) ∙ e

-- ---- sets of all places

pub places_of_is_set : (mask lives : ℕ) → IsSetOfNames (places_by_mask 16 mask lives)
places_of_is_set mask lives = record { places = length-places_of 16 mask lives; lives = λ k h. get_or-places_of 16 mask lives k }

any_life : (xs : List ℕ) → IsSetOfNames xs → (k : ℕ) → get_or xs k 0 ≤ 16
any_life xs set k = elim (cases_lt k (length xs)) [ inl lt ↦ set.lives k lt | inr le ↦ rw (get_or_past xs k 0 le) (omega arith) ]

pub places_of_mask_and_lives : (xs : List ℕ) → IsSetOfNames xs → places_by_mask 16 (mask_of_names xs) (lives_of_names xs) ≡ xs
places_of_mask_and_lives xs set = places_of-set 16 xs set.places (any_life xs set)

pub mask_and_lives_are_masked : (xs : List ℕ) → IsSetOfNames xs → lives_are_within_mask 16 (mask_of_names xs) (lives_of_names xs) ≡ true
mask_and_lives_are_masked xs set = is_masked-set 16 xs set.places (any_life xs set)

pub mask_of-lt : (xs : List ℕ) → mask_of_names xs < 2 ^ length xs
unfolding mask_of_names
mask_of-lt [] = omega arith
mask_of-lt (x ∷ xs) = digit_and_number_below_power 2 (length xs) (suc (length xs)) (if x == 0 then 0 else 1) (mask_of_names xs) refl (grind (arith, nat_tests)) (mask_of-lt xs)

lives_of-lt-each : (xs : List ℕ) → ((k : ℕ) → get_or xs k 0 ≤ 16) → lives_of_names xs < 16 ^ length xs
unfolding lives_of_names
lives_of-lt-each [] each = omega arith
lives_of-lt-each (x ∷ xs) each = digit_and_number_below_power 16 (length xs) (suc (length xs)) (x - 1) (lives_of_names xs) refl (omega (arith, each 0))
    (lives_of-lt-each xs (λ k. each (suc k)))

pub lives_of-lt : (xs : List ℕ) → IsSetOfNames xs → lives_of_names xs < 16 ^ length xs
lives_of-lt xs set = lives_of-lt-each xs (any_life xs set)
