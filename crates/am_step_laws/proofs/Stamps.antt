-- The order of stamps.
use Rattle.am_step_laws.proofs.Words.{same_rank_same_name, ◌≡◌, ℕ, ◌<◌, ◌==◌, ◌&&◌, ◌||◌, nat_lt, Bool, true, false, ap, arith, nat_tests, Stamp, rank_of_name, stamp_is_less}
use Rattle.am_step_laws.proofs.Words.{stamps_are_equal, split_on_bool}

-- of two pairs of numbers, the first of which counts first
abbrev lt : ℕ → ℕ → ℕ → ℕ → Bool
lt a x b y = nat_lt a b || ((a == b) && nat_lt x y)

through : (a x b y c z : ℕ) → lt b y a x ≡ false → lt c z b y ≡ false → lt c z a x ≡ false
through a x b y c z h k = grind (arith, nat_tests)

then_most : (a x b y c z : ℕ) → lt a x b y ≡ true → lt c z b y ≡ false → lt a x c z ≡ true
then_most a x b y c z h k = grind (arith, nat_tests)

then_below : (a x b y c z : ℕ) → lt b y a x ≡ false → lt b y c z ≡ true → lt a x c z ≡ true
then_below a x b y c z h k = grind (arith, nat_tests)

one_way : (a x b y : ℕ) → lt a x b y ≡ true → lt b y a x ≡ false
one_way a x b y h = grind (arith, nat_tests)

not_itself : (a x : ℕ) → lt a x a x ≡ false
not_itself a x = grind (arith, nat_tests)

first_same : (a x b y : ℕ) → lt a x b y ≡ false → lt b y a x ≡ false → a ≡ b
first_same a x b y h k = grind (arith, nat_tests)

second_same : (a x b y : ℕ) → lt a x b y ≡ false → lt b y a x ≡ false → x ≡ y
second_same a x b y h k = grind (arith, nat_tests)

-- a is at most b, and b at most c
pub stamp_at_most_is_transitive : (a b c : Stamp) → stamp_is_less b a ≡ false → stamp_is_less c b ≡ false → stamp_is_less c a ≡ false
stamp_at_most_is_transitive a b c h k = through a.round (rank_of_name a.by) b.round (rank_of_name b.by) c.round (rank_of_name c.by) h k

-- a is below b, and b at most c
pub stamp_below_then_at_most : (a b c : Stamp) → stamp_is_less a b ≡ true → stamp_is_less c b ≡ false → stamp_is_less a c ≡ true
stamp_below_then_at_most a b c h k = then_most a.round (rank_of_name a.by) b.round (rank_of_name b.by) c.round (rank_of_name c.by) h k

pub stamp_not_below_itself : (a : Stamp) → stamp_is_less a a ≡ false
stamp_not_below_itself a = not_itself a.round (rank_of_name a.by)

-- what is below isn't above
pub lower_stamp_is_not_above : (a b : Stamp) → stamp_is_less a b ≡ true → stamp_is_less b a ≡ false
lower_stamp_is_not_above a b h = one_way a.round (rank_of_name a.by) b.round (rank_of_name b.by) h

-- ---- of names

-- what is neither above nor below is the same
pub unordered_stamps_are_equal : (a b : Stamp) → a.by < 256 → b.by < 256 → stamp_is_less a b ≡ false → stamp_is_less b a ≡ false → a ≡ b
unordered_stamps_are_equal a b h k not_below not_over =
    let r = first_same a.round (rank_of_name a.by) b.round (rank_of_name b.by) not_below not_over in
    let n = same_rank_same_name a.by b.by h k (second_same a.round (rank_of_name a.by) b.round (rank_of_name b.by) not_below not_over) in
    λ i. record { round = r i; by = n i }

-- what isn't above and isn't the same is below
pub other_stamp_at_most_is_below : (a b : Stamp) → a.by < 256 → b.by < 256 → stamp_is_less b a ≡ false → stamps_are_equal a b ≡ false → stamp_is_less a b ≡ true
other_stamp_at_most_is_below a b h k not_over differs = split_on_bool (stamp_is_less a b) (λ t. t)
    (λ f. absurd (let e = unordered_stamps_are_equal a b h k f not_over in
    let r : (a.round == b.round) ≡ true = let q = ap (λ (s : Stamp). s.round) e in grind (arith, nat_tests) in
    let n : (a.by == b.by) ≡ true = let q = ap (λ (s : Stamp). s.by) e in grind (arith, nat_tests) in
    let g = rw (r, n) at differs in cc))

-- a is at most b, which is below c
pub stamp_at_most_then_below : (a b c : Stamp) → stamp_is_less b a ≡ false → stamp_is_less b c ≡ true → stamp_is_less a c ≡ true
stamp_at_most_then_below a b c h k = then_below a.round (rank_of_name a.by) b.round (rank_of_name b.by) c.round (rank_of_name c.by) h k
