-- The greatest number that passes, and what passes for a range.
use Rattle.std.proofs.Common.{◌≡◌, ℕ, zero, suc, ◌+◌, ◌<◌, ◌≤◌, ◌⊎◌, Bool, true, false, ◌&&◌, refl, ap, ◌∙◌, inl, inr, arith}
use Rattle.std.proofs.lemmas.Bool.{cases_lt}
use Rattle.std.specs.List.{list_all, range_with_len}
use Rattle.am_base.specs.Fronts.{greatest_passing_number}

-- by what a test says
pub split_on_bool : {G : Type 0} (b : Bool) → (b ≡ true → G) → (b ≡ false → G) → G
split_on_bool true f g = f refl
split_on_bool false f g = g refl

pub both_of_and : (a b : Bool) → (a && b) ≡ true → (a ≡ true) × (b ≡ true)
both_of_and true b h = (refl, h)
both_of_and false b h = absurd (cc)

-- a test passes on a range where it passes on each number of it
pub each_of_range_passes : (p : ℕ → Bool) (a n : ℕ) → list_all p (range_with_len a n) ≡ true → (k : ℕ) → a ≤ k → k < a + n → p k ≡ true
each_of_range_passes p a zero h k low high = absurd (omega arith)
each_of_range_passes p a (suc n) h k low high =
    let both = both_of_and (p a) (list_all p (range_with_len (a + 1) n)) h in
    elim (cases_lt a k) [
      | inl up ↦ each_of_range_passes p (a + 1) n both.1 k (omega arith) (omega arith)
      | inr same ↦ (let e : k ≡ a = omega arith in ap p e ∙ both.0)
    ]

pub range_passes_by_each : (p : ℕ → Bool) (a n : ℕ) → ((k : ℕ) → a ≤ k → k < a + n → p k ≡ true) → list_all p (range_with_len a n) ≡ true
range_passes_by_each p a zero h = refl
range_passes_by_each p a (suc n) h =
    let first : p a ≡ true = h a (omega arith) (omega arith) in
    rw first (range_passes_by_each p (a + 1) n (λ k low high. h k (omega arith) (omega arith)))

-- the greatest is within its range, passes or is the first, and nothing above it passes
pub record IsGreatestPassing (passes : ℕ → Bool) (from more g : ℕ) : Type 0 where
  pub least : from ≤ g
  pub most : g ≤ from + more
  pub passed : (g ≡ from) ⊎ (passes g ≡ true)
  pub above : (n : ℕ) → g < n → n ≤ from + more → passes n ≡ false

lower : (passes : ℕ → Bool) (from more g : ℕ) → passes (from + suc more) ≡ false → IsGreatestPassing passes from more g → IsGreatestPassing passes from (suc more) g
lower passes from more g f h = record {
  least = h.least;
  most = (let m = h.most in omega arith);
  passed = h.passed;
  above = λ n low high. elim (cases_lt (from + more) n) [
    | inl last ↦ (let e : n ≡ from + suc more = omega arith in ap passes e ∙ f)
    | inr under ↦ h.above n low under
  ];
}

pub greatest_is_greatest_passing : (passes : ℕ → Bool) (from more : ℕ) → IsGreatestPassing passes from more (greatest_passing_number passes from more)
unfolding greatest_passing_number
greatest_is_greatest_passing passes from zero = record { least = omega arith; most = omega arith; passed = inl refl; above = λ n low high. absurd (omega arith) }
greatest_is_greatest_passing passes from (suc more) = split_on_bool (passes (from + suc more))
    (λ t. rw t (record { least = omega arith; most = omega arith; passed = inr t; above = λ n low high. absurd (omega arith) }))
    (λ f. rw f (lower passes from more (greatest_passing_number passes from more) f (greatest_is_greatest_passing passes from more)))
