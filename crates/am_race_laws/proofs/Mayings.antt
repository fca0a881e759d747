-- Whether all records of a plan's calls fit into one journal, from their number up to a limit.
use Rattle.am_race_laws.proofs.Words.{◌≡◌, ℕ, ◌+◌, ◌*◌, ◌<◌, ◌≤◌, min, arith, mul-le-mul_left}

-- up to the limit it is the number
within : (made most : ℕ) → made ≤ most → min made most ≡ made
within made most few = omega arith

-- and above it the limit
above : (made most : ℕ) → most < made → min made most ≡ most
above made most many = omega arith

pub all_calls_fit_in_journal : (made most turns : ℕ) → 0 < most → min made most * (turns + 2) ≤ most → made * (turns + 2) ≤ most
all_calls_fit_in_journal made most turns some h = grind (arith, within, above, mul-le-mul_left)

pub capped_calls_fit_in_journal : (made most turns : ℕ) → made * (turns + 2) ≤ most → min made most * (turns + 2) ≤ most
capped_calls_fit_in_journal made most turns h = grind (arith, within, above, mul-le-mul_left)
