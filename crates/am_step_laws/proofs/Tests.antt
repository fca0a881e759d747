-- What tests in a row say.
use Rattle.am_step_laws.proofs.EffectWords.{not-false, ℕ, ◌==◌, eq-eqb, ◌≡◌, Bool, true, false, not, ◌&&◌, ◌||◌, refl}

pub number_equals_itself : (n : ℕ) → (n == n) ≡ true
number_equals_itself n = eq-eqb n n refl

-- where one of them would pass, none does
pub or_false_first_is_false : (a b : Bool) → (a || b) ≡ false → a ≡ false
or_false_first_is_false true b h = h
or_false_first_is_false false b h = refl

pub or_false_second_is_false : (a b : Bool) → (a || b) ≡ false → b ≡ false
or_false_second_is_false true b h = absurd (cc)
or_false_second_is_false false b h = h

-- where both would have to pass, the other doesn't
and_second : (a b : Bool) → (a && b) ≡ false → a ≡ true → b ≡ false
and_second true b h t = h
and_second false b h t = absurd (cc)

pub and_false_first_is_false : (a b : Bool) → (a && b) ≡ false → b ≡ true → a ≡ false
and_false_first_is_false true b h t = absurd (cc)
and_false_first_is_false false b h t = refl

pub and_not_false_then_other : (a b : Bool) → (a && not b) ≡ false → a ≡ true → b ≡ true
and_not_false_then_other a b h t = not-false b (and_second a (not b) h t)
