-- Places 0 to 3 may found a group.
use Rattle.am_generator.proofs.Words.{◌≡◌, ℕ, zero, suc, ◌<◌, ◌≤◌, List, [], ◌∷◌, length, true, nat_le, slice_index, refl, arith, list_all, and_parts, nat_tests}
use Rattle.am_generator.proofs.Words.{MayFound, places_by_mask, size, first_lives_of_mask, generated_rules}

at_most_one : (xs : List ℕ) → list_all (λ x. nat_le x 1) xs ≡ true → (i : ℕ) → slice_index xs i ≤ 1
at_most_one [] all i = omega arith
at_most_one (x ∷ xs) all zero = let h = (and_parts (nat_le x 1) (list_all (λ y. nat_le y 1) xs) all).0 in grind (arith, nat_tests)
at_most_one (x ∷ xs) all (suc i) = at_most_one xs (and_parts (nat_le x 1) (list_all (λ y. nat_le y 1) xs) all).1 i

first_four : (i : ℕ) → slice_index (first_lives_of_mask 15) i ≤ 1
unfolding places_by_mask
first_four i = at_most_one (first_lives_of_mask 15) refl i

places : length (first_lives_of_mask 15) ≡ 16
unfolding places_by_mask
places = refl

four : 0 < size (first_lives_of_mask 15)
unfolding places_by_mask
four = omega arith

pub generated_rules_may_found : MayFound generated_rules
generated_rules_may_found = record {
  names = record { places = places; lives = λ i low. omega (arith, first_four i) };
  somebody = four;
  first_lives = λ i low. first_four i;
  resilience_within = omega arith;
  window_least = omega arith;
  window_most = omega arith;
  pb_up_to_within = omega arith;
}
