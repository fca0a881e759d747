-- Nodes of which one changes.
use Rattle.am_world.proofs.Words.{◌≡◌, ℕ, zero, suc, ◌<◌, List, [], ◌∷◌, length, Some, slice_get, slice_set, slice_index_or, refl, ap, arith, slice_get_read}

pub slice_get_where_set : {A : Type 0} (xs : List A) (i : ℕ) (y z : A) → i < length xs → slice_get (slice_set xs i y) i ≡ Some z → y ≡ z
slice_get_where_set [] i y z h g = absurd (omega arith)
slice_get_where_set (a ∷ xs) zero y z h g = cc
slice_get_where_set (a ∷ xs) (suc i) y z h g = slice_get_where_set xs i y z (omega arith) g

pub slice_get_beside_set : {A : Type 0} (xs : List A) (i j : ℕ) (y : A) → (j ≡ i → ⊥) → slice_get (slice_set xs i y) j ≡ slice_get xs j
slice_get_beside_set [] i j y n = refl
slice_get_beside_set (a ∷ xs) zero zero y n = absurd (n refl)
slice_get_beside_set (a ∷ xs) zero (suc j) y n = refl
slice_get_beside_set (a ∷ xs) (suc i) zero y n = refl
slice_get_beside_set (a ∷ xs) (suc i) (suc j) y n = slice_get_beside_set xs i j y (λ e. n (ap suc e))

-- what was read at a place
pub slice_get_of_read_item : {A : Type 0} (xs : List A) (i place : ℕ) (x : A) → i ≡ place → place < length xs → x ≡ slice_index_or xs i x → slice_get xs place ≡ Some x
slice_get_of_read_item xs i place x same within is = slice_get_read xs (length xs) place x refl within (rw (← same) is)
