-- What a test finds in a list.
use Rattle.std.proofs.Common.{◌≡◌, List, [], ◌∷◌, Bool, true, Some, find, sym, ap, ◌∙◌}
use Rattle.am_base.proofs.Greatest.{split_on_bool}

-- it passes the test
pub found_passes_test : {A : Type 0} (p : A → Bool) (xs : List A) (x : A) → find p xs ≡ Some x → p x ≡ true
found_passes_test p [] x g = absurd (cc)
found_passes_test p (z ∷ xs) x g = split_on_bool (p z)
    (λ t. let found = rw t at g in let same : z ≡ x = cc in ap p (sym same) ∙ t)
    (λ f. found_passes_test p xs x (rw f at g))
