-- A filter that nothing fails.
use Rattle.std.proofs.Common.{◌≡◌, List, [], ◌∷◌, filter, cond, Bool, true, refl, ap, ◌∙◌}
use Rattle.std.specs.List.{list_all}
use Rattle.std.proofs.lemmas.Bool.{and_parts}
use Rattle.am_node_defs.specs.declared.bodies.KeptBody.{KeptBody}

pub filter_that_keeps_all_bodies : (p : KeptBody → Bool) (xs : List KeptBody) → list_all p xs ≡ true → filter p xs ≡ xs
filter_that_keeps_all_bodies p [] is = refl
filter_that_keeps_all_bodies p (x ∷ xs) is =
    ap (λ (b : Bool). cond b (x ∷ filter p xs) (filter p xs)) (and_parts (p x) (list_all p xs) is).0
    ∙ ap (λ (l : List KeptBody). x ∷ l) (filter_that_keeps_all_bodies p xs (and_parts (p x) (list_all p xs) is).1)
