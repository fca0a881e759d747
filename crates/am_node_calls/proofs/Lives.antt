-- Life 1 of all places but one.
use Rattle.am_node_calls.proofs.Words.{◌≡◌, ℕ, ◌<◌, ◌≤◌, List, [], ◌∷◌, length, get_or, get_or-set_same, get_or-set_other, ◌==◌, if◌then◌else◌, ◌∙◌, arith}
use Rattle.am_node_calls.proofs.Words.{slice_set, slice_index, nat_tests, get_or-replicate, list_by_place, sixteen_items_are_by_place, split_on_bool_of_log}
use Rattle.std.proofs.Math.ListN as listn

abbrev pub life_one_of_sixteen_places : List ℕ
life_one_of_sixteen_places = 1 ∷ 1 ∷ 1 ∷ 1 ∷ 1 ∷ 1 ∷ 1 ∷ 1 ∷ 1 ∷ 1 ∷ 1 ∷ 1 ∷ 1 ∷ 1 ∷ 1 ∷ 1 ∷ []

ones_at : (k : ℕ) → k < 16 → get_or life_one_of_sixteen_places k 0 ≡ 1
ones_at k low = get_or-replicate 16 k 1 0 low

at : (own k : ℕ) → own < 16 → k < 16 → get_or (slice_set life_one_of_sixteen_places own 0) k 0 ≡ (if k == own then 0 else 1)
at own k here low = split_on_bool_of_log (k == own)
    (λ t. let e : k ≡ own = grind (arith, nat_tests) in rw (t, e) (get_or-set_same life_one_of_sixteen_places own 0 0 here))
    (λ f. let other : k ≡ own → ⊥ = λ e. let z : ⊥ = grind (arith, nat_tests) in z in rw f (get_or-set_other life_one_of_sixteen_places own k 0 0 other ∙ ones_at k low))

pub life_one_of_others : (own : ℕ) → own < 16 → slice_set life_one_of_sixteen_places own 0 ≡ list_by_place (λ place. if place == own then 0 else 1)
life_one_of_others own here = sixteen_items_are_by_place (λ place. if place == own then 0 else 1) (slice_set life_one_of_sixteen_places own 0) 0 (listn.length-set life_one_of_sixteen_places own 0) (λ k low. at own k here low)

pub lives_of_others_le_sixteen : (own i : ℕ) → own < 16 → i < length (slice_set life_one_of_sixteen_places own 0) → slice_index (slice_set life_one_of_sixteen_places own 0) i ≤ 16
lives_of_others_le_sixteen own i here low = let long = listn.length-set life_one_of_sixteen_places own 0 in let e = at own i here (omega arith) in split_on_bool_of_log (i == own)
    (λ t. let z = rw t at e in omega arith)
    (λ f. let z = rw f at e in omega arith)
