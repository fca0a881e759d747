-- The names of a set that pass a test.
use Rattle.am_resetting.proofs.DecidingWords.{◌≡◌, ℕ, List, Bool, true, ◌==◌, ◌||◌, slice_index, refl, sym, ap, ◌∙◌, arith, nat_tests, name_of_place_and_life, names_are_within, list_by_place}
use Rattle.am_resetting.proofs.DecidingWords.{slice_index-by_place, split_on_bool_of_log, set_within_by_each_place, life_where_name_passes, names_that_pass}

-- each of those is one of the set
where_within : (test : ℕ → Bool) (place life : ℕ) → ((life_where_name_passes test place life == 0) || (life_where_name_passes test place life == life)) ≡ true
where_within test place life = split_on_bool_of_log (life == 0)
    (λ t. rw t refl)
    (λ f. rw f (split_on_bool_of_log (test (name_of_place_and_life place life))
    (λ t. rw t (let e : (life == life) ≡ true = grind (arith, nat_tests) in rw (f, e) refl))
    (λ t. rw t refl)))

pub those_of_set_within_set : (test : ℕ → Bool) (set : List ℕ) → names_are_within (names_that_pass test set) set ≡ true
unfolding names_that_pass
those_of_set_within_set test set =
    let f : ℕ → ℕ = λ place. life_where_name_passes test place (slice_index set place) in
    sym (set_within_by_each_place (list_by_place f) set (λ k h. ap (λ (x : ℕ). (x == 0) || (x == slice_index set k)) (slice_index-by_place f k h)
    ∙ where_within test k (slice_index set k)))
