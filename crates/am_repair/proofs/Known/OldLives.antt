-- In each run a name whose place has a greater life has stopped.
use Rattle.am_repair.proofs.RepairWords.{◌≡◌, ℕ, ◌+◌, ◌<◌, ◌==◌, true, false, List, [], ◌∷◌, ◌++◌, refl, sym, ap, ◌∙◌, subst, arith, list_any, nat_tests}
use Rattle.am_repair.proofs.RepairWords.{list_any-append, Rules, place_of_name, life_of_name, Event, World, start, current, is_stopped, world_with_record, world_with_step, run}
use Rattle.am_repair.proofs.RepairWords.{split_on_bool, acting_name, stops, returns, EventsKeep, runs_keep_what_events_keep}

pub record OldLivesHaveStopped (w : World) : Type 0 where
  pub born : (place : ℕ) → 0 < w.lives place
  pub old : (name : ℕ) → life_of_name name < w.lives (place_of_name name) → is_stopped w name ≡ true

with_more : (xs ys : List ℕ) (name : ℕ) → list_any (λ x. x == name) xs ≡ true → list_any (λ x. x == name) (xs ++ ys) ≡ true
with_more xs ys name there = list_any-append (λ x. x == name) xs ys ∙ rw there refl

last_there : (xs : List ℕ) (name : ℕ) → list_any (λ x. x == name) (xs ++ name ∷ []) ≡ true
last_there xs name =
    let t : (name == name) ≡ true = grind (arith, nat_tests) in
    list_any-append (λ x. x == name) xs (name ∷ []) ∙ split_on_bool (list_any (λ x. x == name) xs) (λ a. rw a refl) (λ a. rw (a, t) refl)

old_life : (place lives name : ℕ) → place_of_name name ≡ place → life_of_name name < lives + 1 → (life_of_name name == lives) ≡ false → life_of_name name < lives
old_life place lives name at low f = let differs : life_of_name name ≡ lives → ⊥ = λ same. (let z : ⊥ = grind (arith, nat_tests) in z) in omega arith

-- whoever acts at a place is a name of that place
each_old : EventsKeep OldLivesHaveStopped
unfolding world_with_record world_with_step
each_old w e v (stops runs) h = record { born = h.born; old = λ name low. with_more w.stopped (acting_name w e ∷ []) name (h.old name low) }
each_old w e v (returns place is left more) h = record {
  born = λ p. split_on_bool (p == place) (λ t. rw t (omega arith)) (λ f. rw f (h.born p));
  old = λ name low. split_on_bool (place_of_name name == place)
      (λ t.
      let at : place_of_name name ≡ place = grind (arith, nat_tests) in
      let lives = ap (λ p. w.lives p) at in
      let older : life_of_name name < w.lives place + 1 = rw t at low in
      split_on_bool (life_of_name name == w.lives place)
      (λ now.
      let life : life_of_name name ≡ w.lives place = grind (arith, nat_tests) in
      let same : current w place ≡ name = omega arith in
      split_on_bool (is_stopped w (current w place))
      (λ s. rw s (subst (λ x. is_stopped w x ≡ true) same s))
      (λ s. rw s (subst (λ x. list_any (λ y. y == name) (w.stopped ++ x ∷ []) ≡ true) (sym same) (last_there w.stopped name))))
      (λ before.
      let was = h.old name (let younger = old_life place (w.lives place) name at older before in omega arith) in
      split_on_bool (is_stopped w (current w place)) (λ s. rw s was) (λ s. rw s (with_more w.stopped (current w place ∷ []) name was))))
      (λ f.
      let was = h.old name (rw f at low) in
      split_on_bool (is_stopped w (current w place)) (λ s. rw s was) (λ s. rw s (with_more w.stopped (current w place ∷ []) name was)));
}
each_old w e v _ h = record { born = h.born; old = h.old }

pub run_old_lives_have_stopped : (rules : Rules) (events : List Event) → OldLivesHaveStopped (run rules events)
run_old_lives_have_stopped rules events = runs_keep_what_events_keep OldLivesHaveStopped each_old (start rules) events (record { born = λ place. omega arith; old = λ name low. absurd (omega arith) })
