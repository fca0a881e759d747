-- What an entry of the group list makes of what is kept.
use Rattle.am_base.specs.declared.entry.GroupView.{GroupView}
use Rattle.am_lawful_watch.proofs.WatchWords.{◌≡◌, ℕ, List, [], ◌∷◌, map, Option, Some, None, refl, ap, ◌∙◌, Stamp, Entry, Data, Join, Leave, View, Pending}
use Rattle.am_lawful_watch.proofs.WatchWords.{Watching, number_of_view, number_or_else, place_view_among_entries, place_view, watch_accepts}

or_none : (o : Option ℕ) → number_or_else o None ≡ o
or_none None = refl
or_none (Some n) = refl

same_each : {A : Type 0} (f : A → A) → ((x : A) → f x ≡ x) → (xs : List A) → map f xs ≡ xs
same_each f h [] = refl
same_each f h (x ∷ xs) = ap (λ y. y ∷ map f xs) (h x) ∙ ap (λ ys. x ∷ ys) (same_each f h xs)

both_each : {A : Type 0} (f g : A → A) → ((x : A) → f x ≡ g x) → (xs : List A) → map f xs ≡ map g xs
both_each f g h [] = refl
both_each f g h (x ∷ xs) = ap (λ y. y ∷ map f xs) (h x) ∙ ap (λ ys. g x ∷ ys) (both_each f g h xs)

none_placed : (k : Watching) (number : ℕ) (e : Entry) → ((s : Stamp) → number_of_view s number (e ∷ []) ≡ None) → watch_accepts k number (e ∷ []) ≡ k
none_placed k number e h =
    let none : (v : Pending) → place_view_among_entries number (e ∷ []) v ≡ v =
    λ v. ap (λ o. record v { number_in_group = o }) (ap (number_or_else v.number_in_group) (h v.decided.view.stamp) ∙ or_none v.number_in_group) in
    ap (λ ps. record k { pending = ps }) (same_each (place_view_among_entries number (e ∷ [])) none k.pending)

pub accept_of_data_entry : (k : Watching) (number from req : ℕ) (body : List ℕ) → watch_accepts k number (Data from req body ∷ []) ≡ k
unfolding number_of_view
accept_of_data_entry k number from req body = none_placed k number (Data from req body) (λ s. refl)

pub accept_of_join_entry : (k : Watching) (number name : ℕ) → watch_accepts k number (Join name ∷ []) ≡ k
unfolding number_of_view
accept_of_join_entry k number name = none_placed k number (Join name) (λ s. refl)

pub accept_of_leave_entry : (k : Watching) (number name : ℕ) → watch_accepts k number (Leave name ∷ []) ≡ k
unfolding number_of_view
accept_of_leave_entry k number name = none_placed k number (Leave name) (λ s. refl)

pub accept_of_view_entry : (k : Watching) (number : ℕ) (v : GroupView)
    → watch_accepts k number (View v ∷ []) ≡ record k { pending = map (place_view number v.stamp) k.pending }
unfolding number_of_view
accept_of_view_entry k number w = ap (λ ps. record k { pending = ps })
    (both_each (place_view_among_entries number (View w ∷ [])) (place_view number w.stamp) (λ v. refl) k.pending)
