-- Whether one of a set's names passes a test, place by place.
use Rattle.am_lawful_defs.proofs.Words.{◌≡◌, ℕ, ◌+◌, ◌<◌, ◌≤◌, Bool, false, ◌&&◌, ◌||◌, nat_lt, List, ◌∷◌, length, drop, slice_index, slice_index_or, ap}
use Rattle.am_lawful_defs.proofs.Words.{list_any, drop_more, at_drop_all, names_from, name_of_place_and_life, split_on_bool, names_from_next_place, names_from_last_place, DecidedView, Pending, Watching}
use Rattle.am_lawful_defs.proofs.Words.{greater_if_complete, watch_greatest}

pub list_any_with_next_place : (p : ℕ → Bool) (set : List ℕ) (place : ℕ) → place < length set
    → list_any p (names_from place (drop place set)) ≡ ((nat_lt 0 (slice_index set place) && p (name_of_place_and_life place (slice_index set place)))
    || list_any p (names_from (place + 1) (drop (place + 1) set)))
list_any_with_next_place p set place h =
    let name = name_of_place_and_life place (slice_index set place) in
    let rest = names_from (place + 1) (drop (place + 1) set) in
    split_on_bool (nat_lt 0 (slice_index set place))
    (λ t. let e : names_from place (drop place set) ≡ name ∷ rest = rw t at (names_from_next_place set place h) in rw t (ap (list_any p) e))
    (λ t. let e : names_from place (drop place set) ≡ rest = rw t at (names_from_next_place set place h) in rw t (ap (list_any p) e))

pub list_any_past_last_place : (p : ℕ → Bool) (set : List ℕ) (place : ℕ) → length set ≤ place → list_any p (names_from place (drop place set)) ≡ false
list_any_past_last_place p set place h = ap (list_any p) (names_from_last_place set place h)

pub ruleset any_of_set_rules = (list_any_with_next_place, list_any_past_last_place)

-- ---- the greatest complete view, one after another

pub greatest_view_with_next_pending : (k : Watching) (best : DecidedView) (vs : List Pending) (i : ℕ) (d : Pending) → i < length vs
    → watch_greatest k best (drop i vs) ≡ watch_greatest k (greater_if_complete k best (slice_index_or vs i d)) (drop (i + 1) vs)
unfolding watch_greatest
greatest_view_with_next_pending k best vs i d h = ap (watch_greatest k best) (drop_more vs i d h)

pub greatest_view_past_last_pending : (k : Watching) (best : DecidedView) (vs : List Pending) (i : ℕ) → length vs ≤ i → watch_greatest k best (drop i vs) ≡ best
unfolding watch_greatest
greatest_view_past_last_pending k best vs i h = at_drop_all (watch_greatest k best) vs i h

pub ruleset greatest_view_rules = (greatest_view_with_next_pending, greatest_view_past_last_pending)
