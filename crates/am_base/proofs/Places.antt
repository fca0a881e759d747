-- Lists of sixteen places.
use Rattle.std.proofs.Common.{◌≡◌, ℕ, ◌<◌, List, length, slice_index, get_or, refl, arith}
use Rattle.std.proofs.lemmas.List.FromFn.{fill_by_all, get_or-map-range_with_len}
use Rattle.am_base.specs.Names.{list_by_place}

-- a list of sixteen items, each as the function gives
pub sixteen_items_are_by_place : {A : Type 0} (f : ℕ → A) (xs : List A) (d : A) → length xs ≡ 16 → ((k : ℕ) → k < 16 → get_or xs k d ≡ f k) → xs ≡ list_by_place f
unfolding list_by_place
sixteen_items_are_by_place f xs d long each = fill_by_all f xs 16 d long each

pub get_or-by_place : {A : Type 0} (f : ℕ → A) (k : ℕ) (d : A) → k < 16 → get_or (list_by_place f) k d ≡ f k
unfolding list_by_place
get_or-by_place f k d h = get_or-map-range_with_len f 0 16 k k d h (omega arith)

pub slice_index-by_place : (f : ℕ → ℕ) (k : ℕ) → k < 16 → slice_index (list_by_place f) k ≡ f k
slice_index-by_place f k h = get_or-by_place f k 0 h

pub length-by_place : {A : Type 0} (f : ℕ → A) → length (list_by_place f) ≡ 16
unfolding list_by_place
length-by_place f = refl

pub ruleset by_place_rules = (get_or-by_place, slice_index-by_place, length-by_place)
