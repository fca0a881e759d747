-- Fronts of all names.
use Rattle.std.proofs.Common.{◌≡◌, ℕ, zero, suc, Bool, true, false, ◌<◌, ◌≤◌, List, ◌∷◌, [], length, Option, Some, None, get_or, slice_get, sym, ◌∙◌, arith}
use Rattle.std.specs.Prelude.{if◌then◌else◌}
use Rattle.std.proofs.lemmas.List.FromFn.{fill_by_all, length-map-range_with_len, get_or-map-range_with_len}
use Rattle.am_base.specs.declared.entry.Entry.{Entry}
use Rattle.am_base.specs.Names.{has}
use Rattle.am_group.specs.Groups.{AreFronts, founders_fronts}

-- all fronts are filled
pub fronts_filled_are_founders_fronts : (founders : List ℕ) (fronts : List (Option ℕ)) → length fronts ≡ 256
    → ((k : ℕ) → k < 256 → get_or fronts k None ≡ (if has founders k then Some 0 else None)) → fronts ≡ founders_fronts founders
unfolding founders_fronts
fronts_filled_are_founders_fronts founders fronts long each = fill_by_all (λ name. if has founders name then Some 0 else None) fronts 256 None long each

get_or_some : {A : Type 0} (xs : List A) (k : ℕ) (d x : A) → slice_get xs k ≡ Some x → get_or xs k d ≡ x
get_or_some [] k d x h = absurd cc
get_or_some (y ∷ ys) zero d x h = cc
get_or_some (y ∷ ys) (suc k) d x h = get_or_some ys k d x h

get_short : {A : Type 0} (xs : List A) (k : ℕ) (x : A) → slice_get xs k ≡ Some x → k < length xs
get_short [] k x h = absurd cc
get_short (y ∷ ys) zero x h = omega arith
get_short (y ∷ ys) (suc k) x h = let l = get_short ys k x h in omega arith

first_is : (founder : Bool) (front : ℕ) → (if founder then Some 0 else None) ≡ Some front → front ≤ 1
first_is true front h = let same : 0 ≡ front = cc in omega (arith, same)
first_is false front h = absurd cc

length-founders_fronts : (founders : List ℕ) → length (founders_fronts founders) ≡ 256
unfolding founders_fronts
length-founders_fronts founders = let f : ℕ → Option ℕ = λ name. if has founders name then Some 0 else None in length-map-range_with_len f 0 256

front-founders_fronts : (founders : List ℕ) (name : ℕ) → name < 256 → get_or (founders_fronts founders) name None ≡ (if has founders name then Some 0 else None)
unfolding founders_fronts
front-founders_fronts founders name h = let f : ℕ → Option ℕ = λ n. if has founders n then Some 0 else None in
    get_or-map-range_with_len f 0 256 name name None h (omega arith)

-- the fronts of a new group
pub fronts_of_new_list : (entries : List Entry) (founders : List ℕ) → length entries ≡ 1 → AreFronts entries (founders_fronts founders)
fronts_of_new_list entries founders one = record {
  few = omega (arith, one);
  names = length-founders_fronts founders;
  within = λ name front h.
      let lt : name < 256 = let l = get_short (founders_fronts founders) name (Some front) h in omega (arith, l, length-founders_fronts founders) in
      let is : (if has founders name then Some 0 else None) ≡ Some front = sym (front-founders_fronts founders name lt)
      ∙ get_or_some (founders_fronts founders) name None (Some front) h in
      let le = first_is (has founders name) front is in
      omega (arith, le, one);
}
