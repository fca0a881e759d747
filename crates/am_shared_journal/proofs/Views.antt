-- How often a key stands among views.
use Rattle.am_shared_journal.proofs.Words.{◌≡◌, ◌≢◌, ℕ, zero, suc, ◌+◌, ◌≤◌, List, [], ◌∷◌, ◌++◌, set, sym, refl, ap, arith, sum_by-cons, some, some-injective}
use Rattle.am_shared_journal.proofs.Words.{some-ne-none, get_elem?, SharerKey, SeatView, times, seats_with_key}

same_keys : (key : SharerKey) (x v : SeatView) → some x ≡ some v → times key x.keys ≡ times key v.keys
same_keys key x v e = ap (λ (u : SeatView). times key u.keys) (some-injective x v e)

stand_cons : (key : SharerKey) (v : SeatView) (vs : List SeatView) → seats_with_key key (v ∷ vs) ≡ times key v.keys + seats_with_key key vs
stand_cons key v vs = sum_by-cons (λ u. times key u.keys) v vs

pub standing_after_set_view : (key : SharerKey) (vs : List SeatView) (i : ℕ) (v w : SeatView) → get_elem? vs i ≡ some v
    → seats_with_key key (set vs i w) + times key v.keys ≡ seats_with_key key vs + times key w.keys
standing_after_set_view key [] i v w at = absurd (some-ne-none v (sym at))
standing_after_set_view key (x ∷ vs) zero v w at = omega (arith, same_keys key x v at, stand_cons key w vs, stand_cons key x vs)
standing_after_set_view key (x ∷ vs) (suc i) v w at = omega (arith, standing_after_set_view key vs i v w at, stand_cons key x (set vs i w), stand_cons key x vs)

pub standing_after_pushed_view : (key : SharerKey) (vs : List SeatView) (w : SeatView) → seats_with_key key (vs ++ w ∷ []) ≡ seats_with_key key vs + times key w.keys
standing_after_pushed_view key [] w = omega (arith, stand_cons key w [])
standing_after_pushed_view key (x ∷ vs) w = omega (arith, standing_after_pushed_view key vs w, stand_cons key x (vs ++ w ∷ []), stand_cons key x vs)

pub keys_of_view_le_standing : (key : SharerKey) (vs : List SeatView) (i : ℕ) (v : SeatView) → get_elem? vs i ≡ some v → times key v.keys ≤ seats_with_key key vs
keys_of_view_le_standing key [] i v at = absurd (some-ne-none v (sym at))
keys_of_view_le_standing key (x ∷ vs) zero v at = omega (arith, same_keys key x v at, stand_cons key x vs)
keys_of_view_le_standing key (x ∷ vs) (suc i) v at = omega (arith, keys_of_view_le_standing key vs i v at, stand_cons key x vs)

pub two_view_keys_le_standing : (key : SharerKey) (vs : List SeatView) (i j : ℕ) (v w : SeatView) → i ≢ j → get_elem? vs i ≡ some v → get_elem? vs j ≡ some w
    → times key v.keys + times key w.keys ≤ seats_with_key key vs
two_view_keys_le_standing key [] i j v w apart at there = absurd (some-ne-none v (sym at))
two_view_keys_le_standing key (x ∷ vs) zero zero v w apart at there = absurd (apart refl)
two_view_keys_le_standing key (x ∷ vs) zero (suc j) v w apart at there = omega (arith, same_keys key x v at, keys_of_view_le_standing key vs j w there, stand_cons key x vs)
two_view_keys_le_standing key (x ∷ vs) (suc i) zero v w apart at there = omega (arith, same_keys key x w there, keys_of_view_le_standing key vs i v at, stand_cons key x vs)
two_view_keys_le_standing key (x ∷ vs) (suc i) (suc j) v w apart at there = omega (arith, two_view_keys_le_standing key vs i j v w (λ e. apart (ap suc e)) at there, stand_cons key x vs)
