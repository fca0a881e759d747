-- Stamps in order.
use Rattle.am_resetting.proofs.DecidingWords.{◌≡◌, ◌⊎◌, ⊎_elim, inl, inr, ℕ, ◌+◌, ◌<◌, ◌≤◌, Bool, true, false, ◌==◌, ◌&&◌, ◌||◌, nat_lt, refl, ap, arith, nat_tests}
use Rattle.am_resetting.proofs.DecidingWords.{Stamp, rank_of_name, stamp_is_less, stamps_are_equal, split_on_bool_of_log}

-- pairs of numbers in order
abbrev lex : ℕ → ℕ → ℕ → ℕ → Bool
lex r a s b = nat_lt r s || ((r == s) && nat_lt a b)

lex_not : (r a s b : ℕ) → lex r a s b ≡ false → (s < r) ⊎ ((r ≡ s) × (b ≤ a))
lex_not r a s b h = split_on_bool_of_log (nat_lt r s)
    (λ t. absurd (let g = rw t at h in cc))
    (λ f. split_on_bool_of_log (r == s)
    (λ e. inr (grind (arith, nat_tests), let g = rw (f, e) at h in grind (arith, nat_tests)))
    (λ e. inl (grind (arith, nat_tests))))

lex_low : (r a s b : ℕ) → (s < r) ⊎ ((r ≡ s) × (b ≤ a)) → lex r a s b ≡ false
lex_low r a s b = λ h. ⊎_elim
    (λ (l : s < r). let f : nat_lt r s ≡ false = grind (arith, nat_tests) in let e : (r == s) ≡ false = grind (arith, nat_tests) in rw (f, e) refl)
    (λ (l : (r ≡ s) × (b ≤ a)). let x = l.0 in let y = l.1 in let f : nat_lt r s ≡ false = grind (arith, nat_tests) in
    let g : nat_lt a b ≡ false = grind (arith, nat_tests) in split_on_bool_of_log (r == s) (λ e. rw (f, e, g) refl) (λ e. rw (f, e) refl))
    h

pub stamp_not_lt_itself : (a : Stamp) → stamp_is_less a a ≡ false
stamp_not_lt_itself a = lex_low a.round (rank_of_name a.by) a.round (rank_of_name a.by) (inr (refl, omega arith))

-- not below one that isn't below a third
pub stamp_not_lt_transitive : (a b c : Stamp) → stamp_is_less a b ≡ false → stamp_is_less b c ≡ false → stamp_is_less a c ≡ false
stamp_not_lt_transitive a b c h k =
    let x = lex_not a.round (rank_of_name a.by) b.round (rank_of_name b.by) h in
    let y = lex_not b.round (rank_of_name b.by) c.round (rank_of_name c.by) k in
    lex_low a.round (rank_of_name a.by) c.round (rank_of_name c.by) (⊎_elim
    (λ (l : b.round < a.round). ⊎_elim (λ (m : c.round < b.round). inl (omega arith)) (λ (m : (b.round ≡ c.round) × (rank_of_name c.by ≤ rank_of_name b.by)). let e =
    m.0 in inl (omega arith)) y)
    (λ (l : (a.round ≡ b.round) × (rank_of_name b.by ≤ rank_of_name a.by)).
    let e = l.0 in
    let u = l.1 in
    ⊎_elim (λ (m : c.round < b.round). inl (omega arith)) (λ (m : (b.round ≡ c.round) × (rank_of_name c.by ≤ rank_of_name b.by)). let f = m.0 in let w = m.1 in
    inr (omega arith, omega arith)) y)
    x)

-- two equal stamps are one
pub equal_stamps_are_same : (a b : Stamp) → stamps_are_equal a b ≡ true → a ≡ b
equal_stamps_are_same a b h =
    let r : a.round ≡ b.round = grind (arith, nat_tests) in
    let n : a.by ≡ b.by = grind (arith, nat_tests) in
    λ i. record { round = r i; by = n i }

-- what is above is another
pub stamp_of_view_not_promised : (p v view : Stamp) → stamp_is_less p v ≡ true → stamp_is_less p view ≡ false → stamps_are_equal v view ≡ false
stamp_of_view_not_promised p v view h k = split_on_bool_of_log (stamps_are_equal v view)
    (λ t. absurd (let e = ap (stamp_is_less p) (equal_stamps_are_same v view t) in cc))
    (λ f. f)

-- of two names that are bytes one is above, where they aren't one
pub stamp_lt_if_neither : (v p : Stamp) → v.by < 256 → p.by < 256 → stamp_is_less v p ≡ false → stamps_are_equal v p ≡ false → stamp_is_less p v ≡ true
stamp_lt_if_neither v p l k h apart = split_on_bool_of_log (stamp_is_less p v) (λ t. t) (λ f.
    let x = lex_not v.round (rank_of_name v.by) p.round (rank_of_name p.by) h in
    let y = lex_not p.round (rank_of_name p.by) v.round (rank_of_name v.by) f in
    let both : (v.round ≡ p.round) × (rank_of_name v.by ≡ rank_of_name p.by) = ⊎_elim
    (λ (a : p.round < v.round). ⊎_elim (λ (b : v.round < p.round). absurd (omega arith)) (λ (b : (p.round ≡ v.round) × (rank_of_name v.by ≤ rank_of_name p.by)). let e =
    b.0 in absurd (omega arith)) y)
    (λ (a : (v.round ≡ p.round) × (rank_of_name p.by ≤ rank_of_name v.by)). let e = a.0 in let u = a.1 in
    ⊎_elim (λ (b : v.round < p.round). absurd (omega arith)) (λ (b : (p.round ≡ v.round) × (rank_of_name v.by ≤ rank_of_name p.by)). let w = b.1 in
    (e, omega arith)) y)
    x in
    let r = both.0 in
    let q = both.1 in
    let n : v.by ≡ p.by = omega arith in
    let tr : (v.round == p.round) ≡ true = grind (arith, nat_tests) in
    let tn : (v.by == p.by) ≡ true = grind (arith, nat_tests) in
    absurd (let e = rw (tr, tn) at apart in cc))

-- the next round is above
pub stamp_lt_next_round : (p view : Stamp) (who : ℕ) → stamp_is_less p view ≡ false → stamp_is_less view (record { round = p.round + 1; by = who }) ≡ true
stamp_lt_next_round p view who h =
    let x = lex_not p.round (rank_of_name p.by) view.round (rank_of_name view.by) h in
    let low : view.round < p.round + 1 = ⊎_elim (λ (a : view.round < p.round). omega arith) (λ (a : (p.round ≡ view.round)
    × (rank_of_name view.by ≤ rank_of_name p.by)). let e = a.0 in omega arith) x in
    let t : nat_lt view.round (p.round + 1) ≡ true = grind (arith, nat_tests) in
    rw t refl

-- a stamp above another isn't it
pub stamp_lt_not_equal : (view v : Stamp) → stamp_is_less view v ≡ true → stamps_are_equal v view ≡ false
stamp_lt_not_equal view v h = split_on_bool_of_log (stamps_are_equal v view)
    (λ t. absurd (let e = ap (stamp_is_less view) (equal_stamps_are_same v view t) in let s = stamp_not_lt_itself view in cc))
    (λ f. f)
