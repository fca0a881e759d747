-- Changed functions, and counts.
use Rattle.am_abstract_group.proofs.Words.{split_on_bool, ◌≡◌, ◌≢◌, ◌⊎◌, ⊎_elim, inl, inr, ℕ, zero, suc, ◌<◌, ◌≤◌, ◌==◌, ◌&&◌, Bool, true, false, refl, sym, subst, arith}
use Rattle.am_abstract_group.proofs.Words.{nat_tests, function_with_value, function_with_value_of_two, count_of_passing_below}

-- by which of two is so
pub either_of_two_gives : {A B G : Type 0} → A ⊎ B → (A → G) → (B → G) → G
either_of_two_gives h f g = ⊎_elim f g h

pub put_at_same_or_other : {A : Type 0} (f : ℕ → A) (i : ℕ) (x : A) (j : ℕ) → ((j ≡ i) × (function_with_value f i x j ≡ x)) ⊎ ((j ≢ i) × (function_with_value f i x j ≡ f j))
unfolding function_with_value
put_at_same_or_other f i x j = split_on_bool (j == i)
    (λ t. inl (grind (arith, nat_tests), rw t refl))
    (λ t. inr (grind (arith, nat_tests), rw t refl))

pub put_at_same_index : {A : Type 0} (f : ℕ → A) (i : ℕ) (x : A) → function_with_value f i x i ≡ x
put_at_same_index f i x = either_of_two_gives (put_at_same_or_other f i x i) (λ c. c.1) (λ c. absurd (c.0 refl))

pub put_at_other_index : {A : Type 0} (f : ℕ → A) (i : ℕ) (x : A) (j : ℕ) → j ≢ i → function_with_value f i x j ≡ f j
put_at_other_index f i x j h = either_of_two_gives (put_at_same_or_other f i x j) (λ c. absurd (h c.0)) (λ c. c.1)

-- what holds of the new value and of each other old one
pub put_keeps_property : {A : Type 0} (P : ℕ → A → Type 0) (f : ℕ → A) (i : ℕ) (x : A) → P i x → ((j : ℕ) → j ≢ i → P j (f j)) → (j : ℕ) → P j (function_with_value f i x j)
put_keeps_property P f i x new old j = either_of_two_gives (put_at_same_or_other f i x j)
    (λ c. subst (λ y. P j y) (sym c.1) (subst (λ k. P k x) (sym c.0) new))
    (λ c. subst (λ y. P j y) (sym c.1) (old j c.0))

pub put2_at_same_or_other : {A : Type 0} (f : ℕ → ℕ → A) (a b : ℕ) (x : A) (c d : ℕ)
    → ((c ≡ a) × (d ≡ b) × (function_with_value_of_two f a b x c d ≡ x)) ⊎ (((c ≡ a) × (d ≡ b) → ⊥) × (function_with_value_of_two f a b x c d ≡ f c d))
unfolding function_with_value_of_two
put2_at_same_or_other f a b x c d = split_on_bool ((c == a) && (d == b))
    (λ t. let both : (c ≡ a) × (d ≡ b) = grind (arith, nat_tests) in inl (both.0, both.1, rw t refl))
    (λ t. let no : (c ≡ a) × (d ≡ b) → ⊥ = grind (arith, nat_tests) in inr (no, rw t refl))

-- each that passes one test passes another: there are no more of them
pub count_le_of_weaker_test : (p q : ℕ → Bool) (n : ℕ) → ((j : ℕ) → p j ≡ true → q j ≡ true) → count_of_passing_below p n ≤ count_of_passing_below q n
unfolding count_of_passing_below
count_le_of_weaker_test p q zero h = omega arith
count_le_of_weaker_test p q (suc n) h =
    let r = count_le_of_weaker_test p q n h in
    split_on_bool (p n)
    (λ t. let u = h n t in rw (t, u) (omega arith))
    (λ t. split_on_bool (q n) (λ u. rw (t, u) (omega arith)) (λ u. rw (t, u) (omega arith)))

-- and fewer, where one passes the other alone
pub count_lt_of_weaker_test : (p q : ℕ → Bool) (n k : ℕ) → ((j : ℕ) → p j ≡ true → q j ≡ true) → k < n → p k ≡ false → q k ≡ true → count_of_passing_below p n < count_of_passing_below q n
unfolding count_of_passing_below
count_lt_of_weaker_test p q zero k h l x y = absurd (omega arith)
count_lt_of_weaker_test p q (suc n) k h l x y = split_on_bool (k == n)
    (λ t. let e : k ≡ n = grind (arith, nat_tests) in
    let a : p n ≡ false = subst (λ m. p m ≡ false) e x in
    let b : q n ≡ true = subst (λ m. q m ≡ true) e y in
    let r = count_le_of_weaker_test p q n h in rw (a, b) (omega arith))
    (λ t. let e : k ≢ n = grind (arith, nat_tests) in
    let r = count_lt_of_weaker_test p q n k h (omega arith) x y in
    split_on_bool (p n)
    (λ v. let u = h n v in rw (v, u) (omega arith))
    (λ v. split_on_bool (q n) (λ u. rw (v, u) (omega arith)) (λ u. rw (v, u) (omega arith))))
