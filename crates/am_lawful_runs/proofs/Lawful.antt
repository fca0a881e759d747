-- A world that is lawful for its greatest complete view is so in the group that stands for it.
use Rattle.am_lawful_runs.proofs.Words.{◌≡◌, ◌≢◌, ◌⊎◌, either, inl, inr, ℕ, zero, suc, ◌+◌, ◌<◌, ◌≤◌, ◌==◌, ◌&&◌, ◌||◌, not, nat_lt, Bool, true, false}
use Rattle.am_lawful_runs.proofs.Words.{if◌then◌else◌, List, [], ◌∷◌, length, count_by, refl, sym, ap, ◌∙◌, arith, list_any, nat_tests, View, has, count_by_of_cons, key_of_stamp}
use Rattle.am_lawful_runs.proofs.Words.{length_of_pushed_list, Group, count_of_passing_below, count_of_passing_names, list_with_chosen_view, counts_for, has_log_by_status, has_departed, Decided, World, counts_for_view, is_counted_loss}
use Rattle.am_lawful_runs.proofs.Words.{is_lawful, split_on_bool, both_of_and, NotedStands, Stands, count_is_monotone}

-- ---- names that are counted, and a list that has them

-- one name more
one_more : (p q : ℕ → Bool) (x n : ℕ) → ((j : ℕ) → j < n → p j ≡ true → j ≢ x → q j ≡ true) → count_of_passing_below p n ≤ 1 + count_of_passing_below q n
unfolding count_of_passing_below
one_more p q x zero h = omega arith
one_more p q x (suc n) h = split_on_bool (n == x)
    (λ t.
    let same : n ≡ x = grind (arith, nat_tests) in
    let r = count_is_monotone p q n (λ j low u. h j (omega arith) u (λ is. absurd (let z : ⊥ = omega arith in z))) in
    split_on_bool (p n)
    (λ u. split_on_bool (q n) (λ v. rw (u, v) (omega arith)) (λ v. rw (u, v) (omega arith)))
    (λ u. split_on_bool (q n) (λ v. rw (u, v) (omega arith)) (λ v. rw (u, v) (omega arith))))
    (λ f.
    let other : n ≢ x = λ is. (let z : ⊥ = grind (arith, nat_tests) in z) in
    let r = one_more p q x n (λ j low. h j (omega arith)) in
    split_on_bool (p n)
    (λ u. let v = h n (omega arith) u other in rw (u, v) (omega arith))
    (λ u. split_on_bool (q n) (λ v. rw (u, v) (omega arith)) (λ v. rw (u, v) (omega arith))))

none_of : (p : ℕ → Bool) (n : ℕ) → ((j : ℕ) → j < n → p j ≡ true → ⊥) → count_of_passing_below p n ≡ 0
unfolding count_of_passing_below
none_of p zero h = refl
none_of p (suc n) h =
    let r = none_of p n (λ j low. h j (omega arith)) in
    split_on_bool (p n) (λ t. absurd (h n (omega arith) t)) (λ f. rw f (omega arith))

-- each name that passes stands in the list, and passes there
count_listed : (p q : ℕ → Bool) (n : ℕ) (names : List ℕ) → ((j : ℕ) → j < n → p j ≡ true → (q j ≡ true) × (list_any (λ x. x == j) names ≡ true))
    → count_of_passing_below p n ≤ count_by q names
count_listed p q n [] h = let z = none_of p n (λ j low t. (let r = (h j low t).1 in cc)) in omega arith
count_listed p q n (x ∷ names) h =
    let more = count_by_of_cons q x names in
    split_on_bool (q x)
    (λ t.
    let rest : ℕ → Bool = λ j. p j && not (x == j) in
    let r = count_listed rest q n names (λ j low u. (let b = both_of_and (p j) (not (x == j)) u in
    let k = h j low b.0 in
    let other : (x == j) ≡ false = split_on_bool (x == j) (λ y. absurd (let z = b.1 in let e = rw y at z in cc)) (λ y. y) in
    (k.0, rw other at k.1))) in
    let one = one_more p rest x n (λ j low u apart.
    (let other : (x == j) ≡ false = split_on_bool (x == j) (λ y. absurd (apart (grind (arith, nat_tests)))) (λ y. y) in rw (u, other) refl)) in
    let is : count_by q (x ∷ names) ≡ 1 + count_by q names = more ∙ ap (λ (b : Bool). (if b then 1 else 0) + count_by q names) t in
    omega arith)
    (λ f.
    let r = count_listed p q n names (λ j low u. (let k = h j low u in
    let other : (x == j) ≡ false = split_on_bool (x == j)
    (λ y. absurd (let same : x ≡ j = grind (arith, nat_tests) in let here = ap q same in let passes = k.0 in cc)) (λ y. y) in
    (k.0, rw other at k.1))) in
    omega arith)

-- ---- lawfulness

pub either_of_true_or : (a b : Bool) → (a || b) ≡ true → (a ≡ true) ⊎ (b ≡ true)
either_of_true_or true b h = inl refl
either_of_true_or false b h = inr h

-- who counts in the group for a noted view counts in the world
counts_too : (w : World) (s : Group) (v : Decided) (j : ℕ) → Stands w s → NotedStands w s.views v → j < 256 → counts_for s (key_of_stamp v.stamp) j ≡ true
    → counts_for_view w v j ≡ true
counts_too w s v j h noted few t =
    let mine = h.each j few in
    let ch = s.views.chosen (key_of_stamp v.stamp) in
    let long = length_of_pushed_list ch.before (View ch.view) in
    either (either_of_true_or (has ch.members j) ((s.node j).has_log && nat_lt (length (list_with_chosen_view ch)) (s.node j).start) t)
    (λ a. (let there : has v.members j ≡ true = ap (λ l. has l j) (sym noted.members) ∙ a in rw there refl))
    (λ a. (let b = both_of_and (s.node j).has_log (nat_lt (length (list_with_chosen_view ch)) (s.node j).start) a in
    let log : has_log_by_status (w.nodes j).status ≡ true = sym mine.log_ ∙ b.0 in
    let since : nat_lt v.number (w.nodes j).core.start ≡ true = grind (arith, nat_tests) in
    split_on_bool (has v.members j) (λ y. rw y refl) (λ y. rw (y, since) refl)))

pub lawful_world_has_lawful_group : (w : World) (s : Group) (v : Decided) → Stands w s → NotedStands w s.views v → is_lawful w v ≡ true
    → count_of_passing_names (λ name. counts_for s (key_of_stamp v.stamp) name && ((s.node name).stopped && not (s.node name).departed)) ≤ (s.views.chosen (key_of_stamp v.stamp)).resilience
unfolding is_lawful
lawful_world_has_lawful_group w s v h noted t =
    let few = count_listed (λ name. counts_for s (key_of_stamp v.stamp) name && ((s.node name).stopped && not (s.node name).departed)) (is_counted_loss w v) 256 w.stopped
    (λ j low passes. lost_too w s v j h noted low passes) in
    let least : count_by (is_counted_loss w v) w.stopped ≤ v.resilience = grind (arith, nat_tests) in
    omega arith
  where
    lost_too : (w : World) (s : Group) (v : Decided) (j : ℕ) → Stands w s → NotedStands w s.views v → j < 256
        → (counts_for s (key_of_stamp v.stamp) j && ((s.node j).stopped && not (s.node j).departed)) ≡ true
        → (is_counted_loss w v j ≡ true) × (list_any (λ x. x == j) w.stopped ≡ true)
    lost_too w s v j h noted few t =
        let mine = h.each j few in
        let a = both_of_and (counts_for s (key_of_stamp v.stamp) j) ((s.node j).stopped && not (s.node j).departed) t in
        let b = both_of_and (s.node j).stopped (not (s.node j).departed) a.1 in
        let counted = counts_too w s v j h noted few a.0 in
        let stays : not (has_departed (w.nodes j).status) ≡ true = ap not (sym mine.departed) ∙ b.1 in
        (rw (counted, stays) refl, sym mine.stopped ∙ b.0)
