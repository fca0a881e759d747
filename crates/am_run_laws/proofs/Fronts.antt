-- Lists of fronts, by names.
use Rattle.am_run_laws.proofs.UnballotedWords.{◌≡◌, ℕ, zero, suc, ◌+◌, ◌<◌, ◌≤◌, ◌==◌, true, false, List, [], ◌∷◌, ◌++◌, map, Some, slice_get, slice_set, refl, sym}
use Rattle.am_run_laws.proofs.UnballotedWords.{ap, subst, ◌∙◌, append_assoc, append-nil, arith, range_with_len, nat_tests, Entry, map_with_value, FrontsGroup, FrontsMove, append, FrontsGrow}
use Rattle.am_run_laws.proofs.UnballotedWords.{none, more}

pub map_of_equal_functions : {A : Type 0} (f g : ℕ → A) (a n : ℕ) → ((j : ℕ) → a ≤ j → f j ≡ g j) → map f (range_with_len a n) ≡ map g (range_with_len a n)
map_of_equal_functions f g a zero h = refl
map_of_equal_functions f g a (suc n) h =
    let first = h a (omega arith) in
    let rest = map_of_equal_functions f g (a + 1) n (λ j low. h j (omega arith)) in
    λ i. first i ∷ rest i

pub slice_get_of_mapped_range : {A : Type 0} (f : ℕ → A) (a n k : ℕ) → k < n → slice_get (map f (range_with_len a n)) k ≡ Some (f (a + k))
slice_get_of_mapped_range f a zero k low = absurd (omega arith)
slice_get_of_mapped_range f a (suc n) zero low = let z : a ≡ a + zero = omega arith in ap (λ x. Some (f x)) z
slice_get_of_mapped_range f a (suc n) (suc k) low = let z : (a + 1) + k ≡ a + suc k = omega arith in slice_get_of_mapped_range f (a + 1) n k (omega arith) ∙ ap (λ x. Some (f x)) z

-- one name's value set
pub slice_set_of_mapped_range : {A : Type 0} (f : ℕ → A) (x : A) (a n k : ℕ) → k < n → slice_set (map f (range_with_len a n)) k x ≡ map (map_with_value f (a + k) x) (range_with_len a n)
slice_set_of_mapped_range f x a zero k low = absurd (omega arith)
slice_set_of_mapped_range f x a (suc n) zero low =
    let here : (a == a + zero) ≡ true = grind (arith, nat_tests) in
    let first : x ≡ map_with_value f (a + zero) x a = rw here refl in
    let rest = map_of_equal_functions f (map_with_value f (a + zero) x) (a + 1) n (λ j up. let t : (j == a + zero) ≡ false = grind (arith, nat_tests) in rw t refl) in
    λ i. first i ∷ rest i
slice_set_of_mapped_range f x a (suc n) (suc k) low =
    let there : (a == a + suc k) ≡ false = grind (arith, nat_tests) in
    let first : f a ≡ map_with_value f (a + suc k) x a = rw there refl in
    let z : (a + 1) + k ≡ a + suc k = omega arith in
    let rest = slice_set_of_mapped_range f x (a + 1) n k (omega arith) ∙ ap (λ y. map (map_with_value f y x) (range_with_len (a + 1) n)) z in
    λ i. first i ∷ rest i

-- ---- the list grows entry by entry

pub appended_entries_grow_group : (g : FrontsGroup) (es : List Entry) → FrontsGrow g (record g { entries = g.entries ++ es })
appended_entries_grow_group g [] = subst (λ l. FrontsGrow g (record g { entries = l })) (sym (append-nil g.entries)) none
appended_entries_grow_group g (e ∷ es) =
    let next : FrontsGroup = record g { entries = g.entries ++ e ∷ [] } in
    more (append e) (subst (λ l. FrontsGrow next (record g { entries = l })) (append_assoc g.entries (e ∷ []) es) (appended_entries_grow_group next es))

pub group_growth_then_move : {f g h : FrontsGroup} → FrontsGrow f g → FrontsMove g h → FrontsGrow f h
group_growth_then_move none m = more m none
group_growth_then_move (more x xs) m = more x (group_growth_then_move xs m)
