-- Folding a list in two parts.
use Rattle.am_node_defs.proofs.Words.{Bool, false, ◌≡◌, ℕ, zero, suc, ◌+◌, ◌≤◌, List, [], ◌∷◌, ◌++◌, length, take, drop, refl, sym, ◌∙◌, ap, subst, true, slice_get}
use Rattle.am_node_defs.proofs.Words.{arith, add-zero, zero-add, Image, Entry, image_after_entries, after, fits, AllEntriesFit}
use Rattle.am_base.proofs.Folds.{fold_append}

-- by what a test says
pub split_on_bool_of_log : {G : Type 0} (b : Bool) → (b ≡ true → G) → (b ≡ false → G) → G
split_on_bool_of_log true f g = f refl
split_on_bool_of_log false f g = g refl

-- one entry more
pub fold_of_pushed_entry : (image : Image) (number : ℕ) (xs : List Entry) (e : Entry)
    → image_after_entries image number (xs ++ e ∷ []) ≡ after (image_after_entries image number xs) (number + length xs) e
unfolding image_after_entries
fold_of_pushed_entry image number xs e = fold_append image number xs (e ∷ [])

AllFit-append : (image : Image) (number : ℕ) (xs ys : List Entry) → AllEntriesFit image number xs → AllEntriesFit (image_after_entries image number xs) (number + length xs) ys
    → AllEntriesFit image number (xs ++ ys)
unfolding image_after_entries AllEntriesFit
AllFit-append image number [] ys a b = let P : ℕ → Type 0 = λ k. AllEntriesFit image k ys in subst P (add-zero number) b
AllFit-append image number (e ∷ es) ys a b =
    let P : ℕ → Type 0 = λ k. AllEntriesFit (image_after_entries (after image number e) (number + 1) es) k ys in
    (a.0, AllFit-append (after image number e) (number + 1) es ys a.1 (subst P (omega arith) b))

pub all_fit_after_push : (image : Image) (number : ℕ) (xs : List Entry) (e : Entry) → AllEntriesFit image number xs → fits (image_after_entries image number xs) e ≡ true
    → AllEntriesFit image number (xs ++ e ∷ [])
unfolding image_after_entries AllEntriesFit
all_fit_after_push image number xs e a f = AllFit-append image number xs (e ∷ []) a (f, tt)

-- what is left of a list that fits, after so many of its entries
pub all_fit_after_drop : (image : Image) (number k : ℕ) (xs : List Entry) → k ≤ length xs → AllEntriesFit image number xs
    → AllEntriesFit (image_after_entries image number (take k xs)) (number + k) (drop k xs)
unfolding image_after_entries AllEntriesFit
all_fit_after_drop image number zero xs h a = let P : ℕ → Type 0 = λ k. AllEntriesFit image k xs in subst P (sym (add-zero number)) a
all_fit_after_drop image number (suc k) [] h a = absurd (omega arith)
all_fit_after_drop image number (suc k) (e ∷ es) h a =
    let P : ℕ → Type 0 = λ j. AllEntriesFit (image_after_entries (after image number e) (number + 1) (take k es)) j (drop k es) in
    subst P (omega arith) (all_fit_after_drop (after image number e) (number + 1) k es (omega arith) a.1)

pub slice_get-drop : {X : Type 0} (k i : ℕ) (xs : List X) → slice_get (drop k xs) i ≡ slice_get xs (k + i)
slice_get-drop zero i xs = ap (slice_get xs) (sym (zero-add i))
slice_get-drop (suc k) i [] = refl
slice_get-drop (suc k) i (x ∷ xs) = let at : suc (k + i) ≡ suc k + i = omega arith in slice_get-drop k i xs ∙ ap (slice_get (x ∷ xs)) at
