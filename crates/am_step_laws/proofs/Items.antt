-- Items of lists, and what holds of each of them.
use Rattle.am_step_laws.proofs.EffectWords.{◌≡◌, ◌⊎◌, inl, inr, ℕ, zero, suc, ◌==◌, Bool, true, List, [], ◌∷◌, ◌++◌, length, find, Some, slice_get, refl, sym, ap}
use Rattle.am_step_laws.proofs.EffectWords.{◌∙◌, subst, All, All-head, All-tail, All-cons, All-append, All-take, All-drop, size, Packet, Letter, letter_to, place_for}
use Rattle.am_step_laws.proofs.EffectWords.{with_letter, kind_of, item_at, split_on_bool}
use Rattle.std.proofs.Common.{take}

-- ---- an item

pub slice_get_of_front : {A : Type 0} (xs ys : List A) (k : ℕ) (x : A) → slice_get xs k ≡ Some x → slice_get (xs ++ ys) k ≡ Some x
slice_get_of_front [] ys k x h = absurd (cc)
slice_get_of_front (z ∷ xs) ys zero x h = h
slice_get_of_front (z ∷ xs) ys (suc k) x h = slice_get_of_front xs ys k x h

-- of a list with one more, one that was there or the new one
pub slice_get_after_push : {A : Type 0} (xs : List A) (x : A) (k : ℕ) (y : A) → slice_get (xs ++ x ∷ []) k ≡ Some y
    → (slice_get xs k ≡ Some y) ⊎ ((k ≡ length xs) × (x ≡ y))
slice_get_after_push [] x zero y h = inr (refl, cc)
slice_get_after_push [] x (suc k) y h = absurd (cc)
slice_get_after_push (z ∷ xs) x zero y h = inl h
slice_get_after_push (z ∷ xs) x (suc k) y h = elim (slice_get_after_push xs x k y h) [ inl old ↦ inl old | inr new ↦ inr (ap suc new.0, new.1) ]

pub slice_get_of_pushed : {A : Type 0} (xs : List A) (x : A) → slice_get (xs ++ x ∷ []) (length xs) ≡ Some x
slice_get_of_pushed [] x = refl
slice_get_of_pushed (z ∷ xs) x = slice_get_of_pushed xs x

pub slice_get_of_take : {A : Type 0} (n : ℕ) (xs : List A) (k : ℕ) (x : A) → slice_get (take n xs) k ≡ Some x → slice_get xs k ≡ Some x
slice_get_of_take zero xs k x h = absurd (cc)
slice_get_of_take (suc n) [] k x h = h
slice_get_of_take (suc n) (z ∷ xs) zero x h = h
slice_get_of_take (suc n) (z ∷ xs) (suc k) x h = slice_get_of_take n xs k x h

-- the item that a test finds is one of the list
pub found_item_has_index : {A : Type 0} (p : A → Bool) (xs : List A) (x : A) → find p xs ≡ Some x → (k : ℕ) × (slice_get xs k ≡ Some x)
found_item_has_index p [] x g = absurd (cc)
found_item_has_index p (z ∷ xs) x g = split_on_bool (p z)
    (λ t. (0, rw t at g))
    (λ f. let h = found_item_has_index p xs x (rw f at g) in (suc h.0, h.1))

-- ---- what holds of each item

pub item_of_index_has_property : {A : Type 0} (P : A → Type 0) (xs : List A) (k : ℕ) (x : A) → All P xs → slice_get xs k ≡ Some x → P x
item_of_index_has_property P [] k x h g = absurd (cc)
item_of_index_has_property P (z ∷ xs) zero x h g = let same : z ≡ x = cc in subst P same (All-head P z xs h)
item_of_index_has_property P (z ∷ xs) (suc k) x h g = item_of_index_has_property P xs k x (All-tail P z xs h) g

pub all_gives_item_at : {A : Type 0} (P : A → Type 0) (xs : List A) (number : ℕ) (x : A) → All P xs → item_at xs number ≡ Some x → P x
all_gives_item_at P xs zero x h g = absurd (cc)
all_gives_item_at P xs (suc before) x h g = item_of_index_has_property P xs before x h g

-- the item that a test finds
pub all_gives_found_item : {A : Type 0} (P : A → Type 0) (p : A → Bool) (xs : List A) (x : A) → All P xs → find p xs ≡ Some x → P x × (p x ≡ true)
all_gives_found_item P p [] x h g = absurd (cc)
all_gives_found_item P p (z ∷ xs) x h g = split_on_bool (p z)
    (λ t. let found = rw t at g in let same : z ≡ x = cc in (subst P same (All-head P z xs h), ap p (sym same) ∙ t))
    (λ f. all_gives_found_item P p xs x (All-tail P z xs h) (rw f at g))

-- one letter more
pub all_letters_with_one_more : (P : Letter → Type 0) (to : List ℕ) (packet : Packet) (letters : List Letter) → P (letter_to to packet) → All P letters
    → All P (with_letter to packet letters)
all_letters_with_one_more P to packet letters p h =
    let n = place_for (kind_of packet) letters in
    split_on_bool (size to == 0) (λ t. rw t h)
    (λ f. rw f (All-append P _ _ (All-take P n letters h) (All-cons P (letter_to to packet) _ p (All-drop P n letters h))))
