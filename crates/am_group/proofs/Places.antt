-- What is read of lists that are appended, and the letters of one record more.
use Rattle.std.proofs.Common.{◌≡◌, ℕ, zero, suc, ◌+◌, ◌<◌, List, [], ◌∷◌, ◌++◌, length, Some, slice_get, refl, ap, ◌∙◌, arith, append-nil}
use Rattle.std.proofs.lemmas.List.Concat.{flat_map-append}
use Rattle.am_group.specs.declared.event.Record.{Record}
use Rattle.am_group.specs.Journals.{letters_of_records}

-- what is read below the length, and past it
pub slice_get_of_append_front : {A : Type 0} (xs ys : List A) (k : ℕ) → k < length xs → slice_get (xs ++ ys) k ≡ slice_get xs k
slice_get_of_append_front [] ys k h = absurd (omega arith)
slice_get_of_append_front (x ∷ xs) ys zero h = refl
slice_get_of_append_front (x ∷ xs) ys (suc k) h = slice_get_of_append_front xs ys k (omega arith)

pub slice_get_of_append_back : {A : Type 0} (xs ys : List A) (k : ℕ) → slice_get (xs ++ ys) (length xs + k) ≡ slice_get ys k
slice_get_of_append_back [] ys k = let z : 0 + k ≡ k = omega arith in ap (slice_get ys) z
slice_get_of_append_back (x ∷ xs) ys k = let z : suc (length xs) + k ≡ suc (length xs + k) = omega arith in ap (slice_get (x ∷ (xs ++ ys))) z ∙ slice_get_of_append_back xs ys k

pub slice_get_some_below_length : {A : Type 0} (xs : List A) (k : ℕ) (x : A) → slice_get xs k ≡ Some x → k < length xs
slice_get_some_below_length [] k x h = absurd (cc)
slice_get_some_below_length (y ∷ ys) zero x h = omega arith
slice_get_some_below_length (y ∷ ys) (suc k) x h = let l = slice_get_some_below_length ys k x h in omega arith

-- the letters of one record more
pub letters_of_pushed_record : (records : List Record) (r : Record) → letters_of_records (records ++ r ∷ []) ≡ letters_of_records records ++ r.packets
letters_of_pushed_record records r = flat_map-append (λ (x : Record). x.packets) records (r ∷ []) ∙ ap (λ ls. letters_of_records records ++ ls) (append-nil r.packets)
