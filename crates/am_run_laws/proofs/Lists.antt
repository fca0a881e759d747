-- Items of lists, and lists that begin one another.
use Rattle.am_run_laws.proofs.UnballotedWords.{◌≡◌, ℕ, zero, suc, ◌+◌, ◌<◌, ◌≤◌, List, [], ◌∷◌, ◌++◌, length, take, drop, Some, slice_get, sym, ap, ◌∙◌, subst}
use Rattle.am_run_laws.proofs.UnballotedWords.{append_assoc, length-append, arith, slice_get_within, take-append-le, take-append-drop, Entry, item_at, slice_get_of_append_back}
use Rattle.am_run_laws.proofs.UnballotedWords.{slice_get_of_front, IsBeginningOf, begins_push_next_entry, length_of_taken_list}
use Rattle.std.proofs.lemmas.List.{append-nil}

-- ---- items by number

item_next : {A : Type 0} (xs : List A) (k : ℕ) → item_at xs (k + 1) ≡ slice_get xs k
item_next xs k = let z : k + 1 ≡ suc k = omega arith in ap (item_at xs) z

pub item_at_is_slice_get : {A : Type 0} (xs : List A) (number k : ℕ) (x : A) → number ≡ k + 1 → item_at xs number ≡ Some x → slice_get xs k ≡ Some x
item_at_is_slice_get xs number k x e h = sym (item_next xs k) ∙ ap (item_at xs) (sym e) ∙ h

pub slice_get_is_item_at : {A : Type 0} (xs : List A) (number k : ℕ) (x : A) → number ≡ k + 1 → slice_get xs k ≡ Some x → item_at xs number ≡ Some x
slice_get_is_item_at xs number k x e h = ap (item_at xs) e ∙ item_next xs k ∙ h

pub item_at_of_appended : {A : Type 0} (xs ys : List A) (number : ℕ) (x : A) → item_at xs number ≡ Some x → item_at (xs ++ ys) number ≡ Some x
item_at_of_appended xs ys zero x h = absurd (cc)
item_at_of_appended xs ys (suc k) x h = slice_get_of_front xs ys k x h

pub item_at_number_is_within : {A : Type 0} (xs : List A) (number : ℕ) (x : A) → item_at xs number ≡ Some x → (0 < number) × (number ≤ length xs)
item_at_number_is_within xs zero x h = absurd (cc)
item_at_number_is_within xs (suc k) x h = let low = slice_get_within xs k x h in (omega arith, omega arith)

get_taken : {A : Type 0} (n : ℕ) (xs : List A) (k : ℕ) (x : A) → k < n → slice_get xs k ≡ Some x → slice_get (take n xs) k ≡ Some x
get_taken zero xs k x low h = absurd (omega arith)
get_taken (suc n) [] k x low h = absurd (cc)
get_taken (suc n) (z ∷ xs) zero x low h = h
get_taken (suc n) (z ∷ xs) (suc k) x low h = get_taken n xs k x (omega arith) h

-- an item of so many first ones
pub item_at_of_take : {A : Type 0} (n : ℕ) (xs : List A) (number : ℕ) (x : A) → number ≤ n → item_at xs number ≡ Some x → item_at (take n xs) number ≡ Some x
item_at_of_take n xs zero x low h = absurd (cc)
item_at_of_take n xs (suc k) x low h = get_taken n xs k x (omega arith) h

-- ---- a list from a start on, of a whole one

-- its entries are those of the whole list above its start, as far as they go
pub record EntriesAreWithinWhole (whole : List Entry) (start : ℕ) (entries : List Entry) : Type 0 where
  pub low : start ≤ length whole
  pub begins : IsBeginningOf (take start whole ++ entries) whole

pub slice_get_within_whole : (whole : List Entry) (start : ℕ) (entries : List Entry) (k : ℕ) (e : Entry) → EntriesAreWithinWhole whole start entries → slice_get entries k ≡ Some e
    → slice_get whole (start + k) ≡ Some e
slice_get_within_whole whole start entries k e h is =
    let front = take start whole in
    let long : length front ≡ start = length_of_taken_list start whole h.low in
    let at : slice_get (front ++ entries) (length front + k) ≡ Some e = slice_get_of_append_back front entries k ∙ is in
    let there : slice_get whole (length front + k) ≡ Some e =
    subst (λ l. slice_get l (length front + k) ≡ Some e) h.begins.same (slice_get_of_front (front ++ entries) h.begins.rest (length front + k) e at) in
    subst (λ n. slice_get whole (n + k) ≡ Some e) long there

-- with the entry that comes next
pub pushed_entries_are_within_whole : (whole : List Entry) (start : ℕ) (entries : List Entry) (e : Entry) → EntriesAreWithinWhole whole start entries
    → slice_get whole (start + length entries) ≡ Some e → EntriesAreWithinWhole whole start (entries ++ e ∷ [])
pushed_entries_are_within_whole whole start entries e h is =
    let front = take start whole in
    let long : length front ≡ start = length_of_taken_list start whole h.low in
    let all : length (front ++ entries) ≡ start + length entries = length-append front entries ∙ ap (λ n. n + length entries) long in
    let next : slice_get whole (length (front ++ entries)) ≡ Some e = ap (slice_get whole) all ∙ is in
    record { low = h.low; begins = subst (λ l. IsBeginningOf l whole) (append_assoc front entries (e ∷ [])) (begins_push_next_entry e h.begins next) }

-- of a whole list that goes on
pub entries_within_longer_whole : (whole more : List Entry) (start : ℕ) (entries : List Entry) → EntriesAreWithinWhole whole start entries → EntriesAreWithinWhole (whole ++ more) start entries
entries_within_longer_whole whole more start entries h =
    let b = h.begins in
    let same = take-append-le start whole more h.low in
    record {
      low = let low = h.low in let long = length-append whole more in omega arith;
      begins = record {
        rest = b.rest ++ more;
        same = ap (λ l. (l ++ entries) ++ (b.rest ++ more)) same ∙ sym (append_assoc (take start whole ++ entries) b.rest more) ∙ ap (λ l. l ++ more) b.same;
      };
    }

-- none yet
pub no_entries_are_within_whole : (whole : List Entry) (start : ℕ) → start ≤ length whole → EntriesAreWithinWhole whole start []
no_entries_are_within_whole whole start low = record {
  low = low;
  begins = record { rest = drop start whole; same = append_assoc (take start whole) [] (drop start whole) ∙ take-append-drop start whole };
}

-- all of it
pub whole_list_is_within_itself : (whole : List Entry) → EntriesAreWithinWhole whole 0 whole
whole_list_is_within_itself whole = record { low = omega arith; begins = record { rest = []; same = append-nil whole } }
