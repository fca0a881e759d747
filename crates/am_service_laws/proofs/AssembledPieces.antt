-- A gapless piece of a list, and the messages that end in both.
use Rattle.am_service_laws.proofs.Words.{◌≡◌, ℕ, zero, suc, ◌+◌, ◌-◌, ◌<◌, ◌≤◌, List, [], ◌∷◌, ◌++◌, length, take, drop, slice_get, Option, Some, None, refl}
use Rattle.am_service_laws.proofs.Words.{sym, ap, ◌∙◌, arith, append_assoc, length-append, option_map, take-add, take-append-le, drop-append-le, drop_at}
use Rattle.am_service_laws.proofs.Words.{flat_map-append, slice_get-map, slice_get_within, place_of_name, Entry, item_at, slice_get_of_append_front, IsSegment, part_count}
use Rattle.am_service_laws.proofs.Words.{entries_of, sent_from, from_place, parts_from, EndsAt, length-parts_from, part_count_fits_size}
use Rattle.am_step_laws.proofs.EffectWords.{slice_get-drop}

-- ---- lists

mapped : {A B : Type 0} (f : A → B) (o : Option A) (y : B) → option_map f o ≡ Some y → (x : A) × (o ≡ Some x) × (f x ≡ y)
mapped f None y h = absurd (cc)
mapped f (Some x) y h = (x, refl, cc)

-- where each item is the other list's, the other goes on from them
front_is : {A : Type 0} (xs ys : List A) → ((k : ℕ) (x : A) → slice_get xs k ≡ Some x → slice_get ys k ≡ Some x) → xs ++ drop (length xs) ys ≡ ys
front_is [] ys h = refl
front_is (x ∷ xs) [] h = let none : None ≡ Some x = h zero x refl in absurd (cc)
front_is (x ∷ xs) (y ∷ ys) h =
    let first : Some y ≡ Some x = h zero x refl in
    let same : x ≡ y = cc in
    ap (λ zs. x ∷ zs) (front_is xs ys (λ k z at. h (suc k) z at)) ∙ ap (λ z. z ∷ ys) same

-- what ends a whole ends its second part, where that is long enough
tail_within : {A : Type 0} (a b c d : List A) → a ++ b ≡ c ++ d → length d ≤ length b → b ≡ drop (length a) c ++ d
tail_within a b c d is long =
    let lengths = ap length is in
    let within : length a ≤ length c = omega (arith, length-append a b, length-append c d, lengths) in
    sym (drop_at a b (length a) refl) ∙ ap (drop (length a)) is ∙ drop-append-le (length a) c d within

from_place-append : (place : ℕ) (xs ys : List Entry) → from_place place (xs ++ ys) ≡ from_place place xs ++ from_place place ys
unfolding from_place
from_place-append place xs ys = flat_map-append (sent_from place) xs ys

from_place-none : (place : ℕ) → from_place place [] ≡ []
unfolding from_place
from_place-none place = refl

-- ---- a piece

-- what was given stands in the list after the first entries
record StandsBehind (entries list : List Entry) (before : ℕ) : Type 0 where
  rest : List Entry
  is : entries ++ rest ≡ drop before list

stands : (given : List (ℕ × Entry)) (start : ℕ) (list : List Entry) → 0 < start → IsSegment given start list → StandsBehind (entries_of given) list (start - 1)
stands given start list some segment = record {
  rest = drop (length (entries_of given)) (drop (start - 1) list);
  is = front_is (entries_of given) (drop (start - 1) list) (λ k e at.
      let one = mapped (λ (x : ℕ × Entry). x.1) (slice_get given k) e (sym (slice_get-map (λ (x : ℕ × Entry). x.1) given k) ∙ at) in
      let there = (segment k one.0.0 one.0.1 one.1).1 in
      let number : start + k ≡ suc ((start - 1) + k) = omega arith in
      let found : slice_get list ((start - 1) + k) ≡ Some one.0.1 = ap (item_at list) (sym number) ∙ there in
      slice_get-drop (start - 1) k list ∙ found ∙ ap (λ x. Some x) one.2);
}

-- an entry of the piece, and the list's beginning up to there
module _ (entries list : List Entry) (before k : ℕ) (s : StandsBehind entries list before) where
  entry_there : slice_get (entries ++ s.rest) (k - 1) ≡ slice_get list (before + (k - 1))
  entry_there = ap (λ xs. slice_get xs (k - 1)) s.is ∙ slice_get-drop before (k - 1) list

  up_to : (place : ℕ) → k ≤ length entries → from_place place (take (before + k) list)
      ≡ from_place place (take before list) ++ from_place place (take k entries)
  up_to place within =
      let front : take k (drop before list) ≡ take k entries = ap (take k) (sym s.is) ∙ take-append-le k entries s.rest within in
      ap (from_place place) (take-add before k list ∙ ap (λ xs. take before list ++ xs) front)
      ∙ from_place-append place (take before list) (take k entries)

pub piece_message_ends_in_list : (given : List (ℕ × Entry)) (start : ℕ) (list : List Entry) (k from : ℕ) (message : List ℕ) → 0 < start → IsSegment given start list
    → EndsAt (entries_of given) k from message → EndsAt list (start + k - 1) from message
piece_message_ends_in_list given start list k from message some segment ends =
    let s = stands given start list some segment in
    let entry = ends.last.2 in
    let within = slice_get_within (entries_of given) (k - 1) _ entry in
    let low : k ≤ length (entries_of given) = omega (arith, ends.from_one) in
    let number : (start - 1) + k ≡ start + k - 1 = omega arith in
    let place : (start - 1) + (k - 1) ≡ start + k - 1 - 1 = omega (arith, ends.from_one) in
    record {
      from_one = omega (arith, ends.from_one);
      last = (
        ends.last.0,
        ends.last.1,
        ap (slice_get list) (sym place) ∙ sym (entry_there (entries_of given) list (start - 1) k s)
            ∙ slice_get_of_append_front (entries_of given) s.rest (k - 1) within ∙ entry,
      );
      few = ends.few;
      parts = (
        from_place (place_of_name from) (take (start - 1) list) ++ ends.parts.0,
        ap (λ n. from_place (place_of_name from) (take n list)) (sym number) ∙ up_to (entries_of given) list (start - 1) k s (place_of_name from) low
            ∙ ap (λ xs. from_place (place_of_name from) (take (start - 1) list) ++ xs) ends.parts.1
            ∙ sym (append_assoc (from_place (place_of_name from) (take (start - 1) list)) ends.parts.0 (parts_from from message)),
      );
    }

pub list_message_ends_in_piece : (given : List (ℕ × Entry)) (start : ℕ) (list : List Entry) (k from : ℕ) (message : List ℕ) → 0 < start → IsSegment given start list
    → EndsAt list (start + k - 1) from message → k ≤ length (entries_of given)
    → part_count (length message) ≤ length (from_place (place_of_name from) (take k (entries_of given))) → EndsAt (entries_of given) k from message
list_message_ends_in_piece given start list (zero) from message some segment ends low all =
    let none = ap length (from_place-none (place_of_name from)) in
    absurd (omega (arith, none, all, (part_count_fits_size (length message)).some))
list_message_ends_in_piece given start list (suc k) from message some segment ends low all =
    let s = stands given start list some segment in
    let within : suc k - 1 < length (entries_of given) = omega arith in
    let number : (start - 1) + suc k ≡ start + suc k - 1 = omega arith in
    let place : (start - 1) + (suc k - 1) ≡ start + suc k - 1 - 1 = omega arith in
    let whole : from_place (place_of_name from) (take (start - 1) list) ++ from_place (place_of_name from) (take (suc k) (entries_of given))
    ≡ ends.parts.0 ++ parts_from from message =
    sym (up_to (entries_of given) list (start - 1) (suc k) s (place_of_name from) low) ∙ ap (λ n. from_place (place_of_name from) (take n list)) number ∙ ends.parts.1 in
    record {
      from_one = omega arith;
      last = (
        ends.last.0,
        ends.last.1,
        sym (slice_get_of_append_front (entries_of given) s.rest (suc k - 1) within)
            ∙ entry_there (entries_of given) list (start - 1) (suc k) s ∙ ap (slice_get list) place ∙ ends.last.2,
      );
      few = ends.few;
      parts = (
        drop (length (from_place (place_of_name from) (take (start - 1) list))) ends.parts.0,
        tail_within _ _ ends.parts.0 (parts_from from message) whole (omega (arith, all, length-parts_from from message)),
      );
    }
