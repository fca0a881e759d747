-- The computed message of a list is the one that ends with its last entry.
use Rattle.std.proofs.Common.{◌≡◌, ℕ, zero, suc, ◌+◌, ◌-◌, ◌<◌, List, [], ◌∷◌, ◌++◌, length, take, slice_get, ◌==◌, Option, Some, None, refl, sym, ap, ◌∙◌}
use Rattle.std.proofs.Common.{subst, arith, length-append, append-nil}
use Rattle.std.proofs.lemmas.Bool.{eq-eqb, cond-true}
use Rattle.std.proofs.lemmas.List.{length-take-le}
use Rattle.std.proofs.lemmas.List.Concat.{flat_map-append}
use Rattle.std.proofs.lemmas.Option.{slice_get_within}
use Rattle.byteorder.specs.Endian.{big_from}
use Rattle.am_base.specs.Names.{place_of_name}
use Rattle.am_base.specs.declared.entry.Entry.{Entry}
use Rattle.am_base.specs.declared.entry.Entry.TheVariants.{Data, Join, Leave, View}
use Rattle.am_service_defs.specs.Parts.{part_count}
use Rattle.am_service_defs.specs.Messages.{sent_from, from_place, parts_from, last_so_many, message_of, message_by, message_at, ComputedMessagesEnd}
use Rattle.am_service_defs.proofs.Spelled.{part_count_in_written_part}
use Rattle.am_service_defs.proofs.Endings.{BodiesEndWithMessage, bodies_found_end_with_message, message_at_end_of_bodies, last_body_ends_message}

-- ---- a list and one entry more

empty : {A : Type 0} (xs : List A) → length xs ≡ 0 → xs ≡ []
empty [] none = refl
empty (x ∷ xs) none = absurd (omega arith)

slice_get-append_seam : {A : Type 0} (xs : List A) (x : A) (ys : List A) → slice_get (xs ++ x ∷ ys) (length xs) ≡ Some x
slice_get-append_seam [] x ys = refl
slice_get-append_seam (y ∷ xs) x ys = slice_get-append_seam xs x ys

pub slice_get-take : {A : Type 0} (n k : ℕ) (xs : List A) → k < n → slice_get (take n xs) k ≡ slice_get xs k
slice_get-take zero k xs below = absurd (omega arith)
slice_get-take (suc n) k [] below = refl
slice_get-take (suc n) zero (x ∷ xs) below = refl
slice_get-take (suc n) (suc k) (x ∷ xs) below = slice_get-take n k xs (omega arith)

-- the item at the end of a list
pub list_is_front_and_last : {A : Type 0} (xs : List A) (k : ℕ) (x : A) → slice_get xs k ≡ Some x → length xs ≡ k + 1 → xs ≡ take k xs ++ x ∷ []
list_is_front_and_last [] k x at long = absurd (cc)
list_is_front_and_last (y ∷ xs) zero x at long =
    let none : xs ≡ [] = empty xs (omega arith) in
    let same : y ≡ x = cc in
    rw (none, same) refl
list_is_front_and_last (y ∷ xs) (suc k) x at long = ap (λ ys. y ∷ ys) (list_is_front_and_last xs k x at (omega arith))

last_entry : {A : Type 0} (xs : List A) (x : A) → slice_get (xs ++ x ∷ []) (length (xs ++ x ∷ []) - 1) ≡ Some x
last_entry xs x =
    let at : length (xs ++ x ∷ []) - 1 ≡ length xs = omega (arith, length-append xs (x ∷ [])) in
    ap (slice_get (xs ++ x ∷ [])) at ∙ slice_get-append_seam xs x []

pub message_at-more : (list : List Entry) (e : Entry) → message_at (list ++ e ∷ []) ≡ message_by (list ++ e ∷ []) (Some e)
unfolding message_at
message_at-more list e = ap (message_by (list ++ e ∷ [])) (last_entry list e)

message_at-by : (list : List Entry) (e : Entry) → slice_get list (length list - 1) ≡ Some e → message_at list ≡ message_by list (Some e)
unfolding message_at
message_at-by list e last = ap (message_by list) last

pub from_place-more : (place : ℕ) (list : List Entry) (e : Entry) → from_place place (list ++ e ∷ []) ≡ from_place place list ++ sent_from place e
unfolding from_place
from_place-more place list e = flat_map-append (sent_from place) list (e ∷ []) ∙ ap (λ xs. from_place place list ++ xs) (append-nil (sent_from place e))

pub sent_from_own_place : (from req : ℕ) (body : List ℕ) → sent_from (place_of_name from) (Data from req body) ≡ (from, body) ∷ []
sent_from_own_place from req body = cond-true (place_of_name from == place_of_name from) ((from, body) ∷ []) [] (eq-eqb (place_of_name from) (place_of_name from) refl)

-- ---- what ends is found

-- what was sent from a place, and a body more that ends a message
pub message_found_at_last_body : (sent : List (ℕ × List ℕ)) (whose : ℕ) (body : List ℕ) (name : ℕ) (message : List ℕ) → BodiesEndWithMessage (sent ++ (whose, body) ∷ []) name message
    → message_of whose (last_so_many (sent ++ (whose, body) ∷ []) (big_from 3 2 body)) ≡ Some (name, message)
message_found_at_last_body sent whose body name message ending =
    let last = last_body_ends_message sent whose body name message ending in
    let index : last.index < part_count (length message) = omega (arith, last.last) in
    let count : big_from 3 2 body ≡ part_count (length message) = ap (big_from 3 2) last.body_is ∙ part_count_in_written_part message last.index ending.few in
    ap (λ n. message_of n (last_so_many (sent ++ (whose, body) ∷ []) (big_from 3 2 body))) last.whose_is
    ∙ ap (λ xs. message_of name (last_so_many xs (big_from 3 2 body))) ending.parts
    ∙ ap (λ n. message_of name (last_so_many (ending.before ++ parts_from name message) n)) count
    ∙ message_at_end_of_bodies ending.before name message ending.few

-- ---- the whole claim

-- by the last entry
ends_by : (list : List Entry) (e : Option Entry) (name : ℕ) (message : List ℕ) → message_by list e ≡ Some (name, message)
    → (req : ℕ) × (body : List ℕ) × (e ≡ Some (Data name req body)) × BodiesEndWithMessage (from_place (place_of_name name) list) name message
ends_by list None name message h = absurd (cc)
ends_by list (Some (Data from req body)) name message h =
    let is = bodies_found_end_with_message (from_place (place_of_name from) list) (big_from 3 2 body) from name message h in (
      req,
      body,
      ap (λ n. Some (Data n req body)) (sym is.0),
      subst (λ n. BodiesEndWithMessage (from_place (place_of_name n) list) n message) (sym is.0) is.1,
    )
ends_by list (Some (Join joiner)) name message h = absurd (cc)
ends_by list (Some (Leave leaver)) name message h = absurd (cc)
ends_by list (Some (View v)) name message h = absurd (cc)

found_by : (list : List Entry) (name req : ℕ) (body message : List ℕ) → slice_get list (length list - 1) ≡ Some (Data name req body)
    → BodiesEndWithMessage (from_place (place_of_name name) list) name message → message_at list ≡ Some (name, message)
found_by list name req body message last ending =
    let within = slice_get_within list (length list - 1) (Data name req body) last in
    let long : length list ≡ (length list - 1) + 1 = omega arith in
    let cut : list ≡ take (length list - 1) list ++ Data name req body ∷ [] = list_is_front_and_last list (length list - 1) (Data name req body) last long in
    let init = take (length list - 1) list in
    let sent : from_place (place_of_name name) list ≡ from_place (place_of_name name) init ++ (name, body) ∷ [] =
    ap (from_place (place_of_name name)) cut ∙ from_place-more (place_of_name name) init (Data name req body)
    ∙ ap (λ xs. from_place (place_of_name name) init ++ xs) (sent_from_own_place name req body) in
    message_at-by list (Data name req body) last
    ∙ ap (λ xs. message_of name (last_so_many xs (big_from 3 2 body))) sent
    ∙ message_found_at_last_body (from_place (place_of_name name) init) name body name message (subst (λ xs. BodiesEndWithMessage xs name message) sent ending)

pub messages_end : ComputedMessagesEnd
unfolding message_at
messages_end list number name message within =
    let long : length (take number list) ≡ number = length-take-le number list within in (
      λ h.
          let is = ends_by (take number list) (slice_get (take number list) (length (take number list) - 1)) name message h in
          let entry = slice_get_within (take number list) (length (take number list) - 1) (Data name is.0 is.1) is.2 in
          let some : 0 < number = omega arith in
          let at : slice_get (take number list) (number - 1) ≡ Some (Data name is.0 is.1) = subst (λ n. slice_get (take number list) (n - 1)
          ≡ Some (Data name is.0 is.1)) long is.2 in
          record {
            from_one = some;
            last = (is.0, is.1, sym (slice_get-take number (number - 1) list (omega arith)) ∙ at);
            few = is.3.few;
            parts = (is.3.before, is.3.parts);
          },
      λ ends.
          let below : number - 1 < number = omega (arith, ends.from_one) in
          let at : slice_get (take number list) (length (take number list) - 1) ≡ Some (Data name ends.last.0 ends.last.1) =
          ap (λ n. slice_get (take number list) (n - 1)) long ∙ slice_get-take number (number - 1) list below ∙ ends.last.2 in
          found_by (take number list) name ends.last.0 ends.last.1 message at
          (record { few = ends.few; before = ends.parts.0; parts = ends.parts.1 }),
    )
