-- The requests of a name along a list.
use Rattle.am_abstract_group.proofs.Words.{split_on_bool, ◌≡◌, ◌⊎◌, inl, inr, ℕ, zero, suc, ◌+◌, ◌<◌, ◌≤◌, ◌==◌, List, [], ◌∷◌, ◌++◌, length, Some, slice_get, refl, sym, ap}
use Rattle.am_abstract_group.proofs.Words.{◌∙◌, subst, arith, range_with_len, Image, Entry, Data, place_of_name, life_of_name, blank, after, image_after_entries, AllEntriesFit, request_of_sender_in_entry, requests_of_sender}
use Rattle.am_abstract_group.proofs.Words.{row_of_place, sixteen_rows_after_entry}
use Rattle.am_abstract_group.specs.OrdersClaims.{RequestsFollowFrom, RequestsInTurn, NoSendTwice, SendersInOrder, SendStandsOnce}
use Rattle.am_base.proofs.Requests.{IsNextRequest, request_in_own_data, entry_keeps_requests_in_turn, first_next_request_is_one}
use Rattle.am_abstract_group.proofs.{Puts.either_of_two_gives}

-- ---- one entry before a list

before_none : (name next : ℕ) (e : Entry) (es : List Entry) → request_of_sender_in_entry name e ≡ [] → RequestsFollowFrom name next es → RequestsFollowFrom name next (e ∷ es)
before_none name next e es none h = subst (λ found. found ++ requests_of_sender name es ≡ range_with_len next (length (found ++ requests_of_sender name es))) (sym none) h

before_next : (name next : ℕ) (e : Entry) (es : List Entry) → request_of_sender_in_entry name e ≡ next ∷ [] → RequestsFollowFrom name (next + 1) es → RequestsFollowFrom name next (e ∷ es)
before_next name next e es one h = subst (λ found. found ++ requests_of_sender name es
    ≡ range_with_len next (length (found ++ requests_of_sender name es))) (sym one) (ap (λ found. next ∷ found) h)

-- ---- in turn

fit_in_turn : (image : Image) (n : ℕ) (es : List Entry) (name next : ℕ) → length image.rows ≡ 16 → 0 < n → AllEntriesFit image n es
    → IsNextRequest (row_of_place image (place_of_name name)) (life_of_name name) next → RequestsFollowFrom name next es
unfolding AllEntriesFit
fit_in_turn image n [] name next long up fit h = refl
fit_in_turn image n (e ∷ es) name next long up fit h =
    let then_long = sixteen_rows_after_entry image n e long in
    let then_up : 0 < n + 1 = omega arith in
    either_of_two_gives (entry_keeps_requests_in_turn image n e name next long up fit.0 h)
    (λ x. before_none name next e es x.0
    (fit_in_turn (after image n e) (n + 1) es name next then_long then_up fit.1 x.1))
    (λ x. before_next name next e es x.0
    (fit_in_turn (after image n e) (n + 1) es name (next + 1) then_long then_up fit.1 x.1))

pub requests_stand_in_turn : RequestsInTurn
requests_stand_in_turn list fit name = let one : 0 < 1 = omega arith in fit_in_turn blank 1 list name 1 refl one fit (first_next_request_is_one name)

-- ---- and so at most once

-- what a list says of all but its first entry
abbrev Rest : ℕ → ℕ → Entry → List Entry → Type 0
Rest name next e es = ((request_of_sender_in_entry name e ≡ []) × RequestsFollowFrom name next es) ⊎ ((request_of_sender_in_entry name e ≡ next ∷ []) × RequestsFollowFrom name (next + 1) es)

rest_of : (name next : ℕ) (e : Entry) (es : List Entry) → RequestsFollowFrom name next (e ∷ es) → Rest name next e es
rest_of name next (Data from req body) es h = split_on_bool (from == name)
    (λ t. let all : req ∷ requests_of_sender name es ≡ next ∷ range_with_len (next + 1) (length (requests_of_sender name es)) = rw t at h in
    let first : req ≡ next = cc in
    inr (rw t (ap (λ i. i ∷ []) first), cc))
    (λ f. inl (rw f refl, rw f at h))
rest_of name next _ es h = inl (refl, h)

-- where the first entry is a send of the name, that is the next request
first_is_next : (name next req : ℕ) (body : List ℕ) (e : Entry) (es : List Entry) → RequestsFollowFrom name next (e ∷ es) → Some e ≡ Some (Data name req body)
    → (req ≡ next) × RequestsFollowFrom name (next + 1) es
first_is_next name next req body e es h is =
    let same : e ≡ Data name req body = cc in
    let found : request_of_sender_in_entry name e ≡ req ∷ [] = ap (request_of_sender_in_entry name) same ∙ request_in_own_data name req body in
    either_of_two_gives (rest_of name next e es h)
    (λ x. let none = x.0 in absurd (cc))
    (λ x. let one = x.0 in (cc, x.1))

-- how many more come, so many requests there are
none_above : (name next req : ℕ) (body : List ℕ) (list : List Entry) (k : ℕ) → RequestsFollowFrom name next list → slice_get list k ≡ Some (Data name req body)
    → req < next + length (requests_of_sender name list)
none_above name next req body [] k h is = absurd (cc)
none_above name next req body (e ∷ es) zero h is =
    let same : e ≡ Data name req body = cc in
    let found : request_of_sender_in_entry name e ≡ req ∷ [] = ap (request_of_sender_in_entry name) same ∙ request_in_own_data name req body in
    let long : length (requests_of_sender name (e ∷ es)) ≡ suc (length (requests_of_sender name es)) = ap (λ l. length (l ++ requests_of_sender name es)) found in
    let first = (first_is_next name next req body e es h is).0 in
    omega arith
none_above name next req body (e ∷ es) (suc k) h is = either_of_two_gives (rest_of name next e es h)
    (λ x.
    let rest = none_above name next req body es k x.1 is in
    let long : length (requests_of_sender name (e ∷ es)) ≡ length (requests_of_sender name es) = ap (λ l. length (l ++ requests_of_sender name es)) x.0 in
    omega arith)
    (λ x.
    let rest = none_above name (next + 1) req body es k x.1 is in
    let long : length (requests_of_sender name (e ∷ es)) ≡ suc (length (requests_of_sender name es)) = ap (λ l. length (l ++ requests_of_sender name es)) x.0 in
    omega arith)

-- a request that stands in a whole list is one of so many
pub standing_request_is_within_count : (list : List Entry) (name req : ℕ) (body : List ℕ) (k : ℕ) → AllEntriesFit blank 1 list → slice_get list k ≡ Some (Data name req body)
    → req ≤ length (requests_of_sender name list)
standing_request_is_within_count list name req body k fit is = let low = none_above name 1 req body list k (requests_stand_in_turn list fit name) is in omega arith

-- ---- the row at the end

next_fold : (image : Image) (n : ℕ) (es : List Entry) (name next : ℕ) → length image.rows ≡ 16 → 0 < n → AllEntriesFit image n es
    → IsNextRequest (row_of_place image (place_of_name name)) (life_of_name name) next
    → IsNextRequest (row_of_place (image_after_entries image n es) (place_of_name name)) (life_of_name name) (next + length (requests_of_sender name es))
unfolding AllEntriesFit image_after_entries
next_fold image n [] name next long up fit h = let z : next ≡ next + 0 = omega arith in subst (IsNextRequest (row_of_place image (place_of_name name)) (life_of_name name)) z h
next_fold image n (e ∷ es) name next long up fit h =
    let then_long = sixteen_rows_after_entry image n e long in
    let then_up : 0 < n + 1 = omega arith in
    let row = row_of_place (image_after_entries (after image n e) (n + 1) es) (place_of_name name) in
    either_of_two_gives (entry_keeps_requests_in_turn image n e name next long up fit.0 h)
    (λ x.
    let same : next + length (requests_of_sender name es) ≡ next + length (requests_of_sender name (e ∷ es)) = ap (λ l. next + length (l ++ requests_of_sender name es)) (sym x.0) in
    subst (IsNextRequest row (life_of_name name)) same (next_fold (after image n e) (n + 1) es name next then_long then_up fit.1 x.1))
    (λ x.
    let long_ : suc (length (requests_of_sender name es)) ≡ length (requests_of_sender name (e ∷ es)) = ap (λ l. length (l ++ requests_of_sender name es)) (sym x.0) in
    let same : (next + 1) + length (requests_of_sender name es) ≡ next + length (requests_of_sender name (e ∷ es)) = omega arith in
    subst (IsNextRequest row (life_of_name name)) same (next_fold (after image n e) (n + 1) es name (next + 1) then_long then_up fit.1 x.1))

-- at the end of a whole list a name's next request is the one after so many
pub next_request_after_whole_list : (list : List Entry) (name : ℕ) → AllEntriesFit blank 1 list
    → IsNextRequest (row_of_place (image_after_entries blank 1 list) (place_of_name name)) (life_of_name name) (1 + length (requests_of_sender name list))
next_request_after_whole_list list name fit = let one : 0 < 1 = omega arith in next_fold blank 1 list name 1 refl one fit (first_next_request_is_one name)

-- no request below the next
none_below : (name next req : ℕ) (body : List ℕ) (list : List Entry) (k : ℕ) → RequestsFollowFrom name next list → slice_get list k ≡ Some (Data name req body) → next ≤ req
none_below name next req body [] k h is = absurd (cc)
none_below name next req body (e ∷ es) zero h is = let first = (first_is_next name next req body e es h is).0 in omega arith
none_below name next req body (e ∷ es) (suc k) h is = either_of_two_gives (rest_of name next e es h)
    (λ x. none_below name next req body es k x.1 is)
    (λ x. let above = none_below name (next + 1) req body es k x.1 is in omega arith)

-- after a send of the name stands no other with its request
none_after : (name next req : ℕ) (body other : List ℕ) (e : Entry) (es : List Entry) (k : ℕ) → RequestsFollowFrom name next (e ∷ es) → Some e ≡ Some (Data name req body)
    → slice_get es k ≡ Some (Data name req other) → ⊥
none_after name next req body other e es k h is also =
    let first = first_is_next name next req body e es h is in
    let above = none_below name (next + 1) req other es k first.1 also in
    omega arith

one_place : (name next req : ℕ) (body other : List ℕ) (list : List Entry) (k l : ℕ) → RequestsFollowFrom name next list → slice_get list k ≡ Some (Data name req body)
    → slice_get list l ≡ Some (Data name req other) → k ≡ l
one_place name next req body other [] k l h is also = absurd (cc)
one_place name next req body other (e ∷ es) zero zero h is also = refl
one_place name next req body other (e ∷ es) zero (suc l) h is also = absurd (none_after name next req body other e es l h is also)
one_place name next req body other (e ∷ es) (suc k) zero h is also = absurd (none_after name next req other body e es k h also is)
one_place name next req body other (e ∷ es) (suc k) (suc l) h is also = either_of_two_gives (rest_of name next e es h)
    (λ x. ap suc (one_place name next req body other es k l x.1 is also))
    (λ x. ap suc (one_place name (next + 1) req body other es k l x.1 is also))

pub no_send_stands_twice : NoSendTwice
no_send_stands_twice list fit name req (suc k) (suc l) body other is also = ap suc (one_place name 1 req body other list k l (requests_stand_in_turn list fit name) is also)
no_send_stands_twice list fit name req _ _ body other is also = absurd (cc)

-- ---- of a group

pub sends_of_sender_in_order : SendersInOrder
sends_of_sender_in_order w fit = record { each = requests_stand_in_turn w.group fit }

pub each_send_stands_once : SendStandsOnce
each_send_stands_once w fit name req number body is = record {
  there = (body, is);
  only = λ k other also. no_send_stands_twice w.group fit name req k number other body also is;
}
