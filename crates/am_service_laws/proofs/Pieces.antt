-- The contents after a piece of a list, which goes on where other contents end.
use Rattle.am_service_laws.proofs.Words.{◌≡◌, ℕ, zero, suc, ◌+◌, List, [], ◌∷◌, ◌++◌, length, take, Some, slice_get, refl, sym, ap, ◌∙◌, subst, arith}
use Rattle.am_service_laws.proofs.Words.{add-zero, enumerate_from, Entry, item_at, IsSegment, Contents, contents_with, contents_from, contents_after, fold_of_pushed_item}
use Rattle.am_service_laws.proofs.Words.{last_number}

-- a list up to an item that it has
record IsUpTo (list : List Entry) (n : ℕ) (e : Entry) : Type 0 where
  pub more : take (suc n) list ≡ take n list ++ e ∷ []
  pub long : length (take n list) ≡ n

up_to : (list : List Entry) (n : ℕ) (e : Entry) → slice_get list n ≡ Some e → IsUpTo list n e
up_to [] n e h = cc
up_to (x ∷ xs) zero e h = record { more = ap (λ (y : Entry). y ∷ []) (let same : x ≡ e = cc (h) in same); long = refl }
up_to (x ∷ xs) (suc n) e h = let u = up_to xs n e h in record { more = ap (λ (ys : List Entry). x ∷ ys) u.more; long = ap suc u.long }

enumerate_push : (from : ℕ) (xs : List Entry) (x : Entry) → enumerate_from from (xs ++ x ∷ []) ≡ enumerate_from from xs ++ (from + length xs, x) ∷ []
enumerate_push from [] x = ap (λ (n : ℕ). (n, x) ∷ []) (sym (add-zero from))
enumerate_push from (y ∷ xs) x =
    ap (λ (ps : List (ℕ × Entry)). (from, y) ∷ ps) (enumerate_push (from + 1) xs x
    ∙ ap (λ (n : ℕ). enumerate_from (from + 1) xs ++ (n, x) ∷ []) (let e : from + 1 + length xs ≡ from + suc (length xs) = omega arith in e))

contents_more : (list : List Entry) (n : ℕ) (e : Entry) → slice_get list n ≡ Some e
    → contents_after list (suc n) ≡ contents_with (contents_after list n) (suc n, e)
contents_more list n e h =
    let u = up_to list n e h in
    let number : 1 + length (take n list) ≡ suc n = omega (arith, u.long) in
    ap (λ (xs : List Entry). contents_from [] (enumerate_from 1 xs)) u.more
    ∙ ap (λ (ps : List (ℕ × Entry)). contents_from [] ps) (enumerate_push 1 (take n list) e)
    ∙ fold_of_pushed_item contents_with [] (enumerate_from 1 (take n list)) (1 + length (take n list), e)
    ∙ ap (λ (k : ℕ). contents_with (contents_after list n) (k, e)) number

-- the first of a piece, and the others
pub record PieceSplitsAtFirst (given : List (ℕ × Entry)) (pair : ℕ × Entry) (n : ℕ) (list : List Entry) : Type 0 where
  pub number : pair.0 ≡ suc n
  pub item : slice_get list n ≡ Some pair.1
  pub rest : IsSegment given (suc (suc n)) list

pub segment_splits_at_first : (given : List (ℕ × Entry)) (pair : ℕ × Entry) (n : ℕ) (list : List Entry) → IsSegment (pair ∷ given) (suc n) list → PieceSplitsAtFirst given pair n list
segment_splits_at_first given pair n list piece =
    let first = piece 0 pair.0 pair.1 refl in
    record {
      number = omega (arith, first.0);
      item = subst (λ (k : ℕ). item_at list k ≡ Some pair.1) (add-zero (suc n)) first.1;
      rest = λ k number e at.
          let later = piece (suc k) number e at in
          let same : suc n + suc k ≡ suc (suc n) + k = omega arith in
          (later.0 ∙ same, subst (λ (j : ℕ). item_at list j ≡ Some e) same later.1);
    }

-- contents up to a number, and the piece from there on
pub contents_from_segment : (given : List (ℕ × Entry)) (n : ℕ) (list : List Entry) → IsSegment given (suc n) list
    → contents_from (contents_after list n) given ≡ contents_after list (n + length given)
contents_from_segment [] n list piece = ap (λ (k : ℕ). contents_after list k) (sym (add-zero n))
contents_from_segment (pair ∷ given) n list piece =
    let s = segment_splits_at_first given pair n list piece in
    let next : contents_with (contents_after list n) pair ≡ contents_after list (suc n)
    = ap (λ (k : ℕ). contents_with (contents_after list n) (k, pair.1)) s.number ∙ sym (contents_more list n pair.1 s.item) in
    ap (λ (c : Contents). contents_from c given) next ∙ contents_from_segment given (suc n) list s.rest
    ∙ ap (λ (k : ℕ). contents_after list k) (let e : suc n + length given ≡ n + suc (length given) = omega arith in e)

pub last_number_of_segment : (given : List (ℕ × Entry)) (n : ℕ) (list : List Entry) → IsSegment given (suc n) list → last_number n given ≡ n + length given
last_number_of_segment [] n list piece = sym (add-zero n)
last_number_of_segment (pair ∷ given) n list piece =
    let s = segment_splits_at_first given pair n list piece in
    ap (λ (k : ℕ). last_number k given) s.number ∙ last_number_of_segment given (suc n) list s.rest
    ∙ (let e : suc n + length given ≡ n + suc (length given) = omega arith in e)
