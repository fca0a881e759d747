-- Lists that begin one another.
use Rattle.am_base.proofs.ChainWords.{◌≡◌, ◌⊎◌, ⊎_elim, inl, inr, ℕ, zero, suc, ◌+◌, ◌<◌, ◌≤◌, List, [], ◌∷◌, ◌++◌, length, take, Some, slice_get, refl}
use Rattle.am_base.proofs.ChainWords.{sym, ap, ◌∙◌, arith, append_assoc, append-nil, length-append, Entry, IsBeginningOf, IsProperBeginningOf}

pub list_begins_itself : (a : List Entry) → IsBeginningOf a a
list_begins_itself a = record { rest = []; same = append-nil a }

pub empty_list_begins_all : (a : List Entry) → IsBeginningOf [] a
empty_list_begins_all a = record { rest = a; same = refl }

pub front_begins_append : (a b : List Entry) → IsBeginningOf a (a ++ b)
front_begins_append a b = record { rest = b; same = refl }

pub begins_through_both : {a b c : List Entry} → IsBeginningOf a b → IsBeginningOf b c → IsBeginningOf a c
begins_through_both {a} h k = record { rest = h.rest ++ k.rest; same = sym (append_assoc a h.rest k.rest) ∙ ap (λ l. l ++ k.rest) h.same ∙ k.same }

pub beginning_is_no_longer : {a b : List Entry} → IsBeginningOf a b → length a ≤ length b
beginning_is_no_longer {a} h = omega (arith, length-append a h.rest, ap length h.same)

cons_same : {x y : Entry} {a b : List Entry} → x ∷ a ≡ y ∷ b → (x ≡ y) × (a ≡ b)
cons_same h = (cc, cc)

both_go : (a b x y : List Entry) → a ++ x ≡ b ++ y → length a ≤ length b → IsBeginningOf a b
both_go [] b x y h l = empty_list_begins_all b
both_go (e ∷ a) [] x y h l = absurd (omega arith)
both_go (e ∷ a) (f ∷ b) x y h l =
    let s = cons_same h in
    let g = both_go a b x y s.1 (omega arith) in
    record { rest = g.rest; same = ap (λ l. e ∷ l) g.same ∙ ap (λ z. z ∷ b) s.0 }

-- two beginnings of one list: the shorter begins the longer
pub shorter_beginning_begins_longer : {a b c : List Entry} → IsBeginningOf a c → IsBeginningOf b c → length a ≤ length b → IsBeginningOf a b
shorter_beginning_begins_longer {a} {b} h k l = both_go a b h.rest k.rest (h.same ∙ sym k.same) l

nil_of_length : (a : List Entry) → length a ≤ 0 → a ≡ []
nil_of_length [] h = refl
nil_of_length (e ∷ a) h = absurd (omega arith)

pub begins_not_longer_is_same : {a b : List Entry} → IsBeginningOf a b → length b ≤ length a → a ≡ b
begins_not_longer_is_same {a} h l =
    let z : length h.rest ≤ 0 = omega (arith, length-append a h.rest, ap length h.same) in
    sym (append-nil a) ∙ ap (λ r. a ++ r) (sym (nil_of_length h.rest z)) ∙ h.same

pub length_of_pushed_list : (a : List Entry) (e : Entry) → length (a ++ e ∷ []) ≡ length a + 1
length_of_pushed_list a e = length-append a (e ∷ [])

pub push_then_append : (a : List Entry) (e : Entry) (r : List Entry) → (a ++ e ∷ []) ++ r ≡ a ++ e ∷ r
push_then_append a e r = append_assoc a (e ∷ []) r

push_go : (a rest : List Entry) (e : Entry) → slice_get (a ++ rest) (length a) ≡ Some e → IsBeginningOf (a ++ e ∷ []) (a ++ rest)
push_go [] [] e h = absurd (cc)
push_go [] (r ∷ rest) e h = let same : r ≡ e = cc in record { rest = rest; same = ap (λ x. x ∷ rest) (sym same) }
push_go (x ∷ a) rest e h = let g = push_go a rest e h in record { rest = g.rest; same = ap (λ l. x ∷ l) g.same }

-- the next entry of a list that this one begins
pub begins_push_next_entry : {a b : List Entry} (e : Entry) → IsBeginningOf a b → slice_get b (length a) ≡ Some e → IsBeginningOf (a ++ e ∷ []) b
begins_push_next_entry {a} {b} e p h = let g = push_go a p.rest e (ap (λ l. slice_get l (length a)) p.same ∙ h) in record { rest = g.rest; same = g.same ∙ p.same }

get_go : (a : List Entry) (e : Entry) (r : List Entry) → slice_get (a ++ e ∷ r) (length a) ≡ Some e
get_go [] e r = refl
get_go (x ∷ a) e r = get_go a e r

-- one entry more than what begins it
pub entry_after_beginning : (a : List Entry) (e : Entry) {b : List Entry} → IsBeginningOf (a ++ e ∷ []) b → slice_get b (length a) ≡ Some e
entry_after_beginning a e {b} h = ap (λ l. slice_get l (length a)) (sym h.same ∙ push_then_append a e h.rest) ∙ get_go a e h.rest

pub begins_below_begins : {a b : List Entry} → IsProperBeginningOf a b → IsBeginningOf a b
begins_below_begins {a} h = record { rest = h.next ∷ h.rest; same = h.same }

pub proper_beginning_is_shorter : {a b : List Entry} → IsProperBeginningOf a b → length a < length b
proper_beginning_is_shorter {a} h = omega (arith, length-append a (h.next ∷ h.rest), ap length h.same)

pub shorter_beginning_is_below : {a b : List Entry} → IsBeginningOf a b → length a < length b → IsProperBeginningOf a b
shorter_beginning_is_below {a} {b} h l = go h.rest h.same
  where
    go : (r : List Entry) → a ++ r ≡ b → IsProperBeginningOf a b
    go [] e = absurd (omega (arith, ap length (sym (append-nil a) ∙ e)))
    go (x ∷ r) e = record { next = x; rest = r; same = e }

-- what begins one entry more begins without it, or is it all
pub begins_push_or_is_push : {a b : List Entry} (e : Entry) → IsBeginningOf a (b ++ e ∷ []) → IsBeginningOf a b ⊎ (a ≡ b ++ e ∷ [])
begins_push_or_is_push {a} {b} e h = go (length a) refl
  where
    two : (n m : ℕ) → (n ≤ m) ⊎ (m + 1 ≤ n)
    two n m = grind arith

    go : (n : ℕ) → length a ≡ n → IsBeginningOf a b ⊎ (a ≡ b ++ e ∷ [])
    go n z = ⊎_elim
        (λ (l : n ≤ length b). inl (shorter_beginning_begins_longer h (front_begins_append b (e ∷ [])) (omega arith)))
        (λ (l : length b + 1 ≤ n). inr (begins_not_longer_is_same h (omega (arith, length_of_pushed_list b e))))
        (two n (length b))

pub taken_front_begins_list : (n : ℕ) (a : List Entry) → IsBeginningOf (take n a) a
taken_front_begins_list zero a = empty_list_begins_all a
taken_front_begins_list (suc n) [] = list_begins_itself []
taken_front_begins_list (suc n) (e ∷ a) = let g = taken_front_begins_list n a in record { rest = g.rest; same = ap (λ l. e ∷ l) g.same }

pub length_of_taken_list : (n : ℕ) (a : List Entry) → n ≤ length a → length (take n a) ≡ n
length_of_taken_list zero a h = refl
length_of_taken_list (suc n) [] h = absurd (omega arith)
length_of_taken_list (suc n) (e ∷ a) h = ap suc (length_of_taken_list n a (omega arith))

-- a beginning is what its length takes
pub take_length_of_beginning : {a b : List Entry} → IsBeginningOf a b → take (length a) b ≡ a
take_length_of_beginning {a} {b} h =
    let l = beginning_is_no_longer h in
    let k = length_of_taken_list (length a) b l in
    sym (begins_not_longer_is_same (shorter_beginning_begins_longer h (taken_front_begins_list (length a) b) (omega arith)) (omega arith))
