-- A wire has each of its keys once.
use Rattle.am_shared_journal.proofs.Words.{◌≡◌, ℕ, zero, suc, ◌+◌, ◌<◌, ◌≤◌, Bool, false, nat_lt, eqb, List, [], ◌∷◌, ◌++◌, length, map, take, drop, sym, refl, ap}
use Rattle.am_shared_journal.proofs.Words.{◌∙◌, arith, eq-eqb, ne_eqb, length-append, length-drop, if◌then◌else◌, range_with_len, lt-ltb, le-ltb, take-length}
use Rattle.am_shared_journal.proofs.Words.{length-take, length-map-range_with_len, dite, ℕ_discrete, TableId, SharerKey, Place, Caller, Terms, same_key, times, is_key}
use Rattle.am_shared_journal.proofs.Words.{place_keys, caller_keys, all_keys, Sat, SeatIsIdle, Parts, Known, fresh, times_of_append, times_of_cons}

abbrev one : Bool → ℕ
one b = if b then 1 else 0

-- keys of another kind, or of other numbers
other_keys : (make : ℕ → SharerKey) (key : SharerKey) (from count : ℕ) → ((i : ℕ) → from ≤ i → same_key key (make i) ≡ false)
    → times key (map make (range_with_len from count)) ≡ 0
other_keys make key from zero other = refl
other_keys make key from (suc count) other =
    let e = times_of_cons key (make from) (map make (range_with_len (from + 1) count)) in
    let f : one (same_key key (make from)) ≡ 0 = ap one (other from (omega arith)) in
    let r = other_keys make key (from + 1) count (λ i h. other i (omega arith)) in
    omega arith

-- how often a number is among so many from another on
ranged : (make : ℕ → SharerKey) (key : SharerKey) (n from count : ℕ) → ((i : ℕ) → same_key key (make i) ≡ eqb n i) → from ≤ n
    → times key (map make (range_with_len from count)) ≡ one (nat_lt n (from + count))
ranged make key n from zero same le = ap one (sym (le-ltb n (from + 0) (omega arith)))
ranged make key n from (suc count) same le =
    let e = times_of_cons key (make from) (map make (range_with_len (from + 1) count)) in
    dite (ℕ_discrete n from)
    (λ is.
    let f : one (same_key key (make from)) ≡ 1 = ap one (same from ∙ eq-eqb n from is) in
    let r = other_keys make key (from + 1) count (λ i h. same i ∙ ne_eqb n i (λ e. omega arith)) in
    let t : one (nat_lt n (from + suc count)) ≡ 1 = ap one (lt-ltb n (from + suc count) (omega arith)) in
    omega arith)
    (λ not.
    let f : one (same_key key (make from)) ≡ 0 = ap one (same from ∙ ne_eqb n from not) in
    let r = ranged make key n (from + 1) count same (omega arith) in
    let t : from + 1 + count ≡ from + suc count = omega arith in
    let u : one (nat_lt n (from + 1 + count)) ≡ one (nat_lt n (from + suc count)) = ap (λ (m : ℕ). one (nat_lt n m)) t in
    omega arith)

pub each_key_dealt_once : (callers : ℕ) (key : SharerKey) → times key (all_keys callers) ≡ (if is_key callers key then 1 else 0)
unfolding place_keys caller_keys
each_key_dealt_once callers (Place place) =
    let e = times_of_append (Place place) place_keys (caller_keys callers) in
    let f = ranged Place (Place place) place 0 16 (λ i. refl) (omega arith) in
    let g = other_keys Caller (Place place) 0 callers (λ i h. refl) in
    omega arith
each_key_dealt_once callers (Caller caller) =
    let e = times_of_append (Caller caller) place_keys (caller_keys callers) in
    let f = other_keys Place (Caller caller) 0 16 (λ i h. refl) in
    let g = ranged Caller (Caller caller) caller 0 callers (λ i. refl) (omega arith) in
    let z : 0 + callers ≡ callers = omega arith in
    let h : one (nat_lt caller (0 + callers)) ≡ one (nat_lt caller callers) = ap (λ (m : ℕ). one (nat_lt caller m)) z in
    let k : (if is_key callers (Caller caller) then 1 else 0) ≡ one (nat_lt caller callers) = refl in
    omega arith

pub first_sixteen_are_place_keys : (callers : ℕ) → (take 16 (all_keys callers) ≡ place_keys) × (drop 16 (all_keys callers) ≡ caller_keys callers)
unfolding place_keys
first_sixteen_are_place_keys callers = (refl, refl)

pub caller_keys_length : (callers : ℕ) → length (caller_keys callers) ≡ callers
unfolding caller_keys
caller_keys_length callers = length-map-range_with_len Caller 0 callers

pub all_keys_at_least_sixteen : (callers : ℕ) → 16 ≤ length (all_keys callers)
unfolding place_keys
all_keys_at_least_sixteen callers = omega (arith, length-append (map Place (range_with_len 0 16)) (caller_keys callers))

-- ---- one by one

take_more : (wire : TableId) (terms : Terms) (key : SharerKey) (keys : List SharerKey) (i : ℕ)
    → map (fresh wire terms) (take (suc i + 1) (key ∷ keys)) ≡ fresh wire terms key ∷ map (fresh wire terms) (take (i + 1) keys)
take_more wire terms key keys i = let e : suc i + 1 ≡ suc (i + 1) = omega arith in ap (λ (n : ℕ). map (fresh wire terms) (take n (key ∷ keys))) e

one_more : (wire : TableId) (terms : Terms) (keys : List SharerKey) (i : ℕ) → i < length keys
    → map (fresh wire terms) (take (i + 1) keys) ≡ map (fresh wire terms) (take i keys)
    ++ record { wire = wire; terms = terms; keys = take 1 (drop i keys); seen = [] } ∷ []
one_more wire terms [] i h = absurd (omega arith)
one_more wire terms (key ∷ keys) zero h = refl
one_more wire terms (key ∷ keys) (suc i) h = take_more wire terms key keys i
    ∙ ap (λ (l : List Known). fresh wire terms key ∷ l) (one_more wire terms keys i (omega arith))

drop_none : (i : ℕ) → drop {A = SharerKey} i [] ≡ []
drop_none zero = refl
drop_none (suc i) = refl

drop_more : (keys : List SharerKey) (i : ℕ) → drop 1 (drop i keys) ≡ drop (i + 1) keys
drop_more [] i = ap (drop 1) (drop_none i) ∙ sym (drop_none (i + 1))
drop_more (key ∷ keys) zero = refl
drop_more (key ∷ keys) (suc i) = let e : suc i + 1 ≡ suc (i + 1) = omega arith in drop_more keys i ∙ sym (ap (λ (n : ℕ). drop n (key ∷ keys)) e)

pub first_key_left_is_there : (keys : List SharerKey) (i : ℕ) → i < length keys → 0 < length (take 1 (drop i keys))
first_key_left_is_there keys i h = omega (arith, length-take 1 (drop i keys), length-drop i keys)

-- so many keys have their passes
pub record KeysAreDealtUpTo (wire : TableId) (terms : Terms) (all : List SharerKey) (i : ℕ) (its : TableId) (m : Sat) (made : List Known) : Type 0 where
  pub same : its ≡ wire
  pub idle : SeatIsIdle m
  pub unseen : m.0.seen ≡ []
  pub same_terms : m.0.terms ≡ terms
  pub keys : m.0.keys ≡ drop i all
  pub passes : made ≡ map (fresh wire terms) (take i all)

pub one_key_more_is_dealt : (wire : TableId) (terms : Terms) (all : List SharerKey) (i : ℕ) (its : TableId) (m : Sat) (made : List Known) (its' : TableId) (m' other : Sat)
    (made' : List Known) → i < length all
    → KeysAreDealtUpTo wire terms all i its m made → its' ≡ its → Parts m m' other
    → made' ≡ made ++ record { wire = its; terms = other.0.terms; keys = other.0.keys; seen = other.0.seen } ∷ [] → KeysAreDealtUpTo wire terms all (i + 1) its' m' made'
one_key_more_is_dealt wire terms all i its m made its' m' other made' h dealt same parts pushed = record {
  same = same ∙ dealt.same;
  idle = parts.idle.0;
  unseen = parts.seen ∙ dealt.unseen;
  same_terms = parts.terms ∙ dealt.same_terms;
  keys = parts.keys ∙ ap (drop 1) dealt.keys ∙ drop_more all i;
  passes = pushed ∙ ap (λ (l : List Known). l ++ record { wire = its; terms = other.0.terms; keys = other.0.keys; seen = other.0.seen } ∷ []) dealt.passes
      ∙ ap (λ (p : Known). map (fresh wire terms) (take i all) ++ p ∷ []) (λ k. record {
        wire = dealt.same k;
        terms = (parts.other_terms ∙ dealt.same_terms) k;
        keys = (parts.other_keys
            ∙ ap (take 1) dealt.keys) k;
        seen = (parts.other_seen ∙ dealt.unseen) k;
      })
      ∙ sym (one_more wire terms all i h);
}

pub take_callers : (callers : ℕ) → take callers (caller_keys callers) ≡ caller_keys callers
take_callers callers = ap (λ (n : ℕ). take n (caller_keys callers)) (sym (caller_keys_length callers)) ∙ take-length (caller_keys callers)
