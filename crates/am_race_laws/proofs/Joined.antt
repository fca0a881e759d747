-- The passes of places and callers, joined to one with all keys.
use Rattle.am_race_laws.proofs.Words.{◌≡◌, ℕ, zero, suc, ◌+◌, ◌<◌, ◌≤◌, List, [], ◌∷◌, ◌++◌, length, get_or, true, true≢false, cond, sym, refl, ap}
use Rattle.am_race_laws.proofs.Words.{◌∙◌, subst, arith, ⊎_elim, Option, Some, None, slice_get, All, ◌⊎◌, range_with_len, eqb-true, ltb-true}
use Rattle.am_race_laws.proofs.Words.{get_or-map, length-map, get_or-range_with_len, length-range_with_len, slice_get_cases, Record, RacePlan, SharerKey, Place}
use Rattle.am_race_laws.proofs.Words.{Caller, times, same_key, Known, Joined, HasEachKey, GoesOn, times_of_append, times_of_cons, records_go_on_through_both, of_caller, is_callers}
use Rattle.am_race_laws.proofs.Words.{Calling, HasMade, HasPlaces, IsIn, EndsFor, caller_numbers, calls_made, calls_by}
use Rattle.am_race_laws.proofs.Boxing.{own_key_times_positive}
use Rattle.am_race_laws.proofs.Words.{split_on_bool}

-- ---- one key

same_is : (a b : SharerKey) → same_key a b ≡ true → a ≡ b
same_is (Place a) (Place b) e = ap Place (eqb-true a b e)
same_is (Caller a) (Caller b) e = ap Caller (eqb-true a b e)
same_is _ _ e = absurd (true≢false (sym e))

only_key : (key own : SharerKey) → 0 < times key (own ∷ []) → key ≡ own
only_key key own has = split_on_bool (same_key key own) (same_is key own)
    (λ f.
    let c = times_of_cons key own [] in
    let o : ◌≡◌ {A = ℕ} (cond (same_key key own) 1 0) 0 = rw f refl in
    let z : times key [] ≡ 0 = refl in
    absurd (omega arith))

keeps_key : (key : SharerKey) (p q p' : Known) → Joined p q p' → 0 < times key p.keys → 0 < times key p'.keys
keeps_key key p q p' j has =
    let a : times key p'.keys ≡ times key (q.keys ++ p.keys) = ap (times key) j.keys in
    let b = times_of_append key q.keys p.keys in
    omega arith

gets_key : (key : SharerKey) (p q p' : Known) → Joined p q p' → q.keys ≡ key ∷ [] → 0 < times key p'.keys
gets_key key p q p' j its =
    let a : times key p'.keys ≡ times key (q.keys ++ p.keys) = ap (times key) j.keys in
    let b = times_of_append key q.keys p.keys in
    let c : times key q.keys ≡ times key (key ∷ []) = ap (times key) its in
    let o = own_key_times_positive key in
    omega arith

-- ---- places

pub joined_pass_adds_place : (count : ℕ) (p q p' : Known) → HasPlaces count p → Joined p q p' → q.keys ≡ Place count ∷ [] → HasPlaces (count + 1) p'
joined_pass_adds_place count p q p' has j its place h =
    let one : (place < count) ⊎ (place ≡ count) = grind arith in
    ⊎_elim
    (λ (below : place < count). keeps_key (Place place) p q p' j (has place below))
    (λ (last : place ≡ count). subst (λ (n : ℕ). 0 < times (Place n) p'.keys) (sym last) (gets_key (Place count) p q p' j its))
    one

pub joined_pass_keeps_places : (count : ℕ) (p q p' : Known) → HasPlaces count p → Joined p q p' → HasPlaces count p'
joined_pass_keeps_places count p q p' has j place h = keeps_key (Place place) p q p' j (has place h)

-- ---- callers

in_still : (plan : RacePlan) (p q p' : Known) (c : Calling) → Joined p q p' → IsIn plan p c → IsIn plan p' c
in_still plan p q p' c j is = record {
  key = keeps_key (Caller c.number) p q p' j is.key;
  goes = records_go_on_through_both (Caller c.number ∷ []) p.keys c.seen p.seen p'.seen
      (λ key has. subst (λ (k : SharerKey). 0 < times k p.keys) (sym (only_key key (Caller c.number) has)) is.key) is.goes j.first;
  made = is.made;
}

pub joined_pass_adds_caller : (plan : RacePlan) (p q p' : Known) (callers : List Calling) (c : Calling) → All (IsIn plan p) callers → Joined p q p'
    → q.keys ≡ Caller c.number ∷ [] → q.seen ≡ c.seen
    → HasMade plan c.number c.calls c.seen → All (IsIn plan p') (callers ++ c ∷ [])
joined_pass_adds_caller plan p q p' [] c all j its seen made zero d h = record {
  key = gets_key (Caller c.number) p q p' j its;
  goes = subst (λ (ks : List SharerKey). GoesOn ks c.seen p'.seen) its (subst (λ (l : List Record). GoesOn q.keys l p'.seen) seen j.second);
  made = made;
}
joined_pass_adds_caller plan p q p' [] c all j its seen made (suc k) d h = absurd (omega arith)
joined_pass_adds_caller plan p q p' (x ∷ callers) c all j its seen made zero d h = in_still plan p q p' x j (all 0 d (omega arith))
joined_pass_adds_caller plan p q p' (x ∷ callers) c all j its seen made (suc k) d h =
    joined_pass_adds_caller plan p q p' callers c (λ i e l. all (suc i) e (omega arith)) j its seen made k d (omega arith)

-- ---- the end

ends_for : (plan : RacePlan) (p : Known) (c : Calling) → IsIn plan p c → EndsFor p.seen c
ends_for plan p c is = record { begins = is.goes.begins; own = is.goes.own (Caller c.number) (own_key_times_positive (Caller c.number)) }

abbrev nobody : Calling
nobody = record { number = 0; calls = []; seen = [] }

none_more : (i : ℕ) → 0 + i ≡ i
none_more i = omega arith

-- the records of a caller are those of its calls
called_by : (plan : RacePlan) (p : Known) (c : Calling) → IsIn plan p c → is_callers plan.turns c.calls (of_caller c.number p.seen) ≡ true
called_by plan p c is = ap (is_callers plan.turns c.calls) (is.goes.own (Caller c.number) (own_key_times_positive (Caller c.number))) ∙ is.made.made

-- the caller of each number is there
pub caller_of_each_number : (count caller : ℕ) (callers : List Calling) (d : Calling) → caller_numbers callers ≡ range_with_len 0 count → caller < count
    → (caller < length callers) × ((get_or callers caller d).number ≡ caller)
caller_of_each_number count caller callers d is below =
    let many : length (caller_numbers callers) ≡ length (range_with_len 0 count) = ap length is in
    let a = length-map callers (λ (c : Calling). c.number) in
    let b = length-range_with_len 0 count in
    let there : caller < length callers = omega arith in (
      there,
      sym (get_or-map (λ (c : Calling). c.number) callers caller d 0 there) ∙ ap (λ (l : List ℕ). get_or l caller 0) is
          ∙ get_or-range_with_len 0 count caller 0 below ∙ none_more caller,
    )

pub joined_callers_made_their_calls : (plan : RacePlan) (p : Known) (callers : List Calling) → All (IsIn plan p) callers
    → caller_numbers callers ≡ range_with_len 0 (length plan.threads)
    → (caller : ℕ) → caller < length plan.threads → is_callers plan.turns (calls_by callers caller) (of_caller caller p.seen) ≡ true
joined_callers_made_their_calls plan p callers all is caller below =
    ⊎_elim
    (λ (k : (x : Calling) × (caller < length callers) × (slice_get callers caller ≡ Some x) × (get_or callers caller x ≡ x)).
    let its : k.0.number ≡ caller = ap (λ (c : Calling). c.number) (sym k.3) ∙ (caller_of_each_number (length plan.threads) caller callers k.0 is below).1 in
    ap (λ (o : Option Calling). is_callers plan.turns (calls_made o) (of_caller caller p.seen)) k.2
    ∙ ap (λ (n : ℕ). is_callers plan.turns k.0.calls (of_caller n p.seen)) (sym its)
    ∙ called_by plan p k.0 (subst (IsIn plan p) k.3 (all caller k.0 k.1)))
    (λ (past : (length callers ≤ caller) × (slice_get callers caller ≡ None)).
    let there = (caller_of_each_number (length plan.threads) caller callers nobody is below).0 in absurd (let a = past.0 in omega arith))
    (slice_get_cases callers caller).1

pub joined_callers_end : (plan : RacePlan) (p : Known) (callers : List Calling) → All (IsIn plan p) callers → All (EndsFor p.seen) callers
joined_callers_end plan p callers all = λ k d h. ends_for plan p (get_or callers k d) (all k d h)

pub joined_pass_has_all_keys : (plan : RacePlan) (count : ℕ) (p : Known) (callers : List Calling) → HasPlaces 16 p → All (IsIn plan p) callers
    → caller_numbers callers ≡ range_with_len 0 count → HasEachKey count p.keys
joined_pass_has_all_keys plan count p callers places all is (Place place) low = places place (ltb-true place 16 low)
joined_pass_has_all_keys plan count p callers places all is (Caller caller) low =
    let c = caller_of_each_number count caller callers nobody is (ltb-true caller count low) in
    subst (λ (n : ℕ). 0 < times (Caller n) p.keys) c.1 (all caller nobody c.0).key
