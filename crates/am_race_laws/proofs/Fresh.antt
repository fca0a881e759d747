-- The passes and the shares of a wire, dealt in their order, and the callers made of them.
use Rattle.am_race_laws.proofs.Words.{◌≡◌, ℕ, ◌+◌, ◌<◌, List, [], ◌∷◌, ◌++◌, length, map, get_or, sym, refl, ap, ◌∙◌, arith, range_with_len, get_or-map}
use Rattle.am_race_laws.proofs.Words.{length-map, get_or-map-range_with_len, length-map-range_with_len, map-range_with_len_more, TableId, SharerKey, Place, Caller}
use Rattle.am_race_laws.proofs.Words.{Terms, place_keys, caller_keys, Known, fresh, Calling, fresh_caller, fresh_callers, caller_numbers}

-- ---- what is dealt

dealt_at : (key : ℕ → SharerKey) (wire : TableId) (terms : Terms) (count k : ℕ) (items : List Known) (p : Known)
    → items ≡ map (fresh wire terms) (map key (range_with_len 0 count))
    → k < length items → p ≡ get_or items k p → (k < count) × (p ≡ fresh wire terms (key k))
dealt_at key wire terms count k items p is low there =
    let keys : List SharerKey = map key (range_with_len 0 count) in
    let all : length keys ≡ count = length-map-range_with_len key 0 count in
    let many : length items ≡ count = ap length is ∙ length-map keys (fresh wire terms) ∙ all in
    let below : k < count = omega arith in (
      below,
      there ∙ ap (λ (l : List Known). get_or l k p) is ∙ get_or-map (fresh wire terms) keys k (key 0) p (omega arith)
          ∙ ap (fresh wire terms) (get_or-map-range_with_len key 0 count k k (key 0) below (omega arith)),
    )

many_dealt : (key : ℕ → SharerKey) (wire : TableId) (terms : Terms) (count : ℕ) → length (map (fresh wire terms) (map key (range_with_len 0 count))) ≡ count
many_dealt key wire terms count = length-map (map key (range_with_len 0 count)) (fresh wire terms) ∙ length-map-range_with_len key 0 count

-- the pass of a place
pub pass_of_place_is_fresh : (wire : TableId) (terms : Terms) (k : ℕ) (items : List Known) (p : Known) → items ≡ map (fresh wire terms) place_keys → k < length items
    → p ≡ get_or items k p
    → (k < 16) × (p ≡ fresh wire terms (Place k))
unfolding place_keys
pass_of_place_is_fresh wire terms k items p is low there = dealt_at Place wire terms 16 k items p is low there

pub length_of_fresh_passes : (wire : TableId) (terms : Terms) (items : List Known) → items ≡ map (fresh wire terms) place_keys → length items ≡ 16
unfolding place_keys
length_of_fresh_passes wire terms items is = ap length is ∙ many_dealt Place wire terms 16

-- the share of a caller
pub share_of_caller_is_fresh : (wire : TableId) (terms : Terms) (count k : ℕ) (items : List Known) (p : Known) → items ≡ map (fresh wire terms) (caller_keys count)
    → k < length items → p ≡ get_or items k p
    → (k < count) × (p ≡ fresh wire terms (Caller k))
unfolding caller_keys
share_of_caller_is_fresh wire terms count k items p is low there = dealt_at Caller wire terms count k items p is low there

pub length_of_fresh_shares : (wire : TableId) (terms : Terms) (count : ℕ) (items : List Known) → items ≡ map (fresh wire terms) (caller_keys count) → length items ≡ count
unfolding caller_keys
length_of_fresh_shares wire terms count items is = ap length is ∙ many_dealt Caller wire terms count

-- ---- callers that have made no call

pub fresh_callers_with_one_more : (count : ℕ) (callers : List Calling) (c : Calling) → callers ≡ fresh_callers count → c ≡ fresh_caller count
    → callers ++ c ∷ [] ≡ fresh_callers (count + 1)
fresh_callers_with_one_more count callers c are is =
    ap (λ (l : List Calling). l ++ c ∷ []) are ∙ ap (λ (x : Calling). fresh_callers count ++ x ∷ []) is
    ∙ sym (map-range_with_len_more fresh_caller 0 count count (omega arith))

pub caller_at_index_is_fresh : (count i : ℕ) (callers : List Calling) (c : Calling) → callers ≡ fresh_callers count → i < length callers → c ≡ get_or callers i c
    → c ≡ fresh_caller c.number
caller_at_index_is_fresh count i callers c are low there =
    let many : length callers ≡ count = ap length are ∙ length-map-range_with_len fresh_caller 0 count in
    let is : c ≡ fresh_caller i = there ∙ ap (λ (l : List Calling). get_or l i c) are
    ∙ get_or-map-range_with_len fresh_caller 0 count i i c (omega arith) (omega arith) in
    is ∙ ap fresh_caller (sym (ap (λ (x : Calling). x.number) is))

numbers_kept : (numbers : List ℕ) → caller_numbers (map fresh_caller numbers) ≡ numbers
numbers_kept [] = refl
numbers_kept (n ∷ numbers) = ap (λ (l : List ℕ). n ∷ l) (numbers_kept numbers)

pub numbers_of_fresh_callers : (count : ℕ) (callers : List Calling) → callers ≡ fresh_callers count → caller_numbers callers ≡ range_with_len 0 count
numbers_of_fresh_callers count callers are = ap caller_numbers are ∙ numbers_kept (range_with_len 0 count)

pub length_of_fresh_callers : (count : ℕ) (callers : List Calling) → callers ≡ fresh_callers count → length callers ≡ count
length_of_fresh_callers count callers are = ap length are ∙ length-map-range_with_len fresh_caller 0 count
