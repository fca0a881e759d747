-- Entries of a list that are sent one after another.
use Rattle.am_node_parts.proofs.Words.{◌≡◌, ℕ, suc, ◌+◌, ◌-◌, ◌<◌, ◌≤◌, min, List, [], ◌∷◌, ◌++◌, length, take, drop, Some, true, false, nat_lt, nat_le, refl}
use Rattle.am_node_parts.proofs.Words.{sym, ap, ◌∙◌, arith, slice_index_or, length-take-le, take_more, take_all, get_or-drop, slice_get-get_or, nat_tests}
use Rattle.am_node_parts.proofs.Words.{Entry, Join, Log, top_of_log, log_entry_at, Packet, Letter, with_letter, letters_of_entries}

-- the entries of a kept list above a number
abbrev pub kept_entries_above_number : Log → ℕ → List Entry
kept_entries_above_number log number = drop (number - log.start) log.entries

put_push : (f : ℕ → Entry → Packet) (to : List ℕ) (number : ℕ) (es : List Entry) (e : Entry) (letters : List Letter)
    → letters_of_entries f to number (es ++ e ∷ []) letters ≡ with_letter to (f (number + length es) e) (letters_of_entries f to number es letters)
unfolding letters_of_entries
put_push f to number [] e letters = let z : number ≡ number + 0 = omega arith in ap (λ k. with_letter to (f k e) letters) z
put_push f to number (x ∷ es) e letters =
    let z : (number + 1) + length es ≡ number + length (x ∷ es) = omega arith in
    put_push f to (number + 1) es e (with_letter to (f number x) letters)
    ∙ ap (λ k. with_letter to (f k e) (letters_of_entries f to (number + 1) es (with_letter to (f number x) letters))) z

-- so many entries, and the next one
pub put_all_takes_next_entry : (f : ℕ → Entry → Packet) (to : List ℕ) (number : ℕ) (es : List Entry) (i : ℕ) → i < length es
    → letters_of_entries f to number (take (i + 1) es) [] ≡ with_letter to (f (number + i) (slice_index_or es i (Join 0))) (letters_of_entries f to number (take i es) [])
put_all_takes_next_entry f to number es i h =
    let long : length (take i es) ≡ i = length-take-le i es (omega arith) in
    ap (λ xs. letters_of_entries f to number xs []) (take_more es i (Join 0) h) ∙ put_push f to number (take i es) (slice_index_or es i (Join 0)) []
    ∙ ap (λ k. with_letter to (f (number + k) (slice_index_or es i (Join 0))) (letters_of_entries f to number (take i es) [])) long

pub put_all_of_no_entry : (f : ℕ → Entry → Packet) (to : List ℕ) (number i : ℕ) (es : List Entry) → i ≡ 0 → letters_of_entries f to number (take i es) [] ≡ []
unfolding letters_of_entries
put_all_of_no_entry f to number i es z = ap (λ k. letters_of_entries f to number (take k es) []) z

-- the entry after a number
pub entry_below_top_is_there : (log : Log) (number : ℕ) → log.start ≤ number → number < top_of_log log
    → log_entry_at log (number + 1) ≡ Some (slice_index_or log.entries (number - log.start) (Join 0))
entry_below_top_is_there log number low high =
    let next : number + 1 ≡ suc number = omega arith in
    let test : nat_le log.start number ≡ true = grind (arith, nat_tests) in
    ap (log_entry_at log) next ∙ rw test (slice_get-get_or log.entries (number - log.start) (Join 0) (omega arith))

pub kept_entry_at_served_number : (log : Log) (stored number : ℕ) → log.start ≤ stored → stored ≤ number → number < top_of_log log
    → slice_index_or (kept_entries_above_number log stored) (number - stored) (Join 0) ≡ slice_index_or log.entries (number - log.start) (Join 0)
kept_entry_at_served_number log stored number low from high =
    let at : (stored - log.start) + (number - stored) ≡ number - log.start = omega arith in
    get_or-drop (stored - log.start) log.entries (number - stored) (Join 0) ∙ ap (λ k. slice_index_or log.entries k (Join 0)) at

pub take_at_most_eight : (es : List Entry) (i : ℕ) → i ≡ min (length es) 8 → take i es ≡ take 8 es
take_at_most_eight es i is = go (nat_lt (length es) 8) refl
  where
    go : (b : _) → nat_lt (length es) 8 ≡ b → take i es ≡ take 8 es
    go true e = let l : length es < 8 = grind (arith, nat_tests) in take_all i es (omega arith) ∙ sym (take_all 8 es (omega arith))
    go false e = let l : 8 ≤ length es = grind (arith, nat_tests) in let z : i ≡ 8 = omega arith in ap (λ k. take k es) z
