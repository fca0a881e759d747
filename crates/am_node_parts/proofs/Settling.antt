-- Where a send of the node's own is accepted.
use Rattle.am_node_parts.proofs.Words.{◌≡◌, ℕ, suc, ◌+◌, ◌-◌, ◌<◌, ◌≤◌, List, ◌∷◌, [], length, take, drop, get_or, Bool, true, false, nat_lt, nat_le, Option}
use Rattle.am_node_parts.proofs.Words.{Some, None, refl, sym, ◌∙◌, ap, option_map, arith, slice_get, position, position_or_len, nat_tests, slice_get-get_or}
use Rattle.am_node_parts.proofs.Words.{get_or-take, length-take, position_or_len_is, Entry, Log, log_entry_at, CoreState, CoreKeepsEndOf, CoreFrontsAreInOrder, OwnSend, Node, waiting_send_of}
use Rattle.am_node_parts.proofs.Words.{is_data_of, accepted_number_of_send, settle_send_at, settle_send_where_accepted, settle_waiting_send, node_with_log, TellsAlike, ChangesAllAlike, some_passes, accepted_number}
use Rattle.am_node_defs.specs.Sends as own
use Rattle.am_node_parts.proofs.Ends.{reading_of_end_tells_node, change_of_end_changes_node}

-- ---- the first of a list that passes

passes_get : {A : Type 0} (p : A → Bool) (xs : List A) (k : ℕ) (d : A) → k < length xs → some_passes p (slice_get xs k) ≡ p (get_or xs k d)
passes_get p xs k d h = ap (some_passes p) (slice_get-get_or xs k d h)

position_is : {A : Type 0} (p : A → Bool) (xs : List A) (i : ℕ) (d : A) → i < length xs → some_passes p (slice_get xs i) ≡ true
    → ((k : ℕ) → k < i → some_passes p (slice_get xs k) ≡ false) → position p xs ≡ Some i
position_is p xs i d within at before =
    let first : position_or_len p xs ≡ i = position_or_len_is p xs i d (omega arith) (λ k h. sym (passes_get p xs k d (omega arith))
    ∙ before k h) (λ h. sym (passes_get p xs i d h) ∙ at) in
    let test : nat_lt (position_or_len p xs) (length xs) ≡ true = grind (arith, nat_tests) in
    rw test (ap Some first)

position_none : {A : Type 0} (p : A → Bool) (xs : List A) → ((k : ℕ) → k < length xs → some_passes p (slice_get xs k) ≡ false) → position p xs ≡ None
position_none p [] none = refl
position_none p (x ∷ xs) none =
    let all = x ∷ xs in
    let first : position_or_len p (x ∷ xs) ≡ length (x ∷ xs) =
    position_or_len_is p (x ∷ xs) (length (x ∷ xs)) x (omega arith) (λ k h. sym (passes_get p (x ∷ xs) k x h) ∙ none k h) (λ h. absurd (omega arith)) in
    let test : nat_lt (position_or_len p (x ∷ xs)) (length (x ∷ xs)) ≡ false = grind (arith, nat_tests) in
    rw test refl

-- ---- the entries of a list that stand above the base

pub entry_at_is_list_item : (log : Log) (number : ℕ) → log.start ≤ number → log_entry_at log (number + 1) ≡ slice_get log.entries (number - log.start)
entry_at_is_list_item log number low =
    let test : nat_le log.start number ≡ true = grind (arith, nat_tests) in
    let next : number + 1 ≡ suc number = omega arith in
    let at : log_entry_at log (suc number) ≡ slice_get log.entries (number - log.start) = rw test refl in
    ap (log_entry_at log) next ∙ at

-- none of the own entries from the base on passes, up to a number
abbrev NoneUpTo : CoreState → ℕ → ℕ → Type 0
NoneUpTo c req high = (number : ℕ) → c.base ≤ number → number < high → some_passes (is_data_of c.who req) (log_entry_at c.log (number + 1)) ≡ false

none_passes : (c : CoreState) (req high k : ℕ) → c.base ≡ c.log.start → NoneUpTo c req high → c.base + k < high
    → some_passes (is_data_of c.who req) (slice_get c.log.entries k) ≡ false
none_passes c req high k kept none below =
    let back : c.base + k - c.log.start ≡ k = omega arith in
    ap (λ j. some_passes (is_data_of c.who req) (slice_get c.log.entries j)) (sym back)
    ∙ ap (some_passes (is_data_of c.who req)) (sym (entry_at_is_list_item c.log (c.base + k) (omega arith))) ∙ none (c.base + k) (omega arith) below

-- what the whole list has accepted above the base is what the end has
kept_entries : (m : Node) (req : ℕ) (all : Log) → CoreKeepsEndOf all m.core
    → accepted_number (node_with_log m all) req ≡ option_map (λ k. m.core.base + 1 + k)
    (position (is_data_of m.core.who req) (take (m.core.acc - m.core.base) m.core.log.entries))
kept_entries m req all s =
    let entries = (s.kept).entries in
    let at = s.base in
    ap (λ (b : ℕ). option_map (λ k. m.core.base + 1 + k) (position (is_data_of m.core.who req)
    (take (m.core.acc - m.core.base) (drop (b - all.start) all.entries)))) at
    ∙ ap (λ (es : List Entry). option_map (λ k. m.core.base + 1 + k) (position (is_data_of m.core.who req) (take (m.core.acc - m.core.base) es))) (sym entries)

passes_take : {A : Type 0} (p : A → Bool) (n : ℕ) (xs : List A) (k : ℕ) → k < n → n ≤ length xs → some_passes p (slice_get (take n xs) k) ≡ some_passes p (slice_get xs k)
passes_take p n [] k h w = absurd (omega arith)
passes_take p n (x ∷ xs) k h w =
    let long = length-take n (x ∷ xs) in
    passes_get p (take n (x ∷ xs)) k x (omega arith) ∙ ap p (get_or-take n (x ∷ xs) k x h) ∙ sym (passes_get p (x ∷ xs) k x (omega arith))

pub passing_entry_is_some : (p : Entry → Bool) (x : Option Entry) → some_passes p x ≡ true → (e : Entry) × (x ≡ Some e)
passing_entry_is_some p None at = absurd (cc)
passing_entry_is_some p (Some e) at = (e, refl)

pub accepted_number_is_found : (m : Node) (req before : ℕ) → CoreFrontsAreInOrder m.core → m.core.base ≤ before → before < m.core.acc
    → some_passes (is_data_of m.core.who req) (log_entry_at m.core.log (before + 1)) ≡ true → NoneUpTo m.core req before
    → TellsAlike (λ n. accepted_number n req) m (Some (before + 1))
accepted_number_is_found m req before order low high at none =
    let kept = order.kept in
    let p = is_data_of m.core.who req in
    let xs = m.core.log.entries in
    let n = m.core.acc - m.core.base in
    let e = passing_entry_is_some p (log_entry_at m.core.log (before + 1)) at in
    let here : some_passes p (slice_get xs (before - m.core.base)) ≡ true = ap (λ k. some_passes p (slice_get xs (before - k))) kept
    ∙ ap (some_passes p) (sym (entry_at_is_list_item m.core.log before (omega arith))) ∙ at in
    let long = length-take n xs in
    let first : position p (take n xs) ≡ Some (before - m.core.base) = position_is p (take n xs) (before - m.core.base) e.0 (omega arith)
    (passes_take p n xs (before - m.core.base) (omega arith) (omega arith) ∙ here)
    (λ k h.
    passes_take p n xs k (omega arith) (omega arith) ∙ none_passes m.core req _ k kept none (omega arith)) in
    let sum : m.core.base + 1 + (before - m.core.base) ≡ before + 1 = omega arith in
    reading_of_end_tells_node (λ n. accepted_number n req) m (Some (before + 1)) (λ all s. ap Some (sym sum) ∙ ap (option_map (λ k. m.core.base + 1 + k)) (sym first)
    ∙ sym (kept_entries m req all s))

pub accepted_number_is_none : (m : Node) (req : ℕ) → CoreFrontsAreInOrder m.core → NoneUpTo m.core req m.core.acc → TellsAlike (λ n. accepted_number n req) m None
accepted_number_is_none m req order none =
    let kept = order.kept in
    let p = is_data_of m.core.who req in
    let xs = m.core.log.entries in
    let n = m.core.acc - m.core.base in
    let long = length-take n xs in
    let no : position p (take n xs) ≡ None = position_none p (take n xs) (λ k h.
    passes_take p n xs k (omega arith) (omega arith) ∙ none_passes m.core req _ k kept none (omega arith)) in
    reading_of_end_tells_node (λ n. accepted_number n req) m None (λ all s. ap (option_map (λ k. m.core.base + 1 + k)) (sym no) ∙ sym (kept_entries m req all s))

-- ---- the waiting send

settled_none : (x : Node) (w : Option OwnSend) → None ≡ option_map (λ (send : OwnSend). send.req) w → settle_send_where_accepted x w ≡ x
settled_none x None is = refl
settled_none x (Some send) is = absurd (cc)

at_none : (x : Node) (req : ℕ) (k : Option ℕ) → None ≡ option_map (λ (k : ℕ). x.core.base + 1 + k) k → settle_send_at x req k ≡ x
at_none x req None is = refl
at_none x req (Some k) is = absurd (cc)

at_some : (x : Node) (req number : ℕ) (k : Option ℕ) → Some number ≡ option_map (λ (k : ℕ). x.core.base + 1 + k) k
    → settle_send_at x req k ≡ record x { sends = own.settle_request req number x.sends }
at_some x req number None is = absurd (cc)
at_some x req number (Some k) is =
    let same : x.core.base + 1 + k ≡ number = cc in
    ap (λ (n : ℕ). record x { sends = own.settle_request req n x.sends }) same

settled_unaccepted : (x : Node) (w : Option OwnSend) (req : ℕ) → Some req ≡ option_map (λ (send : OwnSend). send.req) w → None ≡ accepted_number x req
    → settle_send_where_accepted x w ≡ x
settled_unaccepted x None req is at = refl
settled_unaccepted x (Some send) req is at =
    let same : send.req ≡ req = cc in
    ap (λ (r : ℕ). settle_send_at x r (accepted_number_of_send x r)) same ∙ at_none x req (accepted_number_of_send x req) at

settled_accepted : (x : Node) (w : Option OwnSend) (req number : ℕ) → Some req ≡ option_map (λ (send : OwnSend). send.req) w
    → Some number ≡ accepted_number x req → settle_send_where_accepted x w ≡ record x { sends = own.settle_request req number x.sends }
settled_accepted x None req number is at = absurd (cc)
settled_accepted x (Some send) req number is at =
    let same : send.req ≡ req = cc in
    ap (λ (r : ℕ). settle_send_at x r (accepted_number_of_send x r)) same ∙ at_some x req number (accepted_number_of_send x req) at

pub settle_without_waiting_send : (m : Node) → None ≡ option_map (λ (send : OwnSend). send.req) (waiting_send_of m) → ChangesAllAlike settle_waiting_send m m
unfolding settle_waiting_send
settle_without_waiting_send m is = change_of_end_changes_node settle_waiting_send m m (λ all s. (all, s, settled_none (node_with_log m all) (waiting_send_of m) is))

pub settle_keeps_unaccepted_send : (m : Node) (req : ℕ) → Some req ≡ option_map (λ (send : OwnSend). send.req) (waiting_send_of m) → TellsAlike (λ n. accepted_number n req) m None
    → ChangesAllAlike settle_waiting_send m m
unfolding settle_waiting_send
settle_keeps_unaccepted_send m req is at = change_of_end_changes_node settle_waiting_send m m (λ all s. (
  all,
  s,
  settled_unaccepted (node_with_log m all) (waiting_send_of m) req is (at (node_with_log m all) (record { stands = s; same = refl })),
))

pub settle_numbers_accepted_send : (m : Node) (req number : ℕ) (sends : own.Sends) → Some req ≡ option_map (λ (send : OwnSend). send.req) (waiting_send_of m)
    → TellsAlike (λ n. accepted_number n req) m (Some number) → sends ≡ own.settle_request req number m.sends → ChangesAllAlike settle_waiting_send m (record m { sends = sends })
unfolding settle_waiting_send
settle_numbers_accepted_send m req number sends is at new = change_of_end_changes_node settle_waiting_send m (record m { sends = sends })
    (λ all s. (
      all,
      s,
      settled_accepted (node_with_log m all) (waiting_send_of m) req number is (at (node_with_log m all) (record { stands = s; same = refl }))
          ∙ ap (λ (x : own.Sends). record (node_with_log m all) { sends = x }) (sym new),
    ))
