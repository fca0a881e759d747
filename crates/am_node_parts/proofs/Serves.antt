-- Entries that are copied, and sent once the step has ended.
use Rattle.am_node_parts.proofs.Words.{◌≡◌, ℕ, zero, suc, ◌+◌, ◌-◌, ◌<◌, ◌≤◌, min, All, List, [], ◌∷◌, ◌++◌, length, take, Some}
use Rattle.am_node_parts.proofs.Words.{slice_index_or, refl, sym, ap, ◌∙◌, length-drop, arith, take_more, All-drop, All-take, length-take, Entry, Join}
use Rattle.am_node_parts.proofs.Words.{EntryIsInRange, Log, top_of_log, log_entry_at, Packet, Letter, with_letter, Node, top, entries_to_serve, letters_of_entries}
use Rattle.am_node_parts.proofs.Served.{kept_entries_above_number, entry_below_top_is_there, kept_entry_at_served_number, take_at_most_eight, put_all_takes_next_entry}

-- one entry more is copied
pub copied_entries_with_next : (log : Log) (stored number : ℕ) (old new : List Entry) → log.start ≤ stored → stored ≤ number → number < top_of_log log
    → old ≡ take (number - stored) (kept_entries_above_number log stored)
    → ((e : Entry) → log_entry_at log (number + 1) ≡ Some e → new ≡ old ++ e ∷ []) → new ≡ take (number + 1 - stored) (kept_entries_above_number log stored)
copied_entries_with_next log stored number old new low from high before more =
    let es = kept_entries_above_number log stored in
    let e = slice_index_or log.entries (number - log.start) (Join 0) in
    let long : number - stored < length es = simp length-drop (omega arith) in
    let next : number - stored + 1 ≡ number + 1 - stored = omega arith in
    more e (entry_below_top_is_there log number (omega arith) high)
    ∙ ap (λ xs. xs ++ e ∷ []) before
    ∙ ap (λ x. take (number - stored) es ++ x ∷ []) (sym (kept_entry_at_served_number log stored number low from high))
    ∙ sym (take_more es (number - stored) (Join 0) long)
    ∙ ap (λ k. take k es) next

-- all of those to be served are copied
pub copied_entries_are_to_serve : (m : Node) (stored last : ℕ) → m.core.log.start ≤ stored → stored ≤ top m → last ≡ min (top m) (stored + 8)
    → take (last - stored) (kept_entries_above_number m.core.log stored) ≡ entries_to_serve m stored
copied_entries_are_to_serve m stored last low high is =
    let few : last - stored ≡ min (length (kept_entries_above_number m.core.log stored)) 8 = simp length-drop (omega arith) in
    take_at_most_eight (kept_entries_above_number m.core.log stored) (last - stored) few

pub entries_to_serve_are_within : (m : Node) (stored : ℕ) → All EntryIsInRange m.core.log.entries → All EntryIsInRange (entries_to_serve m stored)
entries_to_serve_are_within m stored is = All-take EntryIsInRange 8 (kept_entries_above_number m.core.log stored) (All-drop EntryIsInRange (stored - m.core.log.start) m.core.log.entries is)

any_default : (es : List Entry) (i : ℕ) (a b : Entry) → i < length es → slice_index_or es i a ≡ slice_index_or es i b
any_default [] i a b h = absurd (omega arith)
any_default (e ∷ es) zero a b h = refl
any_default (e ∷ es) (suc i) a b h = any_default es i a b (omega arith)

-- one entry more is told
pub sent_entries_with_next : (f : ℕ → Entry → Packet) (to : List ℕ) (stored number i : ℕ) (es : List Entry) (e : Entry) (old new : List Letter) → i < length es
    → number ≡ stored + i → e ≡ slice_index_or es i e
    → old ≡ letters_of_entries f to (stored + 1) (take i es) [] → new ≡ with_letter to (f (number + 1) e) old → new ≡ letters_of_entries f to (stored + 1) (take (i + 1) es) []
sent_entries_with_next f to stored number i es e old new h at is before more =
    let next : number + 1 ≡ stored + 1 + i = omega arith in
    more ∙ (λ k. with_letter to (f (next k) ((is ∙ any_default es i e (Join 0) h) k)) (before k)) ∙ sym (put_all_takes_next_entry f to (stored + 1) es i h)

-- how many they are
pub count_of_entries_to_serve : (m : Node) (stored last : ℕ) → m.core.base ≡ m.core.log.start → m.core.base ≤ stored → stored ≤ top m
    → last ≡ min (top m) (stored + 8) → last - stored ≡ length (entries_to_serve m stored)
count_of_entries_to_serve m stored last kept low high is =
    let few : last - stored ≡ min 8 (length (kept_entries_above_number m.core.log stored)) = simp length-drop (omega arith) in
    few ∙ sym (length-take 8 (kept_entries_above_number m.core.log stored))
