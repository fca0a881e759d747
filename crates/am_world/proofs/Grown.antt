-- How the group list grows, entry by entry.
use Rattle.am_world.proofs.Words.{◌≡◌, ℕ, ◌+◌, ◌-◌, ◌≤◌, max, List, [], ◌∷◌, ◌++◌, length, take, drop, Some, slice_get, ap, ◌∙◌, arith, take_more}
use Rattle.am_world.proofs.Words.{slice_get_within, get_or_from_slice_get, Entry, Log, log_entry_at, slice_get-drop, entry_at_is_slice_get}

-- what a list has above a number, up to another
abbrev pub entries_between_numbers : Log → ℕ → ℕ → List Entry
entries_between_numbers log had to = take (to - had) (drop (had - log.start) log.entries)

pub entries_between_with_next : (log : Log) (had before : ℕ) (e : Entry) → log.start ≤ had → had ≤ before → log_entry_at log (before + 1) ≡ Some e
    → entries_between_numbers log had (before + 1) ≡ entries_between_numbers log had before ++ e ∷ []
entries_between_with_next log had before e low up is =
    let xs = drop (had - log.start) log.entries in
    let i = before - had in
    let at : (had - log.start) + i ≡ before - log.start = omega arith in
    let get : slice_get xs i ≡ Some e = slice_get-drop (had - log.start) i log.entries ∙ ap (slice_get log.entries) at
    ∙ entry_at_is_slice_get log before e (omega arith) is in
    let up_one : before + 1 - had ≡ i + 1 = omega arith in
    ap (λ k. take k xs) up_one ∙ take_more xs i e (slice_get_within xs i e get) ∙ ap (λ x. take i xs ++ x ∷ []) (get_or_from_slice_get xs i e e get)

pub entries_between_by_group : (log : Log) (group : List Entry) (had before acc : ℕ) → acc ≤ before → before ≤ max had acc → had ≡ length group
    → entries_between_numbers log had before ≡ entries_between_numbers log (length group) acc
entries_between_by_group log group had before acc least most long =
    let at : before - had ≡ acc - length group = omega arith in
    ap (λ k. take k (drop (had - log.start) log.entries)) at ∙ ap (λ k. take (acc - length group) (drop (k - log.start) log.entries)) long
