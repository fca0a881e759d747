-- The last view and its resilience.
use Rattle.am_node_defs.proofs.Words.{◌≡◌, ◌⊎◌, ⊎_elim, inl, inr, ℕ, ◌+◌, ◌-◌, ◌<◌, ◌≤◌, List, [], ◌∷◌, drop, refl, sym, ◌∙◌, ap, ◌==◌, arith, Image, Entry, Data}
use Rattle.am_node_defs.proofs.Words.{Join, Leave, View, life_of_name, Log, image_after_entries, after, row_at_place, log_image_at, image_of_log, top_of_log, log_above}
use Rattle.am_node_defs.proofs.Ends.{log_is_own_end, end_stays_by_trim, end_has_image_of_whole_log}
use Rattle.am_node_defs.proofs.{Folds.split_on_bool_of_log}

-- what one entry does to the last view
same_view : (image : Image) (number : ℕ) (e : Entry) → (((after image number e).view_number ≡ image.view_number)
    × ((after image number e).resilience ≡ image.resilience)) ⊎ ((after image number e).view_number ≡ number)
unfolding after
same_view image number (Data from req body) = split_on_bool_of_log ((row_at_place image from).life == life_of_name from) (λ t. rw t (inl (refl, refl))) (λ t. rw t (inl (refl, refl)))
same_view image number (Join name) = inl (refl, refl)
same_view image number (Leave name) = split_on_bool_of_log ((row_at_place image name).life == life_of_name name) (λ t. rw t (inl (refl, refl))) (λ t. rw t (inl (refl, refl)))
same_view image number (View v) = inr refl

-- the last view's number never falls
pub view_number_only_grows : (image : Image) (number : ℕ) (es : List Entry) → image.view_number < number → image.view_number ≤ (image_after_entries image number es).view_number
unfolding image_after_entries
view_number_only_grows image number [] h = omega arith
view_number_only_grows image number (e ∷ es) h = ⊎_elim
    (λ same. let v = same.0 in let more = view_number_only_grows (after image number e) (number + 1) es (omega arith) in omega arith)
    (λ now. let more = view_number_only_grows (after image number e) (number + 1) es (omega arith) in omega arith)
    (same_view image number e)

-- no View from a number on: the resilience is as before it
resilience_kept : (image : Image) (number : ℕ) (es : List Entry) → (image_after_entries image number es).view_number < number
    → (image_after_entries image number es).resilience ≡ image.resilience
unfolding image_after_entries
resilience_kept image number [] h = refl
resilience_kept image number (e ∷ es) h = ⊎_elim
    (λ same. resilience_kept (after image number e) (number + 1) es (omega arith) ∙ same.1)
    (λ now. let more = view_number_only_grows (after image number e) (number + 1) es (omega arith) in absurd (omega arith))
    (same_view image number e)

pub resilience_at_since_last_view : (log : Log) (number : ℕ) → log.start ≤ number → number ≤ top_of_log log → (image_of_log log).view_number ≤ number
    → (log_image_at log number).resilience ≡ (image_of_log log).resilience
resilience_at_since_last_view log number low high view =
    let end = end_stays_by_trim log log number (log_is_own_end log) low high in
    let e = end_has_image_of_whole_log log (log_above log number) end in
    let v = ap (λ (i : Image). i.view_number) e in
    sym (resilience_kept (log_image_at log number) (number + 1) (drop (number - log.start) log.entries) (omega arith)) ∙ ap (λ (i : Image). i.resilience) e
