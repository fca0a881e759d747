-- The group list by its numbers.
use Rattle.std.proofs.Common.{◌≡◌, ℕ, zero, suc, ◌-◌, ◌<◌, List, length, get_or, Some, slice_get, refl, sym, ap, ◌∙◌, arith}
use Rattle.std.specs.Option.{option_map}
use Rattle.std.proofs.lemmas.Option.{slice_get-map, slice_get-get_or}
use Rattle.am_group.specs.Journals.{item_at}
use Rattle.am_text_defs.specs.Fields.{same}
use Rattle.am_audit_defs.specs.Verdicts.{is_text}
use Rattle.am_audit.specs.declared.line.Piece.{Piece}
use Rattle.am_audit.specs.Views.{texts_in}

there : (group : List Piece) (before at : ℕ) (text : List ℕ) (d : Piece) → at ≡ before → at < length group
    → same (get_or group at d).text.now text ≡ is_text (item_at (texts_in group) (suc before)) text
there group before at text d is within =
    let found : slice_get (texts_in group) at ≡ Some (get_or group at d).text.now
    = slice_get-map (λ piece. piece.text.now) group at ∙ ap (option_map (λ piece. piece.text.now)) (slice_get-get_or group at d within) in
    ap (λ o. is_text o text) (sym found) ∙ ap (λ (k : ℕ). is_text (slice_get (texts_in group) k) text) is

-- the entry at a number's index is the entry of that number
pub entry_text_at_number : (group : List Piece) (number : ℕ) (text : List ℕ) (d : Piece) → (number ≡ 0 → ⊥) → number - 1 < length group
    → same (get_or group (number - 1) d).text.now text ≡ is_text (item_at (texts_in group) number) text
entry_text_at_number group zero text d some within = absurd (some refl)
entry_text_at_number group (suc before) text d some within = there group before (suc before - 1) text d (omega arith) within
