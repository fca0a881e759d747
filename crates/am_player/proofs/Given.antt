-- What was given of a source, and what was written of it.
use Rattle.std.proofs.Common.{◌≡◌, ℕ, ◌≤◌, List, length, Option, Some, None, append-nil, subst, ◌∙◌, sym}
use Rattle.std.specs.Io.KnownBytes.{Consumes}
use Rattle.am_io.specs.Outside.{ReadToEnd, GaveAtMost}

-- what was read whole was given
pub source_gave_whole_within_limit : (limit : ℕ) (before after : Option (List ℕ)) (bytes : List ℕ) → ReadToEnd before after bytes → length bytes ≤ limit
    → GaveAtMost limit before after
source_gave_whole_within_limit limit (Some left) after bytes whole few = (bytes, subst (λ a. Consumes (Some left) a bytes) (sym whole.1) (whole.0 ∙ sym (append-nil bytes)), few)
source_gave_whole_within_limit limit None after bytes whole few = (bytes, tt, few)

-- what was written is a text of what was read
pub text_written_of_read_bytes : (Is : List ℕ → List ℕ → Type 0) (Wrote : List ℕ → Type 0) (before after : Option (List ℕ)) (items bytes text written : List ℕ)
    → ReadToEnd before after items → bytes ≡ items → Is bytes text → written ≡ text → Wrote written
    → (t : List ℕ) × ((b : List ℕ) × ReadToEnd before after b × Is b t) × Wrote t
text_written_of_read_bytes Is Wrote before after items bytes text written whole same is shown wrote =
    (text, (bytes, subst (ReadToEnd before after) (sym same) whole, is), subst Wrote shown wrote)
