-- A text in memory behind what writes to it.
use Rattle.std.specs.Prelude.{◌≡◌, ℕ, List, ◌++◌, false, string_bytes}
use Rattle.am_text_output.specs.declared.held.Held.{Held}

-- these words were written, unless there was no memory for them or for those before
pub record WritesText (before : Held) (words : List ℕ) (after : Held) : Type 0 where
  pub named : after.text.ghost_name ≡ before.text.ghost_name
  pub sound : after.failed ≡ false → before.failed ≡ false
  pub text : after.failed ≡ false → string_bytes after.text.now ≡ string_bytes before.text.now ++ words
