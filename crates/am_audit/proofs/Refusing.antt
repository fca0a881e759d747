-- Why a text isn't read.
use Rattle.std.proofs.Common.{◌≡◌, ℕ, Result, Err, IsErr, sym, ap, ◌∙◌}
use Rattle.am_text_defs.specs.declared.fault.FieldFault.{FieldFault}
use Rattle.am_audit_defs.specs.Lines.{Reading}
use Rattle.am_audit.specs.declared.fault.TextRefusal.{TextRefusal}
use Rattle.am_audit.specs.declared.fault.TextRefusal.TheVariants as refusals
use Rattle.am_audit.specs.Views.{IsReadingOf, TakesAt}

-- why a line isn't taken is why the text isn't
pub refused_line_refuses_text : (number : ℕ) (refusal : TextRefusal) (new : Reading) (line : Result Reading FieldFault) (read : Result Reading ℕ)
    → (IsErr line → read ≡ Err number) → TakesAt number (Err refusal) new line → IsReadingOf (Err refusal) read
refused_line_refuses_text number refusals.NoMemory new line read h taken = tt
refused_line_refuses_text number (refusals.BadLine at) new line read h taken = h taken.1 ∙ ap (λ (n : ℕ). Err n) (sym taken.0)
