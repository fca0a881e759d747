-- Documents beside the bytes that they are read from.
use Rattle.std.proofs.Common.{◌≡◌, ℕ, ◌==◌, ◌<◌, List, [], ◌∷◌, length, Result, Ok, Err, IfOk, IfErr, Some, None, Bool, true, false, cond, refl, sym, ap, ◌∙◌, arith}
use Rattle.std.specs.Str.{IsUtf8, is_utf8}
use Rattle.std.proofs.lemmas.Bool.{eqb-true}
use Rattle.std.proofs.lemmas.Str.{IsUtf8-from_is_utf8, is_utf8-from_IsUtf8}
use Rattle.serde_json.specs.Data.{Data}
use Rattle.serde_json.specs.Read.{read}
use Rattle.serde_json.proofs.OnLiterals.{serde_json_on_literals}
use Rattle.am_script_defs.specs.declared.refusal.ScriptRefusal.{ScriptRefusal}
use Rattle.am_script_defs.specs.declared.refusal.ScriptRefusal.TheVariants.{NotJson}
use Rattle.am_script_defs.specs.Refusals.{ReadOrRefused}
use Rattle.am_script_defs.specs.Scripts.{document_in}

document_there : (bytes : List ℕ) (d : Data) → IsUtf8 bytes → read bytes ≡ Some d → document_in bytes ≡ Some d
unfolding document_in
document_there bytes d utf8 is = let yes : is_utf8 bytes ≡ true = is_utf8-from_IsUtf8 bytes utf8 in rw yes is

none_at : (bytes : List ℕ) (b : Bool) → is_utf8 bytes ≡ b → (IsUtf8 bytes → read bytes ≡ None) → cond b (read bytes) None ≡ None
none_at bytes true is none = none (IsUtf8-from_is_utf8 bytes is)
none_at bytes false is none = refl

pub document_in_unread_bytes : (bytes : List ℕ) → (IsUtf8 bytes → read bytes ≡ None) → document_in bytes ≡ None
unfolding document_in
document_in_unread_bytes bytes none = none_at bytes (is_utf8 bytes) refl none

nothing_there : read [] ≡ None
unfolding serde_json_on_literals
nothing_there = refl

-- a document has bytes
pub read_bytes_are_not_empty : (bytes : List ℕ) (d : Data) → read bytes ≡ Some d → 0 < length bytes
read_bytes_are_not_empty [] d is = let clash = sym nothing_there ∙ is in cc
read_bytes_are_not_empty (b ∷ bytes) d is = omega arith

-- no bytes are no document
pub document_in_no_bytes : (bytes : List ℕ) → (length bytes == 0) ≡ true → document_in bytes ≡ None
document_in_no_bytes [] none = document_in_unread_bytes [] (λ utf8. nothing_there)
document_in_no_bytes (b ∷ bytes) none = absurd (omega (arith, eqb-true (length (b ∷ bytes)) 0 none))

-- what is read of bytes that are a text is read of the text
pub document_in_read_bytes : {A B : Type 0} (bytes text : List ℕ) (told : A → Data) (result : Result A B) → text ≡ bytes → IsUtf8 bytes
    → IfOk result (λ v. read text ≡ Some (told v)) → IfOk result (λ v. document_in bytes ≡ Some (told v))
document_in_read_bytes bytes text told (Ok v) same utf8 is = document_there bytes (told v) utf8 (ap read (sym same) ∙ is)
document_in_read_bytes bytes text told (Err e) same utf8 is = tt

pub document_in_refused_bytes : {A : Type 0} (bytes text : List ℕ) (Other : ScriptRefusal → Type 0) (result : ReadOrRefused A) → text ≡ bytes
    → IfErr result (λ e. Other e → (e ≡ NotJson) × (read text ≡ None)) → IfErr result (λ e. Other e → (e ≡ NotJson) × (document_in bytes ≡ None))
document_in_refused_bytes bytes text Other (Ok v) same is = tt
document_in_refused_bytes bytes text Other (Err e) same is = λ other. ((is other).0, document_in_unread_bytes bytes (λ utf8. ap read (sym same) ∙ (is other).1))
