-- What stands in a text after several writes.
use Rattle.std.proofs.Common.{◌≡◌, ℕ, List, [], ◌∷◌, ◌++◌, refl, sym, ap, ◌∙◌, subst, append_assoc, append-nil, false, String, Global, string_bytes}
use Rattle.std.specs.Fmt.{WritesInCalls}
use Rattle.std.specs.List.{FoldsTo, concat}
use Rattle.am_text_output.specs.declared.held.Held.{Held}
use Rattle.am_text_output.specs.Holding.{WritesText}

writes_none : (p : Held) → WritesText p [] p
writes_none p = record { named = refl; sound = λ sound. sound; text = λ _sound. sym (append-nil _) }

writes_on : (p q r : Held) (first later : List ℕ) → WritesText p first q → WritesText q later r → WritesText p (first ++ later) r
writes_on p q r first later one two = record {
  named = two.named ∙ one.named;
  sound = λ sound. one.sound (two.sound sound);
  text = λ sound. two.text sound ∙ ap (λ t. t ++ later) (one.text (two.sound sound)) ∙ append_assoc _ first later;
}

writes_by : (p q : Held) (parts : List (List ℕ)) → FoldsTo WritesText p parts q → WritesText p (concat parts) q
writes_by p q [] is = subst (λ (r : Held). WritesText p [] r) is (writes_none p)
writes_by p q (part ∷ parts) calls = writes_on p calls.0 q part (concat parts) calls.1 (writes_by calls.0 q parts calls.2)

pub text_written_in_calls : (p q : Held) (text : List ℕ) → WritesInCalls WritesText p text q → WritesText p text q
text_written_in_calls p q text calls = subst (λ (l : List ℕ). WritesText p l q) calls.whole (writes_by p q calls.parts calls.calls)

-- after what stood there
pub text_held_after_writes : (before : String Global) (p q : Held) (text : List ℕ) → p.text.now ≡ before → WritesInCalls WritesText p text q → q.failed ≡ false
    → string_bytes q.text.now ≡ string_bytes before ++ text
text_held_after_writes before p q text is calls sound = (text_written_in_calls p q text calls).text sound ∙ ap (λ t. string_bytes t ++ text) is

-- three additions in a row
pub text_after_three_writes : (a b c d x y z : List ℕ) → b ≡ a ++ x → c ≡ b ++ y → d ≡ c ++ z → d ≡ a ++ (x ++ (y ++ z))
text_after_three_writes a b c d x y z p q r = r ∙ ap (λ t. t ++ z) (q ∙ ap (λ t. t ++ y) p) ∙ append_assoc (a ++ x) y z ∙ append_assoc a x (y ++ z)
