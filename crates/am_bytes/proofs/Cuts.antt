-- Bytes that are too long are answered as their beginning is.
use Rattle.std.proofs.Common.{◌≡◌, ℕ, ◌<◌, ◌≤◌, List, [], ◌∷◌, length, take, true, ◌⊎◌, inl, inr, nat_lt, sym, ap, ◌∙◌, refl, arith, take_all}
use Rattle.std.proofs.lemmas.List.{length-take}
use Rattle.std.proofs.lemmas.Bool.{cases_lt}
use Rattle.std.proofs.lemmas.Bool.Decides.{nat_tests}
use Rattle.am_model.specs.Node.{Node}
use Rattle.am_node_lines.specs.declared.line.BadLine.TheVariants.{NoSuchWord, TooLong}
use Rattle.am_node_lines.specs.declared.line.Line.{Line}
use Rattle.am_node_lines.specs.declared.line.Line.TheVariants as line
use Rattle.am_node_lines.specs.Lines.{most_line}
use Rattle.am_bytes.specs.Events.{word_at, event_by, event_of}
use Rattle.am_node_lines.specs.Answers.{reply_to}
use Rattle.am_bytes.specs.Answers.{in_bytes, event_answer}

too_long : (bytes : List ℕ) → most_line < length bytes → event_of bytes ≡ line.Bad TooLong
unfolding event_of
too_long bytes long = let yes : nat_lt most_line (length bytes) ≡ true = grind (arith, nat_tests) in rw yes refl

same_event : (bytes : List ℕ) → (most_line < length bytes) ⊎ (length bytes ≤ most_line) → event_of (take 4097 bytes) ≡ event_of bytes
same_event bytes (inr short) = ap event_of (take_all 4097 bytes (omega arith))
same_event bytes (inl long) = too_long (take 4097 bytes) (omega (arith, length-take 4097 bytes)) ∙ sym (too_long bytes long)

pub answer_to_cut_bytes : (m : Node) (bytes : List ℕ) → event_answer m (take 4097 bytes) ≡ event_answer m bytes
unfolding event_answer
answer_to_cut_bytes m bytes = ap (λ (l : Line). in_bytes (reply_to m l)) (same_event bytes (cases_lt most_line (length bytes)))

-- no bytes are no event
pub event_of_no_bytes : (bytes : List ℕ) → length bytes ≡ 0 → event_of bytes ≡ line.Bad NoSuchWord
unfolding event_of event_by word_at
event_of_no_bytes [] none = refl
event_of_no_bytes (byte ∷ bytes) none = absurd (omega arith)
