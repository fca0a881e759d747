use Rattle.std.proofs.Common.{◌≡◌, ◌∷◌, ◌++◌, drop, length}
use Rattle.std.specs.List.{flat_map}
use Rattle.am_bytes.specs.Answers.{letter_bytes}
use Rattle.am_bytes.proofs.answer.put_letters.Given as goal

abbrev pub invariant-loop-letter : goal.invariant-loop-letter
invariant-loop-letter l = l.out.items ++ flat_map letter_bytes (drop l.letter-index l.letters)
    ≡ l.fn.out.items ++ (length l.letters ∷ flat_map letter_bytes l.letters)
