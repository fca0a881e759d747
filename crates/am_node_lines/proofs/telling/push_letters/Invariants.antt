use Rattle.std.proofs.Common.{◌≡◌, ◌++◌, drop}
use Rattle.std.specs.List.{flat_map}
use Rattle.std.specs.Prelude.{string_bytes}
use Rattle.am_node_lines.specs.Answers.{answer_letter_text}
use Rattle.am_node_lines.proofs.telling.push_letters.Given as goal

abbrev pub invariant-loop-letter : goal.invariant-loop-letter
invariant-loop-letter l = string_bytes l.out ++ flat_map answer_letter_text (drop l.letter-index l.letters)
    ≡ string_bytes l.fn.out ++ flat_map answer_letter_text l.letters
