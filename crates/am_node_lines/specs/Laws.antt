-- What a node says of a letter is a line.
use Rattle.std.specs.Prelude.{◌≡◌, ℕ, ◌<◌, ◌≤◌, List, ◌++◌, length, codes}
use Rattle.std.specs.List.{flat_map}
use Rattle.am_base.specs.Founding.{Rules}
use Rattle.am_base.specs.Most.{most_bytes_of_packet}
use Rattle.am_base.specs.Names.{IsSetOfNames}
use Rattle.am_packet.specs.Boxes.{Letter}
use Rattle.am_packet.specs.Laws.{IsBytes}
use Rattle.am_group_defs.specs.Text.{hex_byte}
use Rattle.am_node_lines.specs.declared.line.Line.TheVariants as line
use Rattle.am_node_lines.specs.Lines.{node_line_of}
use Rattle.am_node_lines.specs.Answers.{to_text}

-- a letter's part of an answer, after the word hear, is a line that says that these bytes came for these names
abbrev pub LettersAreLines : Type 0
LettersAreLines = (rules : Rules) (letter : Letter) (bytes : List ℕ) → IsSetOfNames letter.to → IsBytes bytes → 0 < length bytes → length bytes ≤ most_bytes_of_packet
    → node_line_of rules (codes "hear " ++ (to_text letter ++ (codes " " ++ flat_map hex_byte bytes))) ≡ line.Hears letter.any letter.to bytes
