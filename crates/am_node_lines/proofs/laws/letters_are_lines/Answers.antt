use Rattle.am_node_lines.proofs.Letters.{letters_of_answers_are_lines}
use Rattle.am_node_lines.proofs.laws.letters_are_lines.Goals as goal

pub returns : goal.returns
returns c = letters_of_answers_are_lines
