use Rattle.am_refinement.proofs.{Growing.moves_grow_the_group, Letters.letters_stay_as_group_grows}
use Rattle.am_refinement.proofs.letters_stay.Goals as goal

pub returns-clause-moves : goal.returns-clause-moves
returns-clause-moves c = moves_grow_the_group

pub returns-clause-letters : goal.returns-clause-letters
returns-clause-letters c = letters_stay_as_group_grows
