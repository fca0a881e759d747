use Rattle.am_race_laws.proofs.Names.{stopped_names_are_set}
use Rattle.am_race_laws.proofs.laws.stopped_names_are_known.Goals as goal

pub returns : goal.returns
returns c = λ terms before name follows. (stopped_names_are_set terms before follows).each name
