use Rattle.am_lawful_defs.proofs.Steps.{steps_are_watched, stops_are_watched, others_are_watched}
use Rattle.am_lawful_defs.proofs.laws.keeping_watches.Goals as goal

pub returns-clause-steps : goal.returns-clause-steps
returns-clause-steps c = steps_are_watched

pub returns-clause-stops : goal.returns-clause-stops
returns-clause-stops c = stops_are_watched

pub returns-clause-others : goal.returns-clause-others
returns-clause-others c = others_are_watched
