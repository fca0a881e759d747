use Rattle.am_repair_takes.proofs.Answered.{answered_by_taking}
use Rattle.am_repair_takes.proofs.Rounds.{repaired_by_taking, taking_repairs}
use Rattle.am_repair_takes.proofs.taking_repairs.Goals as goal

pub returns-clause-calm : goal.returns-clause-calm
returns-clause-calm c = taking_repairs

pub returns-clause-repaired : goal.returns-clause-repaired
returns-clause-repaired c = repaired_by_taking

pub returns-clause-answered : goal.returns-clause-answered
returns-clause-answered c = answered_by_taking
