use Rattle.am_repair_fetches.proofs.Later.{groups_are_repaired_later as repaired, groups_may_be_repaired_later as may}
use Rattle.am_repair_fetches.proofs.groups_are_repaired_later.Goals as goal

pub returns-clause-may : goal.returns-clause-may
returns-clause-may c = may

pub returns-clause-repaired : goal.returns-clause-repaired
returns-clause-repaired c = repaired
