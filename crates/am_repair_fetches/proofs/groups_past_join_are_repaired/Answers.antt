use Rattle.am_repair_fetches.proofs.Joined.{decided_past_join_are_answered as decided, groups_past_join_are_repaired as repaired}
use Rattle.am_repair_fetches.proofs.groups_past_join_are_repaired.Goals as goal

pub returns-clause-repaired : goal.returns-clause-repaired
returns-clause-repaired c = repaired

pub returns-clause-decided : goal.returns-clause-decided
returns-clause-decided c = decided
