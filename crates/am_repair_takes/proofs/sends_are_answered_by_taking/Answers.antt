use Rattle.am_repair_takes.proofs.Rest.{sends_are_answered}
use Rattle.am_repair_takes.proofs.sends_are_answered_by_taking.Goals as goal

pub returns : goal.returns
returns c = sends_are_answered
