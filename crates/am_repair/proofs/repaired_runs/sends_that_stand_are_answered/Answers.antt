use Rattle.am_repair.proofs.Answered.AnsweredRuns.{accepted_are_answered, repaired_are_answered}
use Rattle.am_repair.proofs.repaired_runs.sends_that_stand_are_answered.Goals as goal

pub returns : goal.returns
returns c = record { accepted = accepted_are_answered; repaired = repaired_are_answered }
