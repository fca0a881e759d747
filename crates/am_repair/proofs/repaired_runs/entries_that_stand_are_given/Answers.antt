use Rattle.am_repair.proofs.Answered.AnsweredRuns.{repaired_are_given}
use Rattle.am_repair.proofs.Answered.Given.{accepted_are_given}
use Rattle.am_repair.proofs.repaired_runs.entries_that_stand_are_given.Goals as goal

pub returns : goal.returns
returns c = record { accepted = accepted_are_given; repaired = repaired_are_given }
