use Rattle.am_repair_takes.proofs.Quiet.{quiet_stays}
use Rattle.am_repair_takes.proofs.Raised.{quiet_is_raised}
use Rattle.am_repair_takes.proofs.quiet_worlds_go_on.Goals as goal

pub returns-clause-stay : goal.returns-clause-stay
returns-clause-stay c = quiet_stays

pub returns-clause-raised : goal.returns-clause-raised
returns-clause-raised c = quiet_is_raised
