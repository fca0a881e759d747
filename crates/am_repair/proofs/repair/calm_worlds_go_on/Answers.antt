use Rattle.am_repair.proofs.Known.Claims.{calm_stays, rounds_store}
use Rattle.am_repair.proofs.repair.calm_worlds_go_on.Goals as goal

pub returns-clause-stay : goal.returns-clause-stay
returns-clause-stay c = calm_stays

pub returns-clause-store : goal.returns-clause-store
returns-clause-store c = rounds_store
