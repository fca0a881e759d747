use Rattle.am_safety.proofs.Holds.{headline_holds}
use Rattle.am_safety.proofs.the_headline_holds.Goals as goal

pub returns : goal.returns
returns c = headline_holds
