use Rattle.am_repair_fetches.proofs.Answered.{decided_views_are_answered as decided, sends_are_answered_later as later}
use Rattle.am_repair_fetches.proofs.sends_are_answered_later.Goals as goal

pub returns-clause-later : goal.returns-clause-later
returns-clause-later c = later

pub returns-clause-decided : goal.returns-clause-decided
returns-clause-decided c = decided
