use Rattle.am_repair.proofs.Members.{fronts_are_heard, gaps_are_asked, entries_are_stored}
use Rattle.am_repair.proofs.repair.members_follow.Goals as goal

pub returns : goal.returns
returns c = record { fronts = fronts_are_heard; gaps = gaps_are_asked; entries = entries_are_stored }
