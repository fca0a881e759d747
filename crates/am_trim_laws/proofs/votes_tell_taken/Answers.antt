use Rattle.am_trim_laws.proofs.VotesTold.{votes_tell_taken as tell}
use Rattle.am_trim_laws.proofs.votes_tell_taken.Goals as goal

pub returns : goal.returns
returns c = tell
