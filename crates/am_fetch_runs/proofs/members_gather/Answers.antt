use Rattle.am_fetch_runs.proofs.Gathering.{members_gather as gather}
use Rattle.am_fetch_runs.proofs.members_gather.Goals as goal

pub returns : goal.returns
returns c = gather
