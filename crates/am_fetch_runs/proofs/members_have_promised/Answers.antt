use Rattle.am_fetch_runs.proofs.Behind.{members_have_promised as promised}
use Rattle.am_fetch_runs.proofs.members_have_promised.Goals as goal

pub returns : goal.returns
returns c = promised
