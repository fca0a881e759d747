use Rattle.am_ballot_laws.proofs.Fetching.{voters_serve as serve}
use Rattle.am_ballot_laws.proofs.voters_serve.Goals as goal

pub returns : goal.returns
returns c = serve
