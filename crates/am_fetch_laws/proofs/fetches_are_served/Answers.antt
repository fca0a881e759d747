use Rattle.am_fetch_laws.proofs.Serving.{fetches_are_served}
use Rattle.am_fetch_laws.proofs.fetches_are_served.Goals as goal

pub returns : goal.returns
returns c = fetches_are_served
