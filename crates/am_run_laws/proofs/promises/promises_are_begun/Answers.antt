use Rattle.am_run_laws.proofs.PromisedRuns.{promises_are_begun}
use Rattle.am_run_laws.proofs.promises.promises_are_begun.Goals as goal

pub returns : goal.returns
returns c = promises_are_begun
