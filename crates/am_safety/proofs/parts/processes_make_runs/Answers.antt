use Rattle.am_safety.proofs.Processes.{processes_make_runs}
use Rattle.am_safety.proofs.parts.processes_make_runs.Goals as goal

pub returns : goal.returns
returns c = processes_make_runs
