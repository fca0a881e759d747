use Rattle.am_step_laws.proofs.Trimming.TakenRuns.{trimmed_was_taken_in_runs}
use Rattle.am_step_laws.proofs.what_is_trimmed_was_taken.Goals as goal

pub returns : goal.returns
returns c = trimmed_was_taken_in_runs
