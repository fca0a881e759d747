use Rattle.am_reset_runs.proofs.Again.{repeated_resets_are_answered}
use Rattle.am_reset_runs.proofs.Resetting.{resets_are_answered as answered}
use Rattle.am_reset_runs.proofs.resets_are_answered.Goals as goal

pub returns-clause-once : goal.returns-clause-once
returns-clause-once c = answered

pub returns-clause-again : goal.returns-clause-again
returns-clause-again c = repeated_resets_are_answered
