use Rattle.am_abstract_group.proofs.Runs.{lawful_group_runs_are_kept}
use Rattle.am_abstract_group.proofs.runs_keep.Goals as goal

pub returns : goal.returns
returns c = lawful_group_runs_are_kept
