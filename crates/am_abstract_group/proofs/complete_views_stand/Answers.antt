use Rattle.am_abstract_group.proofs.Runs.{complete_views_stand}
use Rattle.am_abstract_group.proofs.complete_views_stand.Goals as goal

pub returns : goal.returns
returns c = complete_views_stand
