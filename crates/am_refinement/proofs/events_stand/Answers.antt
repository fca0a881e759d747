use Rattle.am_refinement.proofs.Events.{idle_events_keep_group_standing}
use Rattle.am_refinement.proofs.events_stand.Goals as goal

pub returns : goal.returns
returns c = idle_events_keep_group_standing
