use Rattle.am_step_laws.proofs.Watching.MembersRuns.{noted_views_have_their_members}
use Rattle.am_step_laws.proofs.watched_runs.views_have_their_members.Goals as goal

pub returns : goal.returns
returns c = noted_views_have_their_members
