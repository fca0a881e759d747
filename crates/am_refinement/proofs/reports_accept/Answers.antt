use Rattle.am_refinement.proofs.Accepting.{refresh_accepts_held_entries}
use Rattle.am_refinement.proofs.Membership.Lasts.{held_last_leave_is_accepted}
use Rattle.am_refinement.proofs.Learning.{refresh_learns_group_front}
use Rattle.am_refinement.proofs.reports_accept.Goals as goal

pub returns : goal.returns
returns c = record { refresh = refresh_accepts_held_entries; learn = refresh_learns_group_front; close = held_last_leave_is_accepted }
